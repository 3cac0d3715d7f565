-- Numbers of names that are marked.
use Rattle.std.specs.Prelude.{◌≡◌, ℕ, Bool, false, List, slice_index_or}
use Rattle.qm_parse.specs.Checks.{has_name}
use Rattle.qm_parse.specs.declared.ast.Named.{Named}
use Rattle.qm_parse.specs.declared.marks.Marks.{Marks}

-- the number is marked; one beyond the flags isn't
abbrev pub is_marked : Marks → ℕ → Bool
is_marked marks name = slice_index_or marks.flags name false

-- the marked numbers are those of the names in the list
abbrev pub IsMarksOf : List Named → Marks → Type 0
IsMarksOf list marks = (name : ℕ) → is_marked marks name ≡ has_name list name
