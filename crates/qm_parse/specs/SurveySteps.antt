-- What a walk over places of variables adds to a survey of them. No public clause cites this.
use Rattle.std.specs.Prelude.{◌≡◌, ℕ, not, ◌||◌, List, filter, Option, Some, None}
use Rattle.qm_parse.specs.Checks.{earlier, earliest, has_name, unordered, uses}
use Rattle.qm_parse.specs.Marks.{is_marked}
use Rattle.qm_parse.specs.declared.ast.Ast.{Ast}
use Rattle.qm_parse.specs.declared.ast.Named.{Named}
use Rattle.qm_parse.specs.declared.marks.Marks.{Marks}
use Rattle.qm_parse.specs.declared.survey.Survey.{Survey}

-- the earlier of two that may be missing; the first where none is
unfoldable pub earlier_of : Option Named → Option Named → Option Named
earlier_of None other = other
earlier_of (Some one) other = Some (earlier one other)

-- the first in the text of those that aren't marked
abbrev pub earliest_unmarked : Marks → List Named → Option Named
earliest_unmarked marks list = earliest (filter (λ named. not (is_marked marks named.name)) list)

-- The survey has taken these places in: their names are marked as used, and the first in the text of those that ORDER
-- doesn't mark is known.
pub record Adds (order : Marks) (places : List Named) (old new : Survey) : Type 0 where
  pub used : (name : ℕ) → is_marked new.used name ≡ (is_marked old.used name || has_name places name)
  pub unordered : new.unordered ≡ earlier_of old.unordered (earliest_unmarked order places)

-- all places of variables were taken in
pub record IsSurveyOf (ast : Ast) (survey : Survey) : Type 0 where
  pub used : (name : ℕ) → is_marked survey.used name ≡ has_name (uses ast) name
  pub unordered : survey.unordered ≡ unordered ast
