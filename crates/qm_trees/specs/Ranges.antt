-- Ranges that cover a range, judged line by line.
use Rattle.std.specs.Prelude.{ℕ, ℤ, pos, ◌+ℤ◌, Bool, true, false, not, ◌&&◌, ◌==◌, int_le, int_lt, List, [], ◌∷◌, length, Ok}
use Rattle.std.specs.Ordering.{int_eq}
use Rattle.qm_model.specs.declared.range.Range.{Range}
use Rattle.qm_trees.specs.declared.rule.Rule.TheVariants as rule
use Rattle.qm_trees.specs.Verdicts.{Verdict, Fine, line, ◌then◌}

abbrev pub same : Bool → Bool → Bool
same true b = b
same false b = not b

-- the count of ranges is 0 exactly where the covered range is empty
abbrev pub counts_right : Range → ℕ → Bool
counts_right covered count = same (count == 0) (int_lt covered.high covered.low)

-- the range begins where it is to, has a value, doesn't go past the high end, and reaches it exactly if it is the last
abbrev pub follows_on : ℤ → ℤ → Bool → Range → Bool
follows_on next high is_last r = int_eq r.low next && int_le r.low r.high && int_le r.high high && same is_last (int_eq r.high high)

abbrev pub is_last_before : {A : Type 0} → List A → Bool
is_last_before [] = true
is_last_before (a ∷ others) = false

-- for each part the line of its range, and then what stands below it
abbrev pub judge_each : {A : Type 0} → (A → Range) → (A → Verdict) → ℤ → ℤ → List A → Verdict
judge_each range_of judge next high [] = Fine 0
judge_each range_of judge next high (part ∷ parts) =
    line rule.Cover (Ok (follows_on next high (is_last_before parts) (range_of part)))
    then judge part
    then judge_each range_of judge ((range_of part).high +ℤ pos 1) high parts

-- the line that counts the parts, and the parts
abbrev pub judge_parts : {A : Type 0} → (A → Range) → (A → Verdict) → Range → List A → Verdict
judge_parts range_of judge covered parts =
    line rule.Cover (Ok (counts_right covered (length parts))) then judge_each range_of judge covered.low covered.high parts
