-- When a combination shows that a goal can't be reached in a box.
use Rattle.std.specs.Prelude.{Bool, true, false, ◌⊎◌, int_lt, List, Any, Ok, if◌then◌else◌}
use Rattle.std.specs.List.{list_any}
use Rattle.qm_math.specs.Fraction.{IsAtMost, IsBelow, is_at_most, is_below}
use Rattle.qm_frac.specs.Checked.{Checked}
use Rattle.qm_model.specs.declared.range.Range.{Range}
use Rattle.qm_model.specs.declared.game.Problem.{Problem}
use Rattle.qm_model.specs.Boxes.{IsEmptyRange}
use Rattle.qm_model.specs.Goals.{Goal}
use Rattle.qm_model.specs.Goals as goal
use Rattle.qm_trees.specs.declared.combination.ComboValue.{ComboValue}
use Rattle.qm_trees.specs.declared.combination.ComboValue.TheVariants.{Nothing, Void, Bound}
use Rattle.qm_trees.specs.Entries.{Weighted}
use Rattle.qm_trees.specs.Evaluation.{right_side, least_combined, bound_of, value_of, ◌>>=◌}

-- Exactly. Without the objective the rows contradict the box, which closes every goal. With it they bound the
-- objective, and never close a goal that asks for none.
abbrev pub Excludes : Problem → Bool → List Weighted → List Range → Goal → Type 0
Excludes P false ws bx G = IsBelow (right_side P false ws) (least_combined P false ws bx)
Excludes P true ws bx goal.Any = ⊥
Excludes P true ws bx (goal.AtLeast t) = IsBelow (bound_of P ws bx) t
Excludes P true ws bx (goal.Above t) = IsAtMost (bound_of P ws bx) t

-- every combination closes a box with an empty range
abbrev pub Closes : Problem → Bool → List Weighted → List Range → Goal → Type 0
Closes P objective ws bx G = Any IsEmptyRange bx ⊎ Excludes P objective ws bx G

-- a combination of this value closes the goal
abbrev pub closes_goal : Goal → ComboValue → Bool
closes_goal G Nothing = false
closes_goal G Void = true
closes_goal goal.Any (Bound w) = false
closes_goal (goal.AtLeast t) (Bound w) = is_below w t
closes_goal (goal.Above t) (Bound w) = is_at_most w t

abbrev pub is_empty_range : Range → Bool
is_empty_range r = int_lt r.high r.low

-- the test, with no operation where a range is empty
unfoldable pub closing : Problem → Bool → List Weighted → List Range → Goal → Checked Bool
closing P objective ws bx G = if list_any is_empty_range bx then Ok true else (value_of P objective ws bx >>= λ v. Ok (closes_goal G v))
