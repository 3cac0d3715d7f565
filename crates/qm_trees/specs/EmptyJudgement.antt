-- A tree that shows that no universal play has its values in a box, judged in the order of its text.
use Rattle.std.specs.Prelude.{ℕ, ◌+◌, Bool, true, false, not, ◌&&◌, ◌||◌, ◌==◌, List, [], ◌∷◌, is_some, Ok, slice_set, if◌then◌else◌}
use Rattle.std.specs.List.{list_all}
use Rattle.qm_frac.specs.Checked.{Checked}
use Rattle.qm_model.specs.declared.range.Range.{Range}
use Rattle.qm_model.specs.declared.row_id.RowId.{RowId}
use Rattle.qm_model.specs.declared.row_id.RowId.TheVariants as id
use Rattle.qm_model.specs.declared.variable.Var.{Var}
use Rattle.qm_model.specs.declared.game.Problem.{Problem}
use Rattle.qm_model.specs.Plays.{is_universal, whole_vars}
use Rattle.qm_trees.specs.declared.combination.ComboValue.{ComboValue}
use Rattle.qm_trees.specs.declared.combination.ComboValue.TheVariants.{Nothing, Void, Bound}
use Rattle.qm_trees.specs.declared.combination.Entry.{Entry}
use Rattle.qm_trees.specs.declared.rule.Rule.TheVariants as rule
use Rattle.qm_trees.specs.declared.empty.Empty.{Empty, out-Empty}
use Rattle.qm_trees.specs.declared.empty.Empty.TheOpen as node
use Rattle.qm_trees.specs.declared.empty.EmptyPart.{EmptyPart, out-EmptyPart}
use Rattle.qm_trees.specs.Entries.{Combination, are_well_formed, row_named, weighted_rows}
use Rattle.qm_trees.specs.Evaluation.{value_of, ◌>>=◌}
use Rattle.qm_trees.specs.Closing.{is_empty_range}
use Rattle.qm_trees.specs.Verdicts.{Verdict, Broken, line, ◌then◌}
use Rattle.qm_model.specs.Ranges.{range_at}
use Rattle.qm_trees.specs.Ranges.{judge_parts}

-- one level of a tree
abbrev pub Layer : Type 0
Layer = node.Empty-F Empty EmptyPart

abbrev pub range_of : EmptyPart → Range
range_of part = (out-EmptyPart part).range

abbrev pub below_of : EmptyPart → Empty
below_of part = (out-EmptyPart part).below

abbrev pub is_uncertain : RowId → Bool
is_uncertain (id.Row n) = false
is_uncertain (id.Uncertain n) = true
is_uncertain (id.Cut n) = false

-- each entry names an uncertainty row that is there
abbrev pub all_uncertain : Problem → List Entry → Bool
all_uncertain P es = list_all (λ e. is_uncertain e.row && is_some (row_named P [] e.row)) es

-- a universal variable's range is empty; an existential one's closes nothing here
abbrev pub some_universal_empty : List Var → List Range → Bool
some_universal_empty [] bx = false
some_universal_empty (x ∷ xs) [] = false
some_universal_empty (x ∷ xs) (r ∷ bx) = (is_universal x && is_empty_range r) || some_universal_empty xs bx

abbrev pub is_void : ComboValue → Bool
is_void Nothing = false
is_void Void = true
is_void (Bound w) = false

-- the rows of the entries alone contradict the box, or a universal range is empty, which takes no operation
abbrev pub contradicts : Problem → List Range → Combination → Checked Bool
contradicts P bx combo =
    if some_universal_empty (whole_vars P) bx then Ok true else (value_of P false (weighted_rows P [] combo.entries) bx >>= λ v. Ok (is_void v))

-- the entries are on uncertainty rows that are there, and then the combination contradicts the box
abbrev pub closes_empty : Problem → List Range → Combination → Checked Bool
closes_empty P bx combo = if all_uncertain P combo.entries then contradicts P bx combo else Ok false

-- the objective isn't in, the entries are well formed, and then they close
abbrev pub judge_close : Problem → List Range → Combination → Verdict
judge_close P bx combo = if not combo.objective && are_well_formed combo.entries then line rule.Close (closes_empty P bx combo) else Broken rule.Text 0

abbrev pub judge_end : Problem → List Range → Layer → Verdict
judge_end P bx (node.Close combo) = judge_close P bx combo
judge_end P bx (node.Split var parts) = Broken rule.Text 0

-- at the variable x, which a split may be of: `judge` judges what stands below, with the variables behind it
abbrev pub judge_split : Problem → Var → ℕ → (List Range → Empty → Verdict) → List Range → Empty → Layer → Verdict
judge_split P x depth judge bx tree (node.Close combo) = judge_close P bx combo
judge_split P x depth judge bx tree (node.Split var parts) =
    if var == depth
    then if is_universal x then judge_parts range_of (λ part. judge (slice_set bx depth (range_of part)) (below_of part)) (range_at bx depth) parts else Broken rule.Text 0
    else judge bx tree

-- the tree over a box, where it may split these whole variables from the depth on, in their order
abbrev pub judge_empty : Problem → List Var → ℕ → List Range → Empty → Verdict
judge_empty P [] depth bx tree = judge_end P bx (out-Empty tree)
judge_empty P (x ∷ xs) depth bx tree = judge_split P x depth (judge_empty P xs (depth + 1)) bx tree (out-Empty tree)
