-- A refutation, judged in the order of its text.
use Rattle.std.specs.Prelude.{ℕ, ◌+◌, Bool, false, not, ◌&&◌, ◌||◌, ◌==◌, List, [], ◌∷◌, length, drop, Ok, is_some, slice_set, if◌then◌else◌}
use Rattle.std.specs.List.{list_all}
use Rattle.qm_frac.specs.Checked.{Checked}
use Rattle.qm_model.specs.declared.row.Row.{Row}
use Rattle.qm_model.specs.declared.range.Range.{Range}
use Rattle.qm_model.specs.declared.variable.Var.{Var}
use Rattle.qm_model.specs.declared.game.Problem.{Problem}
use Rattle.qm_model.specs.Plays.{is_universal}
use Rattle.qm_model.specs.Goals.{Goal}
use Rattle.qm_trees.specs.declared.combination.Entry.{Entry}
use Rattle.qm_trees.specs.declared.rule.Rule.TheVariants as rule
use Rattle.qm_trees.specs.declared.refutation.Refute.{Refute, out-Refute}
use Rattle.qm_trees.specs.declared.refutation.Refute.TheOpen as node
use Rattle.qm_trees.specs.declared.refutation.RefutePart.{RefutePart, out-RefutePart}
use Rattle.qm_trees.specs.Entries.{Combination, are_well_formed, row_named, weighted_rows}
use Rattle.qm_trees.specs.Closing.{closing}
use Rattle.qm_trees.specs.Verdicts.{Verdict, Broken, line, ◌then◌}
use Rattle.qm_model.specs.Ranges.{range_at, single, is_in}
use Rattle.qm_trees.specs.Ranges.{counts_right, judge_each}
use Rattle.qm_trees.specs.Picks.{universal_count, fit, picked, meet_on_box}

-- what a lemma says: from no prefix of this depth in these ranges the goal can be reached
pub record Head : Type 0 where
  pub depth : ℕ
  pub goal : Goal
  pub ranges : List Range

-- one level of a refutation
abbrev pub Layer : Type 0
Layer = node.Refute-F Refute RefutePart

abbrev pub range_of : RefutePart → Range
range_of part = (out-RefutePart part).range

abbrev pub below_of : RefutePart → Refute
below_of part = (out-RefutePart part).below

-- each entry names a row that is there
abbrev pub all_named : Problem → List Row → List Entry → Bool
all_named P cuts es = list_all (λ e. is_some (row_named P cuts e.row)) es

-- the rows are there, and then the combination closes
abbrev pub closes_here : Problem → List Row → List Range → Goal → Combination → Checked Bool
closes_here P cuts bx G combo =
    if all_named P cuts combo.entries then closing P combo.objective (weighted_rows P cuts combo.entries) bx G else Ok false

-- the entries are well formed, and then they close
abbrev pub judge_close : Problem → List Row → Goal → List Range → Combination → Verdict
judge_close P cuts G bx combo = if are_well_formed combo.entries then line rule.Close (closes_here P cuts bx G combo) else Broken rule.Text 0

-- where all whole variables are set
abbrev pub judge_end : Problem → List Row → Goal → List Range → Layer → Verdict
judge_end P cuts G bx (node.Close combo) = judge_close P cuts G bx combo
judge_end P cuts G bx (node.Over parts) = Broken rule.Text 0
judge_end P cuts G bx (node.Pick value completion below) = Broken rule.Text 0

-- as many parts as cover the range, and one alone for a universal variable
abbrev pub counts_over : Var → Range → ℕ → Bool
counts_over x covered count = counts_right covered count && (not (is_universal x) || (count == 1))

-- where x is the next variable and others follow: the line of the node, and what stands below it, which `judge` judges
abbrev pub judge_move : Problem → List Row → Goal → Var → List Var → ℕ → (List Range → Refute → Verdict) → List Range → Layer → Verdict
judge_move P cuts G x later depth judge bx (node.Close combo) = judge_close P cuts G bx combo
judge_move P cuts G x later depth judge bx (node.Over parts) =
    line rule.Cover (Ok (counts_over x (range_at bx depth) (length parts)))
    then judge_each range_of (λ part. judge (slice_set bx depth (range_of part)) (below_of part)) (range_at bx depth).low (range_at bx depth).high parts
judge_move P cuts G x later depth judge bx (node.Pick value completion below) =
    if is_universal x && (length completion == universal_count later)
    then (line rule.Pick (Ok (is_in (range_at bx depth) value && fit later (drop (depth + 1) bx) completion && meet_on_box P (picked depth later bx value completion)))
    then judge (slice_set bx depth (single value)) below)
    else Broken rule.Text 0

-- The refutation of a goal over a box, where these whole variables from the depth on are still to be set. The
-- heads are those of the lemmas before it.
abbrev pub judge_refute : Problem → List Row → List Head → Goal → List Var → ℕ → List Range → Refute → Verdict
judge_refute P cuts heads G [] depth bx tree = judge_end P cuts G bx (out-Refute tree)
judge_refute P cuts heads G (x ∷ xs) depth bx tree = judge_move P cuts G x xs depth (judge_refute P cuts heads G xs (depth + 1)) bx (out-Refute tree)
