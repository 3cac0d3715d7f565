-- An empty tree's lines are fine exactly where the tree is right and no operation leaves.
use Rattle.std.proofs.Common.{◌≡◌, ℕ, ◌+◌, ◌<◌, Bool, true, false, List, [], ◌∷◌, get_or, All, not, refl, sym, ap, ◌∙◌, subst, true≢false, Ok, inl, inr, ◌⊎◌}
use Rattle.std.specs.Prelude.{◌↔◌, ◌&&◌, ◌==◌, IsOk, slice_set, if◌then◌else◌}
use Rattle.std.specs.Bool.{Decides}
use Rattle.std.proofs.lemmas.Bool.{and_from, and_parts, both_ways}
use Rattle.std.proofs.lemmas.Bool.Decides.{Decides-and, Decides-or, Decides-eqb}
use Rattle.qm_math.specs.Fraction.{IsBelow}
use Rattle.qm_math.proofs.FractionOrder.{not_at_most_below}
use Rattle.qm_math.proofs.WholeTests.{lt_of_test, test_of_lt}
use Rattle.qm_frac.specs.Checked.{Checked, and_then}
use Rattle.qm_frac.proofs.CheckedLaws.{and_then-ok}
use Rattle.qm_model.specs.declared.range.Range.{Range}
use Rattle.qm_model.specs.declared.variable.Var.{Var}
use Rattle.qm_model.specs.declared.game.Problem.{Problem}
use Rattle.qm_model.specs.Boxes.{IsEmptyRange}
use Rattle.qm_model.specs.Plays.{is_universal, whole_vars}
use Rattle.qm_model.proofs.Players.{universal_of, is_for_all}
use Rattle.qm_trees.specs.declared.combination.ComboValue.{ComboValue}
use Rattle.qm_trees.specs.declared.combination.ComboValue.TheVariants.{Nothing, Void, Bound}
use Rattle.qm_trees.specs.declared.rule.Rule.TheVariants as rule
use Rattle.qm_trees.specs.declared.empty.Empty.{Empty, out-Empty}
use Rattle.qm_trees.specs.declared.empty.Empty.TheOpen as node
use Rattle.qm_trees.specs.declared.empty.EmptyPart.{EmptyPart}
use Rattle.qm_trees.specs.Entries.{Combination, IsPositive, are_well_formed, Weighted, weighted_rows}
use Rattle.qm_trees.specs.Evaluation.{right_side, least_combined, value_of}
use Rattle.qm_trees.specs.Closing.{is_empty_range}
use Rattle.qm_trees.specs.Verdicts.{Verdict, Broken, line}
use Rattle.qm_model.specs.Ranges.{range_at}
use Rattle.qm_trees.specs.Ranges.{judge_parts}
use Rattle.qm_trees.specs.Passing.{IsFine}
use Rattle.qm_trees.specs.EmptyJudgement.{Layer, range_of, below_of, all_uncertain, some_universal_empty, is_void, contradicts, closes_empty, judge_close, judge_end, judge_split, judge_empty}
use Rattle.qm_trees.specs.EmptyRight.{HasEmptyUniversal, IsRightClose, IsRightEnd, IsRightSplit, IsRightEmpty, IsCloseInRange, IsEndInRange, IsSplitInRange, IsEmptyInRange}
use Rattle.qm_trees.proofs.Lines.{never, fine_line, line_fine, tested_parts, tested_from}
use Rattle.qm_trees.proofs.Moves.{fine_then, then_fine}
use Rattle.qm_trees.proofs.CoverLines.{fine_cover, cover_fine}
use Rattle.qm_trees.proofs.CombinationValues.{Says, says}
use Rattle.qm_trees.proofs.CombinationCloses.{IsAnswer, ok_bool, answer_exact}
use Rattle.qm_trees.proofs.Multipliers.{weighted_dens, entries_positive, well_formed_says}

-- ---- empty ranges

empty_says : (r : Range) → Decides (is_empty_range r) (IsEmptyRange r)
empty_says r = (lt_of_test r.high r.low, test_of_lt r.high r.low)

universal_says : (xs : List Var) (bx : List Range) → Decides (some_universal_empty xs bx) (HasEmptyUniversal xs bx)
universal_says [] bx = never
universal_says (x ∷ xs) [] = never
universal_says (x ∷ xs) (r ∷ bx) =
    Decides-or (is_universal x && is_empty_range r) (some_universal_empty xs bx)
    (Decides-and (is_universal x) (is_empty_range r) (λ e. e, λ e. e) (empty_says r)) (universal_says xs bx)

-- ---- what contradicts a box

abbrev Contradict : Problem → List Range → List Weighted → Type 0
Contradict P bx ws = HasEmptyUniversal (whole_vars P) bx ⊎ IsBelow (right_side P false ws) (least_combined P false ws bx)

module _ (P : Problem) (bx : List Range) (ws : List Weighted) (dens : All (λ (w : Weighted). 0 < w.by.den) ws) where
  void_answer : (v : ComboValue) → Says P ws bx v → IsAnswer (IsBelow (right_side P false ws) (least_combined P false ws bx)) (is_void v)
  void_answer Nothing said = λ h. not_at_most_below (least_combined P false ws bx) (right_side P false ws) said h
  void_answer Void said = said
  void_answer (Bound w) said = absurd said

  contradict_answer : (empty : Bool) → some_universal_empty (whole_vars P) bx ≡ empty → (b : Bool)
      → (if empty then Ok true else and_then (value_of P false ws bx) (λ v. let z : Checked Bool = Ok (is_void v) in z)) ≡ Ok b → IsAnswer (Contradict P bx ws) b
  contradict_answer true e b h = subst (IsAnswer (Contradict P bx ws)) (ok_bool true b h) (inl ((universal_says (whole_vars P) bx).0 e))
  contradict_answer false e b h =
      let p = and_then-ok (value_of P false ws bx) (λ v. let z : Checked Bool = Ok (is_void v) in z) b h in
      either b (subst (IsAnswer (IsBelow (right_side P false ws) (least_combined P false ws bx))) (ok_bool (is_void p.0) b p.2) (void_answer p.0 (says P ws bx p.0 dens p.1)))
    where
      either : (b : Bool) → IsAnswer (IsBelow (right_side P false ws) (least_combined P false ws bx)) b → IsAnswer (Contradict P bx ws) b
      either true h = inr h
      either false h = neither h
        where
          neither : (IsBelow (right_side P false ws) (least_combined P false ws bx) → ⊥) → Contradict P bx ws → ⊥
          neither h (inl empty) = both_ways (some_universal_empty (whole_vars P) bx) e ((universal_says (whole_vars P) bx).1 empty)
          neither h (inr below) = h below

-- ---- closing

module _ (P : Problem) where
  contradicts_exact : (bx : List Range) (combo : Combination) → All IsPositive combo.entries
      → (contradicts P bx combo ≡ Ok true) ↔ (Contradict P bx (weighted_rows P [] combo.entries) × IsOk (contradicts P bx combo))
  contradicts_exact bx combo positive =
      let ws = weighted_rows P [] combo.entries in
      answer_exact (Contradict P bx ws) (contradicts P bx combo) (λ b e. contradict_answer P bx ws (weighted_dens P [] combo.entries positive) (some_universal_empty (whole_vars P) bx) refl b e)

  left_out : (objective : Bool) → not objective ≡ true → objective ≡ false
  left_out true e = cc
  left_out false e = refl

  right_close : (bx : List Range) (combo : Combination) → IsFine (judge_close P bx combo) → IsRightClose P bx combo × IsCloseInRange P bx combo
  right_close bx combo fine =
      let es = combo.entries in
      let test = fine_then (not combo.objective && are_well_formed es) rule.Text 0 (line rule.Close (closes_empty P bx combo)) fine in
      let form = and_parts (not combo.objective) (are_well_formed es) test.0 in
      let well_formed = (well_formed_says es).0 form.1 in
      let parts = tested_parts (all_uncertain P es) (contradicts P bx combo) (fine_line rule.Close (closes_empty P bx combo) test.1) in
      let shown = (contradicts_exact bx combo (entries_positive es well_formed.0)).0 parts.1 in
      (record { without_objective = left_out combo.objective form.0; well_formed = well_formed; named = parts.0; closes = shown.0 }, shown.1)

  close_fine : (bx : List Range) (combo : Combination) → IsRightClose P bx combo → IsCloseInRange P bx combo → IsFine (judge_close P bx combo)
  close_fine bx combo right range =
      let es = combo.entries in
      then_fine (not combo.objective && are_well_formed es) rule.Text 0 (line rule.Close (closes_empty P bx combo))
      (and_from (not combo.objective) (are_well_formed es) (ap not right.without_objective) ((well_formed_says es).1 right.well_formed))
      (line_fine rule.Close (closes_empty P bx combo)
      (tested_from (all_uncertain P es) (contradicts P bx combo) right.named
      ((contradicts_exact bx combo (entries_positive es right.well_formed.0)).1 (right.closes, range))))

  right_end : (bx : List Range) (layer : Layer) → IsFine (judge_end P bx layer) → IsRightEnd P bx layer × IsEndInRange P bx layer
  right_end bx (node.Close combo) fine = right_close bx combo fine
  right_end bx (node.Split var parts) fine = absurd fine

  end_fine : (bx : List Range) (layer : Layer) → IsRightEnd P bx layer → IsEndInRange P bx layer → IsFine (judge_end P bx layer)
  end_fine bx (node.Close combo) right range = close_fine bx combo right range
  end_fine bx (node.Split var parts) right range = absurd right

  -- ---- splits

  chosen : (t : Bool) (a b : Verdict) → t ≡ true → IsFine a → IsFine (if t then a else b)
  chosen t a b e h = rw e h

  other : (t : Bool) (a b : Verdict) → (t ≡ true → ⊥) → IsFine b → IsFine (if t then a else b)
  other true a b e h = absurd (e refl)
  other false a b e h = h

  module _ (x : Var) (depth : ℕ) (judge : List Range → Empty → Verdict) (IsRight IsInRange : List Range → Empty → Type 0) where
    abbrev judged : List Range → EmptyPart → Verdict
    judged bx part = judge (slice_set bx depth (range_of part)) (below_of part)

    right_split : ((bx : List Range) (tree : Empty) → IsFine (judge bx tree) → IsRight bx tree × IsInRange bx tree)
        → (bx : List Range) (tree : Empty) (layer : Layer) → IsFine (judge_split P x depth judge bx tree layer)
        → IsRightSplit P x depth IsRight bx tree layer × IsSplitInRange P depth IsInRange bx tree layer
    right_split below bx tree (node.Close combo) fine = right_close bx combo fine
    right_split below bx tree (node.Split var parts) fine = by (var == depth) refl fine
      where
        by : (t : Bool) → (var == depth) ≡ t
            → IsFine (if t then if is_universal x then judge_parts range_of (judged bx) (range_at bx depth) parts else Broken rule.Text 0 else judge bx tree)
            → IsRightSplit P x depth IsRight bx tree (node.Split var parts) × IsSplitInRange P depth IsInRange bx tree (node.Split var parts)
        by true e fine =
            let here = (Decides-eqb var depth).0 e in
            let move = fine_then (is_universal x) rule.Text 0 (judge_parts range_of (judged bx) (range_at bx depth) parts) fine in
            let cover = fine_cover range_of (judged bx) (range_at bx depth) parts move.1 in (
              inl (
                here,
                universal_of x move.0,
                cover.0,
                λ k d h. (below (slice_set bx depth (range_of (get_or parts k d))) (below_of (get_or parts k d)) (cover.1 k d h)).0,
              ),
              inl (here, λ k d h. (below (slice_set bx depth (range_of (get_or parts k d))) (below_of (get_or parts k d)) (cover.1 k d h)).1),
            )
        by false e fine =
            let later = below bx tree fine in
            let apart : var ≡ depth → ⊥ = λ same. true≢false (sym ((Decides-eqb var depth).1 same) ∙ e) in
            (inr (apart, later.0), inr (apart, later.1))

    split_fine : ((bx : List Range) (tree : Empty) → IsRight bx tree → IsInRange bx tree → IsFine (judge bx tree))
        → (bx : List Range) (tree : Empty) (layer : Layer) → IsRightSplit P x depth IsRight bx tree layer → IsSplitInRange P depth IsInRange bx tree layer
        → IsFine (judge_split P x depth judge bx tree layer)
    split_fine below bx tree (node.Close combo) right range = close_fine bx combo right range
    split_fine below bx tree (node.Split var parts) (inl right) (inl range) =
        let here = if is_universal x then judge_parts range_of (judged bx) (range_at bx depth) parts else Broken rule.Text 0 in
        chosen (var == depth) here (judge bx tree) ((Decides-eqb var depth).1 right.0)
        (then_fine (is_universal x) rule.Text 0 (judge_parts range_of (judged bx) (range_at bx depth) parts) (is_for_all x right.1)
        (cover_fine range_of (judged bx) (range_at bx depth) parts right.2
        (λ k d h. below (slice_set bx depth (range_of (get_or parts k d))) (below_of (get_or parts k d)) (right.3 k d h) (range.1 k d h))))
    split_fine below bx tree (node.Split var parts) (inl right) (inr range) = absurd (range.0 right.0)
    split_fine below bx tree (node.Split var parts) (inr right) (inl range) = absurd (right.0 range.0)
    split_fine below bx tree (node.Split var parts) (inr right) (inr range) =
        let here = if is_universal x then judge_parts range_of (judged bx) (range_at bx depth) parts else Broken rule.Text 0 in
        other (var == depth) here (judge bx tree) (λ e. right.0 ((Decides-eqb var depth).0 e)) (below bx tree right.1 range.1)

  -- ---- trees

  pub right_of_fine : (xs : List Var) (depth : ℕ) (bx : List Range) (tree : Empty) → IsFine (judge_empty P xs depth bx tree) → IsRightEmpty P xs depth bx tree × IsEmptyInRange P xs depth bx tree
  right_of_fine [] depth bx tree fine = right_end bx (out-Empty tree) fine
  right_of_fine (x ∷ xs) depth bx tree fine =
      right_split x depth (judge_empty P xs (depth + 1)) (IsRightEmpty P xs (depth + 1)) (IsEmptyInRange P xs (depth + 1)) (right_of_fine xs (depth + 1)) bx tree (out-Empty tree) fine

  pub fine_of_right : (xs : List Var) (depth : ℕ) (bx : List Range) (tree : Empty) → IsRightEmpty P xs depth bx tree → IsEmptyInRange P xs depth bx tree → IsFine (judge_empty P xs depth bx tree)
  fine_of_right [] depth bx tree right range = end_fine bx (out-Empty tree) right range
  fine_of_right (x ∷ xs) depth bx tree right range =
      split_fine x depth (judge_empty P xs (depth + 1)) (IsRightEmpty P xs (depth + 1)) (IsEmptyInRange P xs (depth + 1)) (fine_of_right xs (depth + 1)) bx tree (out-Empty tree) right range
