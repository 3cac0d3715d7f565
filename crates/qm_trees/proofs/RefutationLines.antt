-- A refutation's lines are fine exactly where the refutation is right and no operation leaves.
use Rattle.std.proofs.Common.{◌≡◌, ℕ, ◌+◌, Bool, true, false, not, List, [], ◌∷◌, length, get_or, refl, subst, ap, pos, ◌≤ℤ◌, Ok}
use Rattle.std.specs.Prelude.{◌&&◌, ◌||◌, ◌==◌, drop, slice_set, if◌then◌else◌}
use Rattle.std.proofs.lemmas.Bool.{and_from, and_parts}
use Rattle.std.proofs.lemmas.Bool.Decides.{Decides-eqb}
use Rattle.qm_model.specs.declared.row.Row.{Row}
use Rattle.qm_model.specs.declared.range.Range.{Range}
use Rattle.qm_model.specs.declared.variable.Player.TheVariants.{All as Universal}
use Rattle.qm_model.specs.declared.variable.Var.{Var}
use Rattle.qm_model.specs.declared.game.Problem.{Problem}
use Rattle.qm_model.specs.Plays.{is_universal}
use Rattle.qm_model.specs.Goals.{Goal, IsProper}
use Rattle.qm_model.proofs.Players.{universal_of, is_for_all}
use Rattle.qm_trees.specs.declared.rule.Rule.TheVariants as rule
use Rattle.qm_trees.specs.declared.refutation.Refute.{Refute, out-Refute}
use Rattle.qm_trees.specs.declared.refutation.Refute.TheOpen as node
use Rattle.qm_trees.specs.declared.refutation.RefutePart.{RefutePart}
use Rattle.qm_trees.specs.Entries.{Combination, are_well_formed, weighted_rows}
use Rattle.qm_trees.specs.Closing.{closing}
use Rattle.qm_trees.specs.Verdicts.{Verdict, line, ◌then◌}
use Rattle.qm_model.specs.Ranges.{range_at, single, is_in}
use Rattle.qm_trees.specs.Ranges.{counts_right, judge_each}
use Rattle.qm_trees.specs.Picks.{universal_count, fit, picked, meet_on_box}
use Rattle.qm_trees.specs.Passing.{IsFine}
use Rattle.qm_trees.specs.RefuteJudgement.{Head, Layer, range_of, below_of, all_named, closes_here, judge_close, judge_end, counts_over, judge_move, judge_refute}
use Rattle.qm_trees.specs.RefuteRight.{IsRightClose, IsRightEnd, IsRightMove, IsRightRefutation, IsCloseInRange, IsEndInRange, IsMoveInRange, IsRefutationInRange}
use Rattle.qm_trees.proofs.Lines.{fine_parts, fine_both, fine_line, line_fine, ok_is, tested_parts, tested_from}
use Rattle.qm_trees.proofs.Moves.{fine_then, then_fine, same_count}
use Rattle.qm_trees.proofs.CoverLines.{fine_cover, cover_fine}
use Rattle.qm_trees.proofs.CombinationCloses.{closing_exact}
use Rattle.qm_trees.proofs.Multipliers.{weighted_dens, entries_positive, well_formed_says, all_named-says}
use Rattle.qm_trees.proofs.PickLines.{fit_length, pick_says}

-- ---- one part alone for a universal variable

alone_of : (x : Var) (n : ℕ) → (not (is_universal x) || (n == 1)) ≡ true → x.player ≡ Universal → n ≡ 1
alone_of x n e universal = (Decides-eqb n 1).0 (subst (λ b. (not b || (n == 1)) ≡ true) (is_for_all x universal) e)

of_alone : (x : Var) (n : ℕ) → (x.player ≡ Universal → n ≡ 1) → (not (is_universal x) || (n == 1)) ≡ true
of_alone x n h = by (is_universal x) refl
  where
    by : (b : Bool) → is_universal x ≡ b → (not b || (n == 1)) ≡ true
    by true e = (Decides-eqb n 1).1 (h (universal_of x e))
    by false e = refl

-- ---- closing

module _ (P : Problem) (cuts : List Row) (G : Goal) (scale : pos 1 ≤ℤ P.scale) (proper : IsProper G) where
  right_close : (bx : List Range) (combo : Combination) → IsFine (judge_close P cuts G bx combo) → IsRightClose P cuts G bx combo × IsCloseInRange P cuts G bx combo
  right_close bx combo fine =
      let es = combo.entries in
      let ws = weighted_rows P cuts es in
      let form = fine_then (are_well_formed es) rule.Text 0 (line rule.Close (closes_here P cuts bx G combo)) fine in
      let well_formed = (well_formed_says es).0 form.0 in
      let test = tested_parts (all_named P cuts es) (closing P combo.objective ws bx G) (fine_line rule.Close (closes_here P cuts bx G combo) form.1) in
      let closes = (closing_exact P combo.objective ws bx G (weighted_dens P cuts es (entries_positive es well_formed.0)) scale proper).0 test.1 in
      ((well_formed, (all_named-says P cuts es).0 test.0, closes.0), closes.1)

  close_fine : (bx : List Range) (combo : Combination) → IsRightClose P cuts G bx combo → IsCloseInRange P cuts G bx combo → IsFine (judge_close P cuts G bx combo)
  close_fine bx combo right range =
      let es = combo.entries in
      let ws = weighted_rows P cuts es in
      then_fine (are_well_formed es) rule.Text 0 (line rule.Close (closes_here P cuts bx G combo)) ((well_formed_says es).1 right.0)
      (line_fine rule.Close (closes_here P cuts bx G combo)
      (tested_from (all_named P cuts es) (closing P combo.objective ws bx G) ((all_named-says P cuts es).1 right.1)
      ((closing_exact P combo.objective ws bx G (weighted_dens P cuts es (entries_positive es right.0.0)) scale proper).1 (right.2, range))))

  right_end : (bx : List Range) (layer : Layer) → IsFine (judge_end P cuts G bx layer) → IsRightEnd P cuts G bx layer × IsEndInRange P cuts G bx layer
  right_end bx (node.Close combo) fine = right_close bx combo fine
  right_end bx (node.Over parts) fine = absurd fine
  right_end bx (node.Pick value completion below) fine = absurd fine

  end_fine : (bx : List Range) (layer : Layer) → IsRightEnd P cuts G bx layer → IsEndInRange P cuts G bx layer → IsFine (judge_end P cuts G bx layer)
  end_fine bx (node.Close combo) right range = close_fine bx combo right range
  end_fine bx (node.Over parts) right range = absurd right
  end_fine bx (node.Pick value completion below) right range = absurd right

  -- ---- moves

  module _ (x : Var) (later : List Var) (depth : ℕ) (judge : List Range → Refute → Verdict) (IsRight IsInRange : List Range → Refute → Type 0) where
    right_move : ((bx : List Range) (tree : Refute) → IsFine (judge bx tree) → IsRight bx tree × IsInRange bx tree)
        → (bx : List Range) (layer : Layer) → IsFine (judge_move P cuts G x later depth judge bx layer)
        → IsRightMove P cuts G x later depth IsRight bx layer × IsMoveInRange P cuts G depth IsInRange bx layer
    right_move below bx (node.Close combo) fine = right_close bx combo fine
    right_move below bx (node.Over parts) fine =
        let covered = range_at bx depth in
        let count = length parts in
        let each = λ (part : RefutePart). judge (slice_set bx depth (range_of part)) (below_of part) in
        let rest = judge_each range_of each covered.low covered.high parts in
        let outer = fine_parts (line rule.Cover (Ok (counts_over x covered count))) rest fine in
        let counts = and_parts (counts_right covered count) (not (is_universal x) || (count == 1))
        (ok_is (counts_over x covered count) true (fine_line rule.Cover (Ok (counts_over x covered count)) outer.0)) in
        let cover = fine_cover range_of each covered parts
        (fine_both (line rule.Cover (Ok (counts_right covered count))) rest (line_fine rule.Cover (Ok (counts_right covered count)) (ap (λ b. Ok b) counts.0)) outer.1) in (
          (
            cover.0,
            alone_of x count counts.1,
            λ k d h. (below (slice_set bx depth (range_of (get_or parts k d))) (below_of (get_or parts k d)) (cover.1 k d h)).0,
          ),
          λ k d h. (below (slice_set bx depth (range_of (get_or parts k d))) (below_of (get_or parts k d)) (cover.1 k d h)).1,
        )
    right_move below bx (node.Pick value completion tree) fine =
        let test = is_in (range_at bx depth) value && fit later (drop (depth + 1) bx) completion && meet_on_box P (picked depth later bx value completion) in
        let first = line rule.Pick (Ok test) in
        let rest = judge (slice_set bx depth (single value)) tree in
        let move = fine_then (is_universal x && (length completion == universal_count later)) rule.Text 0 (first then rest) fine in
        let parts = fine_parts first rest move.1 in
        let after = below (slice_set bx depth (single value)) tree parts.1 in (
          (
            universal_of x (and_parts (is_universal x) (length completion == universal_count later) move.0).0,
            (pick_says P later depth bx value completion).0 (ok_is test true (fine_line rule.Pick (Ok test) parts.0)),
            after.0,
          ),
          after.1,
        )

    move_fine : ((bx : List Range) (tree : Refute) → IsRight bx tree → IsInRange bx tree → IsFine (judge bx tree))
        → (bx : List Range) (layer : Layer) → IsRightMove P cuts G x later depth IsRight bx layer → IsMoveInRange P cuts G depth IsInRange bx layer
        → IsFine (judge_move P cuts G x later depth judge bx layer)
    move_fine below bx (node.Close combo) right range = close_fine bx combo right range
    move_fine below bx (node.Over parts) right range =
        let covered = range_at bx depth in
        let count = length parts in
        let each = λ (part : RefutePart). judge (slice_set bx depth (range_of part)) (below_of part) in
        let rest = judge_each range_of each covered.low covered.high parts in
        let cover = fine_parts (line rule.Cover (Ok (counts_right covered count))) rest
        (cover_fine range_of each covered parts right.0
        (λ k d h. below (slice_set bx depth (range_of (get_or parts k d))) (below_of (get_or parts k d)) (right.2 k d h) (range k d h))) in
        fine_both (line rule.Cover (Ok (counts_over x covered count))) rest
        (line_fine rule.Cover (Ok (counts_over x covered count))
        (ap (λ b. Ok b) (and_from (counts_right covered count) (not (is_universal x) || (count == 1))
        (ok_is (counts_right covered count) true (fine_line rule.Cover (Ok (counts_right covered count)) cover.0)) (of_alone x count right.1))))
        cover.1
    move_fine below bx (node.Pick value completion tree) right range =
        let test = is_in (range_at bx depth) value && fit later (drop (depth + 1) bx) completion && meet_on_box P (picked depth later bx value completion) in
        let first = line rule.Pick (Ok test) in
        let rest = judge (slice_set bx depth (single value)) tree in
        let fits = fit_length later (drop (depth + 1) bx) completion right.1.completion_fits in
        then_fine (is_universal x && (length completion == universal_count later)) rule.Text 0 (first then rest)
        (and_from (is_universal x) (length completion == universal_count later) (is_for_all x right.0) (same_count (length completion) (universal_count later) fits))
        (fine_both first rest
        (line_fine rule.Pick (Ok test) (ap (λ b. Ok b) ((pick_says P later depth bx value completion).1 right.1)))
        (below (slice_set bx depth (single value)) tree right.2 range))

  -- ---- refutations

  module _ (heads : List Head) where
    pub right_of_fine : (xs : List Var) (depth : ℕ) (bx : List Range) (tree : Refute) → IsFine (judge_refute P cuts heads G xs depth bx tree)
        → IsRightRefutation P cuts heads G xs depth bx tree × IsRefutationInRange P cuts heads G xs depth bx tree
    right_of_fine [] depth bx tree fine = right_end bx (out-Refute tree) fine
    right_of_fine (x ∷ xs) depth bx tree fine =
        right_move x xs depth (judge_refute P cuts heads G xs (depth + 1)) (IsRightRefutation P cuts heads G xs (depth + 1)) (IsRefutationInRange P cuts heads G xs (depth + 1))
        (right_of_fine xs (depth + 1)) bx (out-Refute tree) fine

    pub fine_of_right : (xs : List Var) (depth : ℕ) (bx : List Range) (tree : Refute) → IsRightRefutation P cuts heads G xs depth bx tree
        → IsRefutationInRange P cuts heads G xs depth bx tree → IsFine (judge_refute P cuts heads G xs depth bx tree)
    fine_of_right [] depth bx tree right range = end_fine bx (out-Refute tree) right range
    fine_of_right (x ∷ xs) depth bx tree right range =
        move_fine x xs depth (judge_refute P cuts heads G xs (depth + 1)) (IsRightRefutation P cuts heads G xs (depth + 1)) (IsRefutationInRange P cuts heads G xs (depth + 1))
        (fine_of_right xs (depth + 1)) bx (out-Refute tree) right range
