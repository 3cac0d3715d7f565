-- Refutations that are right fit their places, where they don't have too many nodes to be counted.
use Rattle.std.proofs.Common.{◌≡◌, ℕ, ◌+◌, ◌<◌, ◌^◌, List, [], ◌∷◌, get_or, length, map, Some, All, inl, inr, refl, sym, ap, ◌∙◌, subst, drop, arith}
use Rattle.std.specs.Prelude.{slice_set}
use Rattle.std.proofs.lemmas.Option.{slice_get_within}
use Rattle.qm_model.specs.declared.range.Range.{Range}
use Rattle.qm_model.specs.declared.variable.Var.{Var}
use Rattle.qm_model.specs.declared.game.Problem.{Problem}
use Rattle.qm_model.specs.Goals.{Goal}
use Rattle.qm_model.specs.Plays.{whole_vars}
use Rattle.qm_model.specs.Ranges.{single}
use Rattle.qm_model.specs.Sound.{IsSound}
use Rattle.qm_trees.specs.declared.refutation.Refute.{Refute as Refutation, out-Refute}
use Rattle.qm_trees.specs.declared.refutation.Refute.TheOpen as why
use Rattle.qm_trees.specs.declared.refutation.RefutePart.{RefutePart}
use Rattle.qm_trees.specs.Entries.{Combination}
use Rattle.qm_trees.specs.Picks.{universal_count}
use Rattle.qm_trees.specs.RefuteJudgement as refutations
use Rattle.qm_trees.specs.RefuteJudgement.{below_of, range_of}
use Rattle.qm_trees.specs.RefuteRight.{IsRightClose, IsRightEnd, IsRightMove, IsRightRefutation}
use Rattle.qm_trees.proofs.PickLines.{fit_length}
use Rattle.qm_certfile.specs.WellFormed.{Whole}
use Rattle.qm_certfile.proofs.Pieces.{both_of_type}
use Rattle.qm_certread.specs.Nodes.{Node, Close, Over, Pick}
use Rattle.qm_certread.specs.Dues as due
use Rattle.qm_certread.specs.NodesOf.{in_turn, refute_nodes, refute_part_nodes}
use Rattle.qm_certread.specs.Fits.{AreValues}
use Rattle.qm_certread.proofs.Fittings.{AreTyped, Fitting, few_parts, node_fits, none_fit, parts_fit, typed_wholes}
use Rattle.qm_certread.proofs.NodePieces.{all_pieces}
use Rattle.qm_certread.proofs.FittingEmpties.{combination_fits}
use Rattle.qm_certread.proofs.JudgedEmpties.{head_at, rest_at}
use Rattle.qm_certread.proofs.JudgedPolicies.{player_here}
use Rattle.qm_certread.proofs.JudgedRefutations.{by_layer, counted, layer_nodes, part_by_layer}

module _ (P : Problem) (sound : IsSound P) (G : Goal) where
  close_fits : (depth : ℕ) (bx : List Range) (combo : Combination) → IsRightClose P [] G bx combo → Fitting P (due.Refute depth ∷ []) (Close combo ∷ [])
  close_fits depth bx combo right = node_fits P (due.Refute depth) (Close combo) [] (inr (inr (combo, refl, combination_fits P sound combo right.0 right.1))) (none_fit P)

  end_fits : (depth : ℕ) (bx : List Range) (z : refutations.Layer) → IsRightEnd P [] G bx z → Fitting P (due.Refute depth ∷ []) (layer_nodes z)
  end_fits depth bx (why.Close combo) right = close_fits depth bx combo right
  end_fits depth bx (why.Over all) right = absurd right
  end_fits depth bx (why.Pick v completion below) right = absurd right

  module _ (x : Var) (later : List Var) (depth : ℕ) (at : drop depth (whole_vars P) ≡ x ∷ later) (IsRight : List Range → Refutation → Type 0)
      (below : (bx : List Range) (tree : Refutation) → IsRight bx tree → length (refute_nodes tree) < 2 ^ 32 → AreTyped (refute_nodes tree) → Fitting P (due.Refute (depth + 1) ∷ []) (refute_nodes tree)) where
    over_fits : (bx : List Range) (all : List RefutePart) → All (λ part. IsRight (slice_set bx depth (range_of part)) (below_of part)) all
        → length (Over (length all) ∷ in_turn (map refute_part_nodes all)) < 2 ^ 32 → AreTyped (in_turn (map refute_part_nodes all))
        → Fitting P (due.Refute depth ∷ []) (Over (length all) ∷ in_turn (map refute_part_nodes all))
    over_fits bx all right small typed =
        let nodes = λ (part : RefutePart). refute_nodes (below_of part) in
        let next = due.Refute (depth + 1) in
        let count = few_parts P next range_of nodes refute_part_nodes part_by_layer all in
        let few : length all < 2 ^ 32 = omega (arith, count, small) in
        let inside = slice_get_within (whole_vars P) depth x (head_at (whole_vars P) depth x later at).0 in
        node_fits P (due.Refute depth) (Over (length all)) (in_turn (map refute_part_nodes all)) (inl (inside, (length all, refl, few)))
        (parts_fit P next range_of nodes refute_part_nodes part_by_layer all
        (λ k d h. λ short part. below (slice_set bx depth (range_of (get_or all k d))) (below_of (get_or all k d)) (right k d h) short part) (omega (arith, small)) typed)

    move_fits : (bx : List Range) (z : refutations.Layer) → IsRightMove P [] G x later depth IsRight bx z → length (layer_nodes z) < 2 ^ 32 → AreTyped (layer_nodes z) → Fitting P (due.Refute depth ∷ []) (layer_nodes z)
    move_fits bx (why.Close combo) right small typed = close_fits depth bx combo right
    move_fits bx (why.Over all) (cover, alone, right) small typed =
        let few : length (Over (length all) ∷ in_turn (map refute_part_nodes all)) < 2 ^ 32 = small in
        subst (λ (l : List Node). Fitting P (due.Refute depth ∷ []) l) (counted all) (over_fits bx all right few typed.1)
    move_fits bx (why.Pick v completion tree) (player, pick, right) small typed =
        let last : drop (depth + 1) (whole_vars P) ≡ later = rest_at (whole_vars P) depth x later at in
        let count : length completion ≡ universal_count (drop (depth + 1) (whole_vars P)) = fit_length later (drop (depth + 1) bx) completion pick.completion_fits ∙ ap universal_count (sym last) in
        let parts = both_of_type (map Whole completion) (all_pieces (refute_nodes tree)) typed.1 in
        let values : AreValues (universal_count (drop (depth + 1) (whole_vars P))) completion = (count, typed_wholes completion parts.0) in
        node_fits P (due.Refute depth) (Pick v completion) (refute_nodes tree) (inr (inl (player_here P depth x later at ∙ ap Some player, (v, typed.0, (completion, refl, values)))))
        (below (slice_set bx depth (single v)) tree right (omega (arith, small)) parts.1)

  pub refute_fits : (xs : List Var) (depth : ℕ) (bx : List Range) (tree : Refutation) → drop depth (whole_vars P) ≡ xs → IsRightRefutation P [] [] G xs depth bx tree
      → length (refute_nodes tree) < 2 ^ 32 → AreTyped (refute_nodes tree) → Fitting P (due.Refute depth ∷ []) (refute_nodes tree)
  refute_fits [] depth bx tree at right small typed = subst (λ (l : List Node). Fitting P (due.Refute depth ∷ []) l) (sym (by_layer tree)) (end_fits depth bx (out-Refute tree) right)
  refute_fits (x ∷ xs) depth bx tree at right small typed =
      subst (λ (l : List Node). Fitting P (due.Refute depth ∷ []) l) (sym (by_layer tree))
      (move_fits x xs depth at (IsRightRefutation P [] [] G xs (depth + 1)) (λ b t r s y. refute_fits xs (depth + 1) b t (rest_at (whole_vars P) depth x xs at) r s y) bx (out-Refute tree) right
      (subst (λ (l : List Node). length l < 2 ^ 32) (by_layer tree) small) (subst AreTyped (by_layer tree) typed))
