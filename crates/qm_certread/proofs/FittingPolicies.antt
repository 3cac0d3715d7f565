-- Policies that are right fit their places, where they don't have too many nodes to be counted.
use Rattle.std.proofs.Common.{◌≡◌, ℕ, ◌+◌, ◌<◌, ◌^◌, List, [], ◌∷◌, ◌++◌, get_or, length, map, Option, None, Some, All, inl, inr, refl, sym, ap, ◌∙◌, subst, drop, arith}
use Rattle.std.specs.Prelude.{slice_set}
use Rattle.qm_math.specs.Fraction.{Fraction}
use Rattle.qm_model.specs.declared.range.Range.{Range}
use Rattle.qm_model.specs.declared.variable.Player.{Player}
use Rattle.qm_model.specs.declared.variable.Player.TheVariants.{All as Universal}
use Rattle.qm_model.specs.declared.variable.Var.{Var}
use Rattle.qm_model.specs.declared.game.Problem.{Problem}
use Rattle.qm_model.specs.Plays.{whole_vars}
use Rattle.qm_model.specs.Points.{continuous_vars}
use Rattle.qm_model.specs.Ranges.{single}
use Rattle.qm_model.specs.Sound.{IsSound}
use Rattle.qm_trees.specs.declared.policy.Policy.{Policy as Moving, out-Policy}
use Rattle.qm_trees.specs.declared.policy.Below.TheOpen as answer
use Rattle.qm_trees.specs.declared.policy.PolicyPart.{PolicyPart}
use Rattle.qm_trees.specs.PolicyJudgement as policies
use Rattle.qm_trees.specs.PolicyJudgement.{BelowLayer, below_of, range_of}
use Rattle.qm_trees.specs.PolicyRight.{IsRightBelow, IsRightEnd, IsRightMove, IsRightPolicy}
use Rattle.qm_trees.proofs.LeafLines.{AreInBounds-length}
use Rattle.qm_certread.specs.Nodes.{Node, Answer, Choose, Fixed, Leaf}
use Rattle.qm_certread.specs.Dues.{illegal_line}
use Rattle.qm_certread.specs.Dues as due
use Rattle.qm_certread.specs.Forms.{player_at}
use Rattle.qm_certread.specs.NodesOf.{empty_nodes, in_turn, policy_nodes, policy_part_nodes}
use Rattle.qm_certread.specs.Fits.{AreFit, FitsMove}
use Rattle.qm_certread.proofs.Rebuilt.{move_after}
use Rattle.qm_certread.proofs.Fittings.{AreTyped, Fitting, few_parts, node_fits, none_fit, parts_fit}
use Rattle.qm_certread.proofs.FittingEmpties.{empty_fits}
use Rattle.qm_certread.proofs.JudgedEmpties.{rest_at}
use Rattle.qm_certread.proofs.JudgedPolicies.{by_layer, counted, layer_nodes, part_by_layer, player_here, player_nowhere, under_nodes}

module _ (P : Problem) (sound : IsSound P) where
  -- ---- below a range

  on_fits : (depth : ℕ) (node : Node) (nodes : List Node) → Fitting P (due.Policy depth ∷ []) (node ∷ nodes) → Fitting P (due.Below depth ∷ []) (node ∷ nodes)
  on_fits depth node nodes fits later behind fit =
      let all = fits later behind fit in
      (inr all.0, subst (λ ds. AreFit P (ds ++ later) (nodes ++ behind)) (sym (move_after P (player_at P depth) depth node all.0)) all.1)

  on_layer_fits : (depth : ℕ) (z : policies.Layer) → Fitting P (due.Policy depth ∷ []) (layer_nodes z) → Fitting P (due.Below depth ∷ []) (layer_nodes z)
  on_layer_fits depth (answer.Choose v below) fits = on_fits depth (Choose v) (policy_nodes below) fits
  on_layer_fits depth (answer.Answer all) fits = on_fits depth (Answer (length (map policy_part_nodes all))) (in_turn (map policy_part_nodes all)) fits
  on_layer_fits depth (answer.Leaf point) fits = on_fits depth (Leaf point) [] fits

  module _ (depth : ℕ) (IsRight : List Range → Moving → Type 0)
      (below : (bx : List Range) (policy : Moving) → IsRight bx policy → length (policy_nodes policy) < 2 ^ 32 → AreTyped (policy_nodes policy) → Fitting P (due.Policy depth ∷ []) (policy_nodes policy)) where
    under_fits : (bx : List Range) (z : BelowLayer) → IsRightBelow P IsRight bx z → length (under_nodes z) < 2 ^ 32 → AreTyped (under_nodes z) → Fitting P (due.Below depth ∷ []) (under_nodes z)
    under_fits bx (answer.On policy) right small typed =
        subst (λ (l : List Node). Fitting P (due.Below depth ∷ []) l) (sym (by_layer policy))
        (on_layer_fits depth (out-Policy policy) (subst (λ (l : List Node). Fitting P (due.Policy depth ∷ []) l) (by_layer policy) (below bx policy right small typed)))
    under_fits bx (answer.Illegal tree) right small typed =
        node_fits P (due.Below depth) (Fixed illegal_line) (empty_nodes tree) (inl refl) (empty_fits P sound (whole_vars P) 0 bx tree refl right (omega (arith, small)) typed)

  -- ---- moves

  end_fits : (v : Fraction) (depth : ℕ) (bx : List Range) → player_at P depth ≡ None → (z : policies.Layer) → IsRightEnd P v bx z → Fitting P (due.Policy depth ∷ []) (layer_nodes z)
  end_fits v depth bx at (answer.Leaf point) right =
      let count = AreInBounds-length (continuous_vars P) point right.1.bounds in
      node_fits P (due.Policy depth) (Leaf point) [] (subst (λ (o : Option Player). FitsMove P o (Leaf point)) (sym at) (point, refl, (count, right.0))) (none_fit P)
  end_fits v depth bx at (answer.Choose w below) right = absurd right
  end_fits v depth bx at (answer.Answer all) right = absurd right

  module _ (x : Var) (depth : ℕ) (at : player_at P depth ≡ Some x.player) (IsRight : List Range → Moving → Type 0)
      (below : (bx : List Range) (policy : Moving) → IsRight bx policy → length (policy_nodes policy) < 2 ^ 32 → AreTyped (policy_nodes policy) → Fitting P (due.Policy (depth + 1) ∷ []) (policy_nodes policy)) where
    answer_fits : (bx : List Range) (all : List PolicyPart) → x.player ≡ Universal → All (λ part. IsRightBelow P IsRight (slice_set bx depth (range_of part)) (below_of part)) all
        → length (Answer (length all) ∷ in_turn (map policy_part_nodes all)) < 2 ^ 32 → AreTyped (in_turn (map policy_part_nodes all))
        → Fitting P (due.Policy depth ∷ []) (Answer (length all) ∷ in_turn (map policy_part_nodes all))
    answer_fits bx all player right small typed =
        let nodes = λ (part : PolicyPart). under_nodes (below_of part) in
        let next = due.Below (depth + 1) in
        let count = few_parts P next range_of nodes policy_part_nodes part_by_layer all in
        let few : length all < 2 ^ 32 = omega (arith, count, small) in
        let move : FitsMove P (player_at P depth) (Answer (length all)) = subst (λ (o : Option Player). FitsMove P o (Answer (length all))) (sym (at ∙ ap Some player)) (length all, refl, few) in
        node_fits P (due.Policy depth) (Answer (length all)) (in_turn (map policy_part_nodes all)) move
        (parts_fit P next range_of nodes policy_part_nodes part_by_layer all
        (λ k d h. λ short part. under_fits (depth + 1) IsRight below (slice_set bx depth (range_of (get_or all k d))) (below_of (get_or all k d)) (right k d h) short part)
        (omega (arith, small)) typed)

    move_fits : (bx : List Range) (z : policies.Layer) → IsRightMove P x depth IsRight bx z → length (layer_nodes z) < 2 ^ 32 → AreTyped (layer_nodes z) → Fitting P (due.Policy depth ∷ []) (layer_nodes z)
    move_fits bx (answer.Leaf point) right small typed = absurd right
    move_fits bx (answer.Choose v policy) (player, between, right) small typed =
        let move : FitsMove P (player_at P depth) (Choose v) = subst (λ (o : Option Player). FitsMove P o (Choose v)) (sym (at ∙ ap Some player)) (v, refl, typed.0) in
        node_fits P (due.Policy depth) (Choose v) (policy_nodes policy) move (below (slice_set bx depth (single v)) policy right (omega (arith, small)) typed.1)
    move_fits bx (answer.Answer all) (player, cover, right) small typed =
        let few : length (Answer (length all) ∷ in_turn (map policy_part_nodes all)) < 2 ^ 32 = small in
        subst (λ (l : List Node). Fitting P (due.Policy depth ∷ []) l) (counted all) (answer_fits bx all player right few typed.1)

  pub policy_fits : (v : Fraction) (xs : List Var) (depth : ℕ) (bx : List Range) (policy : Moving) → drop depth (whole_vars P) ≡ xs → IsRightPolicy P v xs depth bx policy
      → length (policy_nodes policy) < 2 ^ 32 → AreTyped (policy_nodes policy) → Fitting P (due.Policy depth ∷ []) (policy_nodes policy)
  policy_fits v [] depth bx policy at right small typed =
      subst (λ (l : List Node). Fitting P (due.Policy depth ∷ []) l) (sym (by_layer policy)) (end_fits v depth bx (player_nowhere P depth at) (out-Policy policy) right)
  policy_fits v (x ∷ xs) depth bx policy at right small typed =
      subst (λ (l : List Node). Fitting P (due.Policy depth ∷ []) l) (sym (by_layer policy))
      (move_fits x depth (player_here P depth x xs at) (IsRightPolicy P v xs (depth + 1)) (λ b p r s y. policy_fits v xs (depth + 1) b p (rest_at (whole_vars P) depth x xs at) r s y) bx (out-Policy policy) right
      (subst (λ (l : List Node). length l < 2 ^ 32) (by_layer policy) small) (subst AreTyped (by_layer policy) typed))
