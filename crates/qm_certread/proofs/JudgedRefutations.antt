-- A refutation's lines are judged as the refutation is.
use Rattle.std.proofs.Common.{◌≡◌, ℕ, ◌+◌, ◌<◌, ◌^◌, ℤ, Bool, true, false, List, [], ◌∷◌, length, map, Option, None, Some, Ok, inl, inr, refl, sym, ap, ap₂, ◌∙◌, subst, drop, arith}
use Rattle.std.specs.Prelude.{◌==◌, ◌&&◌, slice_set, if◌then◌else◌}
use Rattle.std.proofs.lemmas.List.{length-map}
use Rattle.qm_model.specs.declared.row.Row.{Row}
use Rattle.qm_model.specs.declared.range.Range.{Range}
use Rattle.qm_model.specs.declared.variable.Player.TheVariants.{All as Universal}
use Rattle.qm_model.specs.declared.variable.Var.{Var}
use Rattle.qm_model.specs.declared.game.Problem.{Problem}
use Rattle.qm_model.specs.Goals.{Goal}
use Rattle.qm_model.specs.Plays.{is_universal, whole_vars}
use Rattle.qm_model.specs.Ranges.{range_at, single, is_in}
use Rattle.qm_model.proofs.Players.{is_for_all}
use Rattle.qm_trees.specs.declared.rule.Rule.TheVariants as broken
use Rattle.qm_trees.specs.declared.refutation.Refute.{Refute as Refutation, out-Refute}
use Rattle.qm_trees.specs.declared.refutation.Refute.TheOpen as why
use Rattle.qm_trees.specs.declared.refutation.Refute.TheFolds.{fold_out-Refute, fold_out-RefutePart, map-Refute}
use Rattle.qm_trees.specs.declared.refutation.RefutePart.{RefutePart}
use Rattle.qm_trees.specs.Entries.{Combination, are_well_formed}
use Rattle.qm_trees.specs.Picks.{universal_count, fit, meet_on_box, picked}
use Rattle.qm_trees.specs.Verdicts.{Verdict, Broken, line, ◌then◌}
use Rattle.qm_trees.specs.Ranges.{judge_each}
use Rattle.qm_trees.specs.RefuteJudgement as refutations
use Rattle.qm_trees.specs.RefuteJudgement.{Head, below_of, closes_here, counts_over, judge_close, judge_end, judge_move, judge_refute, range_of}
use Rattle.qm_trees.proofs.Moves.{same_count}
use Rattle.qm_certread.specs.Nodes.{Node, Close, Over, Part, Pick}
use Rattle.qm_certread.specs.Dues as due
use Rattle.qm_certread.specs.Forms.{player_at}
use Rattle.qm_certread.specs.NodesOf.{in_turn, refute_nodes, refute_part_nodes, refute_part_step, refute_step}
use Rattle.qm_certread.specs.Fits.{AreValues, FitsAt, IsCombination}
use Rattle.qm_certread.specs.Tasks.{Refutations, Refute}
use Rattle.qm_certread.specs.FirstFault.{can_pick, may_cover}
use Rattle.qm_certread.proofs.Turns.{IsTurn, covering, known_turn, last_turn, node_turn, nodes_turn, parts_turn, same_turn}
use Rattle.qm_certread.proofs.JudgedEmpties.{combination_formed, head_at, if_true, none_at, rest_at}
use Rattle.qm_certread.proofs.JudgedPolicies.{player_here, player_nowhere, same_player, some_player}

-- ---- nodes by the first one

abbrev pub layer_nodes : refutations.Layer → List Node
layer_nodes z = refute_step (map-Refute Refutation RefutePart (List Node) (List Node) refute_nodes refute_part_nodes z)

pub by_layer : (tree : Refutation) → refute_nodes tree ≡ layer_nodes (out-Refute tree)
by_layer tree = fold_out-Refute (List Node) (List Node) refute_step refute_part_step tree

pub part_by_layer : (part : RefutePart) → refute_part_nodes part ≡ Part (range_of part) ∷ refute_nodes (below_of part)
part_by_layer part = fold_out-RefutePart (List Node) (List Node) refute_step refute_part_step part

pub counted : (all : List RefutePart) → Over (length all) ∷ in_turn (map refute_part_nodes all) ≡ layer_nodes (why.Over all)
counted all = ap (λ (n : ℕ). Over n ∷ in_turn (map refute_part_nodes all)) (sym (length-map all refute_part_nodes))

module _ (P : Problem) (cuts : List Row) (heads : List Head) (few : length (whole_vars P) < 2 ^ 32) (more : List ℕ) (G : Goal) where
  abbrev Turn : ℕ → List Range → List Node → Verdict → Type 0
  Turn depth bx nodes v = IsTurn P cuts heads few more (Refute G depth bx ∷ []) nodes v

  -- ---- what fits

  close_fits : (depth : ℕ) (combo : Combination) → FitsAt P (due.Refute depth) (Close combo) → IsCombination combo
  close_fits depth combo (inl (inside, (n, is, h))) = let bad : Over n ≡ Close combo = is in absurd cc
  close_fits depth combo (inr (inl (player, (v, whole, (completion, is, h))))) = let bad : Pick v completion ≡ Close combo = is in absurd cc
  close_fits depth combo (inr (inr (c, is, h))) = let same : c ≡ combo = cc in subst IsCombination same h

  over_fits : (depth n : ℕ) → FitsAt P (due.Refute depth) (Over n) → depth < length (whole_vars P)
  over_fits depth n (inl (inside, over)) = inside
  over_fits depth n (inr (inl (player, (v, whole, (completion, is, h))))) = let bad : Pick v completion ≡ Over n = is in absurd cc
  over_fits depth n (inr (inr (c, is, h))) = let bad : Close c ≡ Over n = is in absurd cc

  pick_fits : (depth : ℕ) (v : ℤ) (completion : List ℤ) → FitsAt P (due.Refute depth) (Pick v completion)
      → (player_at P depth ≡ Some Universal) × AreValues (universal_count (drop (depth + 1) (whole_vars P))) completion
  pick_fits depth v completion (inl (inside, (n, is, h))) = let bad : Over n ≡ Pick v completion = is in absurd cc
  pick_fits depth v completion (inr (inl (player, (w, whole, (cs, is, h))))) = let same : cs ≡ completion = cc in (player, subst (AreValues (universal_count (drop (depth + 1) (whole_vars P)))) same h)
  pick_fits depth v completion (inr (inr (c, is, h))) = let bad : Close c ≡ Pick v completion = is in absurd cc

  -- ---- closing

  close_turn : (depth : ℕ) (bx : List Range) (combo : Combination) → Turn depth bx (Close combo ∷ []) (judge_close P cuts G bx combo)
  close_turn depth bx combo =
      let test = line broken.Close (closes_here P cuts bx G combo) in
      known_turn P cuts heads few more (Refute G depth bx) (Close combo) [] (judge_close P cuts G bx combo)
      (λ fits.
      same_turn P cuts heads few more (Refute G depth bx ∷ []) (Close combo ∷ []) test (judge_close P cuts G bx combo)
      (sym (if_true (are_well_formed combo.entries) test (Broken broken.Text 0) (combination_formed combo (close_fits depth combo fits))))
      (last_turn P cuts heads few more (Refute G depth bx) (Close combo) test tt refl refl))

  end_turn : (depth : ℕ) (bx : List Range) → drop depth (whole_vars P) ≡ [] → (z : refutations.Layer) → Turn depth bx (layer_nodes z) (judge_end P cuts G bx z)
  end_turn depth bx at (why.Close combo) = close_turn depth bx combo
  end_turn depth bx at (why.Over all) =
      let count = length (map refute_part_nodes all) in
      known_turn P cuts heads few more (Refute G depth bx) (Over count) (in_turn (map refute_part_nodes all)) (Broken broken.Text 0)
      (λ fits.
      let inside = over_fits depth count fits in
      let past = none_at (whole_vars P) depth at in
      absurd (omega arith))
  end_turn depth bx at (why.Pick v completion below) =
      known_turn P cuts heads few more (Refute G depth bx) (Pick v completion) (refute_nodes below) (Broken broken.Text 0)
      (λ fits. absurd (some_player Universal (player_at P depth) (player_nowhere P depth at) (pick_fits depth v completion fits).0))

  -- ---- moves

  module _ (x : Var) (later : List Var) (depth : ℕ) (at : drop depth (whole_vars P) ≡ x ∷ later) (judge : List Range → Refutation → Verdict)
      (turn : (bx : List Range) (tree : Refutation) → Turn (depth + 1) bx (refute_nodes tree) (judge bx tree)) where
    abbrev judged_part : List Range → RefutePart → Verdict
    judged_part bx part = judge (slice_set bx depth (range_of part)) (below_of part)

    covers_here : (bx : List Range) (n : ℕ) → may_cover P depth bx n ≡ counts_over x (range_at bx depth) n
    covers_here bx n = ap (λ (o : Option Var). elim o as (λ _. Bool) [ None ↦ false | Some y ↦ counts_over y (range_at bx depth) n ]) (head_at (whole_vars P) depth x later at).0

    over_turn : (bx : List Range) (all : List RefutePart) → Turn depth bx (Over (length all) ∷ in_turn (map refute_part_nodes all)) (judge_move P cuts G x later depth judge bx (why.Over all))
    over_turn bx all =
        let nodes = in_turn (map refute_part_nodes all) in
        let parts = judge_each range_of (judged_part bx) (range_at bx depth).low (range_at bx depth).high all in
        same_turn P cuts heads few more (Refute G depth bx ∷ []) (Over (length all) ∷ nodes) (line broken.Cover (Ok (may_cover P depth bx (length all))) then parts) (judge_move P cuts G x later depth judge bx (why.Over all))
        (ap (λ (t : Bool). line broken.Cover (Ok t) then parts) (covers_here bx (length all)))
        (node_turn P cuts heads few more (Refute G depth bx) (Over (length all)) nodes parts tt
        (parts_turn P cuts heads few more (covering (Refutations G) depth bx) range_of (λ part. refute_nodes (below_of part)) refute_part_nodes (judged_part bx) part_by_layer
        (λ part. turn (slice_set bx depth (range_of part)) (below_of part)) (range_at bx depth).low all))

    -- the test of a pick, where these variables are still to be set
    abbrev picks : List Var → List Range → ℤ → List ℤ → Bool
    picks xs bx v completion = is_in (range_at bx depth) v && fit xs (drop (depth + 1) bx) completion && meet_on_box P (picked depth xs bx v completion)

    pick_turn : (bx : List Range) (v : ℤ) (completion : List ℤ) (below : Refutation) → Turn depth bx (Pick v completion ∷ refute_nodes below) (judge_move P cuts G x later depth judge bx (why.Pick v completion below))
    pick_turn bx v completion below =
        let rest = judge (slice_set bx depth (single v)) below in
        let nodes = Pick v completion ∷ refute_nodes below in
        let formed = is_universal x && (length completion == universal_count later) in
        known_turn P cuts heads few more (Refute G depth bx) (Pick v completion) (refute_nodes below) (judge_move P cuts G x later depth judge bx (why.Pick v completion below))
        (λ fits.
        let fit = pick_fits depth v completion fits in
        let player : x.player ≡ Universal = same_player x.player Universal (player_at P depth) (player_here P depth x later at) fit.0 in
        let last : drop (depth + 1) (whole_vars P) ≡ later = rest_at (whole_vars P) depth x later at in
        let count : length completion ≡ universal_count later = fit.1.0 ∙ ap universal_count last in
        let test : formed ≡ true = ap₂ ◌&&◌ (is_for_all x player) (same_count (length completion) (universal_count later) count) in
        same_turn P cuts heads few more (Refute G depth bx ∷ []) nodes (line broken.Pick (Ok (picks later bx v completion)) then rest) (judge_move P cuts G x later depth judge bx (why.Pick v completion below))
        (sym (if_true formed (line broken.Pick (Ok (picks later bx v completion)) then rest) (Broken broken.Text 0) test))
        (same_turn P cuts heads few more (Refute G depth bx ∷ []) nodes (line broken.Pick (Ok (can_pick P depth bx v completion)) then rest) (line broken.Pick (Ok (picks later bx v completion)) then rest)
        (ap (λ (xs : List Var). line broken.Pick (Ok (picks xs bx v completion)) then rest) last)
        (node_turn P cuts heads few more (Refute G depth bx) (Pick v completion) (refute_nodes below) rest tt (turn (slice_set bx depth (single v)) below))))

    move_turn : (bx : List Range) (z : refutations.Layer) → Turn depth bx (layer_nodes z) (judge_move P cuts G x later depth judge bx z)
    move_turn bx (why.Close combo) = close_turn depth bx combo
    move_turn bx (why.Over all) =
        nodes_turn P cuts heads few more (Refute G depth bx ∷ []) (Over (length all) ∷ in_turn (map refute_part_nodes all)) (layer_nodes (why.Over all))
        (judge_move P cuts G x later depth judge bx (why.Over all)) (counted all) (over_turn bx all)
    move_turn bx (why.Pick v completion below) = pick_turn bx v completion below

  pub refute_turn : (xs : List Var) (depth : ℕ) (bx : List Range) (tree : Refutation) → drop depth (whole_vars P) ≡ xs → Turn depth bx (refute_nodes tree) (judge_refute P cuts heads G xs depth bx tree)
  refute_turn [] depth bx tree at =
      nodes_turn P cuts heads few more (Refute G depth bx ∷ []) (layer_nodes (out-Refute tree)) (refute_nodes tree) (judge_refute P cuts heads G [] depth bx tree) (sym (by_layer tree))
      (end_turn depth bx at (out-Refute tree))
  refute_turn (x ∷ xs) depth bx tree at =
      nodes_turn P cuts heads few more (Refute G depth bx ∷ []) (layer_nodes (out-Refute tree)) (refute_nodes tree) (judge_refute P cuts heads G (x ∷ xs) depth bx tree) (sym (by_layer tree))
      (move_turn x xs depth at (judge_refute P cuts heads G xs (depth + 1)) (λ b t. refute_turn xs (depth + 1) b t (rest_at (whole_vars P) depth x xs at)) bx (out-Refute tree))
