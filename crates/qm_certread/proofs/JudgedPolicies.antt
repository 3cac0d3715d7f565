-- A policy's lines are judged as the policy is.
use Rattle.std.proofs.Common.{◌≡◌, ℕ, ◌+◌, ◌<◌, ◌^◌, ℤ, true, List, [], ◌∷◌, ◌++◌, length, map, Option, None, Some, Ok, inl, inr, refl, sym, ap, ap₂, ◌∙◌, subst, drop}
use Rattle.std.specs.Prelude.{◌==◌, ◌&&◌, slice_set, if◌then◌else◌}
use Rattle.std.specs.Option.{option_map}
use Rattle.std.proofs.lemmas.List.{length-map}
use Rattle.std.proofs.lemmas.Option.{slice_get_past}
use Rattle.qm_math.specs.Fraction.{Fraction}
use Rattle.qm_model.specs.declared.row.Row.{Row}
use Rattle.qm_model.specs.declared.range.Range.{Range}
use Rattle.qm_model.specs.declared.variable.Player.{Player}
use Rattle.qm_model.specs.declared.variable.Player.TheVariants.{Exists, All as Universal}
use Rattle.qm_model.specs.declared.variable.Var.{Var}
use Rattle.qm_model.specs.declared.game.Problem.{Problem}
use Rattle.qm_model.specs.Plays.{is_universal, whole_vars}
use Rattle.qm_model.specs.Points.{continuous_vars}
use Rattle.qm_model.specs.Ranges.{range_at, single, is_in}
use Rattle.qm_model.proofs.Players.{is_for_all, not_universal}
use Rattle.qm_trees.specs.declared.rule.Rule.TheVariants as broken
use Rattle.qm_trees.specs.declared.policy.Policy.{Policy as Moving, out-Policy}
use Rattle.qm_trees.specs.declared.policy.Below.{Below as Under}
use Rattle.qm_trees.specs.declared.policy.Below.TheOpen as answer
use Rattle.qm_trees.specs.declared.policy.Below.TheFolds.{fold_out-Below, fold_out-Policy, fold_out-PolicyPart, map-Below, map-Policy}
use Rattle.qm_trees.specs.declared.policy.PolicyPart.{PolicyPart, out-PolicyPart}
use Rattle.qm_trees.specs.Fractions.{are_fracs}
use Rattle.qm_trees.specs.Leaves.{leaf_passes}
use Rattle.qm_trees.specs.Verdicts.{Verdict, Broken, line, ◌then◌}
use Rattle.qm_trees.specs.Ranges.{judge_each, judge_parts}
use Rattle.qm_trees.specs.RefuteJudgement.{Head}
use Rattle.qm_trees.specs.EmptyJudgement.{judge_empty}
use Rattle.qm_trees.specs.PolicyJudgement as policies
use Rattle.qm_trees.specs.PolicyJudgement.{BelowLayer, below_of, judge_below, judge_end, judge_move, judge_policy, range_of}
use Rattle.qm_trees.proofs.Moves.{same_count}
use Rattle.qm_trees.proofs.Multipliers.{fracs_say}
use Rattle.qm_certfile.specs.Styles.{first_style}
use Rattle.qm_certread.specs.Nodes.{Node, Answer, Choose, Fixed, Leaf, Part}
use Rattle.qm_certread.specs.Dues.{Due, after, illegal_line}
use Rattle.qm_certread.specs.Dues as due
use Rattle.qm_certread.specs.Forms.{player_at}
use Rattle.qm_certread.specs.NodesOf.{below_nodes, below_step, in_turn, policy_nodes, policy_part_nodes, policy_part_step, policy_step}
use Rattle.qm_certread.specs.Fits.{AreFit, FitsAt, FitsMove, IsPoint}
use Rattle.qm_certread.specs.Tasks.{Policies, Below, Policy, follow}
use Rattle.qm_certread.specs.FirstFault.{rule_at}
use Rattle.qm_certread.proofs.Rebuilt.{move_after}
use Rattle.qm_certread.proofs.Turns.{IsTurn, covering, judged, known_turn, last_turn, node_judged, node_turn, nodes_turn, parts_turn, same_turn}
use Rattle.qm_certread.proofs.JudgedEmpties.{empty_turn, head_at, if_false, if_true, none_at, rest_at}

-- ---- who sets the next variable

pub player_here : (P : Problem) (depth : ℕ) (x : Var) (xs : List Var) → drop depth (whole_vars P) ≡ x ∷ xs → player_at P depth ≡ Some x.player
player_here P depth x xs at = ap (λ (o : Option Var). option_map (λ y. y.player) o) (head_at (whole_vars P) depth x xs at).0

pub player_nowhere : (P : Problem) (depth : ℕ) → drop depth (whole_vars P) ≡ [] → player_at P depth ≡ None
player_nowhere P depth at = ap (λ (o : Option Var). option_map (λ y. y.player) o) (slice_get_past (whole_vars P) depth (none_at (whole_vars P) depth at))

pub same_player : (p q : Player) (found : Option Player) → found ≡ Some p → found ≡ Some q → p ≡ q
same_player p q found e f = let both : Some p ≡ Some q = sym e ∙ f in cc

pub some_player : (p : Player) (found : Option Player) → found ≡ None → found ≡ Some p → ⊥
some_player p found e f = let both : None ≡ Some p = sym e ∙ f in cc

leaf_fits : (P : Problem) (found : Option Player) (point : List Fraction) → FitsMove P found (Leaf point) → (found ≡ None) × IsPoint P point
leaf_fits P None point (a, is, h) = let same : a ≡ point = cc in (refl, subst (IsPoint P) same h)
leaf_fits P (Some Exists) point (a, is, h) = let bad : Choose a ≡ Leaf point = is in absurd cc
leaf_fits P (Some Universal) point (a, is, h) = let bad : Answer a ≡ Leaf point = is in absurd cc

choose_fits : (P : Problem) (found : Option Player) (v : ℤ) → FitsMove P found (Choose v) → found ≡ Some Exists
choose_fits P None v (a, is, h) = let bad : Leaf a ≡ Choose v = is in absurd cc
choose_fits P (Some Exists) v h = refl
choose_fits P (Some Universal) v (a, is, h) = let bad : Answer a ≡ Choose v = is in absurd cc

answer_fits : (P : Problem) (found : Option Player) (n : ℕ) → FitsMove P found (Answer n) → found ≡ Some Universal
answer_fits P None n (a, is, h) = let bad : Leaf a ≡ Answer n = is in absurd cc
answer_fits P (Some Exists) n (a, is, h) = let bad : Choose a ≡ Answer n = is in absurd cc
answer_fits P (Some Universal) n h = refl

-- ---- nodes by the first one

abbrev pub layer_nodes : policies.Layer → List Node
layer_nodes z = policy_step (map-Policy Under Moving PolicyPart (List Node) (List Node) (List Node) below_nodes policy_nodes policy_part_nodes z)

pub by_layer : (policy : Moving) → policy_nodes policy ≡ layer_nodes (out-Policy policy)
by_layer policy = fold_out-Policy (List Node) (List Node) (List Node) below_step policy_step policy_part_step policy

abbrev pub under_nodes : BelowLayer → List Node
under_nodes z = below_step (map-Below Under Moving PolicyPart (List Node) (List Node) (List Node) below_nodes policy_nodes policy_part_nodes z)

pub part_by_layer : (part : PolicyPart) → policy_part_nodes part ≡ Part (range_of part) ∷ under_nodes (below_of part)
part_by_layer part =
    fold_out-PolicyPart (List Node) (List Node) (List Node) below_step policy_step policy_part_step part
    ∙ ap (λ (ns : List Node). Part (range_of part) ∷ ns) (fold_out-Below (List Node) (List Node) (List Node) below_step policy_step policy_part_step (out-PolicyPart part).below)

pub counted : (all : List PolicyPart) → Answer (length all) ∷ in_turn (map policy_part_nodes all) ≡ layer_nodes (answer.Answer all)
counted all = ap (λ (n : ℕ). Answer n ∷ in_turn (map policy_part_nodes all)) (sym (length-map all policy_part_nodes))

module _ (P : Problem) (cuts : List Row) (heads : List Head) (few : length (whole_vars P) < 2 ^ 32) (more : List ℕ) (value : Fraction) where
  abbrev Turn : ℕ → List Range → List Node → Verdict → Type 0
  Turn depth bx nodes v = IsTurn P cuts heads few more (Policy value depth bx ∷ []) nodes v

  abbrev BelowTurn : ℕ → List Range → List Node → Verdict → Type 0
  BelowTurn depth bx nodes v = IsTurn P cuts heads few more (Below value depth bx ∷ []) nodes v

  -- ---- a policy below a range

  move_of : (depth : ℕ) (node : Node) → (Fixed illegal_line ≡ node → ⊥) → FitsAt P (due.Below depth) node → FitsMove P (player_at P depth) node
  move_of depth node other (inl same) = absurd (other same)
  move_of depth node other (inr move) = move

  move_follow : (found : Option Player) (depth : ℕ) (bx : List Range) (node : Node) → FitsMove P found node → follow first_style P (Below value depth bx) node ≡ follow first_style P (Policy value depth bx) node
  move_follow None depth bx node (point, is, h) = subst (λ n. follow first_style P (Below value depth bx) n ≡ follow first_style P (Policy value depth bx) n) is refl
  move_follow (Some Exists) depth bx node (v, is, h) = subst (λ n. follow first_style P (Below value depth bx) n ≡ follow first_style P (Policy value depth bx) n) is refl
  move_follow (Some Universal) depth bx node (n, is, h) = subst (λ m. follow first_style P (Below value depth bx) m ≡ follow first_style P (Policy value depth bx) m) is refl

  on_turn : (depth : ℕ) (bx : List Range) (node : Node) (ns : List Node) (v : Verdict) → (Fixed illegal_line ≡ node → ⊥) → Turn depth bx (node ∷ ns) v → BelowTurn depth bx (node ∷ ns) v
  on_turn depth bx node ns v other turn dues later behind fit =
      let move = move_of depth node other fit.0 in
      let rest = turn dues later behind (move, subst (λ ds. AreFit P (ds ++ dues) (ns ++ behind)) (move_after P (player_at P depth) depth node move) fit.1) in
      record {
        fit = rest.fit;
        same = node_judged P cuts heads few more (Below value depth bx) later node (ns ++ behind) fit.0 tt
            ∙ ap (λ ts. rule_at P cuts heads (Below value depth bx) node then judged P cuts heads few more (ts ++ later) (ns ++ behind)) (move_follow (player_at P depth) depth bx node move)
            ∙ sym (node_judged P cuts heads few more (Policy value depth bx) later node (ns ++ behind) move tt)
            ∙ rest.same;
      }

  on_layer : (depth : ℕ) (bx : List Range) (z : policies.Layer) (v : Verdict) → Turn depth bx (layer_nodes z) v → BelowTurn depth bx (layer_nodes z) v
  on_layer depth bx (answer.Choose w below) v turn = on_turn depth bx (Choose w) (policy_nodes below) v (λ e. (let bad : Fixed illegal_line ≡ Choose w = e in cc)) turn
  on_layer depth bx (answer.Answer all) v turn =
      let count = length (map policy_part_nodes all) in
      on_turn depth bx (Answer count) (in_turn (map policy_part_nodes all)) v (λ e. (let bad : Fixed illegal_line ≡ Answer count = e in cc)) turn
  on_layer depth bx (answer.Leaf point) v turn = on_turn depth bx (Leaf point) [] v (λ e. (let bad : Fixed illegal_line ≡ Leaf point = e in cc)) turn

  under_turn : (depth : ℕ) (judge : List Range → Moving → Verdict) → ((bx : List Range) (policy : Moving) → Turn depth bx (policy_nodes policy) (judge bx policy))
      → (bx : List Range) (z : BelowLayer) → BelowTurn depth bx (under_nodes z) (judge_below P judge bx z)
  under_turn depth judge turn bx (answer.On policy) =
      let layer = layer_nodes (out-Policy policy) in
      nodes_turn P cuts heads few more (Below value depth bx ∷ []) layer (policy_nodes policy) (judge bx policy) (sym (by_layer policy))
      (on_layer depth bx (out-Policy policy) (judge bx policy) (nodes_turn P cuts heads few more (Policy value depth bx ∷ []) (policy_nodes policy) layer (judge bx policy) (by_layer policy) (turn bx policy)))
  under_turn depth judge turn bx (answer.Illegal tree) =
      node_turn P cuts heads few more (Below value depth bx) (Fixed illegal_line) _ (judge_empty P (whole_vars P) 0 bx tree) tt (empty_turn P cuts heads few more (whole_vars P) 0 bx tree refl)

  -- ---- leaves

  leaf_turn : (depth : ℕ) (bx : List Range) (point : List Fraction) → Turn depth bx (Leaf point ∷ []) (judge_end P value bx (answer.Leaf point))
  leaf_turn depth bx point =
      let form = (length point == length (continuous_vars P)) && are_fracs point in
      let test = line broken.Leaf (leaf_passes P value bx point) in
      known_turn P cuts heads few more (Policy value depth bx) (Leaf point) [] (judge_end P value bx (answer.Leaf point))
      (λ fits.
      let is_point = (leaf_fits P (player_at P depth) point fits).1 in
      let formed : form ≡ true = ap₂ ◌&&◌ (same_count (length point) (length (continuous_vars P)) is_point.0) ((fracs_say point).1 is_point.1) in
      same_turn P cuts heads few more (Policy value depth bx ∷ []) (Leaf point ∷ []) test (judge_end P value bx (answer.Leaf point)) (sym (if_true form test (Broken broken.Text 0) formed))
      (last_turn P cuts heads few more (Policy value depth bx) (Leaf point) test tt refl refl))

  end_turn : (depth : ℕ) (bx : List Range) → player_at P depth ≡ None → (z : policies.Layer) → Turn depth bx (layer_nodes z) (judge_end P value bx z)
  end_turn depth bx at (answer.Leaf point) = leaf_turn depth bx point
  end_turn depth bx at (answer.Choose v below) =
      known_turn P cuts heads few more (Policy value depth bx) (Choose v) (policy_nodes below) (Broken broken.Text 0)
      (λ fits. absurd (some_player Exists (player_at P depth) at (choose_fits P (player_at P depth) v fits)))
  end_turn depth bx at (answer.Answer all) =
      let count = length (map policy_part_nodes all) in
      known_turn P cuts heads few more (Policy value depth bx) (Answer count) (in_turn (map policy_part_nodes all)) (Broken broken.Text 0)
      (λ fits. absurd (some_player Universal (player_at P depth) at (answer_fits P (player_at P depth) count fits)))

  -- ---- moves

  module _ (x : Var) (depth : ℕ) (at : player_at P depth ≡ Some x.player) (judge : List Range → Moving → Verdict)
      (turn : (bx : List Range) (policy : Moving) → Turn (depth + 1) bx (policy_nodes policy) (judge bx policy)) where
    choose_turn : (bx : List Range) (v : ℤ) (below : Moving) → Turn depth bx (Choose v ∷ policy_nodes below) (judge_move P x depth judge bx (answer.Choose v below))
    choose_turn bx v below =
        let chosen = line broken.Choose (Ok (is_in (range_at bx depth) v)) then judge (slice_set bx depth (single v)) below in
        known_turn P cuts heads few more (Policy value depth bx) (Choose v) (policy_nodes below) (judge_move P x depth judge bx (answer.Choose v below))
        (λ fits.
        let player : x.player ≡ Exists = same_player x.player Exists (player_at P depth) at (choose_fits P (player_at P depth) v fits) in
        same_turn P cuts heads few more (Policy value depth bx ∷ []) (Choose v ∷ policy_nodes below) chosen (judge_move P x depth judge bx (answer.Choose v below))
        (sym (if_false (is_universal x) (Broken broken.Text 0) chosen (not_universal x player)))
        (node_turn P cuts heads few more (Policy value depth bx) (Choose v) (policy_nodes below) (judge (slice_set bx depth (single v)) below) tt (turn (slice_set bx depth (single v)) below)))

    abbrev judged_part : List Range → PolicyPart → Verdict
    judged_part bx part = judge_below P judge (slice_set bx depth (range_of part)) (below_of part)

    answer_turn : (bx : List Range) (all : List PolicyPart) → Turn depth bx (Answer (length all) ∷ in_turn (map policy_part_nodes all)) (judge_move P x depth judge bx (answer.Answer all))
    answer_turn bx all =
        let nodes = in_turn (map policy_part_nodes all) in
        let covered = judge_parts range_of (judged_part bx) (range_at bx depth) all in
        known_turn P cuts heads few more (Policy value depth bx) (Answer (length all)) nodes (judge_move P x depth judge bx (answer.Answer all))
        (λ fits.
        let player : x.player ≡ Universal = same_player x.player Universal (player_at P depth) at (answer_fits P (player_at P depth) (length all) fits) in
        same_turn P cuts heads few more (Policy value depth bx ∷ []) (Answer (length all) ∷ nodes) covered (judge_move P x depth judge bx (answer.Answer all))
        (sym (if_true (is_universal x) covered (Broken broken.Text 0) (is_for_all x player)))
        (node_turn P cuts heads few more (Policy value depth bx) (Answer (length all)) nodes (judge_each range_of (judged_part bx) (range_at bx depth).low (range_at bx depth).high all) tt
        (parts_turn P cuts heads few more (covering (Policies value) depth bx) range_of (λ part. under_nodes (below_of part)) policy_part_nodes (judged_part bx) part_by_layer
        (λ part. under_turn (depth + 1) judge turn (slice_set bx depth (range_of part)) (below_of part)) (range_at bx depth).low all)))

    move_turn : (bx : List Range) (z : policies.Layer) → Turn depth bx (layer_nodes z) (judge_move P x depth judge bx z)
    move_turn bx (answer.Leaf point) =
        known_turn P cuts heads few more (Policy value depth bx) (Leaf point) [] (Broken broken.Text 0)
        (λ fits. absurd (some_player x.player (player_at P depth) (leaf_fits P (player_at P depth) point fits).0 at))
    move_turn bx (answer.Choose v below) = choose_turn bx v below
    move_turn bx (answer.Answer all) =
        nodes_turn P cuts heads few more (Policy value depth bx ∷ []) (Answer (length all) ∷ in_turn (map policy_part_nodes all)) (layer_nodes (answer.Answer all))
        (judge_move P x depth judge bx (answer.Answer all)) (counted all) (answer_turn bx all)

  pub policy_turn : (xs : List Var) (depth : ℕ) (bx : List Range) (policy : Moving) → drop depth (whole_vars P) ≡ xs → Turn depth bx (policy_nodes policy) (judge_policy P value xs depth bx policy)
  policy_turn [] depth bx policy at =
      nodes_turn P cuts heads few more (Policy value depth bx ∷ []) (layer_nodes (out-Policy policy)) (policy_nodes policy) (judge_policy P value [] depth bx policy) (sym (by_layer policy))
      (end_turn depth bx (player_nowhere P depth at) (out-Policy policy))
  policy_turn (x ∷ xs) depth bx policy at =
      nodes_turn P cuts heads few more (Policy value depth bx ∷ []) (layer_nodes (out-Policy policy)) (policy_nodes policy) (judge_policy P value (x ∷ xs) depth bx policy) (sym (by_layer policy))
      (move_turn x depth (player_here P depth x xs at) (judge_policy P value xs (depth + 1)) (λ b p. policy_turn xs (depth + 1) b p (rest_at (whole_vars P) depth x xs at)) bx (out-Policy policy))
