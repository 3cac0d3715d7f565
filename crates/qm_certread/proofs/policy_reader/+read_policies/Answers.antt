use Rattle.std.proofs.Common.{rules, ◌≡◌, ◌+◌, ◌<◌, ◌^◌, length, [], ◌∷◌, ◌++◌, Some, ap, sym, subst, map, length-append, arith, refl}
use Rattle.std.proofs.lemmas.List.{length-take}
use Rattle.std.specs.Prelude.{codes}
use Rattle.qm_model.specs.declared.variable.Player.TheVariants.{Exists, All as Universal}
use Rattle.qm_model.specs.Points.{continuous_vars}
use Rattle.qm_certread.specs.declared.cursor.Cursor.{Cursor}
use Rattle.qm_certread.specs.Dues.{Below, Empty, Policy, illegal_line, ranges}
use Rattle.qm_certread.specs.Spelling.{count_word, each_of, fraction_word, one, value_word}
use Rattle.qm_certread.specs.Forms.{player_at, said_behind}
use Rattle.qm_certread.specs.Nodes.{Answer, Choose, Fixed, Leaf}
use Rattle.qm_certread.specs.NodesOf.{in_turn, policy_nodes, policy_part_nodes}
use Rattle.qm_certread.specs.ReadSteps.{Fails, FailsPart, Meets}
use Rattle.qm_certread.proofs.Moved.{says_here}
use Rattle.qm_certread.proofs.PolicyRead.{answer_is, answer_nodes, below_fails_so, below_meets_so, choose_is, illegal_says, leaf_is, on_nodes}
use Rattle.qm_certread.proofs.TreesRead.{below_fails, below_meets, err_out, line_fails, part_below_fails, part_fails, parts_fail, parts_more}
use Rattle.qm_certread.proofs.policy_reader.+read_policies.Goals as goal

pub read_below-returns-in_err-tree-clause-err : goal.read_below-returns-in_err-tree-clause-err
read_below-returns-in_err-tree-clause-err t c =
    err_out (λ e. Fails c.args.problem.now c.args.text.now (Below c.args.depth ∷ []) c.args.cursor.now e) c.from_residual.result _ c.from_residual.ensures.1
    (below_fails c.args.problem.now c.args.text.now (Below c.args.depth) (Fixed illegal_line) (Empty 0 ∷ []) c.args.cursor.now c.take_illegal.new.cursor _
    (illegal_says c.args.problem.now c.args.text.now c.args.depth c.args.cursor.now c.take_illegal.new.cursor (Fixed illegal_line) c.if-take_illegal.ensures.line) refl c.in_err-tree.ensures.err)

pub read_below-returns-in_err-policy-clause-err : goal.read_below-returns-in_err-policy-clause-err
read_below-returns-in_err-policy-clause-err t c =
    let other = c.if-take_illegal.ensures.line in
    err_out (λ e. Fails c.args.problem.now c.args.text.now (Below c.args.depth ∷ []) c.args.cursor.now e) c.from_residual-in_err-policy.result _ c.from_residual-in_err-policy.ensures.1
    (below_fails_so c.args.problem.now c.args.text.now c.args.depth c.args.cursor.now _ other.1
    (subst (λ (x : Cursor). Fails c.args.problem.now c.args.text.now (Policy c.args.depth ∷ []) x c.in_err-policy.field-0.0) other.0 c.in_err-policy.ensures.err))

pub read_below-returns-clause-ok : goal.read_below-returns-clause-ok
read_below-returns-clause-ok t c =
    let other = c.if-take_illegal.ensures.line in
    below_meets_so c.args.problem.now c.args.text.now c.args.depth (policy_nodes c.in_ok-policy.policy) _ c.args.cursor.now c.read_policy.new.cursor other.1
    (subst (λ (x : Cursor). Meets c.args.problem.now c.args.text.now (Policy c.args.depth ∷ []) (policy_nodes c.in_ok-policy.policy) x c.read_policy.new.cursor) other.0 c.in_ok-policy.ensures.ok)
    (on_nodes c.in_ok-policy.policy)

pub read_policy-returns-in_err-point-in-None-clause-err : goal.read_policy-returns-in_err-point-in-None-clause-err
read_policy-returns-in_err-point-in-None-clause-err t c =
    err_out (λ e. Fails c.args.problem.now c.args.text.now (Policy c.args.depth ∷ []) c.args.cursor.now e) c.from_residual.result _ c.from_residual.ensures.1
    (line_fails c.args.problem.now c.args.text.now (said_behind (codes "leaf" ∷ []) (each_of fraction_word (length (continuous_vars c.args.problem.now)))) Leaf (Policy c.args.depth) c.args.cursor.now _
    (leaf_is c.args.problem.now c.args.depth (sym c.in-None.ensures.player)) (rw c.continuous_count-count.ensures at c.in_err-point-in-None.ensures.err))

pub read_policy-returns-in_err-value-in-Some-Exists-clause-err : goal.read_policy-returns-in_err-value-in-Some-Exists-clause-err
read_policy-returns-in_err-value-in-Some-Exists-clause-err t c =
    let player : player_at c.args.problem.now c.args.depth ≡ Some Exists = cc in
    err_out (λ e. Fails c.args.problem.now c.args.text.now (Policy c.args.depth ∷ []) c.args.cursor.now e) c.from_residual-in_err-value-in-Some-Exists.result _ c.from_residual-in_err-value-in-Some-Exists.ensures.1
    (line_fails c.args.problem.now c.args.text.now (said_behind (codes "choose" ∷ []) (one value_word)) Choose (Policy c.args.depth) c.args.cursor.now _
    (choose_is c.args.problem.now c.args.depth player) c.in_err-value-in-Some-Exists.ensures.err)

pub read_policy-overflow_add-depth : goal.read_policy-overflow_add-depth
read_policy-overflow_add-depth t c =
    let few : c.args.problem.now.wholes < 2 ^ 32 = omega arith in
    omega (arith, c.in-Some-Exists.ensures.inside, length-take c.args.problem.now.wholes c.args.problem.now.vars)

pub read_policy-returns-in_err-policy-in-Some-Exists-clause-err : goal.read_policy-returns-in_err-policy-in-Some-Exists-clause-err
read_policy-returns-in_err-policy-in-Some-Exists-clause-err t c =
    let player : player_at c.args.problem.now c.args.depth ≡ Some Exists = cc in
    err_out (λ e. Fails c.args.problem.now c.args.text.now (Policy c.args.depth ∷ []) c.args.cursor.now e) c.from_residual-in_err-policy-in-Some-Exists.result _ c.from_residual-in_err-policy-in-Some-Exists.ensures.1
    (below_fails c.args.problem.now c.args.text.now (Policy c.args.depth) (Choose c.in_ok-value-in-Some-Exists.value) (Policy (c.args.depth + 1) ∷ []) c.args.cursor.now c.next_value.new.cursor _
    (says_here c.args.problem.now c.args.text.now (said_behind (codes "choose" ∷ []) (one value_word)) Choose (Policy c.args.depth) c.args.cursor.now c.next_value.new.cursor c.in_ok-value-in-Some-Exists.value
    (choose_is c.args.problem.now c.args.depth player) c.in_ok-value-in-Some-Exists.ensures.ok) refl c.in_err-policy-in-Some-Exists.ensures.err)

pub read_policy-returns-in_err-count-in-Some-All-clause-err : goal.read_policy-returns-in_err-count-in-Some-All-clause-err
read_policy-returns-in_err-count-in-Some-All-clause-err t c =
    let player : player_at c.args.problem.now c.args.depth ≡ Some Universal = cc in
    err_out (λ e. Fails c.args.problem.now c.args.text.now (Policy c.args.depth ∷ []) c.args.cursor.now e) c.from_residual-in_err-count-in-Some-All.result _ c.from_residual-in_err-count-in-Some-All.ensures.1
    (line_fails c.args.problem.now c.args.text.now (said_behind (codes "answer" ∷ []) (one count_word)) Answer (Policy c.args.depth) c.args.cursor.now _
    (answer_is c.args.problem.now c.args.depth player) c.in_err-count-in-Some-All.ensures.err)

pub read_policy-overflow_add-depth-in-Some-All : goal.read_policy-overflow_add-depth-in-Some-All
read_policy-overflow_add-depth-in-Some-All t c =
    let few : c.args.problem.now.wholes < 2 ^ 32 = omega arith in
    omega (arith, c.in-Some-All.ensures.inside, length-take c.args.problem.now.wholes c.args.problem.now.vars)

pub read_policy-returns-in_err-parts-in-Some-All-clause-err : goal.read_policy-returns-in_err-parts-in-Some-All-clause-err
read_policy-returns-in_err-parts-in-Some-All-clause-err t c =
    let player : player_at c.args.problem.now c.args.depth ≡ Some Universal = cc in
    err_out (λ e. Fails c.args.problem.now c.args.text.now (Policy c.args.depth ∷ []) c.args.cursor.now e) c.from_residual-in_err-parts-in-Some-All.result _ c.from_residual-in_err-parts-in-Some-All.ensures.1
    (below_fails c.args.problem.now c.args.text.now (Policy c.args.depth) (Answer c.in_ok-count-in-Some-All.count) (ranges c.in_ok-count-in-Some-All.count (Below (c.args.depth + 1))) c.args.cursor.now c.next_count.new.cursor _
    (says_here c.args.problem.now c.args.text.now (said_behind (codes "answer" ∷ []) (one count_word)) Answer (Policy c.args.depth) c.args.cursor.now c.next_count.new.cursor c.in_ok-count-in-Some-All.count
    (answer_is c.args.problem.now c.args.depth player) c.in_ok-count-in-Some-All.ensures.ok) refl c.in_err-parts-in-Some-All.ensures.err)

pub read_policy-returns-in_ok-parts-in-Some-All-clause-ok : goal.read_policy-returns-in_ok-parts-in-Some-All-clause-ok
read_policy-returns-in_ok-parts-in-Some-All-clause-ok t c =
    let player : player_at c.args.problem.now c.args.depth ≡ Some Universal = cc in
    below_meets c.args.problem.now c.args.text.now (Policy c.args.depth) (Answer c.in_ok-count-in-Some-All.count) (ranges c.in_ok-count-in-Some-All.count (Below (c.args.depth + 1)))
    (in_turn (map policy_part_nodes c.in_ok-parts-in-Some-All.parts)) _ c.args.cursor.now c.next_count.new.cursor c.read_policy_parts.new.cursor
    (says_here c.args.problem.now c.args.text.now (said_behind (codes "answer" ∷ []) (one count_word)) Answer (Policy c.args.depth) c.args.cursor.now c.next_count.new.cursor c.in_ok-count-in-Some-All.count
    (answer_is c.args.problem.now c.args.depth player) c.in_ok-count-in-Some-All.ensures.ok) refl c.in_ok-parts-in-Some-All.ensures.ok
    (answer_nodes c.in_ok-parts-in-Some-All.parts c.in_ok-count-in-Some-All.count c.in_ok-parts-in-Some-All.ensures.count)

pub read_policy_part-returns-in_err-range-clause-err : goal.read_policy_part-returns-in_err-range-clause-err
read_policy_part-returns-in_err-range-clause-err t c =
    err_out (λ e. FailsPart c.args.problem.now c.args.text.now (Below c.args.depth) c.args.cursor.now e) c.from_residual.result _ c.from_residual.ensures.1
    (part_fails c.args.problem.now c.args.text.now (Below c.args.depth) c.args.cursor.now _ c.in_err-range.ensures.err)

pub read_policy_part-returns-in_err-below-clause-err : goal.read_policy_part-returns-in_err-below-clause-err
read_policy_part-returns-in_err-below-clause-err t c =
    err_out (λ e. FailsPart c.args.problem.now c.args.text.now (Below c.args.depth) c.args.cursor.now e) c.from_residual-in_err-below.result _ c.from_residual-in_err-below.ensures.1
    (part_below_fails c.args.problem.now c.args.text.now (Below c.args.depth) c.in_ok-range.range c.args.cursor.now c.next_range.new.cursor _ c.in_ok-range.ensures.ok c.in_err-below.ensures.err)

pub read_policy_parts-returns-in_err-part-clause-err : goal.read_policy_parts-returns-in_err-part-clause-err
read_policy_parts-returns-in_err-part-clause-err t c =
    err_out (λ e. Fails c.args.problem.now c.args.text.now (ranges c.args.count (Below c.args.depth)) c.args.cursor.now e) c.from_residual.result _ c.from_residual.ensures.1
    (parts_fail c.args.problem.now c.args.text.now policy_part_nodes (Below c.args.depth) c.args.count c.loop-turn.turn c.loop-turn.parts c.args.cursor.now c.loop-turn.cursor _
    c.loop-turn-test.true c.loop-turn.invariant.moved c.in_err-part.ensures.err)

pub read_policy_parts-loop-turn-preserved : goal.read_policy_parts-loop-turn-preserved
read_policy_parts-loop-turn-preserved t c =
    let pushed : c.push.new.self ≡ c.loop-turn.parts ++ c.in_ok-part.part ∷ [] = search rules in
    record {
      place = c.in_ok-part.ensures.place;
      count = omega (arith, ap length pushed, length-append c.loop-turn.parts (c.in_ok-part.part ∷ []), c.loop-turn.invariant.count);
      moved =
          parts_more c.args.problem.now c.args.text.now policy_part_nodes (Below c.args.depth) c.args.count c.loop-turn.turn c.loop-turn.parts c.push.new.self c.in_ok-part.part c.args.cursor.now c.loop-turn.cursor c.read_policy_part.new.cursor
          c.loop-turn-test.true c.loop-turn.invariant.moved c.in_ok-part.ensures.ok pushed;
    }
