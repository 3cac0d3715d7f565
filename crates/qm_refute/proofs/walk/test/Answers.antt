use Rattle.std.proofs.Common.{◌≡◌, [], drop, sym, ◌∙◌}
use Rattle.qm_game.specs.Goals.{goal_of}
use Rattle.qm_model.specs.Plays.{whole_vars}
use Rattle.qm_trees.specs.Verdicts.{answer_of}
use Rattle.qm_trees.specs.RefuteJudgement.{judge_refute}
use Rattle.qm_trees.proofs.Lines.{fine_of_answer}
use Rattle.qm_trees.proofs.RefutationLines.{right_of_fine}
use Rattle.qm_trees.proofs.RefutationsRefuse.{right_refuses}
use Rattle.qm_refute.proofs.walk.test.Goals as goal

pub returns-clause-right : goal.returns-clause-right
returns-clause-right c =
    let P = c.args.game.now in
    let cuts = c.args.cuts.now in
    let G = goal_of c.args.goal.now in
    let scale = rw c.problem-problem.ensures.value at c.problem-problem.ensures.sound.scale_positive in
    let rest = drop c.args.depth (whole_vars P) in
    let judged = judge_refute P cuts [] G rest c.args.depth c.args.bx.now c.args.tree.now in
    let walked : c.test_from.result ≡ answer_of judged = rw (c.at.result.from_depth, c.at.ensures.depth, c.at.ensures.game) at c.test_from.ensures.answer in
    λ passes. (right_of_fine P cuts G scale c.goal_is_proper.ensures [] rest c.args.depth c.args.bx.now c.args.tree.now (fine_of_answer judged (sym walked ∙ passes))).0

pub returns-clause-refuses : goal.returns-clause-refuses
returns-clause-refuses c =
    let sound = rw c.problem-problem.ensures.value at c.problem-problem.ensures.sound in
    λ yes hold prefix count within inside others legal wins.
    right_refuses c.args.game.now c.args.cuts.now [] (goal_of c.args.goal.now) c.args.depth c.args.bx.now c.args.tree.now prefix sound c.goal_is_proper.ensures hold
    (returns-clause-right c yes) count within inside others legal wins
