use Rattle.std.proofs.Common.{◌≡◌, drop, sym, ◌∙◌}
use Rattle.qm_model.specs.Plays.{whole_vars}
use Rattle.qm_trees.specs.Verdicts.{answer_of}
use Rattle.qm_trees.specs.PolicyJudgement.{judge_policy}
use Rattle.qm_trees.proofs.Lines.{fine_of_answer}
use Rattle.qm_trees.proofs.PolicyLines.{right_of_fine}
use Rattle.qm_policy.proofs.walk.test_from.Goals as goal

pub returns-clause-right : goal.returns-clause-right
returns-clause-right c =
    let P = c.args.game.now in
    let scale = rw c.problem-problem.ensures.value at c.problem-problem.ensures.sound.scale_positive in
    let rest = drop c.args.depth (whole_vars P) in
    let judged = judge_policy P c.args.value.now rest c.args.depth c.args.bx.now c.args.policy.now in
    let walked : c.test_here.result ≡ answer_of judged = rw (c.at.result.from_depth, c.at.ensures.depth, c.at.ensures.game) at c.test_here.ensures.answer in
    λ passes. (right_of_fine P c.args.value.now scale c.den-positive.ensures.terms.positive rest c.args.depth c.args.bx.now c.args.policy.now
    (fine_of_answer judged (sym walked ∙ passes))).0

pub returns-clause-in_range : goal.returns-clause-in_range
returns-clause-in_range c =
    let P = c.args.game.now in
    let scale = rw c.problem-problem.ensures.value at c.problem-problem.ensures.sound.scale_positive in
    let rest = drop c.args.depth (whole_vars P) in
    let judged = judge_policy P c.args.value.now rest c.args.depth c.args.bx.now c.args.policy.now in
    let walked : c.test_here.result ≡ answer_of judged = rw (c.at.result.from_depth, c.at.ensures.depth, c.at.ensures.game) at c.test_here.ensures.answer in
    λ passes. (right_of_fine P c.args.value.now scale c.den-positive.ensures.terms.positive rest c.args.depth c.args.bx.now c.args.policy.now
    (fine_of_answer judged (sym walked ∙ passes))).1
