use Rattle.std.proofs.Common.{subst}
use Rattle.qm_model.specs.Plays.{whole_vars}
use Rattle.qm_trees.specs.PolicyRight.{IsRightPolicy}
use Rattle.qm_trees.proofs.PolicyReaches.{right_reaches, right_wins}
use Rattle.qm_policy.proofs.walk.test.Goals as goal

pub returns-clause-reaches : goal.returns-clause-reaches
returns-clause-reaches c =
    let sound = rw c.problem-problem.ensures.value at c.problem-problem.ensures.sound in
    λ yes whole us play.
    right_reaches c.args.game.now sound c.args.value.now c.args.policy.now us
    (subst (λ bx. IsRightPolicy c.args.game.now c.args.value.now (whole_vars c.args.game.now) 0 bx c.args.policy.now) whole (c.test_from.ensures.right yes)) play

pub returns-clause-wins : goal.returns-clause-wins
returns-clause-wins c =
    let sound = rw c.problem-problem.ensures.value at c.problem-problem.ensures.sound in
    λ yes whole.
    right_wins c.args.game.now sound c.args.value.now c.args.policy.now
    (subst (λ bx. IsRightPolicy c.args.game.now c.args.value.now (whole_vars c.args.game.now) 0 bx c.args.policy.now) whole (c.test_from.ensures.right yes))
