use Rattle.qm_check.proofs.Beginnings.{begun}
use Rattle.qm_check.proofs.beginning.begin.Goals as goal

pub returns-clause-walk : goal.returns-clause-walk
returns-clause-walk c = rw (c.in_ok-due.ensures, c.in_ok-bx.ensures, c.problem-problem.ensures.value) (begun c.args.game.now c.args.claim.now)
