use Rattle.std.proofs.Common.{sym, ◌∙◌}
use Rattle.qm_check.proofs.Narrow.{uncertain_narrow}
use Rattle.qm_check.proofs.closing.closes_empty.Goals as goal

pub contradicts-requires-clause-narrow : goal.contradicts-requires-clause-narrow
contradicts-requires-clause-narrow c =
    let sound = rw c.problem-problem.ensures.value at c.problem-problem.ensures.sound in
    let named = rw (c.problem-problem.ensures.value, c.entries.ensures.value) at c.all_uncertain.ensures in
    rw c.problem-problem.ensures.value
    (uncertain_narrow c.args.game.now c.args.combo.now.entries sound (sym named ∙ c.if-not-all_uncertain.false))
