use Rattle.std.proofs.Common.{sym, ◌∙◌}
use Rattle.qm_check.proofs.Narrow.{named_narrow}
use Rattle.qm_check.proofs.closing.closes_here.Goals as goal

pub closes-requires-clause-narrow : goal.closes-requires-clause-narrow
closes-requires-clause-narrow c =
    let sound = rw c.problem-problem.ensures.value at c.problem-problem.ensures.sound in
    let named = rw (c.problem-problem.ensures.value, c.entries.ensures.value) at c.all_named.ensures in
    rw c.problem-problem.ensures.value
    (named_narrow c.args.game.now c.args.cuts.now c.args.combo.now.entries sound c.requires.cuts (sym named ∙ c.if-not-all_named.false))
