use Rattle.std.proofs.Common.{◌∙◌, sym}
use Rattle.qm_game.specs.Goals.{goal_of}
use Rattle.qm_refute.proofs.Steps.{named_closes, other_closes}
use Rattle.qm_refute.proofs.closing.closes_here.Goals as goal

pub returns-then-not-all_named : goal.returns-then-not-all_named
returns-then-not-all_named c =
    let named = rw (c.problem.ensures.value, c.entries.ensures.value) at c.all_named.ensures in
    let form = rw c.entries.ensures.value at c.entries.ensures.well_formed in
    sym (other_closes c.args.game.now c.args.sought.cuts.now (goal_of c.args.sought.goal.now) c.args.bx.now c.args.combo.now form (sym named ∙ c.if-not-all_named.true))

pub returns : goal.returns
returns c =
    let named = rw (c.problem.ensures.value, c.entries.ensures.value) at c.all_named.ensures in
    let form = rw c.entries.ensures.value at c.entries.ensures.well_formed in
    c.closes.ensures
    ∙ sym (named_closes c.args.game.now c.args.sought.cuts.now (goal_of c.args.sought.goal.now) c.args.bx.now c.args.combo.now form (sym named ∙ c.if-not-all_named.false))
