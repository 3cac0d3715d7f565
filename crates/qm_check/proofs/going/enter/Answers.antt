use Rattle.std.proofs.lemmas.Result.{on_ok_weaker}
use Rattle.qm_check.proofs.DueTasks.{entered, entered_stays}
use Rattle.qm_check.proofs.going.enter.Goals as goal

pub returns-clause-due : goal.returns-clause-due
returns-clause-due c =
    on_ok_weaker c.push-2.result
    (λ e. entered c.args.walk.now _ c.args.node c.requires.covered c.push.new.self c.args.tree c.args.range c.in_ok-push.ensures.ok e c.set.ensures)
    c.push-2.ensures.ok

pub returns-clause-stays : goal.returns-clause-stays
returns-clause-stays c =
    on_ok_weaker c.push-2.result
    (λ e P is. entered_stays c.args.walk.now _ c.args.node c.requires.covered c.push.new.self c.args.tree c.args.range c.in_ok-push.ensures.ok e c.set.ensures P c.requires.inside c.requires.next c.requires.range is)
    c.push-2.ensures.ok
