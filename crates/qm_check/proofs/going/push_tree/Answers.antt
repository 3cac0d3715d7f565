use Rattle.std.proofs.Common.{refl}
use Rattle.std.proofs.lemmas.Result.{on_ok_weaker}
use Rattle.qm_check.proofs.DueTasks.{tree_pushed, tree_stays}
use Rattle.qm_check.proofs.going.push_tree.Goals as goal

pub returns-clause-due : goal.returns-clause-due
returns-clause-due c = on_ok_weaker c.push.result (λ e. tree_pushed c.args.walk.now _ c.args.tree e refl) c.push.ensures

pub returns-clause-stays : goal.returns-clause-stays
returns-clause-stays c = on_ok_weaker c.push.result (λ e P is. tree_stays c.args.walk.now _ c.args.tree P e refl is) c.push.ensures
