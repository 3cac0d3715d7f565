use Rattle.std.proofs.Common.{◌∙◌, refl}
use Rattle.std.proofs.lemmas.Int.{to_z-of_z}
use Rattle.std.proofs.lemmas.Result.{on_ok_weaker}
use mir.Syntax.{w128}
use mir.Val.{SFits}
use Rattle.qm_check.proofs.DueTasks.{parted, parted_stays}
use Rattle.qm_check.proofs.going.part.Goals as goal

pub returns-clause-due : goal.returns-clause-due
returns-clause-due c =
    let next : SFits w128 c.start.result = record { sfits = c.start.type_inv } in
    let covered = rw c.as_slice.ensures at c.range_in-covered.ensures in
    on_ok_weaker c.push.result (λ e. parted c.args.walk.now _ c.args.kind c.args.var c.args.count c.range_in-covered.result _ covered (to_z-of_z w128 c.start.result next ∙ c.start.ensures) e refl) c.push.ensures

pub returns-clause-stays : goal.returns-clause-stays
returns-clause-stays c =
    let next : SFits w128 c.start.result = record { sfits = c.start.type_inv } in
    let covered = rw c.as_slice.ensures at c.range_in-covered.ensures in
    on_ok_weaker c.push.result
    (λ e P is. parted_stays c.args.walk.now _ c.args.kind c.args.var c.args.count c.range_in-covered.result _ covered (to_z-of_z w128 c.start.result next ∙ c.start.ensures) e refl P c.requires.inside is)
    c.push.ensures
