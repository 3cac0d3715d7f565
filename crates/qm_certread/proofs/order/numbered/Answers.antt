use Rattle.std.proofs.Common.{◌≡◌, true, false}
use Rattle.qm_certread.specs.WordSteps.{is_counting}
use Rattle.qm_certread.proofs.RowOrder.{numbered_none, numbered_some}
use Rattle.qm_certread.proofs.order.numbered.Goals as goal

pub returns-then-not-is_counting : goal.returns-then-not-is_counting
returns-then-not-is_counting c =
    let not : is_counting c.signed_digits-minus.result.1.now ≡ false = cc in
    numbered_none c.args.kind c.args.number.now c.signed_digits-minus.result.1.now c.signed_digits-minus.result.0 c.signed_digits-minus.ensures not

pub returns : goal.returns
returns c =
    let here : is_counting c.signed_digits-minus.result.1.now ≡ true = cc in
    numbered_some c.args.kind c.args.number.now c.signed_digits-minus.result.1.now c.signed_digits-minus.result.0 c.signed_digits-minus.ensures here
