use Rattle.std.proofs.Common.{ap, ◌∙◌, of_z}
use Rattle.std.proofs.lemmas.Int.{to_z-of_z}
use mir.Syntax.{w64, w128}
use mir.Val.{SFits}
use Rattle.qm_combo.proofs.Steps.{least_more}
use Rattle.qm_combo.proofs.sums.add_least.Goals as goal

pub returns : goal.returns
returns c =
    let fits : SFits w64 c.least_end.result = record { sfits = c.least_end.type_inv } in
    let end = to_z-of_z w64 c.least_end.result fits ∙ c.least_end.ensures in
    let whole = rw end at c.whole.ensures in
    c.add.ensures.answer
    ∙ least_more c.args.coefficient c.args.range c.args.sum c.whole.result c.in_ok-product.product
    (λ e. c.if-num-eq0.false (ap (λ z. of_z w128 z) (c.num.ensures.num ∙ e))) whole c.in_ok-product.ensures.answer
