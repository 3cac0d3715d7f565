use Rattle.std.proofs.Common.{ap, not}
use Rattle.qm_text.specs.Digits.{numeral_value}
use Rattle.qm_certread.proofs.RowOrder.{counting_some, signed_apart}
use Rattle.qm_certread.proofs.order.is_less.Goals as goal

pub returns-then-not-b : goal.returns-then-not-b
returns-then-not-b c =
    signed_apart c.args.a.minus c.args.b.minus (numeral_value c.args.a.digits.now) (numeral_value c.args.b.digits.now) c.if-a.true (ap not c.if-not-b.true)
    (counting_some c.args.a.digits.now c.requires.a) (counting_some c.args.b.digits.now c.requires.b)
