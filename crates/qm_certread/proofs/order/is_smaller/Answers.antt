use Rattle.std.proofs.Common.{◌∙◌}
use Rattle.qm_certread.proofs.RowOrder.{before_is, digits_of_counting, longer, shorter}
use Rattle.qm_certread.proofs.order.is_smaller.Goals as goal

pub returns-then-a-b : goal.returns-then-a-b
returns-then-a-b c = shorter c.args.a.now c.args.b.now c.requires.a c.requires.b c.if-a-b.true

pub returns-then-a-b-2 : goal.returns-then-a-b-2
returns-then-a-b-2 c =
    c.is_before_in_digits.ensures
    ∙ before_is c.args.a.now c.args.b.now (digits_of_counting c.args.a.now c.requires.a) (digits_of_counting c.args.b.now c.requires.b) c.if-a-b-2.true

pub returns-else-a-b-2 : goal.returns-else-a-b-2
returns-else-a-b-2 c = longer c.args.a.now c.args.b.now c.requires.a c.requires.b c.if-a-b.false c.if-a-b-2.false
