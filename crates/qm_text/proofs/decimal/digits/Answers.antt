use Rattle.std.proofs.Common.{sym, ◌∙◌}
use Rattle.qm_text.proofs.Spellings.{digits_none_of}
use Rattle.qm_text.proofs.decimal.digits.Goals as goal

pub returns-then-not-are_some_digits : goal.returns-then-not-are_some_digits
returns-then-not-are_some_digits c =
    let none = sym c.are_some_digits.ensures ∙ c.if-not-are_some_digits.true in
    digits_none_of c.args.front.now c.cut_at_point.result.0.now c.cut_at_point.result.1.now c.cut_at_point.ensures (λ h. cc (none, h))
