use Rattle.std.proofs.Common.{sym, ◌∙◌}
use Rattle.qm_text.proofs.Spellings.{numeral_from, power_some}
use Rattle.qm_text.proofs.decimal.power.Goals as goal

pub returns : goal.returns
returns c =
    let word = c.args.word.now in
    let digits = c.sign-minus.result.1.now in
    let all = sym c.are_digits.ensures ∙ c.if-not-are_digits.false in
    let numeral = numeral_from digits (sym c.is_empty.ensures ∙ c.if-is_empty.false) all in
    (power_some word digits c.sign-minus.result.0 c.sign-minus.ensures numeral, all)
