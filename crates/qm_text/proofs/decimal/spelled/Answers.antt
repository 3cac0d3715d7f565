use Rattle.qm_text.proofs.Spellings.{spelled_parts}
use Rattle.qm_text.proofs.decimal.spelled.Goals as goal

pub returns-in_err-before : goal.returns-in_err-before
returns-in_err-before c =
    let never = rw c.in_err-before.was at c.digits.ensures in
    let cut = c.cut_at_exponent.ensures in
    rw c.from_residual.ensures (λ d h. never d.before d.behind (spelled_parts c.args.text.now c.cut_at_exponent.result.0.now c.cut_at_exponent.result.1.now d cut h).0)

pub returns-in_err-minus : goal.returns-in_err-minus
returns-in_err-minus c =
    let never = rw c.in_err-minus.was at c.exponent.ensures in
    let cut = c.cut_at_exponent.ensures in
    rw c.from_residual-in_err-minus.ensures (λ d h. never d.exponent (spelled_parts c.args.text.now c.cut_at_exponent.result.0.now c.cut_at_exponent.result.1.now d cut h).1)
