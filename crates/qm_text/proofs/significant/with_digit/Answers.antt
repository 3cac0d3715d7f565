use Rattle.std.proofs.Common.{ℕ, ne_eqb, ◌+◌, ◌-◌, ◌*◌, ◌^◌, min, ap, ap₂, ◌∙◌}
use Rattle.qm_text.specs.declared.significant.Significant.{Significant}
use Rattle.qm_text.specs.DecimalSteps.{with_digit}
use Rattle.qm_text.proofs.Zeros.{bounded_twice}
use Rattle.qm_text.proofs.significant.with_digit.Goals as goal

pub returns-clause-value : goal.returns-clause-value
unfolding with_digit
returns-clause-value c =
    let made : ℕ → Significant = λ n. record { number = n; zeros = 0 } in
    let product = c.saturating_mul.ensures ∙ ap (λ k. min (k * c.args.from.number) (2 ^ 128 - 1)) c.ten_to.ensures in
    let number = c.saturating_add.ensures
    ∙ ap₂ (λ m d. min (m + d) (2 ^ 128 - 1)) product c.from.ensures
    ∙ bounded_twice c.args.from.number (10 ^ (c.args.from.zeros + 1)) (2 ^ 128 - 1) (c.args.digit - 48) in
    rw (ne_eqb c.args.digit 48 c.if-digit-eq48.false) (ap made number)
