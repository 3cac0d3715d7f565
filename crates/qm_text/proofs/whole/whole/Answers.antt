use Rattle.std.proofs.Common.{◌≡◌, ◌∷◌, ap, ◌∙◌}
use Rattle.qm_text.proofs.whole.whole.Goals as goal

pub returns-in-Some-eq45-default : goal.returns-in-Some-eq45-default
returns-in-Some-eq45-default c =
    let e : c.args.word.now ≡ 45 ∷ c.in-Some-eq45-default.digits.now =
    c.in-Some-eq45-default.ensures.cases.0 ∙ ap (λ b. b ∷ c.in-Some-eq45-default.digits.now) c.in-Some-eq45-default.field-0-0-test in
    rw e c.below_zero.ensures
