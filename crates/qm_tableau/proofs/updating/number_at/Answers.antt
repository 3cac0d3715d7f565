use Rattle.std.proofs.Common.{◌≡◌, ◌∙◌, false, ap₂, ℤ, pos, ◌-ℤ◌, arith}
use Rattle.std.specs.Prelude.{◌==◌}
use Rattle.std.proofs.lemmas.Bool.Decides.{nat_tests}
use Rattle.qm_tableau.specs.Wholes.{at_place}
use Rattle.qm_tableau.proofs.SmallNumbers.{passed_128, passed_64}
use Rattle.qm_tableau.proofs.updating.number_at.Goals as goal

pub returns-else-k-step-clause-value : goal.returns-else-k-step-clause-value
returns-else-k-step-clause-value c =
    let first : (c.args.k == 0) ≡ false = grind (arith, nat_tests, c.if-k-eq0.false) in
    let other : (c.args.k == c.args.step.place) ≡ false = grind (arith, nat_tests, c.if-k-step.false) in
    let a = passed_128 c.product-else-k-step.result (omega (arith, c.product-else-k-step.ensures.size)) in
    let b = passed_128 c.product-else-k-step-2.result (omega (arith, c.product-else-k-step-2.ensures.size)) in
    let x = passed_64 (at_place c.args.row.now c.args.k) (c.requires.row c.args.k (pos 0) c.requires.k) in
    let y = passed_64 (at_place c.args.leaving.now c.args.k) (c.requires.leaving c.args.k (pos 0) (omega (arith, c.requires.k, c.requires.same))) in
    let by = passed_64 c.args.step.by c.requires.by in
    let factor = passed_64 c.args.step.factor c.requires.factor in
    let left = rw (x, by) at c.product-else-k-step.ensures.value in
    let right = rw (factor, y) at c.product-else-k-step-2.ensures.value in
    rw (first, other) (passed_128 c.difference.result c.difference.ensures.size ∙ c.difference.ensures.value ∙ ap₂ (λ (m n : ℤ). m -ℤ n) (a ∙ left) (b ∙ right))
