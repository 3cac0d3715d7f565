use Rattle.std.proofs.Common.{◌≡◌, ◌∙◌, ◌<◌, sym, ap, subst, ℕ, ℤ, unsigned_abs, arith}
use native.Mathlib.Nat.{one-dvd}
use Rattle.std.proofs.lemmas.Nat.Gcd.{dvd_refl}
use Rattle.qm_tableau.specs.Wholes.{at_place}
use Rattle.qm_tableau.specs.UpdateSteps.{number_at}
use Rattle.qm_tableau.proofs.Parts.{divides_after, product_some, small_after, some_after}
use Rattle.qm_tableau.proofs.SmallNumbers.{passed_128}
use Rattle.qm_tableau.proofs.updating.divisor.Goals as goal

pub loop-k-init : goal.loop-k-init
loop-k-init c =
    let is : c.unsigned_abs-common.result ≡ unsigned_abs c.number_at.result = c.unsigned_abs-common.ensures.value ∙ ap unsigned_abs (passed_128 c.number_at.result c.number_at.ensures.size) in
    record {
      some = subst (λ (x : ℕ). 0 < x) (sym (is ∙ ap unsigned_abs c.number_at.ensures.value)) (product_some (at_place c.args.row.now 0) c.args.step.by c.requires.some c.requires.by);
      small = rw is c.number_at.ensures.size;
      divides = λ j h. (let z : j ≡ 0 = omega arith in rw (z, is, c.number_at.ensures.value) (dvd_refl _));
    }

pub returns-then-common-eq1-clause-divides : goal.returns-then-common-eq1-clause-divides
returns-then-common-eq1-clause-divides c k h = one-dvd _

pub loop-k-preserved : goal.loop-k-preserved
loop-k-preserved c =
    let n = passed_128 c.number_at-in-loop-k.result c.number_at-in-loop-k.ensures.size ∙ c.number_at-in-loop-k.ensures.value in
    let g = rw n at c.shared-common.ensures in
    let number : ℕ → ℤ = number_at c.args.step.place c.args.step.by c.args.step.factor c.args.row.now c.args.leaving.now in
    let i = c.loop-k.invariant in
    record {
      some = some_after number c.loop-k.k c.loop-k.common c.shared-common.result i.some i.small i.divides g;
      small = small_after number c.loop-k.k c.loop-k.common c.shared-common.result i.some i.small i.divides g;
      divides = divides_after number c.loop-k.k c.loop-k.common c.shared-common.result i.some i.small i.divides g;
    }
