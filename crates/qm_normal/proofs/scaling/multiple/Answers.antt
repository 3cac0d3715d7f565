use Rattle.std.proofs.Common.{◌≡◌, ℕ, ◌<◌, sym, subst, unsigned_abs, arith}
use Rattle.std.specs.Int.{w128, cast_signed, cast_unsigned}
use Rattle.std.proofs.lemmas.Int.{ints}
use Rattle.qm_normal.proofs.Denominators.{gcd_some}
use Rattle.qm_normal.proofs.scaling.multiple.Goals as goal

pub nonzero_div-part : goal.nonzero_div-part
nonzero_div-part c =
    let fits : cast_signed w128 (cast_unsigned w128 c.den-den.result) ≡ c.den-den.result = omega (arith, ints, c.den-den.ensures.den, c.den-den.ensures.terms.den_fits) in
    subst (λ (n : ℕ). 0 < n) (sym (rw fits at c.gcd.ensures)) (gcd_some (unsigned_abs c.den-den.result) _ (omega (arith, ints, c.den-den.ensures.den, c.den-den.ensures.terms.positive)))
