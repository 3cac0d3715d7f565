use Rattle.std.proofs.Common.{sym, ⊎_elim, inl, inr}
use Rattle.std.proofs.Math.Nat.{div-one}
use Rattle.qm_frac.proofs.Halving.{gcd_of-either_one}
use Rattle.qm_frac.proofs.numbers.reduced.Goals as goal

pub returns-then-n-eq1-clause-num : goal.returns-then-n-eq1-clause-num
returns-then-n-eq1-clause-num c =
    let one = gcd_of-either_one c.args.n c.args.d (⊎_elim inl (λ p. inr p.1) c.then-n-eq1.either) in
    rw one (sym (div-one c.args.n))

pub returns-then-n-eq1-clause-den : goal.returns-then-n-eq1-clause-den
returns-then-n-eq1-clause-den c =
    let one = gcd_of-either_one c.args.n c.args.d (⊎_elim inl (λ p. inr p.1) c.then-n-eq1.either) in
    rw one (sym (div-one c.args.d))
