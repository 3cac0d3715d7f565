-- The value of a certificate that passes is in lowest terms.
use Rattle.std.proofs.Common.{◌≡◌, ℤ, pos, List, refl, arith}
use Rattle.qm_math.specs.Fraction.{Fraction}
use Rattle.qm_frac.specs.Gcd.{gcd_of, gcd_within}
use Rattle.qm_frac.specs.Lowest.{IsFrac}
use Rattle.qm_model.specs.declared.game.Problem.{Problem}
use Rattle.qm_trees.specs.declared.policy.Policy.{Policy}
use Rattle.qm_trees.specs.declared.refutation.Refute.{Refute}
use Rattle.qm_certfile.specs.declared.certificate.Certificate.TheVariants.{Optimal}
use Rattle.qm_certfile.specs.Passes.{Passes}

pub lowest_value : (P : Problem) (value : Fraction) (legal : List ℤ) (policy : Policy) (refute : Refute) → Passes P (Optimal value legal policy refute) → IsFrac value
lowest_value P value legal policy refute passes = passes.0

four_and_two : gcd_of 4 2 ≡ 2
unfolding gcd_of gcd_within
four_and_two = refl

pub not_four_halves : (P : Problem) (legal : List ℤ) (policy : Policy) (refute : Refute) → Passes P (Optimal (record { num = pos 4; den = 2 }) legal policy refute) → ⊥
not_four_halves P legal policy refute passes =
    let lowest : gcd_of 4 2 ≡ 1 = passes.0.lowest in
    omega (arith, lowest, four_and_two)
