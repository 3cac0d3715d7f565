-- Single steps of the test.
use Rattle.qm_math.specs.Fraction.{Fraction, whole}
use Rattle.qm_frac.specs.Checked.{Checked, and_then, added, multiplied, divided}
use Rattle.qm_model.specs.declared.row.Term.{Term}
use Rattle.qm_model.specs.declared.game.Problem.{Problem}

-- to the sum so far, the coefficient times its value is added
abbrev pub add_term : (Term → Fraction) → Term → Fraction → Checked Fraction
add_term value t s = and_then (multiplied (whole t.coef) (value t)) (λ p. added s p)

-- the objective whose terms have this sum
abbrev pub objective_from : Problem → Fraction → Checked Fraction
objective_from P s = and_then (added s (whole P.constant)) (λ k. divided k (whole P.scale))
