use Rattle.std.proofs.Common.{refl, ne_eqb}
use Rattle.qm_text.specs.DecimalSteps.{with_digit}
use Rattle.qm_text.proofs.significant.with_zero.Goals as goal

pub returns-then-from-eq0-clause-value : goal.returns-then-from-eq0-clause-value
unfolding with_digit
returns-then-from-eq0-clause-value c = rw c.if-from-eq0.true refl

pub returns-else-from-eq0-clause-value : goal.returns-else-from-eq0-clause-value
unfolding with_digit
returns-else-from-eq0-clause-value c = rw (ne_eqb c.args.from.number 0 c.if-from-eq0.false) refl
