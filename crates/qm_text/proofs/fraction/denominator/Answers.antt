use Rattle.qm_text.proofs.Fractions.{denominator_none, denominator_ok}
use Rattle.qm_text.proofs.fraction.denominator.Goals as goal

pub returns-then-n-lt2 : goal.returns-then-n-lt2
returns-then-n-lt2 c = denominator_none c.args.word.now c.in_ok-n.n (rw c.in_ok-n.was at c.natural.ensures) c.if-n-lt2.true

pub returns : goal.returns
returns c = denominator_ok c.args.word.now c.in_ok-n.n (rw c.in_ok-n.was at c.natural.ensures) c.if-n-lt2.false
