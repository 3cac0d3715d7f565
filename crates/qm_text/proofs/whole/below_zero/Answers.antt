use Rattle.std.proofs.Common.{pos, neg_ℤ}
use Rattle.std.proofs.lemmas.Result.{err_from_is_err_and}
use Rattle.qm_text.specs.Numbers.{SpellsNatural}
use Rattle.qm_text.proofs.Readings.{read_fits}
use Rattle.qm_text.proofs.Wholes.{Small, wrapped, minus_small, below_zero_err, below_zero_none, below_zero_ok}
use Rattle.qm_text.proofs.whole.below_zero.Goals as goal

pub returns-in_err-n : goal.returns-in_err-n
returns-in_err-n c =
    let p = err_from_is_err_and c.from_residual.result c.from_residual.ensures.1 in
    rw (p.1, p.2) (below_zero_err c.args.digits.now _ (rw c.in_err-n.was at c.natural.ensures))

pub returns-then-n-eq0 : goal.returns-then-n-eq0
returns-then-n-eq0 c = below_zero_none c.args.digits.now c.in_ok-n.n (rw c.in_ok-n.was at c.natural.ensures) c.if-n-eq0.true

pub minus-requires : goal.minus-requires
minus-requires c = read_fits (SpellsNatural c.args.digits.now) Small c.in_ok-n.n (rw c.in_ok-n.was at c.natural.ensures)

pub returns : goal.returns
returns c =
    let read = rw c.in_ok-n.was at c.natural.ensures in
    let small = read_fits (SpellsNatural c.args.digits.now) Small c.in_ok-n.n read in
    rw (wrapped c.minus.result (neg_ℤ (pos c.in_ok-n.n)) c.minus.ensures (minus_small c.in_ok-n.n small)) (below_zero_ok c.args.digits.now c.in_ok-n.n read c.if-n-eq0.false)
