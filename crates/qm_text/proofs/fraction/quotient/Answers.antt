use Rattle.std.proofs.Common.{arith, ◌∙◌, sym}
use Rattle.std.proofs.lemmas.Result.{err_from_is_err_and}
use Rattle.qm_frac.proofs.SignLaws.{unwrap}
use Rattle.qm_text.proofs.Fractions.{quotient_err, quotient_ok, parts_read}
use Rattle.qm_text.proofs.fraction.quotient.Goals as goal

pub returns-in_err-num : goal.returns-in_err-num
returns-in_err-num c =
    let p = err_from_is_err_and c.from_residual.result c.from_residual.ensures.1 in
    rw (p.1, p.2)
    (quotient_err c.args.above.now c.args.below.now _ c.whole.result c.denominator.result c.requires c.whole.ensures c.denominator.ensures (sym c.in_err-num.was ∙ c.both.ensures))

pub lowest-requires-clause-num : goal.lowest-requires-clause-num
lowest-requires-clause-num c =
    let parts = parts_read c.args.above.now c.args.below.now c.in_ok-num.num c.in_ok-num.den c.whole.result c.denominator.result c.whole.ensures c.denominator.ensures (sym c.in_ok-num.was ∙ c.both.ensures) in
    rw (unwrap c.in_ok-num.num parts.num_fits) parts.num_fits

pub lowest-requires-clause-some : goal.lowest-requires-clause-some
lowest-requires-clause-some c =
    let parts = parts_read c.args.above.now c.args.below.now c.in_ok-num.num c.in_ok-num.den c.whole.result c.denominator.result c.whole.ensures c.denominator.ensures (sym c.in_ok-num.was ∙ c.both.ensures) in
    let broken = parts.den.1 in
    omega arith

pub lowest-requires-clause-den : goal.lowest-requires-clause-den
lowest-requires-clause-den c =
    let parts = parts_read c.args.above.now c.args.below.now c.in_ok-num.num c.in_ok-num.den c.whole.result c.denominator.result c.whole.ensures c.denominator.ensures (sym c.in_ok-num.was ∙ c.both.ensures) in
    parts.den_fits

pub returns : goal.returns
returns c =
    let parts = parts_read c.args.above.now c.args.below.now c.in_ok-num.num c.in_ok-num.den c.whole.result c.denominator.result c.whole.ensures c.denominator.ensures (sym c.in_ok-num.was ∙ c.both.ensures) in
    quotient_ok c.args.above.now c.args.below.now c.in_ok-num.num c.in_ok-num.den c.lowest.result c.requires parts (rw (unwrap c.in_ok-num.num parts.num_fits) at c.lowest.ensures)
