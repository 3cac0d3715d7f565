use Rattle.std.proofs.lemmas.Result.{err_from_is_err_and}
use Rattle.qm_frac.proofs.SignLaws.{unwrap}
use Rattle.qm_text.specs.Numbers.{SpellsWhole}
use Rattle.qm_text.proofs.Readings.{read_fits}
use Rattle.qm_text.proofs.Wholes.{SmallWhole}
use Rattle.qm_text.proofs.Fractions.{over_one_err, over_one_ok}
use Rattle.qm_text.proofs.fraction.over_one.Goals as goal

pub returns-in_err-whole : goal.returns-in_err-whole
returns-in_err-whole c =
    let p = err_from_is_err_and c.from_residual.result c.from_residual.ensures.1 in
    rw (p.1, p.2) (over_one_err c.args.word.now _ c.requires (rw c.in_err-whole.was at c.whole.ensures))

pub lowest-requires-clause-num : goal.lowest-requires-clause-num
lowest-requires-clause-num c =
    let small = read_fits (SpellsWhole c.args.word.now) SmallWhole c.in_ok-whole.field-0 (rw c.in_ok-whole.was at c.whole.ensures) in
    rw (unwrap c.in_ok-whole.field-0 small) small

pub returns : goal.returns
returns c =
    let read = rw c.in_ok-whole.was at c.whole.ensures in
    let small = read_fits (SpellsWhole c.args.word.now) SmallWhole c.in_ok-whole.field-0 read in
    over_one_ok c.args.word.now c.in_ok-whole.field-0 c.lowest.result read (rw (unwrap c.in_ok-whole.field-0 small) at c.lowest.ensures)
