use Rattle.qm_frac.proofs.SignLaws.{unwrap}
use Rattle.std.proofs.lemmas.Result.{err_from_is_err_and}
use Rattle.qm_text.specs.Numbers.{SpellsWhole}
use Rattle.qm_text.proofs.Readings.{read_fits}
use Rattle.qm_text.proofs.Wholes.{SmallWhole, narrowed, narrowed_err}
use Rattle.qm_text.proofs.whole.read_whole.Goals as goal

pub returns-in_err-whole : goal.returns-in_err-whole
returns-in_err-whole c =
    let p = err_from_is_err_and c.from_residual.result c.from_residual.ensures.1 in
    rw (p.1, p.2) (narrowed_err c.args.text.now _ (rw c.in_err-whole.was at c.whole.ensures))

pub returns : goal.returns
returns c =
    let read = rw c.in_ok-whole.was at c.whole.ensures in
    let small = read_fits (SpellsWhole c.args.text.now) SmallWhole c.in_ok-whole.field-0 read in
    narrowed c.args.text.now c.in_ok-whole.field-0 c.narrow.result read (rw (unwrap c.in_ok-whole.field-0 small) at c.narrow.ensures)
