use Rattle.std.proofs.Common.{pos}
use Rattle.std.proofs.lemmas.Result.{err_from_is_err_and}
use Rattle.qm_text.specs.Numbers.{SpellsNatural}
use Rattle.qm_text.proofs.Readings.{read_fits}
use Rattle.qm_text.proofs.Wholes.{Small, wrapped, not_below_zero_err, not_below_zero_ok}
use Rattle.qm_text.proofs.whole.not_below_zero.Goals as goal

pub returns-in_err-natural : goal.returns-in_err-natural
returns-in_err-natural c =
    let p = err_from_is_err_and c.from_residual.result c.from_residual.ensures.1 in
    rw (p.1, p.2) (not_below_zero_err c.args.word.now _ c.requires (rw c.in_err-natural.was at c.natural.ensures))

pub plus-requires : goal.plus-requires
plus-requires c = read_fits (SpellsNatural c.args.word.now) Small c.in_ok-natural.field-0 (rw c.in_ok-natural.was at c.natural.ensures)

pub returns : goal.returns
returns c =
    let read = rw c.in_ok-natural.was at c.natural.ensures in
    let small = read_fits (SpellsNatural c.args.word.now) Small c.in_ok-natural.field-0 read in
    rw (wrapped c.plus.result (pos c.in_ok-natural.field-0) c.plus.ensures small) (not_below_zero_ok c.args.word.now c.in_ok-natural.field-0 read)
