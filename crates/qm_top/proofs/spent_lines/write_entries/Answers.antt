use Rattle.std.proofs.Common.{map, drop, arith}
use Rattle.qm_certfile.specs.Lines.{text_of}
use Rattle.qm_top.specs.SpentLines.{entry_line}
use Rattle.qm_top.proofs.Underway.{broken_off, further, holds_on_err, next_line}
use Rattle.qm_top.proofs.spent_lines.write_entries.Goals as goal

pub returns-in_err-make_room-clause-err : goal.returns-in_err-make_room-clause-err
returns-in_err-make_room-clause-err g c =
    holds_on_err c.from_residual.result
    (broken_off _ _ _ c.loop-entry.piece (text_of (map entry_line (drop c.loop-entry.entry-index c.args.entries.now))) _ c.loop-entry.invariant.underway c.in_err-make_room.ensures.err)

pub loop-entry-preserved : goal.loop-entry-preserved
loop-entry-preserved g c =
    let entries = c.args.entries.now in
    let i = c.loop-entry.entry-index in
    let next = next_line entries i _ c.make_room.new.piece c.append_entry.new.piece c.loop-entry-test.true c.append_entry.ensures in
    record {
      underway = rw (← next) (further _ _ _ c.loop-entry.piece c.make_room.new.piece (text_of (map entry_line (drop i entries))) _ c.loop-entry.invariant.underway c.in_ok-make_room.ensures.ok);
      later = omega (arith, c.in_ok-make_room.ensures.cause);
    }
