use Rattle.std.proofs.Common.{◌++◌}
use Rattle.std.specs.Prelude.{codes}
use Rattle.qm_top.specs.PieceSteps.{IsUnderway}
use Rattle.qm_top.proofs.Underway.{ended_off, on_err, with_more}
use Rattle.qm_top.proofs.spent_lines.write_end.Goals as goal

pub returns-clause-err : goal.returns-clause-err
returns-clause-err g c =
    let text = c.args.piece.now ++ codes "end\n" in
    let taken = g.O.Sink.taken in
    let left = with_more (taken c.args.out.now) (taken c.make_room.new.out) c.make_room.new.piece (codes "end\n") c.args.piece.now c.in_ok-make_room.ensures.ok in
    let underway : IsUnderway (taken c.args.out.now) (taken c.make_room.new.out) c.append.new.self text = rw c.append.ensures left in
    on_err c.pass_on.result (ended_off (taken c.args.out.now) (taken c.make_room.new.out) (taken c.pass_on.new.out) c.append.new.self text underway) c.pass_on.ensures.err
