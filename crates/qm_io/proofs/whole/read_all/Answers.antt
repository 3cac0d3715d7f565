use Rattle.std.proofs.Common.{◌+◌, ◌-◌, ◌≤◌, length, arith, length-append, length-take}
use Rattle.std.proofs.KnownBytes.{Consumes-trans}
use Rattle.qm_io.proofs.whole.read_all.Goals as goal
use Rattle.qm_io.proofs.whole.read_all.Goals.{then-left-lt-PIECE, else-left-lt-PIECE}

pub returns-then-n-left-clause-whole : goal.returns-then-n-left-clause-whole
returns-then-n-left-clause-whole g c =
    let d = c.in-Ok.ensures.bound in
    let room : c.if-left-lt-PIECE.room ≤ (c.args.most - c.len.result) + 1 =
    elim c.if-left-lt-PIECE.branch [ then-left-lt-PIECE w ↦ omega arith | else-left-lt-PIECE w ↦ omega arith ] in
    let buf : length c.read.new.buf ≤ c.if-left-lt-PIECE.room = let l = simp length-take at c.read.auto.buf in omega arith in
    (_, Consumes-trans _ _ _ _ _ c.loop-room.invariant.came c.in-Ok.ensures.bytes.0, rw (length-append, ← d.1) (omega (arith, c.len.ensures, c.loop-room.invariant.within)))

pub returns-then-is_err-clause-err : goal.returns-then-is_err-clause-err
returns-then-is_err-clause-err g c =
    let d = c.in-Ok.ensures.bound in
    (_, Consumes-trans _ _ _ _ _ c.loop-room.invariant.came c.in-Ok.ensures.bytes.0, rw (length-append, ← d.1) (omega (arith, c.len.ensures, c.loop-room.invariant.within, c.if-n-left.false)))
