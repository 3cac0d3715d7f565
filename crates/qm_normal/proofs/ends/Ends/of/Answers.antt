use Rattle.qm_normal.proofs.LastValues.{IsEndsOf-made}
use Rattle.qm_normal.proofs.ends.Ends.of.Goals as goal

pub returns : goal.returns
returns c =
    IsEndsOf-made c.args.ast.now (record { lower = c.new.result; upper = c.new-2.result }) c.note_all.new.self c.new.ensures c.new-2.ensures (rw c.as_slice.ensures at c.in_ok-note_all.ensures)
