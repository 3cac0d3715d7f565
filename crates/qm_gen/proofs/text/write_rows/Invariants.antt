use Rattle.qm_gen.proofs.Drawn.{WroteRows}
use Rattle.qm_gen.proofs.text.write_rows.Given as goal

abbrev pub invariant-loop-row : goal.invariant-loop-row
invariant-loop-row l = WroteRows l.fn.draws.state l.size l._row l.initial.out l.out l.draws.state
