use Rattle.std.proofs.Common.{take}
use Rattle.qm_gen.proofs.Drawn.{Summed}
use Rattle.qm_gen.proofs.terms.right_side.Given as goal

abbrev pub invariant-loop-term : goal.invariant-loop-term
invariant-loop-term l = Summed (take l.term-index l.terms) l.term-index l.universal l.existential
