use Rattle.qm_trees.proofs.CombinationSound.{least-at_most, objective-at_most, closes_refutes}
use Rattle.qm_trees.proofs.combination_laws.combinations_are_sound.Goals as goal

pub returns : goal.returns
returns c = record {
  rows = λ P bx xs ws inside dens more holds. least-at_most P bx xs ws inside dens more holds;
  bound = λ P bx xs ws scale inside dens more holds. objective-at_most P bx xs ws scale inside dens more holds;
  closes = λ P bx xs ws objective G scale proper inside dens more holds closes reaches. closes_refutes P bx xs ws scale inside dens more holds objective G proper closes reaches;
}
