use Rattle.qm_model.specs.Boxes.{IsBox}
use Rattle.bench.proofs.relaxations.Play.walk.Given as goal

abbrev pub invariant-loop-depth : goal.invariant-loop-depth
invariant-loop-depth l = IsBox l.game.vars l.bx
