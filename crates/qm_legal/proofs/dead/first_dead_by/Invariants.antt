use Rattle.std.proofs.Common.{take}
use Rattle.qm_model.specs.Boxes.{IsDead}
use Rattle.qm_game.specs.First.{HasNone}
use Rattle.qm_legal.proofs.dead.first_dead_by.Given as goal

abbrev pub invariant-loop-number : goal.invariant-loop-number
invariant-loop-number l = HasNone (IsDead l.bx) (take l.number l.rows)
