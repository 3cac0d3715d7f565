use Rattle.std.proofs.Common.{◌≡◌, ◌-◌}
use Rattle.qm_model.specs.Boxes.{IsBox}
use Rattle.qm_prop.specs.Courses.{propagation_from, propagation_of}
use Rattle.qm_prop.proofs.propagation.propagate.Given as goal

abbrev pub invariant-loop : goal.invariant-loop
invariant-loop l = record {
  course : propagation_from l.game (32 - l.counter) l.course ≡ propagation_of l.game l.fn.bx;
  box : IsBox l.game.vars l.course.bx;
}
