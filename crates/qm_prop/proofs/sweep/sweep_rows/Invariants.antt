use Rattle.std.proofs.Common.{◌≡◌, drop}
use Rattle.qm_model.specs.Boxes.{IsBox}
use Rattle.qm_prop.specs.Courses.{name_of, sweep_rows}
use Rattle.qm_prop.proofs.sweep.sweep_rows.Given as goal

abbrev pub invariant-loop-number : goal.invariant-loop-number
invariant-loop-number l = record {
  course : sweep_rows l.vars (name_of l.kind) l.number (drop l.number l.rows) l.course ≡ sweep_rows l.vars (name_of l.kind) 0 l.rows l.fn.course;
  box : IsBox l.vars l.course.bx;
}
