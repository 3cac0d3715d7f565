use Rattle.std.proofs.Common.{◌≡◌, drop}
use Rattle.std.specs.List.{fold}
use Rattle.qm_model.specs.Boxes.{IsBox}
use Rattle.qm_prop.specs.Courses.{by_row, by_term}
use Rattle.qm_prop.specs.Narrower.{slack_of}
use Rattle.qm_prop.proofs.course.narrow_by_row.Given as goal

abbrev pub invariant-loop-term : goal.invariant-loop-term
invariant-loop-term l = record {
  course : fold (by_term l.vars l.id l.row) l.course (drop l.term-index l.row.terms) ≡ by_row l.vars l.id l.row l.fn.course;
  box : IsBox l.vars l.course.bx;
  slack : l.slack ≡ slack_of l.row l.course.bx;
}
