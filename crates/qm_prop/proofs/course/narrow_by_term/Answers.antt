use Rattle.std.proofs.Common.{sym}
use Rattle.qm_prop.proofs.Found.{reason-inside}
use Rattle.qm_prop.proofs.course.narrow_by_term.Goals as goal

pub follow-requires-clause-inside : goal.follow-requires-clause-inside
follow-requires-clause-inside c = reason-inside c.args.vars.now c.args.id c.args.slack c.args.course.now.bx c.args.term c.in-Some.reason (sym (rw c.as_slice.ensures at c.in-Some.ensures))
