use Rattle.std.proofs.Common.{[], ap}
use Rattle.qm_trees.specs.declared.refutation.Refute.{Close}
use Rattle.qm_search.proofs.DeadRows.{empty_refutes, first_dead_refutes}
use Rattle.qm_search.proofs.closings.closed_at_once.Goals as goal

pub returns-then-has_empty : goal.returns-then-has_empty
returns-then-has_empty c = λ rest depth G proper.
    let sound = rw c.problem-problem.ensures.value at c.problem-problem.ensures.sound in
    empty_refutes c.args.game.now [] [] rest depth c.args.bx.now sound c.requires G proper (Close c.new.result) (c.has_empty.ensures.0 c.if-has_empty.true) (ap Close c.new.ensures)

pub returns-in_ok-closed_by-in-Some : goal.returns-in_ok-closed_by-in-Some
returns-in_ok-closed_by-in-Some c = λ rest depth G proper.
    let sound = rw c.problem-problem.ensures.value at c.problem-problem.ensures.sound in
    let first = rw c.in-Some.is at c.row_dead.ensures in
    first_dead_refutes c.args.game.now [] [] rest depth c.args.bx.now sound c.requires G proper c.in-Some.row c.in_ok-closed_by-in-Some.field-0 first c.in_ok-closed_by-in-Some.ensures
