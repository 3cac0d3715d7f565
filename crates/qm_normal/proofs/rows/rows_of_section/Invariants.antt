use Rattle.std.proofs.Common.{◌≡◌, drop}
use Rattle.qm_normal.specs.Normal.{rows_from, with_front}
use Rattle.qm_normal.specs.RowSteps.{part_of, rows_in}
use Rattle.qm_normal.proofs.rows.rows_of_section.Given as goal

abbrev pub invariant-loop-before : goal.invariant-loop-before
invariant-loop-before l =
    with_front l.list (rows_from (part_of l.section) l.ast l.before (drop l.before (rows_in l.section l.ast))) ≡ rows_from (part_of l.section) l.ast 0 (rows_in l.section l.ast)
