use Rattle.std.proofs.Common.{◌≡◌, drop}
use Rattle.std.specs.Prelude.{is_some}
use Rattle.std.specs.List.{list_all}
use Rattle.qm_trees.specs.CutEntries.{row_on}
use Rattle.qm_cuts.proofs.standing.all_there.Given as goal

abbrev pub invariant-loop-entry : goal.invariant-loop-entry
invariant-loop-entry l =
    list_all (λ e. is_some (row_on l.problem l.earlier e.on)) (drop l.entry-index l.entries) ≡ list_all (λ e. is_some (row_on l.problem l.earlier e.on)) l.entries
