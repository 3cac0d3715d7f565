use Rattle.std.proofs.Common.{◌≡◌, drop}
use Rattle.std.specs.List.{list_all}
use Rattle.qm_trees.specs.Picks.{holds_on_box}
use Rattle.qm_check.proofs.worst.hold_on_box.Given as goal

abbrev pub invariant-loop-row : goal.invariant-loop-row
invariant-loop-row l = list_all (holds_on_box l.bx) (drop l.row-index l.rows) ≡ list_all (holds_on_box l.bx) l.rows
