use Rattle.std.proofs.Common.{◌≡◌, drop}
use Rattle.std.specs.List.{list_all}
use Rattle.qm_model.specs.Legal.{holds_at}
use Rattle.qm_check.proofs.play.all_hold.Given as goal

abbrev pub invariant-loop-row : goal.invariant-loop-row
invariant-loop-row l = list_all (holds_at l.values) (drop l.row-index l.rows) ≡ list_all (holds_at l.values) l.rows
