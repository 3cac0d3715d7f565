use Rattle.std.proofs.Common.{drop}
use Rattle.qm_model.specs.Plays.{BeginWithin}
use Rattle.probe_games.proofs.rows.begin_within.Given as goal

abbrev pub invariant-loop-at : goal.invariant-loop-at
invariant-loop-at l = BeginWithin (drop l.at l.vars) (drop l.at l.values) → BeginWithin l.vars l.values
