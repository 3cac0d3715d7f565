use Rattle.std.proofs.Common.{◌+◌, ◌*◌}
use Rattle.probe_certificates.proofs.refutations.+refutations.Given as goal

abbrev pub decreases-refutation_at : goal.decreases-refutation_at
decreases-refutation_at l = 2 * l.depth

abbrev pub decreases-over_at : goal.decreases-over_at
decreases-over_at l = 2 * l.depth + 1

abbrev pub decreases-pick_at : goal.decreases-pick_at
decreases-pick_at l = 2 * l.depth + 1
