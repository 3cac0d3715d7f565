use Rattle.std.proofs.Common.{◌+◌, ◌*◌}
use Rattle.probe_certificates.proofs.trees.+trees.Given as goal

abbrev pub decreases-tree_at : goal.decreases-tree_at
decreases-tree_at l = 2 * l.depth

abbrev pub decreases-parts_at : goal.decreases-parts_at
decreases-parts_at l = 2 * l.depth + 1
