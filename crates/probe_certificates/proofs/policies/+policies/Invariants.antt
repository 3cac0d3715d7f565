use Rattle.std.proofs.Common.{◌+◌, ◌*◌}
use Rattle.probe_certificates.proofs.policies.+policies.Given as goal

abbrev pub decreases-policy_at : goal.decreases-policy_at
decreases-policy_at l = 4 * l.depth

abbrev pub decreases-choice_at : goal.decreases-choice_at
decreases-choice_at l = 4 * l.depth + 1

abbrev pub decreases-below_at : goal.decreases-below_at
decreases-below_at l = 4 * l.depth + 1

abbrev pub decreases-answers_at : goal.decreases-answers_at
decreases-answers_at l = 4 * l.depth + 2
