use Rattle.std.proofs.Common.{◌≡◌, ◌+◌, ◌-◌, ◌*◌, List, ◌++◌, length, map}
use Rattle.qm_model.specs.Plays.{whole_vars}
use Rattle.qm_certread.specs.Dues.{Due, Below, ranges}
use Rattle.qm_certread.specs.NodesOf.{in_turn, policy_part_nodes}
use Rattle.qm_certread.specs.ReadSteps.{IsIn, Moves}
use Rattle.qm_certread.proofs.policy_reader.+read_policies.Given as goal

abbrev pub decreases-read_policy : goal.decreases-read_policy
decreases-read_policy l = 4 * (length (whole_vars l.problem.now) - l.depth)

abbrev pub decreases-read_policy_parts : goal.decreases-read_policy_parts
decreases-read_policy_parts l = 4 * (length (whole_vars l.problem.now) - l.depth) + 3

abbrev pub decreases-read_policy_part : goal.decreases-read_policy_part
decreases-read_policy_part l = 4 * (length (whole_vars l.problem.now) - l.depth) + 2

abbrev pub decreases-read_below : goal.decreases-read_below
decreases-read_below l = 4 * (length (whole_vars l.problem.now) - l.depth) + 1

abbrev pub invariant-read_policy_parts-loop-turn : goal.invariant-read_policy_parts-loop-turn
invariant-read_policy_parts-loop-turn l = record {
  place : IsIn l.text l.cursor;
  count : length l.parts ≡ l.turn;
  moved : (behind : List Due) → Moves l.problem l.text (ranges l.count (Below l.depth) ++ behind) (in_turn (map policy_part_nodes l.parts)) (ranges (l.count - l.turn) (Below l.depth) ++ behind) l.fn.cursor l.cursor;
}
