use Rattle.std.proofs.Common.{◌≡◌, ◌+◌, ◌-◌, ◌*◌, List, ◌++◌, length, map}
use Rattle.qm_model.specs.Plays.{whole_vars}
use Rattle.qm_certread.specs.Dues.{Due, Refute, ranges}
use Rattle.qm_certread.specs.NodesOf.{in_turn, refute_part_nodes}
use Rattle.qm_certread.specs.ReadSteps.{IsIn, Moves}
use Rattle.qm_certread.proofs.refute_reader.+read_refutes.Given as goal

abbrev pub decreases-read_refute : goal.decreases-read_refute
decreases-read_refute l = 3 * (length (whole_vars l.problem.now) - l.depth)

abbrev pub decreases-read_refute_parts : goal.decreases-read_refute_parts
decreases-read_refute_parts l = 3 * (length (whole_vars l.problem.now) - l.depth) + 2

abbrev pub decreases-read_refute_part : goal.decreases-read_refute_part
decreases-read_refute_part l = 3 * (length (whole_vars l.problem.now) - l.depth) + 1

abbrev pub invariant-read_refute_parts-loop-turn : goal.invariant-read_refute_parts-loop-turn
invariant-read_refute_parts-loop-turn l = record {
  place : IsIn l.text l.cursor;
  count : length l.parts ≡ l.turn;
  moved : (behind : List Due) → Moves l.problem l.text (ranges l.count (Refute l.depth) ++ behind) (in_turn (map refute_part_nodes l.parts)) (ranges (l.count - l.turn) (Refute l.depth) ++ behind) l.fn.cursor l.cursor;
}
