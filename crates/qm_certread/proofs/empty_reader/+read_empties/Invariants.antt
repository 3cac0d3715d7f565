use Rattle.std.proofs.Common.{◌≡◌, ◌+◌, ◌-◌, ◌*◌, List, ◌++◌, length, map}
use Rattle.qm_model.specs.Plays.{whole_vars}
use Rattle.qm_certread.specs.Dues.{Due, Empty, ranges}
use Rattle.qm_certread.specs.NodesOf.{empty_part_nodes, in_turn}
use Rattle.qm_certread.specs.ReadSteps.{IsIn, Moves}
use Rattle.qm_certread.proofs.empty_reader.+read_empties.Given as goal

abbrev pub decreases-read_empty : goal.decreases-read_empty
decreases-read_empty l = 3 * (length (whole_vars l.problem.now) - l.least)

abbrev pub decreases-read_empty_parts : goal.decreases-read_empty_parts
decreases-read_empty_parts l = 3 * (length (whole_vars l.problem.now) - l.least) + 2

abbrev pub decreases-read_empty_part : goal.decreases-read_empty_part
decreases-read_empty_part l = 3 * (length (whole_vars l.problem.now) - l.least) + 1

abbrev pub invariant-read_empty_parts-loop-turn : goal.invariant-read_empty_parts-loop-turn
invariant-read_empty_parts-loop-turn l = record {
  place : IsIn l.text l.cursor;
  count : length l.parts ≡ l.turn;
  moved : (behind : List Due) → Moves l.problem l.text (ranges l.count (Empty l.least) ++ behind) (in_turn (map empty_part_nodes l.parts)) (ranges (l.count - l.turn) (Empty l.least) ++ behind) l.fn.cursor l.cursor;
}
