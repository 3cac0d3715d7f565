use Rattle.std.proofs.Common.{◌-◌, ◌*◌, length}
use Rattle.qm_game.specs.Goals.{goal_of}
use Rattle.qm_trees.specs.RefuteJudgement.{range_of}
use Rattle.qm_cover.proofs.PartSteps.{ArePassed}
use Rattle.qm_refute.specs.Parts.{judge_part}
use Rattle.qm_refute.proofs.walk.+judge.Given as goal

abbrev pub decreases-test_from : goal.decreases-test_from
decreases-test_from l = 5 * length l.here.rest.now

abbrev pub decreases-test_over : goal.decreases-test_over
decreases-test_over l = 5 * length l.here.rest.now - 1

abbrev pub decreases-test_over_parts : goal.decreases-test_over_parts
decreases-test_over_parts l = 5 * length l.here.rest.now - 2

abbrev pub decreases-test_part : goal.decreases-test_part
decreases-test_part l = 5 * length l.here.rest.now - 3

abbrev pub decreases-test_below : goal.decreases-test_below
decreases-test_below l = 5 * length l.here.rest.now - 4

abbrev pub invariant-test_over_parts-loop-at : goal.invariant-test_over_parts-loop-at
invariant-test_over_parts-loop-at l =
    ArePassed range_of (judge_part l.here.game.now l.sought.cuts.now (goal_of l.sought.goal.now) l.here.rest.now l.here.depth) l.fn.bx l.covered l.parts l.bx l.next l.at
