use Rattle.std.proofs.Common.{◌-◌, ◌*◌, length}
use Rattle.qm_trees.specs.PolicyJudgement.{range_of}
use Rattle.qm_cover.proofs.PartSteps.{ArePassed}
use Rattle.qm_policy.specs.Parts.{judge_part}
use Rattle.qm_policy.proofs.walk.+judge.Given as goal

abbrev pub decreases-test_here : goal.decreases-test_here
decreases-test_here l = 5 * length l.here.rest.now

abbrev pub decreases-test_answer : goal.decreases-test_answer
decreases-test_answer l = 5 * length l.here.rest.now - 1

abbrev pub decreases-test_answer_parts : goal.decreases-test_answer_parts
decreases-test_answer_parts l = 5 * length l.here.rest.now - 2

abbrev pub decreases-test_part : goal.decreases-test_part
decreases-test_part l = 5 * length l.here.rest.now - 3

abbrev pub decreases-test_below : goal.decreases-test_below
decreases-test_below l = 5 * length l.here.rest.now - 4

abbrev pub invariant-test_answer_parts-loop-at : goal.invariant-test_answer_parts-loop-at
invariant-test_answer_parts-loop-at l = ArePassed range_of (judge_part l.here.game.now l.value l.here.rest.now l.here.depth) l.fn.bx l.covered l.parts l.bx l.next l.at
