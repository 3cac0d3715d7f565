use Rattle.qm_certfile.specs.Styles.{first_style}
use Rattle.qm_certfile.specs.TreeLines.{policy_part_lines}
use Rattle.qm_certfile.proofs.LineTexts.{on_ok}
use Rattle.qm_certfile.proofs.TreeTexts.{answer_wrote, on_wrote, part_wrote}
use Rattle.qm_certfile.proofs.trees.+write_policies.Goals as goal

pub write_policy-returns-in_ok-write_parts_line-in-Answer : goal.write_policy-returns-in_ok-write_parts_line-in-Answer
write_policy-returns-in_ok-write_parts_line-in-Answer t c =
    on_ok c.write_policy_parts.result
    (answer_wrote c.args.policy.now c.in-Answer.parts c.args.out.now c.write_parts_line.new.out c.write_policy_parts.new.out c.in-Answer.is
    (rw c.len.ensures at c.in_ok-write_parts_line-in-Answer.ensures))
    (rw c.as_slice.ensures at c.write_policy_parts.ensures)

pub write_policy_parts-loop-part-preserved : goal.write_policy_parts-loop-part-preserved
write_policy_parts-loop-part-preserved t c =
    part_wrote (policy_part_lines first_style) c.args.parts.now c.loop-part.part-index c.part-item.result c.args.out.now c.loop-part.out c.write_policy_part.new.out
    c.loop-part-test.true c.part-item.is c.loop-part.invariant c.in_ok-write_policy_part.ensures

pub write_below-returns-in-On : goal.write_below-returns-in-On
write_below-returns-in-On t c =
    on_ok c.write_policy.result (on_wrote c.args.below.now c.in-On.policy c.args.out.now c.write_policy.new.out c.in-On.is) c.write_policy.ensures
