use Rattle.std.proofs.Common.{}
use Rattle.qm_certfile.specs.Styles.{first_style}
use Rattle.qm_certfile.specs.TreeLines.{empty_part_lines}
use Rattle.qm_certfile.proofs.LineTexts.{on_ok}
use Rattle.qm_certfile.proofs.TreeTexts.{split_wrote, part_wrote}
use Rattle.qm_certfile.proofs.empty_trees.+write_empties.Goals as goal

pub write_empty-returns-in_ok-write_split-in-Split : goal.write_empty-returns-in_ok-write_split-in-Split
write_empty-returns-in_ok-write_split-in-Split t c =
    on_ok c.write_empty_parts.result
    (split_wrote c.args.tree.now c.in-Split.var c.in-Split.parts c.args.out.now c.write_split.new.out c.write_empty_parts.new.out c.in-Split.is
    (rw c.len.ensures at c.in_ok-write_split-in-Split.ensures))
    (rw c.as_slice.ensures at c.write_empty_parts.ensures)

pub write_empty_parts-loop-part-preserved : goal.write_empty_parts-loop-part-preserved
write_empty_parts-loop-part-preserved t c =
    part_wrote (empty_part_lines first_style) c.args.parts.now c.loop-part.part-index c.part-item.result c.args.out.now c.loop-part.out c.write_empty_part.new.out
    c.loop-part-test.true c.part-item.is c.loop-part.invariant c.in_ok-write_empty_part.ensures
