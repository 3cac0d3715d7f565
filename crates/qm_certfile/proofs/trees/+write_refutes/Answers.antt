use Rattle.std.proofs.Common.{rules, ◌≡◌, ◌∷◌, ◌++◌, map}
use Rattle.std.specs.Prelude.{codes}
use Rattle.std.specs.Fmt.{signed_decimal}
use Rattle.qm_certfile.specs.Lines.{line_text}
use Rattle.qm_certfile.specs.Styles.{first_style}
use Rattle.qm_certfile.specs.TreeLines.{refute_part_lines}
use Rattle.qm_certfile.proofs.LineTexts.{on_ok}
use Rattle.qm_certfile.proofs.TreeTexts.{over_wrote, part_wrote, pick_wrote}
use Rattle.qm_certfile.proofs.trees.+write_refutes.Goals as goal

pub write_refute-returns-in_ok-write_parts_line-in-Over : goal.write_refute-returns-in_ok-write_parts_line-in-Over
write_refute-returns-in_ok-write_parts_line-in-Over t c =
    on_ok c.write_refute_parts.result
    (over_wrote c.args.tree.now c.in-Over.parts c.args.out.now c.write_parts_line.new.out c.write_refute_parts.new.out c.in-Over.is
    (rw c.len.ensures at c.in_ok-write_parts_line-in-Over.ensures))
    (rw c.as_slice.ensures at c.write_refute_parts.ensures)

pub write_refute-returns-in_ok-write_pick-in-Pick : goal.write_refute-returns-in_ok-write_pick-in-Pick
write_refute-returns-in_ok-write_pick-in-Pick t c =
    let line : c.write_pick.new.out ≡ c.args.out.now ++ line_text (codes "pick" ∷ signed_decimal c.in-Pick.value ∷ map signed_decimal c.in-Pick.completion) = search rules in
    on_ok c.write_refute.result
    (pick_wrote c.args.tree.now c.in-Pick.value c.in-Pick.completion c.in-Pick.below c.args.out.now c.write_pick.new.out c.write_refute.new.out c.in-Pick.is
    line)
    (rw c.get.ensures at c.write_refute.ensures)

pub write_refute_parts-loop-part-preserved : goal.write_refute_parts-loop-part-preserved
write_refute_parts-loop-part-preserved t c =
    part_wrote (refute_part_lines first_style) c.args.parts.now c.loop-part.part-index c.part-item.result c.args.out.now c.loop-part.out c.write_refute_part.new.out
    c.loop-part-test.true c.part-item.is c.loop-part.invariant c.in_ok-write_refute_part.ensures
