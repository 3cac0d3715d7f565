use Rattle.std.proofs.Common.{◌≡◌, ◌++◌, ℕ, map, drop}
use Rattle.qm_certfile.specs.Lines.{text_of}
use Rattle.qm_certfile.specs.Styles.{first_style}
use Rattle.qm_certfile.specs.TreeLines.{joined, empty_part_lines}
use Rattle.qm_certfile.proofs.empty_trees.+write_empties.Given as goal

abbrev pub invariant-write_empty_parts-loop-part : goal.invariant-write_empty_parts-loop-part
invariant-write_empty_parts-loop-part l =
    (place : ℕ) → l.out ++ text_of (joined (map (empty_part_lines first_style) (drop l.part-index l.parts)) place) ≡ l.fn.out ++ text_of (joined (map (empty_part_lines first_style) l.parts) place)
