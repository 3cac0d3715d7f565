use Rattle.std.proofs.Common.{◌≡◌, ◌-◌, ◌^◌, map, min, take}
use Rattle.std.specs.Prelude.{sum}
use Rattle.qm_trees.specs.Nodes.{empty_part_nodes}
use Rattle.qm_trees.proofs.+count_empties.Given as goal

abbrev pub invariant-nodes::count_empty_parts-loop-part : goal.invariant-nodes::count_empty_parts-loop-part
invariant-nodes::count_empty_parts-loop-part l = l.nodes ≡ min (sum (map empty_part_nodes (take l.part-index l.parts))) (2 ^ 64 - 1)
