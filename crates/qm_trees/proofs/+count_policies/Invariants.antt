use Rattle.std.proofs.Common.{◌≡◌, ◌-◌, ◌^◌, map, min, take}
use Rattle.std.specs.Prelude.{sum}
use Rattle.qm_trees.specs.Nodes.{policy_part_nodes}
use Rattle.qm_trees.proofs.+count_policies.Given as goal

abbrev pub invariant-nodes::count_policy_parts-loop-part : goal.invariant-nodes::count_policy_parts-loop-part
invariant-nodes::count_policy_parts-loop-part l = l.nodes ≡ min (sum (map policy_part_nodes (take l.part-index l.parts))) (2 ^ 64 - 1)
