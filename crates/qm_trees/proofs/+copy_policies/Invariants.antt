use Rattle.std.proofs.Common.{◌≡◌, take}
use Rattle.qm_trees.proofs.+copy_policies.Given as goal

abbrev pub invariant-copies::copy_policy_parts-loop-part : goal.invariant-copies::copy_policy_parts-loop-part
invariant-copies::copy_policy_parts-loop-part l = l.copy ≡ take l.part-index l.parts
