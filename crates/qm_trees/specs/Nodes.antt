-- The number of a tree's nodes: its splits, choices, answers, leaves and closings.
use Rattle.std.specs.Prelude.{ℕ, ◌+◌, sum}
use Rattle.qm_trees.specs.declared.empty.Empty.{Empty}
use Rattle.qm_trees.specs.declared.empty.Empty.TheOpen as none
use Rattle.qm_trees.specs.declared.empty.Empty.TheFolds.{fold-Empty, fold-EmptyPart}
use Rattle.qm_trees.specs.declared.empty.EmptyPart.{EmptyPart}
use Rattle.qm_trees.specs.declared.policy.Policy.{Policy}
use Rattle.qm_trees.specs.declared.policy.Below.TheOpen as answer
use Rattle.qm_trees.specs.declared.policy.Below.{Below}
use Rattle.qm_trees.specs.declared.policy.Below.TheFolds.{fold-Below, fold-Policy, fold-PolicyPart}
use Rattle.qm_trees.specs.declared.policy.PolicyPart.{PolicyPart}

abbrev pub empty_step : none.Empty-F ℕ ℕ → ℕ
empty_step (none.Split var parts) = 1 + sum parts
empty_step (none.Close combo) = 1

abbrev pub empty_part_step : none.EmptyPart-F ℕ ℕ → ℕ
empty_part_step part = part.below

-- a split is a node, and so is a combination that closes
abbrev pub empty_nodes : Empty → ℕ
empty_nodes = fold-Empty ℕ ℕ empty_step empty_part_step

abbrev pub empty_part_nodes : EmptyPart → ℕ
empty_part_nodes = fold-EmptyPart ℕ ℕ empty_step empty_part_step

abbrev pub policy_step : answer.Policy-F ℕ ℕ ℕ → ℕ
policy_step (answer.Choose value below) = 1 + below
policy_step (answer.Answer parts) = 1 + sum parts
policy_step (answer.Leaf point) = 1

abbrev pub policy_part_step : answer.PolicyPart-F ℕ ℕ ℕ → ℕ
policy_part_step part = part.below

abbrev pub below_step : answer.Below-F ℕ ℕ ℕ → ℕ
below_step (answer.On policy) = policy
below_step (answer.Illegal tree) = empty_nodes tree

-- a choice, an answer and a leaf is a node each, and so are those of the trees that call values illegal
abbrev pub policy_nodes : Policy → ℕ
policy_nodes = fold-Policy ℕ ℕ ℕ below_step policy_step policy_part_step

abbrev pub policy_part_nodes : PolicyPart → ℕ
policy_part_nodes = fold-PolicyPart ℕ ℕ ℕ below_step policy_step policy_part_step

abbrev pub below_nodes : Below → ℕ
below_nodes = fold-Below ℕ ℕ ℕ below_step policy_step policy_part_step
