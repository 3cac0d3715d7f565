-- What a line of a policy says, and where.
use Rattle.std.specs.Prelude.{◌≡◌, ◌<◌, ℕ, length}
use Rattle.qm_model.specs.declared.game.Problem.{Problem}
use Rattle.qm_model.specs.Plays.{whole_vars}
use Rattle.qm_model.specs.Points.{continuous_vars}
use Rattle.qm_certread.specs.Nodes.{Answer, Choose, Leaf, Node}
use Rattle.qm_check.specs.declared.said.PolicySaid.{PolicySaid}
use Rattle.qm_check.specs.declared.said.PolicySaid.TheVariants as said

abbrev pub policy_node : PolicySaid → Node
policy_node (said.Choose value) = Choose value
policy_node (said.Answer count) = Answer count
policy_node (said.Leaf point) = Leaf point

-- where so many variables are set: a whole one is next, or there is a value for each continuous one
abbrev pub CanSay : Problem → ℕ → PolicySaid → Type 0
CanSay P depth (said.Choose value) = depth < length (whole_vars P)
CanSay P depth (said.Answer count) = depth < length (whole_vars P)
CanSay P depth (said.Leaf point) = length point ≡ length (continuous_vars P)

abbrev pub CanEnd : Problem → PolicySaid → Type 0
CanEnd P (said.Choose value) = ⊥
CanEnd P (said.Answer count) = ⊥
CanEnd P (said.Leaf point) = length point ≡ length (continuous_vars P)
