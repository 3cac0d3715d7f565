-- What lines of several kinds say. No clause of `read` cites this.
use Rattle.std.specs.Prelude.{◌≡◌, ℕ, ℤ, List, Option, None, Some, Result, Ok, Err}
use Rattle.qm_model.specs.declared.game.Problem.{Problem}
use Rattle.qm_certread.specs.declared.fault.Misread.{Misread}
use Rattle.qm_certread.specs.declared.fault.Unread.{Unread}
use Rattle.qm_certread.specs.declared.fault.Unread.TheVariants as unread
use Rattle.qm_certread.specs.declared.fault.Misread.TheVariants as rule
use Rattle.qm_certread.specs.declared.said.Claim.{Claim}
use Rattle.qm_certread.specs.declared.said.Claim.TheVariants as claim
use Rattle.qm_certread.specs.declared.said.EmptySaid.{EmptySaid}
use Rattle.qm_certread.specs.declared.said.EmptySaid.TheVariants as empty
use Rattle.qm_certread.specs.declared.said.RefuteSaid.{RefuteSaid}
use Rattle.qm_certread.specs.declared.said.RefuteSaid.TheVariants as refute
use Rattle.qm_certread.specs.Spelling.{Said, with_both}
use Rattle.qm_certread.specs.Forms.{position_at}
use Rattle.qm_certread.specs.Nodes.{Node, Close, Infeasible, NoPlay, Optimal, Over, Pick, Split}
use Rattle.qm_certread.specs.WordSteps.{Fails}

abbrev pub claim_node : Claim → Node
claim_node (claim.Optimal value) = Optimal value
claim_node claim.Infeasible = Infeasible
claim_node claim.NoPlay = NoPlay

abbrev pub empty_node : EmptySaid → Node
empty_node (empty.Split var count) = Split var count
empty_node (empty.Close combo) = Close combo

abbrev pub refute_node : RefuteSaid → Node
refute_node (refute.Over count) = Over count
refute_node (refute.Pick value completion) = Pick value completion
refute_node (refute.Close combo) = Close combo

-- what is answered, as a node, is what is said, unless memory ran out
abbrev pub GivesNode : {A : Type 0} → (A → Node) → Result A Unread → Said Node → Type 0
GivesNode node (Ok a) said = said ≡ Ok (node a)
GivesNode node (Err e) said = Fails e said

-- the position that a number from 1 names
abbrev pub position_from : Problem → ℕ → Option ℤ → Said ℕ
position_from P least n = elim (position_at P least n) [ None ↦ Err rule.Text | Some k ↦ Ok k ]

-- a pick of a value and a completion that were read
abbrev pub PicksOf : Result ℤ Misread → Result (List ℤ) Unread → Result RefuteSaid Unread → Type 0
PicksOf value (Ok completion) result = GivesNode refute_node result (with_both Pick value (Ok completion))
PicksOf value (Err (unread.Misread fault)) result = GivesNode refute_node result (with_both Pick value (Err fault))
PicksOf value (Err unread.Memory) result = result ≡ Err unread.Memory
