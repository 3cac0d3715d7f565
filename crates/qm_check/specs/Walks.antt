-- What the checker's list of what is due stands for, and the box that its open nodes give back.
use Rattle.std.specs.Prelude.{◌≡◌, ◌<◌, ◌≤ℤ◌, Bool, true, nat_lt, List, [], ◌∷◌, ◌++◌, length, reverse, slice_set}
use Rattle.qm_model.specs.declared.range.Range.{Range}
use Rattle.qm_model.specs.declared.variable.Var.{Var}
use Rattle.qm_model.specs.declared.game.Problem.{Problem}
use Rattle.qm_model.specs.Boxes.{IsBox}
use Rattle.qm_model.specs.Ranges.{range_at}
use Rattle.qm_game.specs.Goals.{goal_of}
use Rattle.qm_certfile.specs.Lines.{Line}
use Rattle.qm_certfile.specs.Styles.{first_style}
use Rattle.qm_certfile.specs.CertificateLines.{claimed, version_line}
use Rattle.qm_game.specs.declared.goal.Goal.TheVariants as goal
use Rattle.qm_certread.specs.declared.said.Claim.{Claim}
use Rattle.qm_certread.specs.declared.said.Claim.TheVariants as claim
use Rattle.qm_certread.specs.Dues.{end_line, illegal_line, policy_line, refute_line}
use Rattle.qm_certread.specs.Tasks.{Covering, Task, ranges}
use Rattle.qm_certread.specs.Tasks as task
use Rattle.qm_check.specs.declared.due.Due.{Due}
use Rattle.qm_check.specs.declared.due.Due.TheVariants as due
use Rattle.qm_check.specs.declared.due.Kind.{Kind}
use Rattle.qm_check.specs.declared.due.Kind.TheVariants as kind
use Rattle.qm_check.specs.declared.due.Open.{Open}
use Rattle.qm_check.specs.declared.due.Plain.{Plain}
use Rattle.qm_check.specs.declared.due.Plain.TheVariants as plain
use Rattle.qm_check.specs.declared.due.Tree.{Tree}
use Rattle.qm_check.specs.declared.due.Tree.TheVariants as tree
use Rattle.qm_check.specs.declared.walk.Walk.{Walk}

-- ---- tasks

abbrev pub kind_of : Kind → task.Kind
kind_of (kind.Policies value) = task.Policies value
kind_of kind.EmptyTrees = task.EmptyTrees
kind_of (kind.Refutations goal) = task.Refutations (goal_of goal)

abbrev pub plain_line : Plain → Line
plain_line plain.Version = version_line first_style
plain_line plain.Policy = policy_line
plain_line plain.Refute = refute_line
plain_line plain.Illegal = illegal_line
plain_line plain.End = end_line

abbrev pub tree_task : Tree → List Range → Task
tree_task (tree.Policy value depth) bx = task.Policy value depth bx
tree_task (tree.Below value depth) bx = task.Below value depth bx
tree_task (tree.Empty position) bx = task.Empty position bx
tree_task (tree.Refute goal depth) bx = task.Refute (goal_of goal) depth bx

-- the node whose box this is
abbrev pub covering_of : Open → List Range → Covering
covering_of node bx = record { kind = kind_of node.kind; var = node.var; high = node.covered.high; box = bx }

-- what is due over the box: none where all ranges of a node were read
abbrev pub due_tasks : Due → List Range → List Task
due_tasks (due.Line line) bx = task.Said (plain_line line) ∷ []
due_tasks due.Played bx = task.Played ∷ []
due_tasks (due.Tree tree) bx = tree_task tree bx ∷ []
due_tasks (due.Open node) bx = ranges (covering_of node bx) node.left node.next

-- ---- the box

-- the box, once an open node has given its range back
abbrev pub given_back : Due → List Range → List Range
given_back (due.Line line) bx = bx
given_back due.Played bx = bx
given_back (due.Tree tree) bx = bx
given_back (due.Open node) bx = slice_set bx node.var node.covered

-- the tasks, of the last first: what stands before it is over the box that it gives back
abbrev pub tasks_from : List Due → List Range → List Task
tasks_from [] bx = []
tasks_from (d ∷ dues) bx = due_tasks d (given_back d bx) ++ tasks_from dues (given_back d bx)

abbrev pub tasks_of : Walk → List Task
tasks_of walk = tasks_from (reverse walk.due) walk.bx

-- whether it has one
abbrev pub has_task : Due → Bool
has_task (due.Line line) = true
has_task due.Played = true
has_task (due.Tree tree) = true
has_task (due.Open node) = nat_lt 0 node.left

-- ---- what holds throughout

-- the variable of an open node is one of the box
abbrev pub IsPlaced : Due → List Range → Type 0
IsPlaced (due.Line line) bx = Unit {0}
IsPlaced due.Played bx = Unit {0}
IsPlaced (due.Tree tree) bx = Unit {0}
IsPlaced (due.Open node) bx = node.var < length bx

-- the range that is given back leaves a box, and the next range of the node begins no lower than it
abbrev pub CanGiveBack : List Var → Due → List Range → Type 0
CanGiveBack xs (due.Line line) bx = Unit {0}
CanGiveBack xs due.Played bx = Unit {0}
CanGiveBack xs (due.Tree tree) bx = Unit {0}
CanGiveBack xs (due.Open node) bx = (node.var < length bx) × (node.covered.low ≤ℤ node.next) × IsBox xs (slice_set bx node.var node.covered)

abbrev pub CanAllGiveBack : List Var → List Due → List Range → Type 0
CanAllGiveBack xs [] bx = Unit {0}
CanAllGiveBack xs (d ∷ dues) bx = CanGiveBack xs d bx × CanAllGiveBack xs dues (given_back d bx)

pub record IsWalk (P : Problem) (walk : Walk) : Type 0 where
  pub box : IsBox P.vars walk.bx
  pub nodes : CanAllGiveBack P.vars (reverse walk.due) walk.bx

-- an open node whose box this is, with ranges that are still to come
pub record IsOpen (node : Open) (bx : List Range) : Type 0 where
  pub some : 0 < node.left
  pub inside : node.var < length bx
  pub covered : node.covered ≡ range_at bx node.var
  pub next : node.covered.low ≤ℤ node.next

abbrev pub IsNext : Due → List Range → Type 0
IsNext (due.Line line) bx = Unit {0}
IsNext due.Played bx = Unit {0}
IsNext (due.Tree tree) bx = Unit {0}
IsNext (due.Open node) bx = IsOpen node bx

-- ---- the beginning

-- what is due behind the first line, the last first
abbrev pub claimed_due : Problem → Claim → List Due
claimed_due P (claim.Optimal shown) =
    let value = claimed P.sense shown in
    due.Line plain.End ∷ due.Tree (tree.Refute (goal.Above value) 0) ∷ due.Line plain.Refute ∷ due.Tree (tree.Policy value 0) ∷ due.Line plain.Policy ∷ due.Played ∷ due.Line plain.Version ∷ []
claimed_due P claim.Infeasible = due.Line plain.End ∷ due.Tree (tree.Refute goal.Any 0) ∷ due.Line plain.Refute ∷ due.Played ∷ due.Line plain.Version ∷ []
claimed_due P claim.NoPlay = due.Line plain.End ∷ due.Tree (tree.Empty 0) ∷ due.Line plain.Illegal ∷ due.Line plain.Version ∷ []
