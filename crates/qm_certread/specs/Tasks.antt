-- What is to be judged next in a certificate, with all that its rule needs, and what follows a line.
use Rattle.std.specs.Prelude.{ℕ, zero, suc, ◌+◌, ℤ, pos, ◌+ℤ◌, List, [], ◌∷◌, slice_set}
use Rattle.qm_math.specs.Fraction.{Fraction}
use Rattle.qm_model.specs.declared.range.Range.{Range}
use Rattle.qm_model.specs.declared.game.Problem.{Problem}
use Rattle.qm_model.specs.Boxes.{whole_box_of}
use Rattle.qm_model.specs.Goals.{Goal}
use Rattle.qm_model.specs.Goals as goal
use Rattle.qm_model.specs.Ranges.{range_at, single}
use Rattle.qm_certfile.specs.Lines.{Line}
use Rattle.qm_certfile.specs.Styles.{Style}
use Rattle.qm_certfile.specs.CertificateLines.{claimed, version_line}
use Rattle.qm_certread.specs.Nodes.{Node, Fixed, Infeasible, NoPlay, Optimal, Choose, Answer, Split, Over, Pick, Part}
use Rattle.qm_certread.specs.Dues.{Due, end_line, illegal_line, policy_line, refute_line}
use Rattle.qm_certread.specs.Dues as due

-- what stands below the ranges of a node
pub data Kind : Type 0 where
  -- policies at a value, and empty trees under `illegal`
  Policies : Fraction → Kind
  EmptyTrees : Kind
  -- refutations of a goal
  Refutations : Goal → Kind

-- a node whose ranges cover that of a variable in a box, up to its high end
pub record Covering : Type 0 where
  pub kind : Kind
  pub var : ℕ
  pub high : ℤ
  pub box : List Range

pub data Task : Type 0 where
  -- the first line, which says how the game ends
  Claimed : Task
  -- the values of a universal play
  Played : Task
  -- this line
  Said : Line → Task
  -- a policy at a value, where so many variables are set, over a box
  Policy : Fraction → ℕ → List Range → Task
  -- the same, or `illegal` and an empty tree over the box
  Below : Fraction → ℕ → List Range → Task
  -- an empty tree that may split the variables from this position on, over a box
  Empty : ℕ → List Range → Task
  -- a refutation of a goal, where so many variables are set, over a box
  Refute : Goal → ℕ → List Range → Task
  -- a range of the node and so many more, the first of which begins at this number
  Ranges : Covering → ℕ → ℤ → Task

-- ---- what the form of a line needs of a task

abbrev pub due_below : Kind → ℕ → Due
due_below (Policies value) depth = due.Below depth
due_below EmptyTrees position = due.Empty position
due_below (Refutations G) depth = due.Refute depth

abbrev pub due_of : Task → Due
due_of Claimed = due.Claimed
due_of Played = due.Played
due_of (Said line) = due.Said line
due_of (Policy value depth bx) = due.Policy depth
due_of (Below value depth bx) = due.Below depth
due_of (Empty position bx) = due.Empty position
due_of (Refute G depth bx) = due.Refute depth
due_of (Ranges covering n next) = due.Ranges n (due_below covering.kind (covering.var + 1))

-- ---- what follows

-- so many ranges of the node, the first of which begins at this number
abbrev pub ranges : Covering → ℕ → ℤ → List Task
ranges covering zero next = []
ranges covering (suc n) next = Ranges covering n next ∷ []

-- so many ranges, which cover that of the variable in the box
abbrev pub parts : Kind → ℕ → List Range → ℕ → List Task
parts kind var bx count = ranges (record { kind = kind; var = var; high = (range_at bx var).high; box = bx }) count (range_at bx var).low

abbrev pub tree_of : Kind → ℕ → List Range → Task
tree_of (Policies value) depth bx = Below value depth bx
tree_of EmptyTrees position bx = Empty position bx
tree_of (Refutations G) depth bx = Refute G depth bx

-- what stands below a range of the node, over its box with the variable in the range
abbrev pub below : Covering → Range → Task
below covering range = tree_of covering.kind (covering.var + 1) (slice_set covering.box covering.var range)

-- a refutation of the goal over the whole box, and the end
abbrev pub refuted : Problem → Goal → List Task
refuted P G = Said refute_line ∷ Refute G 0 (whole_box_of P.vars) ∷ Said end_line ∷ []

-- what follows a line that says this; nothing, where it can't be said there
abbrev pub follow : Style → Problem → Task → Node → List Task
follow style P Claimed (Optimal shown) =
    let value = claimed P.sense shown in
    Said (version_line style) ∷ Played ∷ Said policy_line ∷ Policy value 0 (whole_box_of P.vars) ∷ refuted P (goal.Above value)
follow style P Claimed Infeasible = Said (version_line style) ∷ Played ∷ refuted P goal.Any
follow style P Claimed NoPlay = Said (version_line style) ∷ Said illegal_line ∷ Empty 0 (whole_box_of P.vars) ∷ Said end_line ∷ []
follow style P (Policy value depth bx) (Choose v) = Policy value (depth + 1) (slice_set bx depth (single v)) ∷ []
follow style P (Policy value depth bx) (Answer count) = parts (Policies value) depth bx count
follow style P (Below value depth bx) (Choose v) = Policy value (depth + 1) (slice_set bx depth (single v)) ∷ []
follow style P (Below value depth bx) (Answer count) = parts (Policies value) depth bx count
follow style P (Below value depth bx) (Fixed line) = Empty 0 bx ∷ []
follow style P (Empty position bx) (Split var count) = parts EmptyTrees var bx count
follow style P (Refute G depth bx) (Over count) = parts (Refutations G) depth bx count
follow style P (Refute G depth bx) (Pick v completion) = Refute G (depth + 1) (slice_set bx depth (single v)) ∷ []
follow style P (Ranges covering n next) (Part range) = below covering range ∷ ranges covering n (range.high +ℤ pos 1)
follow style P task node = []
