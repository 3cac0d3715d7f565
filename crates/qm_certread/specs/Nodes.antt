-- What a line of a certificate says.
use Rattle.std.specs.Prelude.{ℕ, ℤ, List}
use Rattle.qm_math.specs.Fraction.{Fraction}
use Rattle.qm_model.specs.declared.range.Range.{Range}
use Rattle.qm_trees.specs.Entries.{Combination}
use Rattle.qm_certfile.specs.Lines.{Line}

pub data Node : Type 0 where
  -- a line that says nothing but its kind: the version, `policy`, `refute`, `illegal`, `end`
  Fixed : Line → Node
  -- that no policy reaches any value, and that there is no universal play
  Infeasible : Node
  NoPlay : Node
  -- a value in the sense of the file
  Optimal : Fraction → Node
  -- the values of a universal play
  Legal : List ℤ → Node
  Choose : ℤ → Node
  -- how many ranges follow
  Answer : ℕ → Node
  Leaf : List Fraction → Node
  -- the position of a variable, counted from 0, and how many ranges follow
  Split : ℕ → ℕ → Node
  Over : ℕ → Node
  -- a value and its completion
  Pick : ℤ → List ℤ → Node
  Close : Combination → Node
  Part : Range → Node
