-- Steps of the search: what it finds from a place on.
use Rattle.std.specs.Prelude.{◌≡◌, ◌==◌, Bool, ℕ, ◌+◌, ℤ, ◌≤ℤ◌, ◌<ℤ◌, false, List, [], ◌∷◌, take, slice_set, Option, Some, None}
use Rattle.std.specs.List.{list_any}
use Rattle.qm_model.specs.declared.range.Range.{Range}
use Rattle.qm_model.specs.declared.row.Row.{Row}
use Rattle.qm_model.specs.declared.row.Term.{Term}
use Rattle.qm_model.specs.declared.variable.Player.{Player}
use Rattle.qm_model.specs.declared.variable.Var.{Var}
use Rattle.qm_model.specs.declared.game.Problem.{Problem}
use Rattle.qm_model.specs.Boxes.{IsBox, IsDead}
use Rattle.qm_model.specs.Plays.{whole_vars}
use Rattle.qm_game.specs.First.{HasNone}
use Rattle.qm_trees.specs.declared.empty.Empty.{Empty}
use Rattle.qm_trees.specs.declared.empty.EmptyPart.{EmptyPart}
use Rattle.qm_trees.specs.EmptyJudgement.{range_of, below_of, some_universal_empty}
use Rattle.qm_legal.specs.Queries.{AreSet, Shows}

-- one of the terms is of the variable
abbrev pub names : ℕ → List Term → Bool
names var ts = list_any (λ t. t.var == var) ts

-- the player sets the next variable
abbrev pub SetsNext : Player → List Var → Type 0
SetsNext player [] = ⊥
SetsNext player (x ∷ later) = x.player ≡ player

-- a box of the game in which the universal variables before the depth are set, and no uncertainty row is dead
pub record IsAliveBox (P : Problem) (depth : ℕ) (bx : List Range) : Type 0 where
  pub box : IsBox P.vars bx
  pub set : AreSet (take depth (whole_vars P)) bx
  pub alive : HasNone (IsDead bx) P.urows

-- all universal variables are set, those before the depth as they were, and no uncertainty row is dead
pub record IsCompleted (P : Problem) (depth : ℕ) (bx completed : List Range) : Type 0 where
  pub box : IsBox P.vars completed
  pub set : AreSet (whole_vars P) completed
  pub alive : HasNone (IsDead completed) P.urows
  pub same : take depth completed ≡ take depth bx

-- a tree shows that no play is left, and the box is as it was; or there is none, and the box is completed
abbrev pub IsFound : Problem → List Var → ℕ → List Range → List Range → Option Empty → Type 0
IsFound P rest depth bx after (Some tree) = Shows P rest depth bx tree × (after ≡ bx)
IsFound P rest depth bx after None = IsCompleted P depth bx after

abbrev pub range_to : ℤ → ℤ → Range
range_to low high = record { low = low; high = high }

-- the range of one of the values
pub record IsOneOf (covered one : Range) : Type 0 where
  pub single : one.low ≡ one.high
  pub low : covered.low ≤ℤ one.low
  pub high : one.high ≤ℤ covered.high

-- a part of values from `next` on, at most up to `last`, below which the tree shows it
pub record IsPart (P : Problem) (later : List Var) (depth : ℕ) (bx : List Range) (next last : ℤ) (part : EmptyPart) : Type 0 where
  pub low : (range_of part).low ≡ next
  pub some : next ≤ℤ (range_of part).high
  pub high : (range_of part).high ≤ℤ last
  pub below : Shows P later (depth + 1) (slice_set bx depth (range_of part)) (below_of part)

-- a part, and the box is as it was; or there is none, and the box is completed
abbrev pub IsFoundPart : Problem → List Var → ℕ → List Range → List Range → ℤ → ℤ → Option EmptyPart → Type 0
IsFoundPart P later depth bx after next last (Some part) = IsPart P later depth bx next last part × (after ≡ bx)
IsFoundPart P later depth bx after next last None = IsCompleted P depth bx after

-- the longest run of values from the low end of this one on, at most up to `last`, that the row is dead over
pub record IsDeadRun (row : Row) (bx : List Range) (depth : ℕ) (run : Range) (last : ℤ) (found : Range) : Type 0 where
  pub low : found.low ≡ run.low
  pub some : run.high ≤ℤ found.high
  pub high : found.high ≤ℤ last
  pub dead : IsDead (slice_set bx depth found) row
  pub longest : (v : ℤ) → found.high <ℤ v → v ≤ℤ last → ¬ IsDead (slice_set bx depth (range_to run.low v)) row

-- a tree that shows at once that no play is left; or none, where no universal range is empty and no uncertainty row dead
abbrev pub IsClosedAtOnce : Problem → List Var → ℕ → List Range → Option Empty → Type 0
IsClosedAtOnce P rest depth bx (Some tree) = Shows P rest depth bx tree
IsClosedAtOnce P rest depth bx None = (some_universal_empty (whole_vars P) bx ≡ false) × HasNone (IsDead bx) P.urows
