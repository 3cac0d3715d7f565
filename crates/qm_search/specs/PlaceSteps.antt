-- Steps of the search: the boxes on its way, and what completes the values that are set in them.
use Rattle.std.specs.Prelude.{◌≡◌, ◌≤◌, ◌<◌, ℕ, ℤ, pos, List, [], ◌∷◌, ◌++◌, All, drop, map, take}
use Rattle.qm_model.specs.declared.range.Range.{Range}
use Rattle.qm_model.specs.declared.game.Problem.{Problem}
use Rattle.qm_model.specs.Boxes.{IsBox, whole_box_of}
use Rattle.qm_model.specs.Legal.{IsLegal}
use Rattle.qm_model.specs.Plays.{IsPlay}
use Rattle.qm_model.specs.Sound.{IsSound}
use Rattle.qm_legal.specs.Queries.{low_of, set_values}
use Rattle.qm_search.specs.Entering.{IsEnterable}

-- the range of one value
abbrev pub IsSingle : Range → Type 0
IsSingle r = r.low ≡ r.high

-- a box in which the whole variables before the depth are set, and the others' ranges are their bounds
pub record IsSearchBox (P : Problem) (depth : ℕ) (bx : List Range) : Type 0 where
  pub sound : IsSound P
  pub shallow : depth ≤ P.wholes
  pub box : IsBox P.vars bx
  pub set : All IsSingle (take depth bx)
  pub others : drop depth bx ≡ whole_box_of (drop depth P.vars)

-- with these values of the universal variables from the depth on, those that are set are a universal play
abbrev pub Completes : Problem → ℕ → List Range → List ℤ → Type 0
Completes P depth bx values = IsPlay P (set_values P depth bx ++ values)

-- such a box, and values that complete those that are set
pub record IsSearchPlace (P : Problem) (depth : ℕ) (bx : List Range) (completion : List ℤ) : Type 0 where
  pub box : IsSearchBox P depth bx
  pub completes : Completes P depth bx completion

-- the values that are set before the depth
abbrev pub prefix_before : ℕ → List Range → List ℤ
prefix_before depth bx = map low_of (take depth bx)

-- those that are set where all whole variables are
abbrev pub prefix_in : Problem → List Range → List ℤ
prefix_in P bx = prefix_before P.wholes bx

-- each shorter prefix of the box, the empty one left out, may be entered
abbrev pub AreEntered : Problem → ℕ → List Range → Type 0
AreEntered P depth bx = (n : ℕ) → 0 < n → n < depth → IsEnterable P (prefix_before n bx)

-- such a box with a legal prefix, of which each shorter one may be entered
pub record IsJudgePlace (P : Problem) (depth : ℕ) (bx : List Range) : Type 0 where
  pub box : IsSearchBox P depth bx
  pub legal : IsLegal P (prefix_before depth bx)
  pub entered : AreEntered P depth bx

-- such a box in which all whole variables are set, to a legal prefix
pub record IsEndPlace (P : Problem) (bx : List Range) : Type 0 where
  pub box : IsSearchBox P P.wholes bx
  pub legal : IsLegal P (prefix_in P bx)

-- a completion's value of the next universal variable
abbrev pub next_value : List ℤ → ℤ
next_value [] = pos 0
next_value (u ∷ us) = u
