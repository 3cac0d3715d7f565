-- When it is right to say that a number left the range: at a prefix that has to be answered by its leaf run.
use Rattle.std.specs.Prelude.{ℕ, ◌<◌, ℤ, List, ◌++◌, length, drop, map, take, Any, None, Err}
use Rattle.qm_model.specs.declared.range.Range.{Range}
use Rattle.qm_model.specs.declared.game.Problem.{Problem}
use Rattle.qm_model.specs.Boxes.{IsEmptyRange, whole_box_of}
use Rattle.qm_model.specs.Legal.{IsComplete, IsLegal, IsPrefix}
use Rattle.qm_model.specs.Ranges.{single}
use Rattle.qm_game.specs.Dead.{IsFirstDead}
use Rattle.qm_simplex.specs.declared.answers.RunLeaves.{RunLeaves}
use Rattle.qm_simplex.specs.LeafRuns.{IsLeafRun}

-- the box of a prefix: the range of each value alone, and behind them the variables' own bounds
abbrev pub prefix_box : Problem → List ℤ → List Range
prefix_box P prefix = map single prefix ++ whole_box_of (drop (length prefix) P.vars)

-- each prefix on the way to this one, the empty one left out
abbrev pub AllShorter : (List ℤ → Type 0) → List ℤ → Type 0
AllShorter IsKept prefix = (n : ℕ) → 0 < n → n < length prefix → IsKept (take n prefix)

-- A complete legal prefix, over whose box no range is empty and no row or uncertainty row is dead, whose leaf run leaves
-- as told. Each shorter prefix is one that the search keeps, by a test that is given.
pub record IsRightLeave (P : Problem) (IsKept : List ℤ → Type 0) (prefix : List ℤ) (run : RunLeaves) : Type 0 where
  pub continuous : P.wholes < length P.vars
  pub within : IsPrefix P prefix
  pub complete : IsComplete P prefix
  pub legal : IsLegal P prefix
  pub full : Any IsEmptyRange (prefix_box P prefix) → ⊥
  pub alive : IsFirstDead P (prefix_box P prefix) None
  pub leaves : IsLeafRun P (prefix_box P prefix) (Err run)
  pub shorter : AllShorter IsKept prefix
