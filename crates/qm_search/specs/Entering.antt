-- What this search asks of a prefix before it looks below it.
use Rattle.std.specs.Prelude.{◌⊎◌, ℤ, List, []}
use Rattle.qm_math.specs.Fraction.{Fraction}
use Rattle.qm_model.specs.declared.range.Range.{Range}
use Rattle.qm_model.specs.declared.game.Problem.{Problem}
use Rattle.qm_journal.specs.Lawful.{IsOpen}
use Rattle.qm_relax.specs.Failing.{Fails}
use Rattle.qm_simplex.specs.Relaxation.{IsInRelaxation}
use Rattle.qm_simplex.specs.RightLeaves.{prefix_box}

-- the relaxation of the box has a point, or its run fails
abbrev pub IsUnclosed : Problem → List Range → Type 0
IsUnclosed P bx = ((point : List Fraction) × IsInRelaxation P [] bx point) ⊎ Fails P [] bx

-- so it is for the box of the prefix
abbrev pub MayHold : Problem → List ℤ → Type 0
MayHold P prefix = IsUnclosed P (prefix_box P prefix)

-- a prefix that may be entered: not empty, incomplete, legal, no row is dead, and its relaxation has a point or its run fails
pub record IsEnterable (P : Problem) (prefix : List ℤ) : Type 0 where
  pub still_open : IsOpen P prefix
  pub may_hold : MayHold P prefix
