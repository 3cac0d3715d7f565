-- Steps of the leaf run.
use Rattle.std.specs.Prelude.{◌≡◌, List, [], IsOk, Result, Ok, Err}
use Rattle.qm_model.specs.declared.range.Range.{Range}
use Rattle.qm_model.specs.declared.game.Problem.{Problem}
use Rattle.qm_trees.specs.RefuteRight.{AreNamed}
use Rattle.qm_simplex.specs.declared.answers.LpEnd.{LpEnd}
use Rattle.qm_simplex.specs.declared.answers.LpFault.{LpFault}
use Rattle.qm_simplex.specs.declared.answers.LpFault.TheVariants as fault
use Rattle.qm_simplex.specs.Ends.{IsRightEnd, combination_of}
use Rattle.qm_simplex.specs.LeafRuns.{IsLeafRun, evaluated}
use Rattle.qm_simplex.specs.Stops.{Located}
use Rattle.qm_search.specs.declared.leaf_run.Left.{Left}

-- no operation on the way to this leaves, or the first that does is told
abbrev pub Tells : {A B : Type 0} → Located A → Result B Left → Type 0
Tells expected (Ok nothing) = IsOk expected
Tells expected (Err left) = expected ≡ Err (left.at, left.leaves)

-- an end that is right, by a combination of rows that are there
pub record IsLawfulEnd (P : Problem) (bx : List Range) (end : LpEnd) : Type 0 where
  pub right : IsRightEnd P [] bx end
  pub named : AreNamed P [] (combination_of end).entries

-- such an end, behind which no operation leaves
pub record IsLeafEnd (P : Problem) (bx : List Range) (end : LpEnd) : Type 0 where
  pub lawful : IsLawfulEnd P bx end
  pub in_range : evaluated P bx end ≡ Ok end

-- why there is no such end: the leaf run leaves so, or memory is wanting
abbrev pub IsRunFault : Problem → List Range → LpFault → Type 0
IsRunFault P bx (fault.Leaves leaves) = IsLeafRun P bx (Err leaves)
IsRunFault P bx fault.Memory = Unit {0}
