use Rattle.std.proofs.Common.{◌≡◌, ◌++◌, drop, Ok}
use Rattle.qm_simplex.specs.Stops.{point_at, then_at}
use Rattle.qm_simplex.proofs.point.point.Given as goal

-- the values so far and those of the variables that are left are those of all
abbrev pub invariant-loop-var : goal.invariant-loop-var
invariant-loop-var l =
    then_at (point_at l.tableau.rows l.var (drop l.var l.bx)) (λ xs. Ok (l.point ++ xs)) ≡ point_at l.tableau.rows 0 l.bx
