-- The leaf run of a box: the run without cuts, and behind its end the evaluation of the leaf that the end gives. Over the
-- box of a complete prefix it says what the search answers there.
use Rattle.std.specs.Prelude.{◌≡◌, ℕ, suc, List, [], ◌∷◌, drop, Ok, Err}
use Rattle.qm_math.specs.Fraction.{Fraction}
use Rattle.qm_model.specs.declared.range.Range.{Range}
use Rattle.qm_model.specs.declared.row.Row.{Row}
use Rattle.qm_model.specs.declared.game.Problem.{Problem}
use Rattle.qm_trees.specs.declared.combination.ComboValue.{ComboValue}
use Rattle.qm_trees.specs.Entries.{Combination, weighted_rows}
use Rattle.qm_trees.specs.Evaluation.{value_of}
use Rattle.qm_trees.specs.Leaves.{leaf_objective, row_sum}
use Rattle.qm_simplex.specs.declared.answers.LeavePlace.TheVariants as place
use Rattle.qm_simplex.specs.declared.answers.LpEnd.{LpEnd}
use Rattle.qm_simplex.specs.declared.answers.LpEnd.TheVariants.{Best, Void}
use Rattle.qm_simplex.specs.Runs.{Pivot}
use Rattle.qm_simplex.specs.Stops.{Answer, Located, after_pivots, located, then_at}
use Rattle.qm_simplex.specs.Listed.{IsRunBy}

-- ---- the evaluation of a leaf

-- the values of the continuous variables among those of all variables
abbrev pub leaf_point : Problem → List Fraction → List Fraction
leaf_point P point = drop P.wholes point

-- the rows in order, the first of which has this number: none leaves, or the first that does
abbrev pub rows_at : Problem → List Range → List Fraction → ℕ → List Row → Located (Unit {0})
rows_at P bx point number [] = Ok tt
rows_at P bx point number (row ∷ rows) = then_at (located (place.RowSum number) (row_sum P bx point row)) (λ sum. rows_at P bx point (suc number) rows)

abbrev pub objective_at : Problem → List Range → List Fraction → Located Fraction
objective_at P bx point = located place.Objective (leaf_objective P bx point)

-- what a combination of rows comes to over the box
abbrev pub combination_at : Problem → List Range → Combination → Located ComboValue
combination_at P bx combo = located place.Combination (value_of P combo.objective (weighted_rows P [] combo.entries) bx)

-- Behind the end of a run. At a best point each row comes first, then the objective, then the combination; where the
-- relaxation has no point, the combination alone.
abbrev pub evaluated : Problem → List Range → LpEnd → Located LpEnd
evaluated P bx (Best point value combo pivots) =
    then_at (rows_at P bx (leaf_point P point) 1 P.rows) (λ sums.
    then_at (objective_at P bx (leaf_point P point)) (λ objective.
    then_at (combination_at P bx combo) (λ worth. Ok (Best point value combo pivots))))
evaluated P bx (Void combo pivots) = then_at (combination_at P bx combo) (λ worth. Ok (Void combo pivots))

-- ---- the leaf run

-- the answer of a run, gone on with behind its end
abbrev pub gone_on : Problem → List Range → List Pivot → Answer → Answer
gone_on P bx pivots (Ok end) = after_pivots pivots (evaluated P bx end)
gone_on P bx pivots (Err leaves) = Err leaves

-- The leaf run answers the end of the run without cuts, or the first operation that leaves, in the run or behind its end,
-- with all pivots up to there.
pub record IsLeafRun (P : Problem) (bx : List Range) (answer : Answer) : Type 0 where
  pub pivots : List Pivot
  pub run : Answer
  pub runs : IsRunBy P [] bx pivots run
  pub goes_on : gone_on P bx pivots run ≡ answer
