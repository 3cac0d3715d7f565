-- The box of a scenario: the last universal variables are fixed.
use Rattle.std.specs.Prelude.{ℕ, suc, ℤ, List, [], ◌∷◌, ◌++◌, length, take, drop, nat_le, if◌then◌else◌}
use Rattle.qm_model.specs.declared.range.Range.{Range}
use Rattle.qm_model.specs.declared.variable.Var.{Var}
use Rattle.qm_model.specs.declared.game.Problem.{Problem}
use Rattle.qm_model.specs.Plays.{whole_vars}
use Rattle.qm_trees.specs.Picks.{Fit, fixed, universal_count}

-- the first depth from which on no more than so many universal variables are left
abbrev pub depth_of_last : List Var → ℕ → ℕ
depth_of_last [] count = 0
depth_of_last (x ∷ xs) count = if nat_le (universal_count (x ∷ xs)) count then 0 else suc (depth_of_last xs count)

-- the depth from which on the values of a scenario are those of the universal variables
abbrev pub scenario_depth : Problem → List ℤ → ℕ
scenario_depth P us = depth_of_last (whole_vars P) (length us)

-- there is one value for each universal variable from there on, in its range of the box
abbrev pub FitLast : Problem → List Range → List ℤ → Type 0
FitLast P bx us = let depth = scenario_depth P us in Fit (drop depth (whole_vars P)) (drop depth bx) us

-- the box in which these variables are fixed at the values
abbrev pub fixed_last : Problem → List Range → List ℤ → List Range
fixed_last P bx us = let depth = scenario_depth P us in take depth bx ++ fixed (drop depth (whole_vars P)) (drop depth bx) us
