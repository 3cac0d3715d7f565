-- When a problem is in order.
use Rattle.std.specs.Prelude.{◌≡◌, ◌+◌, ◌<◌, ◌≤◌, ◌^◌, pos, ◌≤ℤ◌, true, false, IsTrue, List, All, length, take, drop, unsigned_abs, MatchOption, slice_get}
use Rattle.qm_model.specs.declared.row.Term.{Term}
use Rattle.qm_model.specs.declared.row.Row.{Row}
use Rattle.qm_model.specs.declared.variable.Player.TheVariants.{Exists}
use Rattle.qm_model.specs.declared.variable.Var.{Var}
use Rattle.qm_model.specs.declared.game.Problem.{Problem}
use Rattle.qm_model.specs.Linear.{IsOrdered, HasVarsBelow}
use Rattle.qm_model.specs.Sizes.{terms_size, row_size, reach_in_vars}
use Rattle.qm_model.specs.Plays.{is_universal}

-- the row names these variables in game order, and its size is at most 2 ^ 126
pub record IsRowOver (xs : List Var) (row : Row) : Type 0 where
  pub ordered : IsOrdered row.terms
  pub vars : HasVarsBelow (length xs) row.terms
  pub size : row_size (reach_in_vars xs) row ≤ 2 ^ 126

-- the term names a universal variable
abbrev pub IsOverUniversal : List Var → Term → Type 0
IsOverUniversal xs t = MatchOption (slice_get xs t.var) ⊥ (λ x. IsTrue (is_universal x))

-- a whole variable; a continuous one, which the existential player sets
abbrev pub IsWhole : Var → Type 0
IsWhole x = x.whole ≡ true

abbrev pub IsContinuous : Var → Type 0
IsContinuous x = (x.whole ≡ false) × (x.player ≡ Exists)

-- Whole variables come first; universal ones are whole; rows and uncertainty rows are in order, these over
-- universal variables alone; the scale is positive; and nothing is too large for 128 bits.
pub record IsSound (P : Problem) : Type 0 where
  pub few_vars : length P.vars < 2 ^ 29
  pub few_rows : length P.rows < 2 ^ 29
  pub few_urows : length P.urows < 2 ^ 29
  pub wholes : P.wholes ≤ length P.vars
  pub whole_first : All IsWhole (take P.wholes P.vars)
  pub continuous_last : All IsContinuous (drop P.wholes P.vars)
  pub rows : All (IsRowOver P.vars) P.rows
  pub urows : All (IsRowOver P.vars) P.urows
  pub urows_universal : All (λ row. All (IsOverUniversal P.vars) row.terms) P.urows
  pub objective_ordered : IsOrdered P.terms
  pub objective_vars : HasVarsBelow (length P.vars) P.terms
  pub objective_size : unsigned_abs P.constant + terms_size (reach_in_vars P.vars) P.terms ≤ 2 ^ 126
  pub scale_positive : pos 1 ≤ℤ P.scale
  pub scale_size : P.scale ≤ℤ pos (2 ^ 126)
