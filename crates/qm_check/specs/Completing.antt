-- Values for the universal ones of some variables. No public clause cites this.
use Rattle.std.specs.Prelude.{Bool, false, List, [], ◌∷◌}
use Rattle.qm_model.specs.declared.variable.Var.{Var}
use Rattle.qm_model.specs.Plays.{is_universal}

-- the first of the variables is universal
abbrev pub begin_universal : List Var → Bool
begin_universal [] = false
begin_universal (x ∷ xs) = is_universal x
