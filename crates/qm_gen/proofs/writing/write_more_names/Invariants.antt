use Rattle.std.proofs.Common.{◌≡◌, ◌∷◌, ◌++◌, drop}
use Rattle.std.specs.List.{flat_map}
use Rattle.qm_gen.specs.Generated.{name_of}
use Rattle.qm_gen.proofs.writing.write_more_names.Given as goal

abbrev pub invariant-loop-variable : goal.invariant-loop-variable
invariant-loop-variable l = l.out ++ flat_map (λ variable. 32 ∷ name_of variable) (drop l.variable-index l.variables) ≡ l.fn.out ++ flat_map (λ variable. 32 ∷ name_of variable) l.variables
