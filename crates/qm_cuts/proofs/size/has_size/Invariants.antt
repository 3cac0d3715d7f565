use Rattle.std.proofs.Common.{◌≡◌, ◌+◌, drop}
use Rattle.qm_model.specs.Sizes.{reach_in_vars, row_size, terms_size}
use Rattle.qm_cuts.proofs.size.has_size.Given as goal

abbrev pub invariant-loop-term : goal.invariant-loop-term
invariant-loop-term l =
    l.size + terms_size (reach_in_vars l.vars) (drop l.term-index l.row.terms) ≡ row_size (reach_in_vars l.vars) l.row
