use Rattle.std.proofs.Common.{◌≡◌, ◌+◌, ◌≤◌, drop, unsigned_abs, pos, ◌+ℤ◌, ◌*ℤ◌}
use Rattle.qm_model.specs.Sizes.{reach_in_values, terms_size}
use Rattle.qm_model.proofs.TermSums.{sum_at}
use Rattle.qm_check.proofs.play.sum_at.Given as goal

abbrev pub invariant-loop-term : goal.invariant-loop-term
invariant-loop-term l = record {
  value : l.sum +ℤ sum_at ◌*ℤ◌ (pos 0) unsigned_abs (drop l.term-index l.terms) l.values ≡ sum_at ◌*ℤ◌ (pos 0) unsigned_abs l.terms l.values;
  size : unsigned_abs l.sum + terms_size (reach_in_values l.values) (drop l.term-index l.terms) ≤ terms_size (reach_in_values l.values) l.terms;
}
