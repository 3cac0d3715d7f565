use Rattle.std.proofs.Common.{◌≡◌, ◌+◌, ◌≤◌, drop, unsigned_abs, ◌+ℤ◌}
use Rattle.qm_model.specs.Sizes.{reach_in_box, terms_size}
use Rattle.qm_model.proofs.TermSums.{sum_at}
use Rattle.qm_game.proofs.Parts.{greatest_at, reach_of, some_range}
use Rattle.qm_check.proofs.worst.greatest_of.Given as goal

abbrev pub invariant-loop-term : goal.invariant-loop-term
invariant-loop-term l = record {
  value : l.sum +ℤ sum_at greatest_at some_range reach_of (drop l.term-index l.terms) l.bx ≡ sum_at greatest_at some_range reach_of l.terms l.bx;
  size : unsigned_abs l.sum + terms_size (reach_in_box l.bx) (drop l.term-index l.terms) ≤ terms_size (reach_in_box l.bx) l.terms;
}
