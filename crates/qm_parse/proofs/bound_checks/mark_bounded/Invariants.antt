use Rattle.std.proofs.Common.{◌≡◌, ℕ, ◌||◌, take}
use Rattle.qm_parse.specs.Checks.{has_upper}
use Rattle.qm_parse.specs.Marks.{is_marked}
use Rattle.qm_parse.proofs.bound_checks.mark_bounded.Given as goal

abbrev pub invariant-loop-bound : goal.invariant-loop-bound
invariant-loop-bound l =
    (name : ℕ) → is_marked l.marks name ≡ (is_marked l.initial.marks name || has_upper (take l.bound-index l.bounds) name)
