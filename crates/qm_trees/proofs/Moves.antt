-- What a line's choices come to, and a value in a range.
use Rattle.std.proofs.Common.{◌≡◌, ℕ, Bool, true, false, refl, ℤ, arith}
use Rattle.std.specs.Prelude.{◌==◌, int_le, if◌then◌else◌}
use Rattle.std.proofs.lemmas.Bool.{and_from, and_parts}
use Rattle.std.proofs.lemmas.Bool.Decides.{nat_tests}
use Rattle.qm_math.specs.Ranges.{IsBetween}
use Rattle.qm_math.proofs.WholeTests.{le_of_test, test_of_le}
use Rattle.qm_model.specs.declared.range.Range.{Range}
use Rattle.qm_trees.specs.declared.rule.Rule.{Rule}
use Rattle.qm_trees.specs.Verdicts.{Verdict, Broken}
use Rattle.qm_model.specs.Ranges.{is_in}
use Rattle.qm_trees.specs.Passing.{IsFine}

-- ---- choices of a line

pub fine_else : (b : Bool) (broken : Rule) (n : ℕ) (v : Verdict) → IsFine (if b then Broken broken n else v) → (b ≡ false) × IsFine v
fine_else true broken n v h = absurd h
fine_else false broken n v h = (refl, h)

pub fine_then : (b : Bool) (broken : Rule) (n : ℕ) (v : Verdict) → IsFine (if b then v else Broken broken n) → (b ≡ true) × IsFine v
fine_then true broken n v h = (refl, h)
fine_then false broken n v h = absurd h

pub else_fine : (b : Bool) (broken : Rule) (n : ℕ) (v : Verdict) → b ≡ false → IsFine v → IsFine (if b then Broken broken n else v)
else_fine b broken n v e h = rw e h

pub then_fine : (b : Bool) (broken : Rule) (n : ℕ) (v : Verdict) → b ≡ true → IsFine v → IsFine (if b then v else Broken broken n)
then_fine b broken n v e h = rw e h

pub between_of : (r : Range) (v : ℤ) → is_in r v ≡ true → IsBetween r.low r.high v
between_of r v e =
    let parts = and_parts (int_le r.low v) (int_le v r.high) e in
    (le_of_test r.low v parts.0, le_of_test v r.high parts.1)

pub in_of_between : (r : Range) (v : ℤ) → IsBetween r.low r.high v → is_in r v ≡ true
in_of_between r v h = and_from (int_le r.low v) (int_le v r.high) (test_of_le r.low v h.0) (test_of_le v r.high h.1)

pub same_count : (m n : ℕ) → m ≡ n → (m == n) ≡ true
same_count m n e = grind (arith, nat_tests)
