-- Whole numbers never leave where the answer is below 2 ^ 127.
use Rattle.std.proofs.Common.{◌≡◌, ◌*◌, ◌<◌, ◌^◌, ℤ, pos, negsuc, ◌+ℤ◌, ◌-ℤ◌, ◌*ℤ◌, ◌≤ℤ◌, neg_ℤ, unsigned_abs, Ok, refl, sym, arith}
use Rattle.std.proofs.lemmas.Int.{ints}
use Rattle.qm_math.specs.Fraction.{whole}
use Rattle.qm_frac.specs.Lowest.{IsInRange}
use Rattle.qm_frac.specs.Arithmetic.{SumFits, sum, quotient}
use Rattle.qm_frac.specs.Checked.{added, subtracted, multiplied, divided}
use Rattle.qm_frac.proofs.Terms.{whole_is, lowest_again, in_range_small}
use Rattle.qm_frac.proofs.SignLaws.{unsigned_abs-neg}
use Rattle.qm_frac.proofs.SumLaws.{whole_total_is}
use Rattle.qm_frac.proofs.AnswerLaws.{added_fits, subtracted_fits, multiplied_fits, divided_fits}

-- the steps of a sum of whole numbers fit, and it is whole
whole_sum : (a b : ℤ) → unsigned_abs a < 2 ^ 127 → unsigned_abs b < 2 ^ 127 → unsigned_abs (a +ℤ b) < 2 ^ 127 → SumFits (whole a) (whole b) × (whole (a +ℤ b) ≡ sum (whole a) (whole b))
whole_sum a b h k fits = whole_total_is (whole a) (whole b) (whole (a +ℤ b)) (a +ℤ b) (whole_is a h) (whole_is b k) refl refl refl fits refl

-- the sum of whole numbers is whole
pub added-whole : (a b : ℤ) → unsigned_abs a < 2 ^ 127 → unsigned_abs b < 2 ^ 127 → unsigned_abs (a +ℤ b) < 2 ^ 127 → added (whole a) (whole b) ≡ Ok (whole (a +ℤ b))
added-whole a b h k fits =
    let total = whole_sum a b h k fits in
    sym (added_fits (whole a) (whole b) (whole (a +ℤ b)) total.0 total.1)

-- their difference is whole
pub subtracted-whole : (a b : ℤ) → unsigned_abs a < 2 ^ 127 → unsigned_abs b < 2 ^ 127 → unsigned_abs (a -ℤ b) < 2 ^ 127 → subtracted (whole a) (whole b) ≡ Ok (whole (a -ℤ b))
subtracted-whole a b h k fits =
    let total = whole_sum a (neg_ℤ b) h (rw (unsigned_abs-neg b) k) fits in
    sym (subtracted_fits (whole a) (whole b) (whole (a -ℤ b)) total.0 total.1)

-- their product is whole, however large they are themselves
pub multiplied-whole : (a b : ℤ) → unsigned_abs (a *ℤ b) < 2 ^ 127 → multiplied (whole a) (whole b) ≡ Ok (whole (a *ℤ b))
multiplied-whole a b fits =
    sym (multiplied_fits (whole a) (whole b) (whole (a *ℤ b)) (in_range_small (a *ℤ b) 1 fits (omega arith)) (sym (lowest_again (whole (a *ℤ b)) (whole_is (a *ℤ b) fits))))

-- the numerator and the denominator of a quotient by a positive number are no greater
quotient_small : (a k : ℤ) → pos 1 ≤ℤ k → unsigned_abs a < 2 ^ 127 → unsigned_abs k < 2 ^ 127 → IsInRange (quotient (whole a) (whole k))
quotient_small a (pos n) some h small =
    in_range_small (a *ℤ pos 1) (1 * n) (let e : a *ℤ pos 1 ≡ a = omega (arith, ints) in rw e h) (let s : n < 2 ^ 127 = small in omega arith)
quotient_small a (negsuc n) some h small = absurd (omega (arith, ints))

-- a whole number by a positive one never leaves
pub divided-whole : (a k : ℤ) → pos 1 ≤ℤ k → unsigned_abs a < 2 ^ 127 → unsigned_abs k < 2 ^ 127 → divided (whole a) (whole k) ≡ Ok (quotient (whole a) (whole k))
divided-whole a k some h small = sym (divided_fits (whole a) (whole k) (quotient (whole a) (whole k)) (quotient_small a k some h small) refl)
