-- Entries of rows of whole numbers as fractions.
use Rattle.std.proofs.Common.{◌≡◌, ◌∙◌, refl, sym, ap, ℕ, zero, suc, ◌/◌, ◌<◌, ◌≤◌, ◌^◌, ℤ, pos, negsuc, ◌<ℤ◌, neg_ℤ, unsigned_abs, arith, List, [], ◌∷◌, length, get_or, map}
use Rattle.std.specs.Prelude.{int_lt}
use native.Mathlib.Nat.{zero-div}
use Rattle.std.proofs.lemmas.Int.{ints}
use Rattle.std.proofs.lemmas.List.{get_or-map, length-map}
use Rattle.qm_math.specs.Fraction.{Fraction, whole}
use Rattle.qm_math.proofs.WholeTests.{false_of_le, test_of_lt}
use Rattle.qm_frac.specs.Gcd.{gcd_of}
use Rattle.qm_frac.specs.Lowest.{IsInRange, lowest, lowest_parts, lowest_terms}
use Rattle.qm_frac.proofs.SameLowest.{lowest_num_some}
use Rattle.qm_frac.proofs.Terms.{in_range_small}
use Rattle.qm_tableau.specs.Tables.{entry_at, entry_of, row_at}
use Rattle.qm_tableau.specs.Wholes.{at_place, fractions_of}

-- ---- places

pub entry_in_row : (row : List ℤ) (k : ℕ) → suc k < length row → entry_of (fractions_of row) k ≡ lowest (at_place row (suc k)) (unsigned_abs (at_place row 0))
entry_in_row [] k h = absurd (omega (arith, h))
entry_in_row (d ∷ numbers) k h = get_or-map (λ (a : ℤ). lowest a (unsigned_abs d)) numbers k (pos 0) (whole (pos 0)) (omega (arith, h))

pub length_fractions : (row : List ℤ) (w : ℕ) → length row ≡ suc w → length (fractions_of row) ≡ w
length_fractions [] w h = absurd (omega (arith, h))
length_fractions (d ∷ numbers) w h = length-map numbers _ ∙ (omega (arith, h))

pub row_in_rows : (rows : List (List ℤ)) (i : ℕ) → i < length rows → row_at (map fractions_of rows) i ≡ fractions_of (get_or rows i [])
row_in_rows rows i h = get_or-map fractions_of rows i [] [] h

pub entry_in_rows : (rows : List (List ℤ)) (i k : ℕ) → i < length rows → suc k < length (get_or rows i [])
    → entry_at (map fractions_of rows) i k ≡ lowest (at_place (get_or rows i []) (suc k)) (unsigned_abs (at_place (get_or rows i []) 0))
entry_in_rows rows i k h w = ap (λ (r : List Fraction). entry_of r k) (row_in_rows rows i h) ∙ entry_in_row (get_or rows i []) k w

-- ---- the signs of lowest terms

pub below_lowest : (a : ℤ) (d : ℕ) → 0 < d → int_lt (lowest a d).num (pos 0) ≡ int_lt a (pos 0)
unfolding lowest_parts
below_lowest (pos n) d some = false_of_le (pos 0) (pos (n / gcd_of n d)) (omega (arith, ints)) ∙ sym (false_of_le (pos 0) (pos n) (omega (arith, ints)))
below_lowest (negsuc n) d some =
    let more : 0 < suc n / gcd_of (suc n) d = lowest_num_some (suc n) d (omega arith) in
    test_of_lt (neg_ℤ (pos (suc n / gcd_of (suc n) d))) (pos 0) (omega (arith, ints, more)) ∙ sym (test_of_lt (negsuc n) (pos 0) (omega (arith, ints)))

pub above_lowest : (a : ℤ) (d : ℕ) → 0 < d → int_lt (pos 0) (lowest a d).num ≡ int_lt (pos 0) a
unfolding lowest_parts
above_lowest (pos zero) d some =
    let none : 0 / gcd_of 0 d ≡ 0 = zero-div (gcd_of 0 d) in
    ap (λ (n : ℕ). int_lt (pos 0) (pos n)) none
above_lowest (pos (suc n)) d some =
    let more : 0 < suc n / gcd_of (suc n) d = lowest_num_some (suc n) d (omega arith) in
    test_of_lt (pos 0) (pos (suc n / gcd_of (suc n) d)) (omega (arith, ints, more)) ∙ sym (test_of_lt (pos 0) (pos (suc n)) (omega (arith, ints)))
above_lowest (negsuc n) d some =
    let more : 0 < suc n / gcd_of (suc n) d = lowest_num_some (suc n) d (omega arith) in
    false_of_le (neg_ℤ (pos (suc n / gcd_of (suc n) d))) (pos 0) (omega (arith, ints, more)) ∙ sym (false_of_le (negsuc n) (pos 0) (omega (arith, ints)))

-- ---- lowest terms as the code makes them

-- over a positive denominator no sign is turned
pub terms_positive : (n d : ℤ) → pos 0 <ℤ d → lowest_terms n d ≡ lowest n (unsigned_abs d)
terms_positive n (pos d) h = refl
terms_positive n (negsuc d) h = absurd (omega (arith, ints))

pub small_fits : (n d : ℤ) → pos 0 <ℤ d → unsigned_abs n ≤ 2 ^ 62 → unsigned_abs d ≤ 2 ^ 62 → IsInRange (lowest_terms n d)
small_fits n (pos d) h a b = in_range_small n d (omega arith) (omega arith)
small_fits n (negsuc d) h a b = absurd (omega (arith, ints))
