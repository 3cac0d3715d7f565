-- The value of a decimal, by its significant digits and the tens of its exponent.
use Rattle.std.proofs.Common.{◌≡◌, ℕ, zero, suc, ◌+◌, ◌-◌, ◌*◌, ◌^◌, ◌<◌, ◌≤◌, min, Bool, true, false, cond, List, [], ◌∷◌, ◌++◌, length, pos, neg_ℤ, IsTrue, Ok, Err, refl, sym, ap, ap₂, ◌∙◌, subst, arith}
use Rattle.std.specs.Prelude.{Result}
use Rattle.std.specs.Char.{is_ascii_digit}
use Rattle.std.specs.List.{list_all}
use Rattle.std.proofs.lemmas.List.Folds.{list_all-append}
use Rattle.std.proofs.lemmas.Bool.{and_parts}
use Rattle.qm_math.specs.Fraction.{Fraction}
use Rattle.qm_frac.specs.Lowest.{IsInRange}
use Rattle.qm_frac.specs.Signs.{signed}
use Rattle.qm_text.specs.declared.fault.NumberFault.{NumberFault}
use Rattle.qm_text.specs.declared.fault.NumberFault.TheVariants as fault
use Rattle.qm_text.specs.declared.significant.Significant.{Significant}
use Rattle.qm_text.specs.Digits.{are_digits, numeral_value}
use Rattle.qm_text.specs.Decimals.{Decimal, SpellsDecimal, Stays, decimal_value, digits_of, is_zero_digit, without_first_zeros, without_last_zeros, tens_above, tens_below, with_tens}
use Rattle.qm_text.specs.DecimalSteps.{IsAnswer, IsValue, decimal_of, with_digits}
use Rattle.qm_text.specs.Reading.{Reads}
use Rattle.qm_text.proofs.Readings.{reads_ok, reads_leaves}
use Rattle.qm_text.proofs.Powers.{shifted, stopped_above, stopped_below, zero_in_range, zero_tens}
use Rattle.qm_text.proofs.Spellings.{all_digits, decimal_one, digit_parts}
use Rattle.qm_text.proofs.Zeros.{IsSignificant, core_of, few_digits, many_digits, many_more, none_so_far, value_without_first}

-- what is kept of two words of digits
pub significant_of : (before behind : List ℕ) (s : Significant) → s ≡ with_digits (with_digits (record { number = 0; zeros = 0 }) before) behind → IsSignificant (before ++ behind) s
significant_of before behind s e =
    let none : Significant = record { number = 0; zeros = 0 } in
    subst (IsSignificant (before ++ behind)) (sym e) (many_more before behind (with_digits none before) (many_more [] before none none_so_far))

-- ---- how many digits there are

pub too_many : (d : Decimal) (s : Significant) → are_digits (digits_of d) ≡ true → IsSignificant (digits_of d) s → 10 ^ 38 ≤ s.number → IsValue d (Err fault.Leaves)
too_many d s all is large =
    let number = is.number in
    let core : 10 ^ 38 ≤ numeral_value (core_of (digits_of d)) = omega arith in
    let many = many_digits (digits_of d) all core in
    (refl, λ stays. let few = stays.few in absurd (omega arith))

few_enough : (d : Decimal) (answer : Result Fraction NumberFault) → length (core_of (digits_of d)) ≤ 38 → IsAnswer (decimal_value d) answer → IsValue d answer
few_enough d (Ok r) few is = (is.0, record { few = few; fits = is.1 })
few_enough d (Err e) few is = (is.0, λ stays. is.1 stays.fits)

-- the value by the number without the zeros at the end
value_is : (d : Decimal) (s : Significant) (above below : ℕ) → IsSignificant (digits_of d) s → s.number < 10 ^ 38
    → tens_above d.exponent ≡ above → length d.behind + tens_below d.exponent ≡ below → decimal_value d ≡ with_tens s.number (s.zeros + above) below
value_is d s above below is small p q =
    let number = is.number in
    let same : numeral_value (core_of (digits_of d)) ≡ s.number = omega arith in
    let whole : numeral_value (digits_of d) ≡ s.number * 10 ^ s.zeros = is.value ∙ ap (λ n. n * 10 ^ s.zeros) same in
    ap₂ (λ (n a : ℕ). with_tens n a (length d.behind + tens_below d.exponent)) whole p
    ∙ ap (λ (b : ℕ). with_tens (s.number * 10 ^ s.zeros) above b) q
    ∙ shifted s.number s.zeros above below

few_core : (d : Decimal) (s : Significant) → are_digits (digits_of d) ≡ true → IsSignificant (digits_of d) s → s.number < 10 ^ 38 → length (core_of (digits_of d)) ≤ 38
few_core d s all is small = let number = is.number in few_digits (digits_of d) all (omega arith)

minus_above : (v : ℕ) → tens_above (neg_ℤ (pos v)) ≡ 0
minus_above zero = refl
minus_above (suc v) = refl

minus_below : (v : ℕ) → tens_below (neg_ℤ (pos v)) ≡ v
minus_below zero = refl
minus_below (suc v) = refl

-- ---- the exponent, which stops at the greatest number of 128 bits

pub value_below : (before behind power : List ℕ) (minus : Bool) (s : Significant) (p b : ℕ) (answer : Result Fraction NumberFault) → minus ≡ true
    → are_digits (before ++ behind) ≡ true → IsSignificant (before ++ behind) s → s.number < 10 ^ 38 → s.zeros < 2 ^ 65
    → p ≡ min (numeral_value power) (2 ^ 128 - 1) → b ≡ min (length behind + p) (2 ^ 128 - 1)
    → IsAnswer (with_tens s.number s.zeros b) answer → IsValue (decimal_of before behind minus power) answer
value_below before behind power minus s p b answer sign all is small short exponent tens answers =
    let d = decimal_of before behind minus power in
    let exact : b ≡ min (length behind + numeral_value power) (2 ^ 128 - 1) = omega arith in
    let stopped = stopped_below s.number s.zeros (length behind + numeral_value power) answer small (omega arith) (subst (λ k. IsAnswer (with_tens s.number s.zeros k) answer) exact answers) in
    let above : tens_above (signed minus (numeral_value power)) ≡ 0 = ap (λ (t : Bool). tens_above (signed t (numeral_value power))) sign ∙ minus_above (numeral_value power) in
    let below : length behind + tens_below (signed minus (numeral_value power)) ≡ length behind + numeral_value power =
    ap (λ n. length behind + n) (ap (λ (t : Bool). tens_below (signed t (numeral_value power))) sign ∙ minus_below (numeral_value power)) in
    let zeros : s.zeros + 0 ≡ s.zeros = omega arith in
    let value : decimal_value d ≡ with_tens s.number s.zeros (length behind + numeral_value power) =
    value_is d s 0 (length behind + numeral_value power) is small above below ∙ ap (λ (a : ℕ). with_tens s.number a (length behind + numeral_value power)) zeros in
    few_enough d answer (few_core d s all is small) (subst (λ v. IsAnswer v answer) (sym value) stopped)

pub value_above : (before behind power : List ℕ) (minus : Bool) (s : Significant) (p a : ℕ) (answer : Result Fraction NumberFault) → minus ≡ false
    → are_digits (before ++ behind) ≡ true → IsSignificant (before ++ behind) s → s.number < 10 ^ 38 → length behind < 2 ^ 64
    → p ≡ min (numeral_value power) (2 ^ 128 - 1) → a ≡ min (s.zeros + p) (2 ^ 128 - 1)
    → IsAnswer (with_tens s.number a (length behind)) answer → IsValue (decimal_of before behind minus power) answer
value_above before behind power minus s p a answer sign all is small short exponent tens answers =
    let d = decimal_of before behind minus power in
    let exact : a ≡ min (s.zeros + numeral_value power) (2 ^ 128 - 1) = omega arith in
    let stopped = stopped_above s.number (s.zeros + numeral_value power) (length behind) answer small (omega arith) (subst (λ k. IsAnswer (with_tens s.number k (length behind)) answer) exact answers) in
    let above : tens_above (signed minus (numeral_value power)) ≡ numeral_value power = ap (λ (t : Bool). tens_above (signed t (numeral_value power))) sign in
    let none : length behind + 0 ≡ length behind = omega arith in
    let below : length behind + tens_below (signed minus (numeral_value power)) ≡ length behind =
    ap (λ (t : Bool). length behind + tens_below (signed t (numeral_value power))) sign ∙ none in
    let value : decimal_value d ≡ with_tens s.number (s.zeros + numeral_value power) (length behind) = value_is d s (numeral_value power) (length behind) is small above below in
    few_enough d answer (few_core d s all is small) (subst (λ v. IsAnswer v answer) (sym value) stopped)

-- ---- the reading

pub join_digits : (before behind : List ℕ) → are_digits before ≡ true → are_digits behind ≡ true → are_digits (before ++ behind) ≡ true
join_digits before behind p q = list_all-append is_ascii_digit before behind ∙ rw (p, q) refl

pub read_value : (word : List ℕ) (d : Decimal) (answer : Result Fraction NumberFault) → SpellsDecimal word d → IsValue d answer → Reads (SpellsDecimal word) Stays decimal_value answer
read_value word d (Ok r) spells is = rw is.0 (reads_ok (SpellsDecimal word) Stays decimal_value (decimal_one word) d spells is.1)
read_value word d (Err e) spells is = rw is.0 (reads_leaves (SpellsDecimal word) Stays decimal_value (decimal_one word) d spells is.1)

pub both_digits : (word : List ℕ) (d : Decimal) → SpellsDecimal word d → (are_digits d.before ≡ true) × (are_digits d.behind ≡ true)
both_digits word d spells = digit_parts d.before d.behind (all_digits (d.before ++ d.behind) spells.digits.0)

-- ---- zeros alone

zeros_first : (digits : List ℕ) → list_all is_zero_digit digits ≡ true → without_first_zeros digits ≡ []
zeros_first [] all = refl
zeros_first (digit ∷ digits) all =
    let parts = and_parts (is_zero_digit digit) (list_all is_zero_digit digits) all in
    ap (λ (t : Bool). cond t (without_first_zeros digits) (digit ∷ digits)) parts.0 ∙ zeros_first digits parts.1

zeros_value : (digits : List ℕ) → list_all is_zero_digit digits ≡ true → numeral_value digits ≡ 0
unfolding numeral_value
zeros_value digits all = sym (value_without_first digits) ∙ ap numeral_value (zeros_first digits all)

pub zeros_stay : (d : Decimal) → IsTrue (list_all is_zero_digit (digits_of d)) → Stays d × (decimal_value d ≡ record { num = pos 0; den = 1 })
zeros_stay d all =
    let above = tens_above d.exponent in
    let below = length d.behind + tens_below d.exponent in
    let none : numeral_value (digits_of d) ≡ 0 = zeros_value (digits_of d) all in
    let core : length (core_of (digits_of d)) ≡ 0 = ap (λ (ds : List ℕ). length (without_last_zeros ds)) (zeros_first (digits_of d) all) in
    let same : with_tens 0 above below ≡ decimal_value d = ap (λ (n : ℕ). with_tens n above below) (sym none) in
    (record { few = omega arith; fits = subst IsInRange same (zero_in_range above below) }, sym same ∙ zero_tens above below)
