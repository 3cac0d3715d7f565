-- What is written of a number spells it, and nothing else does.
use Rattle.std.proofs.Common.{◌≡◌, ◌≢◌, ℕ, zero, suc, ◌+◌, ◌-◌, ◌*◌, ◌/◌, ◌%◌, ◌^◌, ◌<◌, ◌≤◌, List, [], ◌∷◌, ◌++◌, length, get_or, ◌↔◌, ℤ, pos, negsuc, unsigned_abs, true, inl, inr, refl, sym, ap, ap₂, ◌∙◌, arith, ne_eqb}
use Rattle.std.proofs.lemmas.Bool.{cases_lt}
use Rattle.std.specs.Prelude.{FitsSigned}
use Rattle.std.specs.Int.{w64}
use Rattle.std.specs.Char.{is_ascii_digit}
use Rattle.std.specs.Fmt.{decimal, signed_decimal}
use Rattle.std.proofs.lemmas.Bool.Decides.{nat_tests}
use Rattle.std.proofs.lemmas.Fmt.{decimal_by_steps_wide}
use Rattle.std.proofs.lemmas.List.{length-append}
use Rattle.std.proofs.lemmas.List.Folds.{list_all-append}
use Rattle.std.proofs.Math.Nat.{pow-succ', pow-le-pow_right}
use Rattle.std.proofs.lemmas.Nat.{div-mul-add}
use native.Mathlib.Nat.{mul-le-mul_right}
use Rattle.qm_math.specs.Fraction.{Fraction}
use Rattle.qm_frac.specs.Lowest.{IsFrac}
use Rattle.qm_text.specs.Digits.{are_digits, is_plain_numeral, numeral_value}
use Rattle.qm_text.specs.Numbers.{SpellsNatural, SpellsWhole, SpellsFraction, number_word}
use Rattle.qm_text.proofs.Values.{numeral_value-push}
use Rattle.qm_text.proofs.Slashes.{digits_of_plain}
use Rattle.qm_text.proofs.Wholes.{fits_small}

-- ---- what is written spells the number

-- digits of a number, the first of which isn't 0 unless the number is
record IsWriting (n : ℕ) (ds : List ℕ) : Type 0 where
  pub some : 0 < length ds
  digits : are_digits ds ≡ true
  value : numeral_value ds ≡ n
  first : 0 < n → get_or ds 0 0 ≢ 48
  zero_alone : n ≡ 0 → length ds ≡ 1

one_digit : (n : ℕ) → n < 10 → IsWriting n ((48 + n) ∷ [])
unfolding numeral_value
one_digit n small = record { some = omega arith; digits = grind (arith, nat_tests); value = omega arith; first = λ h e. absurd (omega arith); zero_alone = λ e. refl }

first_of : (ds : List ℕ) (digit : ℕ) → 0 < length ds → get_or (ds ++ digit ∷ []) 0 0 ≡ get_or ds 0 0
first_of [] digit h = absurd (omega arith)
first_of (d ∷ ds) digit h = refl

more_digits : (n : ℕ) (ds : List ℕ) → 10 ≤ n → IsWriting (n / 10) ds → IsWriting n (ds ++ ((48 + n % 10) ∷ []))
more_digits n ds large w =
    let len = length-append ds ((48 + n % 10) ∷ []) in
    let digit : is_ascii_digit (48 + n % 10) ≡ true = grind (arith, nat_tests) in
    let before = w.value in
    let pushed = numeral_value-push ds (48 + n % 10) in
    let some = w.some in
    record {
      some = omega (arith, len);
      digits = list_all-append is_ascii_digit ds ((48 + n % 10) ∷ []) ∙ rw (w.digits, digit) refl;
      value = omega arith;
      first = λ h. rw (first_of ds (48 + n % 10) some) (w.first (omega arith));
      zero_alone = λ e. absurd (omega arith);
    }

writing : (n : ℕ) → n < 10 ^ 64 → IsWriting n (decimal n)
writing n small = decimal_by_steps_wide IsWriting one_digit more_digits n small

plain_of : (n : ℕ) (ds : List ℕ) → IsWriting n ds → is_plain_numeral ds ≡ true
plain_of zero ds w = let some = w.some in let digits = w.digits in let alone = w.zero_alone refl in grind (arith, nat_tests)
plain_of (suc n) ds w = let some = w.some in let digits = w.digits in let first = w.first (omega arith) in grind (arith, nat_tests)

decimal_spells : (n : ℕ) → n < 10 ^ 64 → SpellsNatural (decimal n) n
decimal_spells n small = let w = writing n small in (plain_of n (decimal n) w, sym w.value)

-- ---- one numeral a number

pub value_below : (ds : List ℕ) → are_digits ds ≡ true → numeral_value ds < 10 ^ length ds
unfolding numeral_value
value_below [] all = omega arith
value_below (d ∷ ds) all =
    let digit : d - 48 < 10 = grind (arith, nat_tests) in
    let others : are_digits ds ≡ true = grind arith in
    let below = value_below ds others in
    let power = pow-succ' 10 (length ds) in
    let nine : d - 48 ≤ 9 = omega arith in
    let most : (d - 48) * 10 ^ length ds ≤ 9 * 10 ^ length ds = mul-le-mul_right (10 ^ length ds) nine in
    omega arith

-- the weight of the first digit, and what comes behind it, are what they are
weights : (a b p v w : ℕ) → v < p → w < p → a * p + v ≡ b * p + w → (a ≡ b) × (v ≡ w)
weights a b p v w small less e =
    let some : 0 < p = omega arith in
    let top : a ≡ b = sym (div-mul-add a p v small) ∙ ap (λ n. n / p) e ∙ div-mul-add b p w less in
    let same : a * p ≡ b * p = ap (λ n. n * p) top in
    (top, omega arith)

same_length : (ds es : List ℕ) → are_digits ds ≡ true → are_digits es ≡ true → length ds ≡ length es → numeral_value ds ≡ numeral_value es → ds ≡ es
unfolding numeral_value
same_length [] [] all every len e = refl
same_length [] (x ∷ es) all every len e = absurd (omega arith)
same_length (d ∷ ds) [] all every len e = absurd (omega arith)
same_length (d ∷ ds) (x ∷ es) all every len e =
    let rest : length ds ≡ length es = omega arith in
    let digits : are_digits ds ≡ true = grind arith in
    let others : are_digits es ≡ true = grind arith in
    let below = value_below ds digits in
    let less : numeral_value es < 10 ^ length ds = rw rest (value_below es others) in
    let sums : (d - 48) * 10 ^ length ds + numeral_value ds ≡ (x - 48) * 10 ^ length ds + numeral_value es = rw (← rest) at e in
    let parts = weights (d - 48) (x - 48) (10 ^ length ds) (numeral_value ds) (numeral_value es) below less sums in
    let low : (48 ≤ d) × (48 ≤ x) = grind (arith, nat_tests) in
    let first : d ≡ x = omega arith in
    cc (first, same_length ds es digits others rest parts.1)

first_at_least : (ds : List ℕ) → is_plain_numeral ds ≡ true → 1 < length ds → 10 ^ (length ds - 1) ≤ numeral_value ds
unfolding numeral_value
first_at_least [] plain long = absurd (omega arith)
first_at_least (d ∷ ds) plain long =
    let some : 1 ≤ d - 48 = grind (arith, nat_tests) in
    let len : length ds ≡ suc (length ds) - 1 = omega arith in
    let weight : 1 * 10 ^ length ds ≤ (d - 48) * 10 ^ length ds = mul-le-mul_right (10 ^ length ds) some in
    rw (← len) (omega arith)

not_shorter : (ds es : List ℕ) → is_plain_numeral ds ≡ true → is_plain_numeral es ≡ true → numeral_value ds ≡ numeral_value es → length es ≤ length ds
not_shorter ds es plain simple e = elim (cases_lt (length ds) (length es)) [
  | inl shorter ↦
      let some : 0 < length ds = grind (arith, nat_tests) in
      let below = value_below ds (digits_of_plain ds plain) in
      let above = first_at_least es simple (omega arith) in
      let powers : 10 ^ length ds ≤ 10 ^ (length es - 1) = pow-le-pow_right (omega arith) (omega arith) in
      absurd (omega arith)
  | inr at_most ↦ at_most
]

numeral_one : (ds es : List ℕ) → is_plain_numeral ds ≡ true → is_plain_numeral es ≡ true → numeral_value ds ≡ numeral_value es → ds ≡ es
numeral_one ds es plain simple e =
    let one = not_shorter ds es plain simple e in
    let other = not_shorter es ds simple plain (sym e) in
    same_length ds es (digits_of_plain ds plain) (digits_of_plain es simple) (omega arith) e

natural_written : (word : List ℕ) (n : ℕ) → n < 10 ^ 64 → SpellsNatural word n → word ≡ decimal n
natural_written word n small h =
    let d = decimal_spells n small in
    numeral_one word (decimal n) h.0 d.0 (sym h.1 ∙ d.1)

-- ---- with a sign

pub whole_written : (word : List ℕ) (z : ℤ) → unsigned_abs z < 10 ^ 64 → SpellsWhole word z ↔ (word ≡ signed_decimal z)
whole_written word (pos n) small = (natural_written word n small, λ e. rw e (decimal_spells n small))
whole_written word (negsuc n) small = (
  λ h. h.1 ∙ ap (λ t. 45 ∷ t) (natural_written h.0 (suc n) small h.2),
  λ e. (decimal (suc n), e, decimal_spells (suc n) small),
)

wide : (z : ℤ) → unsigned_abs z < 2 ^ 127 → unsigned_abs z < 10 ^ 64
wide z h = omega arith

pub narrow_written : (word : List ℕ) (n : ℤ) → FitsSigned w64 n → SpellsWhole word n ↔ (word ≡ signed_decimal n)
narrow_written word n fits = whole_written word n (wide n (fits_small n fits))

-- ---- fractions

-- the word of a whole number, and that of another fraction
one_word : (a : Fraction) → a.den ≡ 1 → number_word a ≡ signed_decimal a.num
one_word a e = rw e refl

quotient_word : (a : Fraction) → 2 ≤ a.den → number_word a ≡ signed_decimal a.num ++ 47 ∷ decimal a.den
quotient_word a h = rw (ne_eqb a.den 1 (λ e. omega arith)) refl

to_word : (word : List ℕ) (a : Fraction) → IsFrac a → SpellsFraction word a → word ≡ number_word a
to_word word a h (inl p) = (whole_written word a.num (wide a.num h.num_fits)).0 p.0 ∙ sym (one_word a p.1)
to_word word a h (inr q) =
    let small = h.den_fits in
    let num = (whole_written q.0.above a.num (wide a.num h.num_fits)).0 q.0.num in
    let den = natural_written q.0.below a.den (omega arith) q.0.den in
    let parts : q.0.above ++ 47 ∷ q.0.below ≡ signed_decimal a.num ++ 47 ∷ decimal a.den = ap₂ (λ (x y : List ℕ). x ++ 47 ∷ y) num den in
    q.0.parts ∙ parts ∙ sym (quotient_word a q.0.broken)

from_word : (word : List ℕ) (a : Fraction) → IsFrac a → word ≡ number_word a → SpellsFraction word a
from_word word a h e = elim (cases_lt a.den 2) [
  | inl less ↦
      let some = h.positive in
      let one : a.den ≡ 1 = omega arith in
      inl ((whole_written word a.num (wide a.num h.num_fits)).1 (e ∙ one_word a one), one)
  | inr more ↦
      let small = h.den_fits in
      let num = (whole_written (signed_decimal a.num) a.num (wide a.num h.num_fits)).1 refl in
      inr (
        record {
          above = signed_decimal a.num;
          below = decimal a.den;
          parts = e ∙ quotient_word a more;
          num = num;
          den = decimal_spells a.den (omega arith);
          broken = more;
        },
        inl h.lowest,
      )
]

pub fraction_written : (word : List ℕ) (a : Fraction) → IsFrac a → SpellsFraction word a ↔ (word ≡ number_word a)
fraction_written word a h = (to_word word a h, from_word word a h)
