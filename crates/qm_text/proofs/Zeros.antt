-- Digits without the zeros in front and at the end, digit by digit.
use Rattle.std.proofs.Common.{◌≡◌, ℕ, zero, suc, ◌+◌, ◌-◌, ◌*◌, ◌^◌, ◌<◌, ◌≤◌, min, Bool, true, false, cond, ◌&&◌, List, [], ◌∷◌, ◌++◌, length, get_or, drop, eqb, eqb-true, append_assoc, refl, sym, ap, ap₂, ◌∙◌, subst, arith, inl, inr}
use Rattle.std.specs.Prelude.{⊤}
use Rattle.std.specs.Char.{is_ascii_digit}
use Rattle.std.specs.List.{list_all}
use Rattle.std.proofs.lemmas.Bool.{cases_lt}
use Rattle.std.proofs.lemmas.Bool.Decides.{nat_tests}
use Rattle.std.proofs.lemmas.List.{append-nil, drop_all}
use Rattle.std.proofs.Math.Seq.{drop-cons}
use Rattle.std.proofs.lemmas.Grind.{pow_more}
use Rattle.std.proofs.lemmas.List.Folds.{list_all-append}
use Rattle.std.proofs.Math.Nat.{pow-le-pow_right}
use Rattle.std.proofs.Math.Nat.{mul-le-mul_left}
use native.Mathlib.Nat.{mul-le-mul_right}
use Rattle.qm_text.specs.declared.significant.Significant.{Significant}
use Rattle.qm_text.specs.Digits.{are_digits, numeral_value}
use Rattle.qm_text.specs.Decimals.{is_zero_digit, without_first_zeros, without_last_zeros}
use Rattle.qm_text.specs.DecimalSteps.{with_digit, with_digits}
use Rattle.qm_text.proofs.Values.{numeral_value-push}
use Rattle.qm_text.proofs.Written.{value_below}
use Rattle.qm_text.proofs.Cuts.{first_digit, rest_digits}
use Rattle.qm_text.proofs.Powers.{ten_some}

-- the digits without the zeros in front and at the end
abbrev pub core_of : List ℕ → List ℕ
core_of digits = without_last_zeros (without_first_zeros digits)

-- ---- one digit more

first_zero_value : (digit : ℕ) (digits : List ℕ) (t : Bool) → eqb digit 48 ≡ t → numeral_value (without_first_zeros digits) ≡ numeral_value digits
    → numeral_value (cond t (without_first_zeros digits) (digit ∷ digits)) ≡ numeral_value (digit ∷ digits)
unfolding numeral_value
first_zero_value digit digits true e same =
    let none : digit ≡ 48 = eqb-true digit 48 e in
    let low : digit - 48 ≡ 0 = omega arith in
    let weight : (digit - 48) * 10 ^ length digits ≡ 0 * 10 ^ length digits = ap (λ d. d * 10 ^ length digits) low in
    same ∙ omega (arith, weight)
first_zero_value digit digits false e same = refl

pub value_without_first : (digits : List ℕ) → numeral_value (without_first_zeros digits) ≡ numeral_value digits
value_without_first [] = refl
value_without_first (digit ∷ digits) = first_zero_value digit digits (eqb digit 48) refl (value_without_first digits)

first_step : (x digit : ℕ) (digits : List ℕ) (t : Bool) → without_first_zeros (digits ++ digit ∷ []) ≡ without_first_zeros digits ++ digit ∷ []
    → cond t (without_first_zeros (digits ++ digit ∷ [])) (x ∷ (digits ++ digit ∷ [])) ≡ cond t (without_first_zeros digits) (x ∷ digits) ++ digit ∷ []
first_step x digit digits true ih = ih
first_step x digit digits false ih = refl

first_push : (digits : List ℕ) (digit : ℕ) → eqb digit 48 ≡ false → without_first_zeros (digits ++ digit ∷ []) ≡ without_first_zeros digits ++ digit ∷ []
first_push [] digit e = rw e refl
first_push (x ∷ digits) digit e = first_step x digit digits (eqb x 48) (first_push digits digit e)

and_false : (b : Bool) → b && false ≡ false
and_false true = refl
and_false false = refl

and_true : (b : Bool) → b && true ≡ b
and_true true = refl
and_true false = refl

not_all : (digits : List ℕ) (digit : ℕ) → eqb digit 48 ≡ false → list_all is_zero_digit (digits ++ digit ∷ []) ≡ false
not_all [] digit e = rw e refl
not_all (x ∷ digits) digit e = rw (not_all digits digit e) (and_false (eqb x 48))

last_push : (digits : List ℕ) (digit : ℕ) → eqb digit 48 ≡ false → without_last_zeros (digits ++ digit ∷ []) ≡ digits ++ digit ∷ []
last_push [] digit e = rw e refl
last_push (x ∷ digits) digit e =
    let none : list_all is_zero_digit (x ∷ (digits ++ digit ∷ [])) ≡ false = not_all (x ∷ digits) digit e in
    ap (λ (t : Bool). cond t [] (x ∷ without_last_zeros (digits ++ digit ∷ []))) none ∙ ap (λ (ds : List ℕ). x ∷ ds) (last_push digits digit e)

all_push : (digits : List ℕ) → list_all is_zero_digit (digits ++ 48 ∷ []) ≡ list_all is_zero_digit digits
all_push digits = list_all-append is_zero_digit digits (48 ∷ []) ∙ and_true (list_all is_zero_digit digits)

last_zero : (digits : List ℕ) → without_last_zeros (digits ++ 48 ∷ []) ≡ without_last_zeros digits
last_zero [] = refl
last_zero (x ∷ digits) = ap₂ (λ (t : Bool) (ds : List ℕ). cond t [] (x ∷ ds)) (all_push (x ∷ digits)) (last_zero digits)

core_step : (x : ℕ) (digits : List ℕ) (t : Bool) → core_of (digits ++ 48 ∷ []) ≡ core_of digits
    → without_last_zeros (cond t (without_first_zeros (digits ++ 48 ∷ [])) (x ∷ (digits ++ 48 ∷ []))) ≡ without_last_zeros (cond t (without_first_zeros digits) (x ∷ digits))
core_step x digits true ih = ih
core_step x digits false ih = last_zero (x ∷ digits)

core_zero : (digits : List ℕ) → core_of (digits ++ 48 ∷ []) ≡ core_of digits
core_zero [] = refl
core_zero (x ∷ digits) = core_step x digits (eqb x 48) (core_zero digits)

core_push : (digits : List ℕ) (digit : ℕ) → eqb digit 48 ≡ false → numeral_value (core_of (digits ++ digit ∷ [])) ≡ numeral_value digits * 10 + (digit - 48)
core_push digits digit e =
    let core : core_of (digits ++ digit ∷ []) ≡ without_first_zeros digits ++ digit ∷ [] = ap without_last_zeros (first_push digits digit e) ∙ last_push (without_first_zeros digits) digit e in
    ap numeral_value core ∙ numeral_value-push (without_first_zeros digits) digit ∙ ap (λ n. n * 10 + (digit - 48)) (value_without_first digits)

-- ---- what is kept of the digits so far

pub record IsSignificant (digits : List ℕ) (s : Significant) : Type 0 where
  pub number : s.number ≡ min (numeral_value (core_of digits)) (2 ^ 128 - 1)
  pub value : numeral_value digits ≡ numeral_value (core_of digits) * 10 ^ s.zeros

pub none_so_far : IsSignificant [] (record { number = 0; zeros = 0 })
unfolding numeral_value
none_so_far = record { number = refl; value = refl }

-- a bound passes through a product with a positive number
bounded : (m cap x d : ℕ) → 0 < x → min (min m cap * x + d) cap ≡ min (m * x + d) cap
bounded m cap x d some = elim (cases_lt cap m) [
  | inl large ↦
      let top : min m cap ≡ cap = omega arith in
      let low : cap * 1 ≤ cap * x = mul-le-mul_left cap some in
      let most : cap ≤ m = omega arith in
      let high : cap * x ≤ m * x = mul-le-mul_right x most in
      let product : min m cap * x ≡ cap * x = ap (λ k. k * x) top in
      omega arith
  | inr small ↦ let top : min m cap ≡ m = omega arith in ap (λ k. min (k * x + d) cap) top
]

stopped : (x cap d : ℕ) → min (min x cap + d) cap ≡ min (x + d) cap
stopped x cap d = omega arith

-- the same for a product whose one factor, and which itself, stop at the bound
pub bounded_twice : (n p cap d : ℕ) → min (min (min p cap * n) cap + d) cap ≡ min (n * p + d) cap
bounded_twice zero p cap d = let none : min p cap * 0 ≡ 0 = omega arith in let nothing : 0 * p ≡ 0 = omega arith in omega arith
bounded_twice (suc n) p cap d =
    stopped (min p cap * suc n) cap d
    ∙ bounded p cap (suc n) d (omega arith)
    ∙ (let e : p * suc n ≡ suc n * p = omega arith in ap (λ k. min (k + d) cap) e)

zero_step : (digits : List ℕ) (s : Significant) (t : Bool) → eqb s.number 0 ≡ t → IsSignificant digits s
    → IsSignificant (digits ++ 48 ∷ []) (cond t s (record { number = s.number; zeros = s.zeros + 1 }))
zero_step digits s true e is =
    let none : s.number ≡ 0 = eqb-true s.number 0 e in
    let number = is.number in
    let core : numeral_value (core_of digits) ≡ 0 = omega arith in
    let before : numeral_value digits ≡ 0 = is.value ∙ ap (λ n. n * 10 ^ s.zeros) core ∙ (let z : 0 * 10 ^ s.zeros ≡ 0 = omega arith in z) in
    let after : numeral_value (digits ++ 48 ∷ []) ≡ 0 = numeral_value-push digits 48 ∙ (let z : numeral_value digits * 10 + (48 - 48) ≡ 0 = omega arith in z) in
    let same : numeral_value (core_of (digits ++ 48 ∷ [])) ≡ numeral_value (core_of digits) = ap numeral_value (core_zero digits) in
    record {
      number = number ∙ ap (λ n. min n (2 ^ 128 - 1)) (sym same);
      value = after ∙ sym (ap (λ n. n * 10 ^ s.zeros) (same ∙ core) ∙ (let z : 0 * 10 ^ s.zeros ≡ 0 = omega arith in z));
    }
zero_step digits s false e is =
    let same : numeral_value (core_of (digits ++ 48 ∷ [])) ≡ numeral_value (core_of digits) = ap numeral_value (core_zero digits) in
    let power : 10 ^ (s.zeros + 1) ≡ 10 ^ s.zeros * 10 = pow_more 10 s.zeros in
    record {
      number = is.number ∙ ap (λ n. min n (2 ^ 128 - 1)) (sym same);
      value = numeral_value-push digits 48
          ∙ (let z : numeral_value digits * 10 + (48 - 48) ≡ numeral_value digits * 10 = omega arith in z)
          ∙ ap (λ n. n * 10) is.value
          ∙ (let z : numeral_value (core_of digits) * 10 ^ s.zeros * 10 ≡ numeral_value (core_of digits) * (10 ^ s.zeros * 10) = omega arith in z)
          ∙ ap₂ (λ x y. x * y) (sym same) (sym power);
    }

digit_step : (digits : List ℕ) (s : Significant) (digit : ℕ) (t : Bool) → eqb digit 48 ≡ t → IsSignificant digits s
    → IsSignificant (digits ++ digit ∷ [])
    (cond t (cond (eqb s.number 0) s (record { number = s.number; zeros = s.zeros + 1 })) (record { number = min (s.number * 10 ^ (s.zeros + 1) + (digit - 48)) (2 ^ 128 - 1); zeros = 0 }))
digit_step digits s digit true e is =
    let none : digit ≡ 48 = eqb-true digit 48 e in
    let t = cond (eqb s.number 0) s (record { number = s.number; zeros = s.zeros + 1 }) in
    subst (λ d. IsSignificant (digits ++ d ∷ []) t) (sym none) (zero_step digits s (eqb s.number 0) refl is)
digit_step digits s digit false e is =
    let m = numeral_value (core_of digits) in
    let power : 10 ^ (s.zeros + 1) ≡ 10 ^ s.zeros * 10 = pow_more 10 s.zeros in
    let some : 0 < 10 ^ (s.zeros + 1) = ten_some (s.zeros + 1) in
    let shifted : numeral_value digits * 10 ≡ m * 10 ^ (s.zeros + 1) =
    ap (λ n. n * 10) is.value ∙ (let z : m * 10 ^ s.zeros * 10 ≡ m * (10 ^ s.zeros * 10) = omega arith in z) ∙ ap (λ n. m * n) (sym power) in
    let core : numeral_value (core_of (digits ++ digit ∷ [])) ≡ m * 10 ^ (s.zeros + 1) + (digit - 48) = core_push digits digit e ∙ ap (λ n. n + (digit - 48)) shifted in
    let whole : numeral_value (digits ++ digit ∷ []) ≡ numeral_value (core_of (digits ++ digit ∷ [])) = numeral_value-push digits digit ∙ sym (core_push digits digit e) in
    record {
      number = ap (λ n. min (n * 10 ^ (s.zeros + 1) + (digit - 48)) (2 ^ 128 - 1)) is.number
          ∙ bounded m (2 ^ 128 - 1) (10 ^ (s.zeros + 1)) (digit - 48) some
          ∙ ap (λ n. min n (2 ^ 128 - 1)) (sym core);
      value = whole ∙ (let z : numeral_value (core_of (digits ++ digit ∷ [])) ≡ numeral_value (core_of (digits ++ digit ∷ [])) * 1 = omega arith in z);
    }

significant_digit_more : (digits : List ℕ) (s : Significant) (digit : ℕ) → IsSignificant digits s → IsSignificant (digits ++ digit ∷ []) (with_digit s digit)
unfolding with_digit
significant_digit_more digits s digit is = digit_step digits s digit (eqb digit 48) refl is

pub many_more : (digits more : List ℕ) (s : Significant) → IsSignificant digits s → IsSignificant (digits ++ more) (with_digits s more)
unfolding with_digits
many_more digits [] s is = subst (λ ds. IsSignificant ds s) (sym (append-nil digits)) is
many_more digits (digit ∷ more) s is =
    subst (λ ds. IsSignificant ds (with_digits (with_digit s digit) more)) (append_assoc digits (digit ∷ []) more)
    (many_more (digits ++ digit ∷ []) more (with_digit s digit) (significant_digit_more digits s digit is))

-- one digit more of those that are left
pub with_digits-drop : (s : Significant) (digits : List ℕ) (i : ℕ) → i < length digits → with_digits (with_digit s (get_or digits i 0)) (drop (i + 1) digits) ≡ with_digits s (drop i digits)
unfolding with_digits
with_digits-drop s digits i h =
    let next : i + 1 ≡ suc i = omega arith in
    ap (λ n. with_digits (with_digit s (get_or digits i 0)) (drop n digits)) next ∙ sym (ap (λ ds. with_digits s ds) (drop-cons digits i 0 h))

pub with_digits-end : (s : Significant) (digits : List ℕ) (i : ℕ) → length digits ≤ i → with_digits s (drop i digits) ≡ s
unfolding with_digits
with_digits-end s digits i h = ap (λ ds. with_digits s ds) (drop_all i digits h)

-- ---- how many digits there are

-- the first digit isn't 0
abbrev IsAboveZero : List ℕ → Type 0
IsAboveZero [] = ⊤
IsAboveZero (digit ∷ digits) = 1 ≤ digit - 48

-- digits, of which the first isn't 0
record IsCore (digits : List ℕ) : Type 0 where
  all : are_digits digits ≡ true
  first : IsAboveZero digits

above_zero : (digit : ℕ) → is_ascii_digit digit ≡ true → eqb digit 48 ≡ false → 1 ≤ digit - 48
above_zero digit all e = grind (arith, nat_tests)

first_core : (digit : ℕ) (digits : List ℕ) (t : Bool) → eqb digit 48 ≡ t → are_digits (digit ∷ digits) ≡ true → IsCore (without_first_zeros digits)
    → IsCore (cond t (without_first_zeros digits) (digit ∷ digits))
first_core digit digits true e all ih = ih
first_core digit digits false e all ih = record { all = all; first = above_zero digit (first_digit digit digits all) e }

without_first_core : (digits : List ℕ) → are_digits digits ≡ true → IsCore (without_first_zeros digits)
without_first_core [] all = record { all = refl; first = tt }
without_first_core (digit ∷ digits) all = first_core digit digits (eqb digit 48) refl all (without_first_core digits (rest_digits digit digits all))

last_all_step : (digit : ℕ) (digits : List ℕ) (t : Bool) → is_ascii_digit digit ≡ true → are_digits (without_last_zeros digits) ≡ true
    → are_digits (cond t [] (digit ∷ without_last_zeros digits)) ≡ true
last_all_step digit digits true e ih = refl
last_all_step digit digits false e ih = rw (e, ih) refl

last_all : (digits : List ℕ) → are_digits digits ≡ true → are_digits (without_last_zeros digits) ≡ true
last_all [] all = refl
last_all (digit ∷ digits) all = last_all_step digit digits (list_all is_zero_digit (digit ∷ digits)) (first_digit digit digits all) (last_all digits (rest_digits digit digits all))

last_first_step : (digit : ℕ) (digits : List ℕ) (t : Bool) → 1 ≤ digit - 48 → IsAboveZero (cond t [] (digit ∷ without_last_zeros digits))
last_first_step digit digits true some = tt
last_first_step digit digits false some = some

last_first : (digits : List ℕ) → IsAboveZero digits → IsAboveZero (without_last_zeros digits)
last_first [] first = tt
last_first (digit ∷ digits) first = last_first_step digit digits (list_all is_zero_digit (digit ∷ digits)) first

core_is : (digits : List ℕ) → are_digits digits ≡ true → IsCore (core_of digits)
core_is digits all = let first = without_first_core digits all in record { all = last_all (without_first_zeros digits) first.all; first = last_first (without_first_zeros digits) first.first }

at_least : (digits : List ℕ) → IsAboveZero digits → 38 < length digits → 10 ^ 38 ≤ numeral_value digits
unfolding numeral_value
at_least [] first many = absurd (omega arith)
at_least (digit ∷ digits) first many =
    let more : 38 ≤ length digits = omega arith in
    let ten : 0 < 10 = omega arith in
    let power : 10 ^ 38 ≤ 10 ^ length digits = pow-le-pow_right ten more in
    let weight : 1 * 10 ^ length digits ≤ (digit - 48) * 10 ^ length digits = mul-le-mul_right (10 ^ length digits) first in
    omega arith

pub few_digits : (digits : List ℕ) → are_digits digits ≡ true → numeral_value (core_of digits) < 10 ^ 38 → length (core_of digits) ≤ 38
few_digits digits all small = elim (cases_lt 38 (length (core_of digits))) [
  | inl many ↦ let large = at_least (core_of digits) (core_is digits all).first many in absurd (omega arith)
  | inr few ↦ few
]

pub many_digits : (digits : List ℕ) → are_digits digits ≡ true → 10 ^ 38 ≤ numeral_value (core_of digits) → 38 < length (core_of digits)
many_digits digits all large = elim (cases_lt 38 (length (core_of digits))) [
  | inl many ↦ many
  | inr few ↦
      let below = value_below (core_of digits) (core_is digits all).all in
      let ten : 0 < 10 = omega arith in
      let power : 10 ^ length (core_of digits) ≤ 10 ^ 38 = pow-le-pow_right ten few in
      absurd (omega arith)
]
