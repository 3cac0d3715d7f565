-- Numbers in the order of their digits.
use Rattle.std.proofs.Common.{◌≡◌, ◌≢◌, ℕ, zero, suc, ◌+◌, ◌-◌, ◌*◌, ◌<◌, ◌≤◌, ◌^◌, Bool, true, false, not, ◌&&◌, List, [], ◌∷◌, length, get_or, pos, Option, None, Some, refl, sym, ap, ap₂, ◌∙◌, subst, inl, inr, arith}
use Rattle.std.specs.Prelude.{◌||◌, ◌==◌, ◌⊎◌, nat_lt, int_lt, if◌then◌else◌}
use Rattle.std.specs.Option.{option_map}
use Rattle.std.specs.Char.{is_ascii_digit}
use Rattle.std.proofs.lemmas.Bool.Decides.{nat_tests}
use Rattle.std.proofs.Math.Nat.{suc-mul, mul-le-mul_right, pow-le-pow_right}
use Rattle.qm_frac.specs.Signs.{signed}
use Rattle.qm_text.specs.Digits.{are_digits, is_numeral, is_plain_numeral, numeral_value}
use Rattle.qm_text.proofs.Written.{value_below}
use Rattle.qm_certread.specs.Spelling.{below_zero, natural_of, whole_of, written}
use Rattle.qm_certread.proofs.Decoded.{natural_is}
use Rattle.qm_certread.specs.WordSteps.{IsRow, IsSignedDigits, digits_before, is_counting}

-- ---- tests

pub same_test : (a b c d : ℕ) → (a < b → c < d) → (c < d → a < b) → nat_lt a b ≡ nat_lt c d
same_test a b c d f g =
    elim (nat_lt a b) as (λ t. nat_lt a b ≡ t → t ≡ nat_lt c d) [
      | true ↦ λ e. let less : a < b = grind (arith, nat_tests) in let other = f less in grind (arith, nat_tests)
      | false ↦ λ e. let more : b ≤ a = grind (arith, nat_tests) in let other : ¬ (c < d) = (λ h. let bad = g h in absurd (omega arith)) in grind (arith, nat_tests)
    ] refl

yes : (a b : ℕ) → a < b → true ≡ nat_lt a b
yes a b h = grind (arith, nat_tests)

no : (a b : ℕ) → b ≤ a → false ≡ nat_lt a b
no a b h = grind (arith, nat_tests)

pub both : (b c : Bool) → b && c ≡ true → (b ≡ true) × (c ≡ true)
both true c e = (refl, e)
both false c e = absurd cc

-- ---- digits

rest_digits : (d : ℕ) (ds : List ℕ) → are_digits (d ∷ ds) ≡ true → (48 ≤ d) × (are_digits ds ≡ true)
rest_digits d ds all = let pair = both (is_ascii_digit d) (are_digits ds) all in let here : is_ascii_digit d ≡ true = pair.0 in (grind (arith, nat_tests), pair.1)

heavier : (a b p v w : ℕ) → a < b → v < p → a * p + v < b * p + w
heavier a b p v w h below =
    let one : suc a ≤ b = omega arith in
    let most : suc a * p ≤ b * p = mul-le-mul_right p one in
    let step = suc-mul a p in
    omega arith

-- digits of one length, by the first that differs
by_first : (t : Bool) (x y : ℕ) (xs ys : List ℕ) → (x == y) ≡ t → 48 ≤ x → 48 ≤ y → are_digits xs ≡ true → are_digits ys ≡ true → length xs ≡ length ys
    → digits_before xs ys ≡ nat_lt (numeral_value xs) (numeral_value ys)
    → (if t then digits_before xs ys else nat_lt x y) ≡ nat_lt ((x - 48) * 10 ^ length xs + numeral_value xs) ((y - 48) * 10 ^ length ys + numeral_value ys)
by_first true x y xs ys is low other all every len rest =
    let same : x ≡ y = grind (arith, nat_tests) in
    let weight : (x - 48) * 10 ^ length xs ≡ (y - 48) * 10 ^ length ys = ap₂ (λ (d : ℕ) (n : ℕ). (d - 48) * 10 ^ n) same len in
    rest ∙ same_test (numeral_value xs) (numeral_value ys) ((x - 48) * 10 ^ length xs + numeral_value xs) ((y - 48) * 10 ^ length ys + numeral_value ys) (λ h. omega arith) (λ h. omega arith)
by_first false x y xs ys is low other all every len rest =
    let first : numeral_value xs < 10 ^ length xs = value_below xs all in
    let second : numeral_value ys < 10 ^ length xs = subst (λ n. numeral_value ys < 10 ^ n) (sym len) (value_below ys every) in
    let power : 10 ^ length xs ≡ 10 ^ length ys = ap (λ n. 10 ^ n) len in
    let apart : x ≢ y = grind (arith, nat_tests) in
    elim (nat_lt x y) as (λ t. nat_lt x y ≡ t → t ≡ nat_lt ((x - 48) * 10 ^ length xs + numeral_value xs) ((y - 48) * 10 ^ length ys + numeral_value ys)) [
      | true ↦ λ e.
          let less : x < y = grind (arith, nat_tests) in
          let h = heavier (x - 48) (y - 48) (10 ^ length xs) (numeral_value xs) (numeral_value ys) (omega arith) first in
          yes ((x - 48) * 10 ^ length xs + numeral_value xs) ((y - 48) * 10 ^ length ys + numeral_value ys) (subst (λ p. (x - 48) * 10 ^ length xs + numeral_value xs < (y - 48) * p + numeral_value ys) power h)
      | false ↦ λ e.
          let more : y ≤ x = grind (arith, nat_tests) in
          let h = heavier (y - 48) (x - 48) (10 ^ length xs) (numeral_value ys) (numeral_value xs) (omega arith) second in
          let k : (y - 48) * 10 ^ length ys + numeral_value ys < (x - 48) * 10 ^ length xs + numeral_value xs = subst (λ p. (y - 48) * p + numeral_value ys < (x - 48) * 10 ^ length xs + numeral_value xs) power h in
          no ((x - 48) * 10 ^ length xs + numeral_value xs) ((y - 48) * 10 ^ length ys + numeral_value ys) (omega arith)
    ] refl

pub before_is : (xs ys : List ℕ) → are_digits xs ≡ true → are_digits ys ≡ true → length xs ≡ length ys → digits_before xs ys ≡ nat_lt (numeral_value xs) (numeral_value ys)
unfolding numeral_value
before_is [] [] all every len = refl
before_is [] (y ∷ ys) all every len = absurd (omega arith)
before_is (x ∷ xs) [] all every len = absurd (omega arith)
before_is (x ∷ xs) (y ∷ ys) all every len =
    let first = rest_digits x xs all in
    let second = rest_digits y ys every in
    let rest : length xs ≡ length ys = omega arith in
    by_first (x == y) x y xs ys refl first.0 second.0 first.1 second.1 rest (before_is xs ys first.1 second.1 rest)

-- ---- numbers without a leading zero

pub digits_of_counting : (ds : List ℕ) → is_counting ds ≡ true → are_digits ds ≡ true
digits_of_counting ds h = (both (nat_lt 0 (length ds)) (are_digits ds) (both (is_numeral ds) (not (get_or ds 0 0 == 48)) h).0).1

pub first_of_counting : (ds : List ℕ) → is_counting ds ≡ true → get_or ds 0 0 ≢ 48
first_of_counting ds h = let first : not (get_or ds 0 0 == 48) ≡ true = (both (is_numeral ds) (not (get_or ds 0 0 == 48)) h).1 in grind (arith, nat_tests)

value_low : (d : ℕ) (ds : List ℕ) → is_counting (d ∷ ds) ≡ true → 10 ^ length ds ≤ numeral_value (d ∷ ds)
unfolding numeral_value
value_low d ds h =
    let low = (rest_digits d ds (digits_of_counting (d ∷ ds) h)).0 in
    let other : d ≢ 48 = first_of_counting (d ∷ ds) h in
    let one : 1 ≤ d - 48 = omega arith in
    let least : 1 * 10 ^ length ds ≤ (d - 48) * 10 ^ length ds = mul-le-mul_right (10 ^ length ds) one in
    omega arith

pub fewer_less : (xs ys : List ℕ) → is_counting xs ≡ true → is_counting ys ≡ true → length xs < length ys → numeral_value xs < numeral_value ys
fewer_less xs [] h k len = absurd (omega arith)
fewer_less xs (y ∷ ys) h k len =
    let below = value_below xs (digits_of_counting xs h) in
    let ten : 0 < 10 = omega arith in
    let power : 10 ^ length xs ≤ 10 ^ length ys = pow-le-pow_right ten (omega arith) in
    let above = value_low y ys k in
    omega arith

pub shorter : (xs ys : List ℕ) → is_counting xs ≡ true → is_counting ys ≡ true → length xs < length ys → nat_lt (length xs) (length ys) ≡ nat_lt (numeral_value xs) (numeral_value ys)
shorter xs ys h k len = let less = fewer_less xs ys h k len in sym (yes (length xs) (length ys) len) ∙ yes (numeral_value xs) (numeral_value ys) less

pub longer : (xs ys : List ℕ) → is_counting xs ≡ true → is_counting ys ≡ true → length ys ≤ length xs → length xs ≢ length ys → (length xs == length ys) ≡ nat_lt (numeral_value xs) (numeral_value ys)
longer xs ys h k len apart =
    let less = fewer_less ys xs k h (omega arith) in
    let other : (length xs == length ys) ≡ false = grind (arith, nat_tests) in
    other ∙ no (numeral_value xs) (numeral_value ys) (omega arith)

pub counting_some : (ds : List ℕ) → is_counting ds ≡ true → 0 < numeral_value ds
counting_some [] h = absurd cc
counting_some (d ∷ ds) h =
    let low = value_low d ds h in
    let ten : 0 < 10 = omega arith in
    let power : 10 ^ 0 ≤ 10 ^ length ds = pow-le-pow_right ten {i = 0} (omega arith) in
    omega arith

-- ---- with a sign

-- a number below 0 is less than one above
pub signed_less : (s t : Bool) (m n : ℕ) → 0 < m → 0 < n → int_lt (signed s m) (signed t n) ≡ (if s then (if t then nat_lt n m else true) else (if t then false else nat_lt m n))
signed_less false false m n h k = refl
signed_less false true m (suc n) h k = refl
signed_less false true m zero h k = absurd (omega arith)
signed_less true false (suc m) n h k = refl
signed_less true false zero n h k = absurd (omega arith)
signed_less true true (suc m) (suc n) h k = same_test n m (suc n) (suc m) (λ l. omega arith) (λ l. omega arith)
signed_less true true zero n h k = absurd (omega arith)
signed_less true true (suc m) zero h k = absurd (omega arith)

by_signs : (s t : Bool) (m n : ℕ) → s ≡ true → not t ≡ true → (if s then (if t then nat_lt n m else true) else (if t then false else nat_lt m n)) ≡ true
by_signs true true m n e f = absurd cc
by_signs true false m n e f = refl
by_signs false t m n e f = absurd cc

pub signed_apart : (s t : Bool) (m n : ℕ) → s ≡ true → not t ≡ true → 0 < m → 0 < n → not t ≡ int_lt (signed s m) (signed t n)
signed_apart s t m n e f h k = f ∙ sym (signed_less s t m n h k ∙ by_signs s t m n e f)

-- ---- rows as they are written

-- a numeral whose first digit isn't 0
pub is_counting_by : (ds : List ℕ) → is_plain_numeral ds ≡ true → get_or ds 0 0 ≢ 48 → is_counting ds ≡ true
is_counting_by ds plain first =
    let numeral = (both (is_numeral ds) ((length ds == 1) || not (get_or ds 0 0 == 48)) plain).0 in
    let other : not (get_or ds 0 0 == 48) ≡ true = grind (arith, nat_tests) in
    rw (numeral, other) refl

plain_of_counting : (ds : List ℕ) → is_counting ds ≡ true → is_plain_numeral ds ≡ true
plain_of_counting ds h =
    let pair = both (is_numeral ds) (not (get_or ds 0 0 == 48)) h in
    grind (arith, pair.0, pair.1)

pub zero_of_plain : (ds : List ℕ) → is_plain_numeral ds ≡ true → is_counting ds ≡ false → numeral_value ds ≡ 0
unfolding numeral_value
zero_of_plain [] plain h = refl
zero_of_plain (d ∷ []) plain h =
    let first : d ≡ 48 = grind (arith, nat_tests) in
    omega arith
zero_of_plain (d ∷ x ∷ ds) plain h = absurd (grind (arith, nat_tests))

some_counting : (ds : List ℕ) → is_counting ds ≡ true → (n : ℕ) × (numeral_value ds ≡ suc n)
some_counting ds h = let some = counting_some ds h in (numeral_value ds - 1, omega arith)

below_row : (kind n v : ℕ) → v ≡ suc n → written (Some kind) (below_zero (Some v)) ≡ Some (record { kind = kind; number = signed true v })
below_row kind n v e = subst (λ m. written (Some kind) (below_zero (Some m)) ≡ Some (record { kind = kind; number = signed true m })) (sym e) refl

above_row : (kind n v : ℕ) → v ≡ suc n → written (Some kind) (Some (pos v)) ≡ Some (record { kind = kind; number = signed false v })
above_row kind n v e = subst (λ m. written (Some kind) (Some (pos m)) ≡ Some (record { kind = kind; number = signed false m })) (sym e) refl

whole_without : (word : List ℕ) → get_or word 0 0 ≢ 45 → whole_of word ≡ option_map pos (natural_of word)
whole_without [] first = refl
whole_without (b ∷ word) first =
    let other : (b == 45) ≡ false = grind (arith, nat_tests) in
    rw other refl

pub numbered_some : (kind : ℕ) (number digits : List ℕ) (minus : Bool) → IsSignedDigits number minus digits → is_counting digits ≡ true → IsRow (written (Some kind) (whole_of number)) kind minus digits
numbered_some kind number digits minus (inl (sign, is)) h =
    let n = some_counting digits h in
    let value = natural_is digits (numeral_value digits) (plain_of_counting digits h, refl) in (
      ap (λ w. written (Some kind) (whole_of w)) is ∙ ap (λ o. written (Some kind) (below_zero o)) value ∙ below_row kind n.0 (numeral_value digits) n.1
          ∙ ap (λ s. Some (record { kind = kind; number = signed s (numeral_value digits) })) (sym sign),
      h,
    )
numbered_some kind number digits minus (inr (sign, is, first)) h =
    let n = some_counting digits h in
    let value = natural_is digits (numeral_value digits) (plain_of_counting digits h, refl) in (
      ap (λ o. written (Some kind) o) (whole_without number first ∙ ap (λ w. option_map pos (natural_of w)) is ∙ ap (option_map pos) value) ∙ above_row kind n.0 (numeral_value digits) n.1
          ∙ ap (λ s. Some (record { kind = kind; number = signed s (numeral_value digits) })) (sym sign),
      h,
    )

none_natural : (t : Bool) (digits : List ℕ) → is_plain_numeral digits ≡ t → is_counting digits ≡ false → (natural_of digits ≡ None) ⊎ (natural_of digits ≡ Some 0)
none_natural true digits is h = inr (rw is (ap Some (zero_of_plain digits is h)))
none_natural false digits is h = inl (rw is refl)

none_below : (kind : ℕ) (o : Option ℕ) → (o ≡ None) ⊎ (o ≡ Some 0) → written (Some kind) (below_zero o) ≡ None
none_below kind o (inl e) = ap (λ o. written (Some kind) (below_zero o)) e
none_below kind o (inr e) = ap (λ o. written (Some kind) (below_zero o)) e

none_above : (kind : ℕ) (o : Option ℕ) → (o ≡ None) ⊎ (o ≡ Some 0) → written (Some kind) (option_map pos o) ≡ None
none_above kind o (inl e) = ap (λ o. written (Some kind) (option_map pos o)) e
none_above kind o (inr e) = ap (λ o. written (Some kind) (option_map pos o)) e

pub numbered_none : (kind : ℕ) (number digits : List ℕ) (minus : Bool) → IsSignedDigits number minus digits → is_counting digits ≡ false → written (Some kind) (whole_of number) ≡ None
numbered_none kind number digits minus (inl (sign, is)) h =
    ap (λ w. written (Some kind) (whole_of w)) is ∙ none_below kind (natural_of digits) (none_natural (is_plain_numeral digits) digits refl h)
numbered_none kind number digits minus (inr (sign, is, first)) h =
    ap (λ o. written (Some kind) o) (whole_without number first ∙ ap (λ w. option_map pos (natural_of w)) is) ∙ none_above kind (natural_of digits) (none_natural (is_plain_numeral digits) digits refl h)
