-- Numbers by tests of their parts, and that these are what spells a decimal.
use Rattle.std.proofs.Common.{◌≡◌, ℕ, ◌<◌, Bool, true, false, cond, ◌&&◌, List, [], ◌∷◌, ◌++◌, ◌⊎◌, if◌then◌else◌, length, append_assoc, IsTrue, ℤ, pos, neg_ℤ, refl, sym, ap, ◌∙◌, subst, arith, inl, inr}
use Rattle.std.specs.Prelude.{codes}
use Rattle.std.specs.Char.{is_ascii_digit}
use Rattle.std.specs.List.{list_all}
use Rattle.std.proofs.lemmas.Bool.Decides.{nat_tests}
use Rattle.std.proofs.lemmas.List.{append-nil}
use Rattle.std.proofs.lemmas.Bool.{and_parts}
use Rattle.qm_text.specs.Digits.{is_numeral, numeral_value}
use Rattle.qm_text.specs.Decimals.{SpellsDigits, SpellsExponent, SpellsPower}
use Rattle.qm_text.proofs.Spellings.{one_of_two}
use Rattle.qm_lex.specs.Bytes.{begins_exponent, is_sign}
use Rattle.qm_lex.specs.Numbers.{IsNumber}

-- digits, one or more
abbrev pub are_some_digits : List ℕ → Bool
are_some_digits [] = false
are_some_digits (byte ∷ word) = is_ascii_digit byte && list_all is_ascii_digit word

-- digits, with a sign before them or without one
abbrev pub are_signed_digits : List ℕ → Bool
are_signed_digits [] = false
are_signed_digits (byte ∷ word) = if is_sign byte then are_some_digits word else are_some_digits (byte ∷ word)

-- an exponent, or nothing
abbrev pub is_exponent : List ℕ → Bool
is_exponent [] = true
is_exponent (byte ∷ word) = begins_exponent byte && are_signed_digits word

-- digits with a point among them, before them or behind them
pub record HasPoint (word : List ℕ) : Type 0 where
  pub whole : List ℕ
  pub decimals : List ℕ
  pub spelled : word ≡ whole ++ codes "." ++ decimals
  pub digits : IsTrue (are_some_digits (whole ++ decimals))

-- digits, with a point or without one, and behind them an exponent or nothing, by tests
pub record HasParts (word : List ℕ) : Type 0 where
  pub mantissa : List ℕ
  pub exponent : List ℕ
  pub spelled : word ≡ mantissa ++ exponent
  pub digits : IsTrue (are_some_digits mantissa) ⊎ HasPoint mantissa
  pub ends : IsTrue (is_exponent exponent)

-- the same digits
numeral_is : (word : List ℕ) → is_numeral word ≡ are_some_digits word
numeral_is [] = refl
numeral_is (byte ∷ word) = let some : 0 < length (byte ∷ word) = omega arith in grind (arith, nat_tests)

to_numeral : (word : List ℕ) → are_some_digits word ≡ true → IsTrue (is_numeral word)
to_numeral word is = numeral_is word ∙ is

from_numeral : (word : List ℕ) → IsTrue (is_numeral word) → are_some_digits word ≡ true
from_numeral word is = sym (numeral_is word) ∙ is

-- ---- from the tests to the spelling

to_signed : (byte : ℕ) (word : List ℕ) → (byte ≡ 43) ⊎ (byte ≡ 45) → are_some_digits word ≡ true → (n : ℤ) × SpellsPower (byte ∷ word) n
to_signed byte word (inl e) is = (pos (numeral_value word), (word, to_numeral word is, inr (inl (ap (λ (b : ℕ). b ∷ word) e), refl)))
to_signed byte word (inr e) is = (neg_ℤ (pos (numeral_value word)), (word, to_numeral word is, inl (ap (λ (b : ℕ). b ∷ word) e, refl)))

power_step : (byte : ℕ) (word : List ℕ) (t : Bool) → is_sign byte ≡ t → cond t (are_some_digits word) (are_some_digits (byte ∷ word)) ≡ true → (n : ℤ) × SpellsPower (byte ∷ word) n
power_step byte word true e is = to_signed byte word (one_of_two byte 43 45 e) is
power_step byte word false e is = (pos (numeral_value (byte ∷ word)), (byte ∷ word, to_numeral (byte ∷ word) is, inr (inr refl, refl)))

to_power : (word : List ℕ) → are_signed_digits word ≡ true → (n : ℤ) × SpellsPower word n
to_power [] is = absurd cc
to_power (byte ∷ word) is = power_step byte word (is_sign byte) refl is

exponent_step : (byte : ℕ) (word : List ℕ) → (byte ≡ 101) ⊎ (byte ≡ 69) → (n : ℤ) × SpellsPower word n → (n : ℤ) × SpellsExponent (byte ∷ word) n
exponent_step byte word (inl e) power = (power.0, inr (word, inl (ap (λ (b : ℕ). b ∷ word) e), power.1))
exponent_step byte word (inr e) power = (power.0, inr (word, inr (ap (λ (b : ℕ). b ∷ word) e), power.1))

to_exponent : (word : List ℕ) → is_exponent word ≡ true → (n : ℤ) × SpellsExponent word n
to_exponent [] is = (pos 0, inl (refl, refl))
to_exponent (byte ∷ word) is =
    let parts = and_parts (begins_exponent byte) (are_signed_digits word) is in
    exponent_step byte word (one_of_two byte 101 69 parts.0) (to_power word parts.1)

to_digits : (word : List ℕ) → (are_some_digits word ≡ true) ⊎ HasPoint word → (before : List ℕ) × (behind : List ℕ) × SpellsDigits word before behind
to_digits word (inl is) = (word, [], (subst (λ (w : List ℕ). IsTrue (is_numeral w)) (sym (append-nil word)) (to_numeral word is), inr (refl, refl)))
to_digits word (inr point) =
    (point.whole, point.decimals, (to_numeral (point.whole ++ point.decimals) point.digits, inl (point.spelled ∙ append_assoc point.whole (46 ∷ []) point.decimals)))

pub to_number : (word : List ℕ) → HasParts word → IsNumber word
to_number word is =
    let digits = to_digits is.mantissa is.digits in
    let exponent = to_exponent is.exponent is.ends in
    (record { before = digits.0; behind = digits.1; exponent = exponent.0 }, record { front = is.mantissa; back = is.exponent; parts = is.spelled; digits = digits.2; exponent = exponent.1 })

-- ---- and back

digit_no_sign : (byte : ℕ) → is_ascii_digit byte ≡ true → is_sign byte ≡ false
digit_no_sign byte e = grind (arith, nat_tests)

unsigned_digits : (word : List ℕ) → are_some_digits word ≡ true → are_signed_digits word ≡ true
unsigned_digits [] is = absurd cc
unsigned_digits (byte ∷ word) is =
    let parts = and_parts (is_ascii_digit byte) (list_all is_ascii_digit word) is in
    rw (digit_no_sign byte parts.0) is

from_power : (word : List ℕ) (n : ℤ) → SpellsPower word n → are_signed_digits word ≡ true
from_power word n (digits, is, inl p) = ap are_signed_digits p.0 ∙ from_numeral digits is
from_power word n (digits, is, inr (inl e, p)) = ap are_signed_digits e ∙ from_numeral digits is
from_power word n (digits, is, inr (inr e, p)) = ap are_signed_digits e ∙ unsigned_digits digits (from_numeral digits is)

from_exponent : (word : List ℕ) (n : ℤ) → SpellsExponent word n → is_exponent word ≡ true
from_exponent word n (inl p) = ap is_exponent p.0
from_exponent word n (inr (power, inl e, is)) = ap is_exponent e ∙ from_power power n is
from_exponent word n (inr (power, inr e, is)) = ap is_exponent e ∙ from_power power n is

from_digits : (word before behind : List ℕ) → SpellsDigits word before behind → (are_some_digits word ≡ true) ⊎ HasPoint word
from_digits word before behind (is, inl e) =
    inr (record { whole = before; decimals = behind; spelled = e ∙ sym (append_assoc before (46 ∷ []) behind); digits = from_numeral (before ++ behind) is })
from_digits word before behind (is, inr p) =
    let same : before ++ behind ≡ word = ap (λ (t : List ℕ). before ++ t) p.1 ∙ append-nil before ∙ sym p.0 in
    inl (from_numeral word (subst (λ (w : List ℕ). IsTrue (is_numeral w)) same is))

pub from_number : (word : List ℕ) → IsNumber word → HasParts word
from_number word (d, is) = record {
  mantissa = is.front;
  exponent = is.back;
  spelled = is.parts;
  digits = from_digits is.front d.before d.behind is.digits;
  ends = from_exponent is.back d.exponent is.exponent;
}
