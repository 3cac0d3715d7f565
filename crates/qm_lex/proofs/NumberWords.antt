-- Numbers, by what may stand at each place.
use Rattle.std.proofs.Common.{◌≡◌, ℕ, Bool, true, false, cond, ◌&&◌, List, [], ◌∷◌, ◌++◌, ◌==◌, ◌⊎◌, if◌then◌else◌, eqb, eqb-true, append_assoc, refl, sym, ap, ◌∙◌, arith, inl, inr}
use Rattle.std.specs.Char.{is_ascii_digit}
use Rattle.std.specs.List.{list_all}
use Rattle.std.proofs.lemmas.Bool.Decides.{nat_tests}
use Rattle.std.proofs.lemmas.Bool.{and_parts}
use Rattle.qm_lex.specs.Bytes.{begins_exponent}
use Rattle.qm_lex.specs.Numbers.{IsNumber}
use Rattle.qm_lex.proofs.NumberParts.{are_some_digits, are_signed_digits, is_exponent, HasParts, HasPoint, from_number, to_number}

-- what may stand behind the point of a number that has a digit: digits, then an exponent or nothing
abbrev pub is_behind_point : List ℕ → Bool
is_behind_point [] = true
is_behind_point (byte ∷ word) = if is_ascii_digit byte then is_behind_point word else is_exponent (byte ∷ word)

-- what may stand behind the first digit of a number: digits, then a point and what may stand behind it, or an exponent or nothing
abbrev pub is_behind_digit : List ℕ → Bool
is_behind_digit [] = true
is_behind_digit (byte ∷ word) =
    if is_ascii_digit byte then is_behind_digit word
    else if byte == 46 then is_behind_point word
    else is_exponent (byte ∷ word)

-- a digit, and what may stand behind the point
abbrev pub is_fraction : List ℕ → Bool
is_fraction [] = false
is_fraction (byte ∷ word) = is_ascii_digit byte && is_behind_point word

-- a number begins with a digit, or with a point and a digit
abbrev pub is_number : List ℕ → Bool
is_number [] = false
is_number (byte ∷ word) = if is_ascii_digit byte then is_behind_digit word else (byte == 46) && is_fraction word

all_and : (byte : ℕ) (word : List ℕ) → is_ascii_digit byte ≡ true → list_all is_ascii_digit word ≡ true → list_all is_ascii_digit (byte ∷ word) ≡ true
all_and byte word p q = rw (p, q) refl

-- decimals, and an exponent or nothing
record IsBehindPoint (word : List ℕ) : Type 0 where
  decimals : List ℕ
  exponent : List ℕ
  spelled : word ≡ decimals ++ exponent
  digits : list_all is_ascii_digit decimals ≡ true
  ends : is_exponent exponent ≡ true

point_digit : (byte : ℕ) (word : List ℕ) → is_ascii_digit byte ≡ true → IsBehindPoint word → IsBehindPoint (byte ∷ word)
point_digit byte word e is = record {
  decimals = byte ∷ is.decimals;
  exponent = is.exponent;
  spelled = ap (λ (rest : List ℕ). byte ∷ rest) is.spelled;
  digits = all_and byte is.decimals e is.digits;
  ends = is.ends;
}

behind_point_step : (byte : ℕ) (word : List ℕ) (t : Bool) → is_ascii_digit byte ≡ t → (is_behind_point word ≡ true → IsBehindPoint word)
    → cond t (is_behind_point word) (is_exponent (byte ∷ word)) ≡ true → IsBehindPoint (byte ∷ word)
behind_point_step byte word true e rest is = point_digit byte word e (rest is)
behind_point_step byte word false e rest is = record { decimals = []; exponent = byte ∷ word; spelled = refl; digits = refl; ends = is }

behind_point : (word : List ℕ) → is_behind_point word ≡ true → IsBehindPoint word
behind_point [] is = record { decimals = []; exponent = []; spelled = refl; digits = refl; ends = refl }
behind_point (byte ∷ word) is = behind_point_step byte word (is_ascii_digit byte) refl (behind_point word) is

-- digits, then a point and what may stand behind it, or an exponent or nothing
record IsBehindDigit (word : List ℕ) : Type 0 where
  whole : List ℕ
  rest : List ℕ
  spelled : word ≡ whole ++ rest
  digits : list_all is_ascii_digit whole ≡ true
  ends : (is_exponent rest ≡ true) ⊎ ((decimals : List ℕ) × (rest ≡ 46 ∷ decimals) × IsBehindPoint decimals)

digit_digit : (byte : ℕ) (word : List ℕ) → is_ascii_digit byte ≡ true → IsBehindDigit word → IsBehindDigit (byte ∷ word)
digit_digit byte word e is = record {
  whole = byte ∷ is.whole;
  rest = is.rest;
  spelled = ap (λ (rest : List ℕ). byte ∷ rest) is.spelled;
  digits = all_and byte is.whole e is.digits;
  ends = is.ends;
}

no_digit_step : (byte : ℕ) (word : List ℕ) (t : Bool) → eqb byte 46 ≡ t → cond t (is_behind_point word) (is_exponent (byte ∷ word)) ≡ true → IsBehindDigit (byte ∷ word)
no_digit_step byte word true e is =
    let point : byte ≡ 46 = eqb-true byte 46 e in
    record { whole = []; rest = byte ∷ word; spelled = refl; digits = refl; ends = inr (word, ap (λ (b : ℕ). b ∷ word) point, behind_point word is) }
no_digit_step byte word false e is = record { whole = []; rest = byte ∷ word; spelled = refl; digits = refl; ends = inl is }

behind_digit_step : (byte : ℕ) (word : List ℕ) (t : Bool) → is_ascii_digit byte ≡ t → (is_behind_digit word ≡ true → IsBehindDigit word)
    → cond t (is_behind_digit word) (cond (eqb byte 46) (is_behind_point word) (is_exponent (byte ∷ word))) ≡ true → IsBehindDigit (byte ∷ word)
behind_digit_step byte word true e rest is = digit_digit byte word e (rest is)
behind_digit_step byte word false e rest is = no_digit_step byte word (eqb byte 46) refl is

behind_digit : (word : List ℕ) → is_behind_digit word ≡ true → IsBehindDigit word
behind_digit [] is = record { whole = []; rest = []; spelled = refl; digits = refl; ends = inl refl }
behind_digit (byte ∷ word) is = behind_digit_step byte word (is_ascii_digit byte) refl (behind_digit word) is

digits_join : (one other : List ℕ) → list_all is_ascii_digit one ≡ true → list_all is_ascii_digit other ≡ true → list_all is_ascii_digit (one ++ other) ≡ true
digits_join [] other p q = q
digits_join (byte ∷ one) other p q =
    let parts = and_parts (is_ascii_digit byte) (list_all is_ascii_digit one) p in
    all_and byte (one ++ other) parts.0 (digits_join one other parts.1 q)

-- a number of a digit and what may stand behind it
after_digit : (byte : ℕ) (word whole rest : List ℕ) → is_ascii_digit byte ≡ true → word ≡ whole ++ rest → list_all is_ascii_digit whole ≡ true
    → (is_exponent rest ≡ true) ⊎ ((decimals : List ℕ) × (rest ≡ 46 ∷ decimals) × IsBehindPoint decimals) → HasParts (byte ∷ word)
after_digit byte word whole rest e spelled digits (inl ends) = record {
  mantissa = byte ∷ whole;
  exponent = rest;
  spelled = ap (λ (t : List ℕ). byte ∷ t) spelled;
  digits = inl (all_and byte whole e digits);
  ends = ends;
}
after_digit byte word whole rest e spelled digits (inr point) =
    let behind = point.2 in
    let split : rest ≡ 46 ∷ (behind.decimals ++ behind.exponent) = point.1 ∙ ap (λ (t : List ℕ). 46 ∷ t) behind.spelled in
    record {
      mantissa = byte ∷ (whole ++ 46 ∷ behind.decimals);
      exponent = behind.exponent;
      spelled = ap (λ (t : List ℕ). byte ∷ t) (spelled ∙ ap (λ (t : List ℕ). whole ++ t) split ∙ sym (append_assoc whole (46 ∷ behind.decimals) behind.exponent));
      digits = inr (record {
        whole = byte ∷ whole;
        decimals = behind.decimals;
        spelled = sym (append_assoc (byte ∷ whole) (46 ∷ []) behind.decimals);
        digits = all_and byte (whole ++ behind.decimals) e (digits_join whole behind.decimals digits behind.digits);
      });
      ends = behind.ends;
    }

-- a number of a point, a digit and what may stand behind them
after_point : (byte : ℕ) (word : List ℕ) → byte ≡ 46 → is_fraction word ≡ true → HasParts (byte ∷ word)
after_point byte [] point is = absurd cc
after_point byte (digit ∷ word) point is =
    let parts = and_parts (is_ascii_digit digit) (is_behind_point word) is in
    let behind = behind_point word parts.1 in
    record {
      mantissa = 46 ∷ digit ∷ behind.decimals;
      exponent = behind.exponent;
      spelled = ap (λ (b : ℕ). b ∷ digit ∷ word) point ∙ ap (λ (t : List ℕ). 46 ∷ digit ∷ t) behind.spelled;
      digits = inr (record { whole = []; decimals = digit ∷ behind.decimals; spelled = refl; digits = all_and digit behind.decimals parts.0 behind.digits });
      ends = behind.ends;
    }

number_step : (byte : ℕ) (word : List ℕ) (t : Bool) → is_ascii_digit byte ≡ t → cond t (is_behind_digit word) (eqb byte 46 && is_fraction word) ≡ true → HasParts (byte ∷ word)
number_step byte word true e is = let behind = behind_digit word is in after_digit byte word behind.whole behind.rest e behind.spelled behind.digits behind.ends
number_step byte word false e is = let parts = and_parts (eqb byte 46) (is_fraction word) is in after_point byte word (eqb-true byte 46 parts.0) parts.1

parts_of : (word : List ℕ) → is_number word ≡ true → HasParts word
parts_of [] is = absurd cc
parts_of (byte ∷ word) is = number_step byte word (is_ascii_digit byte) refl is

-- what the cases take is a number
pub number_of : (word : List ℕ) → is_number word ≡ true → IsNumber word
number_of word is = to_number word (parts_of word is)

e_no_digit : (byte : ℕ) → begins_exponent byte ≡ true → is_ascii_digit byte ≡ false
e_no_digit byte e = grind (arith, nat_tests)

e_no_point : (byte : ℕ) → begins_exponent byte ≡ true → eqb byte 46 ≡ false
e_no_point byte e = grind (arith, nat_tests)

point_exponent : (word : List ℕ) → is_exponent word ≡ true → is_behind_point word ≡ true
point_exponent [] is = refl
point_exponent (byte ∷ word) is =
    let parts = and_parts (begins_exponent byte) (are_signed_digits word) is in
    rw (e_no_digit byte parts.0) is

digit_exponent : (word : List ℕ) → is_exponent word ≡ true → is_behind_digit word ≡ true
digit_exponent [] is = refl
digit_exponent (byte ∷ word) is =
    let parts = and_parts (begins_exponent byte) (are_signed_digits word) is in
    rw (e_no_digit byte parts.0, e_no_point byte parts.0) is

point_digits : (digits rest : List ℕ) → list_all is_ascii_digit digits ≡ true → is_behind_point rest ≡ true → is_behind_point (digits ++ rest) ≡ true
point_digits [] rest p q = q
point_digits (byte ∷ digits) rest p q =
    let parts = and_parts (is_ascii_digit byte) (list_all is_ascii_digit digits) p in
    rw parts.0 (point_digits digits rest parts.1 q)

digit_digits : (digits rest : List ℕ) → list_all is_ascii_digit digits ≡ true → is_behind_digit rest ≡ true → is_behind_digit (digits ++ rest) ≡ true
digit_digits [] rest p q = q
digit_digits (byte ∷ digits) rest p q =
    let parts = and_parts (is_ascii_digit byte) (list_all is_ascii_digit digits) p in
    rw parts.0 (digit_digits digits rest parts.1 q)

digits_part : (one other : List ℕ) → list_all is_ascii_digit (one ++ other) ≡ true → (list_all is_ascii_digit one ≡ true) × (list_all is_ascii_digit other ≡ true)
digits_part [] other is = (refl, is)
digits_part (byte ∷ one) other is =
    let parts = and_parts (is_ascii_digit byte) (list_all is_ascii_digit (one ++ other)) is in
    let rest = digits_part one other parts.1 in
    (all_and byte one parts.0 rest.0, rest.1)

takes_digits : (mantissa exponent : List ℕ) → are_some_digits mantissa ≡ true → is_exponent exponent ≡ true → is_number (mantissa ++ exponent) ≡ true
takes_digits [] exponent is ends = absurd cc
takes_digits (byte ∷ digits) exponent is ends =
    let parts = and_parts (is_ascii_digit byte) (list_all is_ascii_digit digits) is in
    rw parts.0 (digit_digits digits exponent parts.1 (digit_exponent exponent ends))

takes_point : (decimals exponent : List ℕ) → are_some_digits decimals ≡ true → is_exponent exponent ≡ true → is_number (46 ∷ (decimals ++ exponent)) ≡ true
takes_point [] exponent is ends = absurd cc
takes_point (byte ∷ decimals) exponent is ends =
    let parts = and_parts (is_ascii_digit byte) (list_all is_ascii_digit decimals) is in
    rw parts.0 (point_digits decimals exponent parts.1 (point_exponent exponent ends))

takes_both : (whole decimals exponent : List ℕ) → are_some_digits (whole ++ decimals) ≡ true → is_exponent exponent ≡ true → is_number (whole ++ (46 ∷ (decimals ++ exponent))) ≡ true
takes_both [] decimals exponent is ends = takes_point decimals exponent is ends
takes_both (byte ∷ whole) decimals exponent is ends =
    let parts = and_parts (is_ascii_digit byte) (list_all is_ascii_digit (whole ++ decimals)) is in
    let each = digits_part whole decimals parts.1 in
    rw parts.0 (digit_digits whole (46 ∷ (decimals ++ exponent)) each.0 (point_digits decimals exponent each.1 (point_exponent exponent ends)))

takes_mantissa : (mantissa exponent : List ℕ) → (are_some_digits mantissa ≡ true) ⊎ HasPoint mantissa → is_exponent exponent ≡ true → is_number (mantissa ++ exponent) ≡ true
takes_mantissa mantissa exponent (inl digits) ends = takes_digits mantissa exponent digits ends
takes_mantissa mantissa exponent (inr point) ends =
    let together : mantissa ++ exponent ≡ point.whole ++ (46 ∷ (point.decimals ++ exponent)) =
    ap (λ (t : List ℕ). t ++ exponent) (point.spelled ∙ append_assoc point.whole (46 ∷ []) point.decimals) ∙ append_assoc point.whole (46 ∷ point.decimals) exponent in
    ap is_number together ∙ takes_both point.whole point.decimals exponent point.digits ends

-- a number is what the cases take
pub taken : (word : List ℕ) → IsNumber word → is_number word ≡ true
taken word h =
    let is = from_number word h in
    ap is_number is.spelled ∙ takes_mantissa is.mantissa is.exponent is.digits is.ends
