-- What words of decimals spell: one decimal at most.
use Rattle.std.proofs.Common.{◌≡◌, ◌≢◌, ℕ, Bool, true, false, not, ◌&&◌, nat_lt, ◌<◌, List, [], ◌∷◌, ◌++◌, ◌⊎◌, length, take, drop, get_or, ◌==◌, ◌||◌, eqb-true, Option, Some, None, suc, ◌+◌, ◌-◌, ◌≤◌, ℤ, pos, neg_ℤ, IsTrue, refl, sym, ap, ap₂, ◌∙◌, subst, arith, inl, inr}
use Rattle.std.specs.Prelude.{MatchOption}
use Rattle.std.specs.Option.{unwrap_or}
use Rattle.std.specs.Char.{is_ascii_digit}
use Rattle.std.proofs.lemmas.Bool.Decides.{nat_tests}
use Rattle.std.proofs.lemmas.List.{append-nil, length-drop, drop_all, take_all, take-append-drop}
use Rattle.std.proofs.lemmas.List.Folds.{list_all-append}
use Rattle.std.proofs.Math.Seq.{drop-cons}
use Rattle.std.proofs.lemmas.Bool.{and_parts, cases_Bool}
use Rattle.memchr.specs.Find.{IsFirstByte, is_byte, is_byte2}
use Rattle.qm_math.proofs.Lists.{cons-first, cons-rest}
use Rattle.qm_frac.specs.Signs.{signed}
use Rattle.qm_text.specs.Digits.{are_digits, is_numeral, numeral_value}
use Rattle.qm_text.specs.Decimals.{Decimal, SpellsDecimal, SpellsDigits, SpellsExponent, SpellsPower}
use Rattle.qm_text.specs.DecimalSteps.{HasNone, IsCut, IsFrom, IsExponentCut, IsSigned}
use Rattle.qm_text.proofs.Cuts.{point_no_digit, e_no_digit, digits_none, join_none, cut_one, none_before, from_there, is_point}

-- ---- digits of two parts

pub all_digits : (word : List ℕ) → IsTrue (is_numeral word) → are_digits word ≡ true
all_digits word h = grind arith

pub digit_parts : (before behind : List ℕ) → are_digits (before ++ behind) ≡ true → (are_digits before ≡ true) × (are_digits behind ≡ true)
digit_parts before behind h = and_parts (are_digits before) (are_digits behind) (sym (list_all-append is_ascii_digit before behind) ∙ h)

pub numeral_from : (word : List ℕ) → (length word == 0) ≡ false → are_digits word ≡ true → IsTrue (is_numeral word)
numeral_from word some all = grind (arith, nat_tests)

-- the length of two words, and whether there is a digit
none_of_two : (before behind : List ℕ) → nat_lt 0 (length (before ++ behind)) ≡ not ((length before == 0) && (length behind == 0))
none_of_two [] [] = refl
none_of_two [] (byte ∷ behind) = let some : 0 < length (byte ∷ behind) = omega arith in grind (arith, nat_tests)
none_of_two (byte ∷ before) behind =
    let some : 0 < length (byte ∷ (before ++ behind)) = omega arith in
    let first : 0 < length (byte ∷ before) = omega arith in
    grind (arith, nat_tests)

pub numeral_join : (before behind : List ℕ) → is_numeral (before ++ behind) ≡ not ((length before == 0) && (length behind == 0)) && (are_digits before && are_digits behind)
numeral_join before behind = ap₂ (λ (x y : Bool). x && y) (none_of_two before behind) (list_all-append is_ascii_digit before behind)

-- ---- the point

-- what stands from the point on
point_rest : (before behind word : List ℕ) → (word ≡ before ++ 46 ∷ behind) ⊎ ((word ≡ before) × (behind ≡ [])) → (rest : List ℕ) × (word ≡ before ++ rest) × IsFrom (is_byte 46) rest × ((rest ≡ 46 ∷ behind) ⊎ ((rest ≡ []) × (behind ≡ [])))
point_rest before behind word (inl e) = (46 ∷ behind, e, refl, inl refl)
point_rest before behind word (inr e) = ([], e.0 ∙ sym (append-nil before), tt, inr (refl, e.1))

same_behind : (rest behind others : List ℕ) → (rest ≡ 46 ∷ behind) ⊎ ((rest ≡ []) × (behind ≡ [])) → (rest ≡ 46 ∷ others) ⊎ ((rest ≡ []) × (others ≡ [])) → behind ≡ others
same_behind rest behind others (inl p) (inl q) = let e : 46 ∷ behind ≡ 46 ∷ others = sym p ∙ q in cc e
same_behind rest behind others (inl p) (inr q) = let e : 46 ∷ behind ≡ [] = sym p ∙ q.0 in cc e
same_behind rest behind others (inr p) (inl q) = let e : [] ≡ 46 ∷ others = sym p.0 ∙ q in cc e
same_behind rest behind others (inr p) (inr q) = p.1 ∙ sym q.1

pub point_one : (word b c d e : List ℕ) → IsCut word b c → IsCut word d e → (b ≡ d) × (c ≡ e)
point_one word b c d e p q =
    let one = point_rest b c word p.parts in
    let other = point_rest d e word q.parts in
    let same = cut_one (is_byte 46) b one.0 d other.0 p.none q.none one.2 other.2 (sym one.1 ∙ other.1) in
    (same.0, same_behind other.0 c e (subst (λ (r : List ℕ). (r ≡ 46 ∷ c) ⊎ ((r ≡ []) × (c ≡ []))) same.1 one.3) other.3)

pub spelled_cut : (word before behind : List ℕ) → SpellsDigits word before behind → IsCut word before behind
spelled_cut word before behind h =
    let all = digit_parts before behind (all_digits (before ++ behind) h.0) in
    record { none = digits_none (is_byte 46) before point_no_digit all.0; parts = h.1 }

-- ---- the exponent

digits_no_sign : (sign : ℕ) (digits word : List ℕ) → IsTrue (is_numeral word) → is_ascii_digit sign ≡ false → word ≢ sign ∷ digits
digits_no_sign sign digits word h other e =
    let all : are_digits (sign ∷ digits) ≡ true = ap are_digits (sym e) ∙ all_digits word h in
    let first : is_ascii_digit sign ≡ true = (and_parts (is_ascii_digit sign) (are_digits digits) all).0 in
    cc (first, other)

numeral_first : (sign : ℕ) (word : List ℕ) → IsTrue (is_numeral word) → is_ascii_digit sign ≡ false → get_or word 0 0 ≢ sign
numeral_first sign [] h other e = absurd (let none : false ≡ true = h in cc none)
numeral_first sign (byte ∷ word) h other e =
    let all : are_digits (byte ∷ word) ≡ true = all_digits (byte ∷ word) h in
    let first : is_ascii_digit byte ≡ true = (and_parts (is_ascii_digit byte) (are_digits word) all).0 in
    let same : is_ascii_digit byte ≡ false = ap is_ascii_digit e ∙ other in
    cc (first, same)

pub power_some : (word digits : List ℕ) (minus : Bool) → IsSigned word minus digits → IsTrue (is_numeral digits) → SpellsPower word (signed minus (numeral_value digits))
power_some word digits minus (inl p) h = (digits, h, inl (p.1, ap (λ (b : Bool). signed b (numeral_value digits)) p.0))
power_some word digits minus (inr (inl p)) h = (digits, h, inr (inl p.1, ap (λ (b : Bool). signed b (numeral_value digits)) p.0))
power_some word digits minus (inr (inr p)) h = (digits, h, inr (inr p.1, ap (λ (b : Bool). signed b (numeral_value digits)) p.0))

-- the shapes of a power of ten
abbrev Shape : List ℕ → List ℕ → ℤ → Type 0
Shape word digits n =
    ((word ≡ 45 ∷ digits) × (n ≡ neg_ℤ (pos (numeral_value digits))))
    ⊎ (((word ≡ 43 ∷ digits) ⊎ (word ≡ digits)) × (n ≡ pos (numeral_value digits)))

-- what is known of a power of ten whose sign is known
abbrev Known : Bool → List ℕ → ℤ → Type 0
Known minus rest n = IsTrue (is_numeral rest) × (n ≡ signed minus (numeral_value rest))

known : (minus sign : Bool) (rest digits : List ℕ) (n : ℤ) → minus ≡ sign → digits ≡ rest → IsTrue (is_numeral digits) → n ≡ signed sign (numeral_value digits) → Known minus rest n
known minus sign rest digits n p q h e =
    (subst (λ (w : List ℕ). IsTrue (is_numeral w)) q h, e ∙ ap₂ (λ (b : Bool) (w : List ℕ). signed b (numeral_value w)) (sym p) q)

sign_known : (word rest digits : List ℕ) (minus : Bool) (n : ℤ) → IsSigned word minus rest → IsTrue (is_numeral digits) → Shape word digits n → Known minus rest n
sign_known word rest digits minus n (inl p) h (inl q) = known minus true rest digits n p.0 (cons-rest 45 45 digits rest (sym q.0 ∙ p.1)) h q.1
sign_known word rest digits minus n (inl p) h (inr (inl q, e)) = let differ = cons-first 45 43 rest digits (sym p.1 ∙ q) in absurd (omega arith)
sign_known word rest digits minus n (inl p) h (inr (inr q, e)) = absurd (digits_no_sign 45 rest digits h refl (sym q ∙ p.1))
sign_known word rest digits minus n (inr (inl p)) h (inl q) = let differ = cons-first 43 45 rest digits (sym p.1 ∙ q.0) in absurd (omega arith)
sign_known word rest digits minus n (inr (inl p)) h (inr (inl q, e)) = known minus false rest digits n p.0 (cons-rest 43 43 digits rest (sym q ∙ p.1)) h e
sign_known word rest digits minus n (inr (inl p)) h (inr (inr q, e)) = absurd (digits_no_sign 43 rest digits h refl (sym q ∙ p.1))
sign_known word rest digits minus n (inr (inr p)) h (inl q) = absurd (p.2 (ap (λ (w : List ℕ). get_or w 0 0) q.0))
sign_known word rest digits minus n (inr (inr p)) h (inr (inl q, e)) = absurd (p.3 (ap (λ (w : List ℕ). get_or w 0 0) q))
sign_known word rest digits minus n (inr (inr p)) h (inr (inr q, e)) = known minus false rest digits n p.0 (sym q ∙ p.1) h e

pub power_none : (word rest : List ℕ) (minus : Bool) → IsSigned word minus rest → ¬ IsTrue (is_numeral rest) → (n : ℤ) → ¬ SpellsPower word n
power_none word rest minus is never n h = never (sign_known word rest h.0 minus n is h.1 h.2).0

-- a power of ten has a sign, or none
sign_of_shape : (word digits : List ℕ) (n : ℤ) → IsTrue (is_numeral digits) → Shape word digits n → (minus : Bool) × IsSigned word minus digits × (n ≡ signed minus (numeral_value digits))
sign_of_shape word digits n h (inl q) = (true, inl (refl, q.0), q.1)
sign_of_shape word digits n h (inr (inl q, e)) = (false, inr (inl (refl, q)), e)
sign_of_shape word digits n h (inr (inr q, e)) =
    let first : get_or word 0 0 ≡ get_or digits 0 0 = ap (λ (w : List ℕ). get_or w 0 0) q in
    (false, inr (inr (refl, q, (λ g. numeral_first 45 digits h refl (sym first ∙ g)), (λ g. numeral_first 43 digits h refl (sym first ∙ g)))), e)

power_one : (word : List ℕ) (m n : ℤ) → SpellsPower word m → SpellsPower word n → m ≡ n
power_one word m n p q =
    let sign = sign_of_shape word p.0 m p.1 p.2 in
    sign.2 ∙ sym (sign_known word p.0 q.0 sign.0 n sign.1 q.1 q.2).1

-- the byte before a power of ten
exponent_byte : (word power : List ℕ) → (word ≡ 101 ∷ power) ⊎ (word ≡ 69 ∷ power) → (byte : ℕ) × (word ≡ byte ∷ power)
exponent_byte word power (inl e) = (101, e)
exponent_byte word power (inr e) = (69, e)

exponent_one : (word : List ℕ) (m n : ℤ) → SpellsExponent word m → SpellsExponent word n → m ≡ n
exponent_one word m n (inl p) (inl q) = p.1 ∙ sym q.1
exponent_one word m n (inl p) (inr q) = let byte = exponent_byte word q.0 q.1 in let e : [] ≡ byte.0 ∷ q.0 = sym p.0 ∙ byte.1 in cc e
exponent_one word m n (inr p) (inl q) = let byte = exponent_byte word p.0 p.1 in let e : [] ≡ byte.0 ∷ p.0 = sym q.0 ∙ byte.1 in cc e
exponent_one word m n (inr p) (inr q) =
    let one = exponent_byte word p.0 p.1 in
    let other = exponent_byte word q.0 q.1 in
    let same = cons-rest one.0 other.0 p.0 q.0 (sym one.1 ∙ other.1) in
    power_one q.0 m n (subst (λ (w : List ℕ). SpellsPower w m) same p.2) q.2

exponent_from : (word : List ℕ) (n : ℤ) → SpellsExponent word n → IsFrom (is_byte2 101 69) word
exponent_from word n (inl p) = subst (IsFrom (is_byte2 101 69)) (sym p.0) tt
exponent_from word n (inr (power, inl e, h)) = subst (IsFrom (is_byte2 101 69)) (sym e) refl
exponent_from word n (inr (power, inr e, h)) = subst (IsFrom (is_byte2 101 69)) (sym e) refl

-- ---- whole words

front_none : (front before behind : List ℕ) → SpellsDigits front before behind → HasNone (is_byte2 101 69) front
front_none front before behind (h, inl e) =
    let all = digit_parts before behind (all_digits (before ++ behind) h) in
    let rest : HasNone (is_byte2 101 69) (46 ∷ behind) = (refl, digits_none (is_byte2 101 69) behind e_no_digit all.1) in
    subst (HasNone (is_byte2 101 69)) (sym e) (join_none (is_byte2 101 69) before (46 ∷ behind) (digits_none (is_byte2 101 69) before e_no_digit all.0) rest)
front_none front before behind (h, inr e) =
    let all = digit_parts before behind (all_digits (before ++ behind) h) in
    subst (HasNone (is_byte2 101 69)) (sym e.0) (digits_none (is_byte2 101 69) before e_no_digit all.0)

pub exponent_cut : (word : List ℕ) (d : Decimal) (h : SpellsDecimal word d) → IsExponentCut word h.front h.back
exponent_cut word d h = record { none = front_none h.front d.before d.behind h.digits; start = exponent_from h.back d.exponent h.exponent; parts = h.parts }

-- what is spelled, by the parts of a word that is cut
pub spelled_parts : (word front back : List ℕ) (d : Decimal) → IsExponentCut word front back → SpellsDecimal word d → SpellsDigits front d.before d.behind × SpellsExponent back d.exponent
spelled_parts word front back d cut h =
    let own = exponent_cut word d h in
    let same = cut_one (is_byte2 101 69) h.front h.back front back own.none cut.none own.start cut.start (sym h.parts ∙ cut.parts) in
    (subst (λ (w : List ℕ). SpellsDigits w d.before d.behind) same.0 h.digits, subst (λ (w : List ℕ). SpellsExponent w d.exponent) same.1 h.exponent)

same_decimal : (b c : List ℕ) (m : ℤ) (d : Decimal) → b ≡ d.before → c ≡ d.behind → m ≡ d.exponent → record { before = b; behind = c; exponent = m } ≡ d
same_decimal b c m d p q r =
    let made : List ℕ → List ℕ → ℤ → Decimal = λ x y z. record { before = x; behind = y; exponent = z } in
    ap₂ (λ (x y : List ℕ). made x y m) p q ∙ ap (λ (z : ℤ). made d.before d.behind z) r

pub decimal_one : (word : List ℕ) (d e : Decimal) → SpellsDecimal word d → SpellsDecimal word e → d ≡ e
decimal_one word d e p q =
    let other = spelled_parts word p.front p.back e (exponent_cut word d p) q in
    let digits = point_one p.front d.before d.behind e.before e.behind (spelled_cut p.front d.before d.behind p.digits) (spelled_cut p.front e.before e.behind other.0) in
    same_decimal d.before d.behind d.exponent e digits.0 digits.1 (exponent_one p.back d.exponent e.exponent p.exponent other.1)

-- ---- digits that a cut gives

pub digits_none_of : (word before behind : List ℕ) → IsCut word before behind → ¬ IsTrue (is_numeral (before ++ behind)) → (b c : List ℕ) → ¬ SpellsDigits word b c
digits_none_of word before behind cut never b c h =
    let same = point_one word b c before behind (spelled_cut word b c h) cut in
    never (subst (λ (w : List ℕ). IsTrue (is_numeral w)) (ap₂ (λ (x y : List ℕ). x ++ y) same.0 same.1) h.0)

-- ---- where the cuts are

pub exponent_cut_at : (word front back : List ℕ) (found : Option ℕ) → IsFirstByte (is_byte2 101 69) word found
    → front ≡ take (unwrap_or found (length word)) word → back ≡ drop (unwrap_or found (length word)) word → IsExponentCut word front back
exponent_cut_at word front back (Some at) first p q =
    let high = first.0.high in
    let inside : at ≤ length word = omega arith in
    let below : (k : ℕ) → k < at → is_byte2 101 69 (get_or word k 0) ≢ true = λ k h. first.0.before k (omega arith) h in
    record {
      none = subst (HasNone (is_byte2 101 69)) (sym p) (none_before (is_byte2 101 69) word at inside below);
      start = subst (IsFrom (is_byte2 101 69)) (sym q) (from_there (is_byte2 101 69) word at high first.1);
      parts = sym (take-append-drop at word) ∙ ap₂ (λ (x y : List ℕ). x ++ y) (sym p) (sym q);
    }
exponent_cut_at word front back None first p q =
    let inside : length word ≤ length word = omega arith in
    let below : (k : ℕ) → k < length word → is_byte2 101 69 (get_or word k 0) ≢ true = λ k h. first k (omega arith) h in
    let rest : back ≡ [] = q ∙ drop_all (length word) word inside in
    record {
      none = subst (HasNone (is_byte2 101 69)) (sym p) (none_before (is_byte2 101 69) word (length word) inside below);
      start = subst (IsFrom (is_byte2 101 69)) (sym rest) tt;
      parts = sym (take-append-drop (length word) word) ∙ ap₂ (λ (x y : List ℕ). x ++ y) (sym p) (sym q);
    }

pub point_cut_some : (word : List ℕ) (at : ℕ) → IsFirstByte (is_byte 46) word (Some at) → IsCut word (take at word) (take (length word - (at + 1)) (drop (at + 1) word))
point_cut_some word at first =
    let high = first.0.high in
    let inside : at ≤ length word = omega arith in
    let below : (k : ℕ) → k < at → is_byte 46 (get_or word k 0) ≢ true = λ k h. first.0.before k (omega arith) h in
    let next : suc at ≡ at + 1 = omega arith in
    let len = length-drop (at + 1) word in
    let rest : take (length word - (at + 1)) (drop (at + 1) word) ≡ drop (at + 1) word = take_all (length word - (at + 1)) (drop (at + 1) word) (omega arith) in
    let cons : drop at word ≡ 46 ∷ drop (at + 1) word = drop-cons word at 0 high ∙ ap₂ (λ (b : ℕ) (t : List ℕ). b ∷ t) (is_point (get_or word at 0) first.1) (ap (λ n. drop n word) next) in
    record {
      none = none_before (is_byte 46) word at inside below;
      parts = inl (sym (take-append-drop at word) ∙ ap (λ (t : List ℕ). take at word ++ t) (cons ∙ ap (λ (t : List ℕ). 46 ∷ t) (sym rest)));
    }

pub point_cut_none : (word : List ℕ) → IsFirstByte (is_byte 46) word None → IsCut word word (take (length word - length word) (drop (length word) word))
point_cut_none word first =
    let inside : length word ≤ length word = omega arith in
    let below : (k : ℕ) → k < length word → is_byte 46 (get_or word k 0) ≢ true = λ k h. first k (omega arith) h in
    let whole : take (length word) word ≡ word = take_all (length word) word inside in
    let none : length word - length word ≡ 0 = omega arith in
    record {
      none = subst (HasNone (is_byte 46)) whole (none_before (is_byte 46) word (length word) inside below);
      parts = inr (refl, ap (λ n. take n (drop (length word) word)) none);
    }

-- ---- from a power to an exponent

match_map : {T : Type 0} (r : Option T) (P Q : Type 0) (A B : T → Type 0) → (P → Q) → ((x : T) → A x → B x) → MatchOption r P A → MatchOption r Q B
match_map {T} (Some x) P Q A B f g h = g x h
match_map {T} None P Q A B f g h = f h

-- a byte that is one of two
pub one_of_two : (byte one other : ℕ) → (byte == one) || (byte == other) ≡ true → (byte ≡ one) ⊎ (byte ≡ other)
one_of_two byte one other is = elim (cases_Bool (byte == one)) [
  | inl e ↦ inl (eqb-true byte one e)
  | inr e ↦ inr (eqb-true byte other (rw e at is))
]

with_byte : (back word : List ℕ) (byte : ℕ) (n : ℤ) → back ≡ byte ∷ word → (byte ≡ 101) ⊎ (byte ≡ 69) → SpellsPower word n → SpellsExponent back n
with_byte back word byte n e (inl p) h = inr (word, inl (e ∙ ap (λ (b : ℕ). b ∷ word) p), h)
with_byte back word byte n e (inr p) h = inr (word, inr (e ∙ ap (λ (b : ℕ). b ∷ word) p), h)

power_of : (back word : List ℕ) (byte : ℕ) (n : ℤ) → back ≡ byte ∷ word → SpellsExponent back n → SpellsPower word n
power_of back word byte n e (inl p) = let none : [] ≡ byte ∷ word = sym p.0 ∙ e in cc none
power_of back word byte n e (inr p) =
    let own = exponent_byte back p.0 p.1 in
    subst (λ (w : List ℕ). SpellsPower w n) (cons-rest own.0 byte p.0 word (sym own.1 ∙ e)) p.2

pub exponent_of_power : {T : Type 0} (back word : List ℕ) (byte : ℕ) (r : Option T) (value : T → ℤ) (K : T → Type 0) → IsFrom (is_byte2 101 69) back → back ≡ byte ∷ word
    → MatchOption r ((n : ℤ) → ¬ SpellsPower word n) (λ x. SpellsPower word (value x) × K x) → MatchOption r ((n : ℤ) → ¬ SpellsExponent back n) (λ x. SpellsExponent back (value x) × K x)
exponent_of_power {T} back word byte r value K from e h =
    let is = one_of_two byte 101 69 (subst (IsFrom (is_byte2 101 69)) e from) in
    match_map r ((n : ℤ) → ¬ SpellsPower word n) ((n : ℤ) → ¬ SpellsExponent back n) (λ x. SpellsPower word (value x) × K x) (λ x. SpellsExponent back (value x) × K x)
    (λ never n spells. never n (power_of back word byte n e spells))
    (λ x known. (with_byte back word byte (value x) e is known.0, known.1))
    h

pub no_exponent : (back : List ℕ) → length back ≡ 0 → SpellsExponent back (pos (numeral_value back)) × IsTrue (are_digits back)
unfolding numeral_value
no_exponent [] e = (inl (refl, refl), refl)
no_exponent (byte ∷ back) e = absurd (omega arith)
