-- The number of a word, and what spells it.
use Rattle.std.proofs.Common.{◌≡◌, ℕ, zero, suc, ◌<◌, ◌^◌, Bool, true, false, List, [], ◌∷◌, ℤ, pos, negsuc, Option, None, Some, Result, Ok, Err, refl, sym, ap, ◌∙◌, subst, arith}
use Rattle.std.specs.Prelude.{◌==◌, FitsSigned, nat_lt, if◌then◌else◌}
use Rattle.std.specs.Option.{option_map}
use Rattle.std.specs.Int.{w64}
use Rattle.std.proofs.Common.{to_z, of_z}
use Rattle.std.proofs.lemmas.Int.{to_z-of_z}
use Rattle.std.proofs.lemmas.Bool.Decides.{nat_tests}
use Rattle.qm_text.specs.Digits.{is_plain_numeral, numeral_value}
use Rattle.qm_text.specs.Numbers.{SpellsNatural, SpellsWhole}
use Rattle.qm_text.specs.Reading.{ReadsNumber}
use Rattle.qm_text.specs.declared.fault.NumberFault.{NumberFault}
use Rattle.qm_text.specs.declared.fault.NumberFault.TheVariants as number
use Rattle.qm_text.proofs.Slashes.{digits_of_plain}
use Rattle.qm_text.proofs.Cuts.{first_digit}
use Rattle.qm_text.proofs.Readings.{read_spells, read_fits}
use Rattle.qm_certread.specs.declared.fault.Misread.{Misread}
use Rattle.qm_certread.specs.declared.fault.Misread.TheVariants as rule
use Rattle.qm_certread.specs.Spelling.{Said, of_type, natural_of, below_zero, whole_of, as_value, as_count, value_word, count_word}
use Rattle.qm_certread.specs.WordSteps.{fault_of}

-- ---- natural numbers

natural_by : (plain : Bool) (word : List ℕ) (n : ℕ) → is_plain_numeral word ≡ plain → (if plain then Some (numeral_value word) else None) ≡ Some n → SpellsNatural word n
natural_by true word n is e = (is, cc)
natural_by false word n is e = absurd cc

pub natural_some : (word : List ℕ) (n : ℕ) → natural_of word ≡ Some n → SpellsNatural word n
natural_some word n e = natural_by (is_plain_numeral word) word n refl e

pub natural_is : (word : List ℕ) (n : ℕ) → SpellsNatural word n → natural_of word ≡ Some n
natural_is word n h = rw h.0 (ap Some (sym h.1))

-- ---- whole numbers

no_minus : (byte : ℕ) (word : List ℕ) → is_plain_numeral (byte ∷ word) ≡ true → (byte == 45) ≡ false
no_minus byte word plain =
    let digit = first_digit byte word (digits_of_plain (byte ∷ word) plain) in
    grind (arith, nat_tests)

pub whole_is : (word : List ℕ) (z : ℤ) → SpellsWhole word z → whole_of word ≡ Some z
whole_is [] (pos n) h = absurd (let no : is_plain_numeral [] ≡ true = h.0 in cc)
whole_is (byte ∷ word) (pos n) h = rw (no_minus byte word h.0) (ap (option_map pos) (natural_is (byte ∷ word) n h))
whole_is word (negsuc n) h =
    subst (λ w. whole_of w ≡ Some (negsuc n)) (sym h.1) (ap below_zero (natural_is h.0 (suc n) h.2))

below_some : (digits : List ℕ) (found : Option ℕ) (z : ℤ) → natural_of digits ≡ found → below_zero found ≡ Some z → SpellsWhole (45 ∷ digits) z
below_some digits None z is e = absurd cc
below_some digits (Some zero) z is e = absurd cc
below_some digits (Some (suc n)) z is e =
    let same : negsuc n ≡ z = cc in
    subst (SpellsWhole (45 ∷ digits)) same (digits, refl, natural_some digits (suc n) is)

plain_some : (word : List ℕ) (found : Option ℕ) (z : ℤ) → natural_of word ≡ found → option_map pos found ≡ Some z → SpellsWhole word z
plain_some word None z is e = absurd cc
plain_some word (Some n) z is e =
    let same : pos n ≡ z = cc in
    subst (SpellsWhole word) same (natural_some word n is)

whole_by : (minus : Bool) (byte : ℕ) (word : List ℕ) (z : ℤ) → (byte == 45) ≡ minus
    → (if minus then below_zero (natural_of word) else option_map pos (natural_of (byte ∷ word))) ≡ Some z → SpellsWhole (byte ∷ word) z
whole_by true byte word z is e =
    let same : byte ≡ 45 = grind (arith, nat_tests) in
    subst (λ b. SpellsWhole (b ∷ word) z) (sym same) (below_some word (natural_of word) z refl e)
whole_by false byte word z is e = plain_some (byte ∷ word) (natural_of (byte ∷ word)) z refl e

pub whole_some : (word : List ℕ) (z : ℤ) → whole_of word ≡ Some z → SpellsWhole word z
whole_some [] z e = absurd cc
whole_some (byte ∷ word) z e = whole_by (byte == 45) byte word z refl e

-- ---- numbers of a type

is_lt : (m n : ℕ) → m < n → nat_lt m n ≡ true
is_lt m n h = grind (arith, nat_tests)

not_lt : (m n : ℕ) → ¬ (m < n) → nat_lt m n ≡ false
not_lt m n h = grind (arith, nat_tests)

pub typed_some : {V A : Type 0} (as_typed : V → Option A) (v : V) (a : A) → as_typed v ≡ Some a → of_type as_typed (Some v) ≡ Ok a
typed_some {V} {A} as_typed v a e = ap (λ (o : Option A). elim o as (λ _. Said A) [ None ↦ Err rule.Number | Some b ↦ Ok b ]) e

-- what is read of a word is what a decoder and the test of a type say
pub typed_ok : {V A : Type 0} (Spells Fits : V → Type 0) (found : Option V) (as_typed : V → Option A) (v : V)
    → ((v : V) → Spells v → found ≡ Some v) → ReadsNumber Spells Fits (Ok v) → of_type as_typed found ≡ of_type as_typed (Some v)
typed_ok {V} {A} Spells Fits found as_typed v is reads = ap (of_type as_typed) (is v (read_spells Spells Fits v reads))

none_found : {V : Type 0} (Spells : V → Type 0) (found : Option V) → ((v : V) → found ≡ Some v → Spells v) → ((v : V) → ¬ Spells v) → found ≡ None
none_found Spells None some none = refl
none_found Spells (Some v) some none = absurd (none v (some v refl))

pub outside : {V A : Type 0} (as_typed : V → Option A) (v : V) → as_typed v ≡ None → of_type as_typed (Some v) ≡ Err rule.Number
outside {V} {A} as_typed v e = ap (λ (o : Option A). elim o as (λ _. Said A) [ None ↦ Err rule.Number | Some b ↦ Ok b ]) e

pub typed_err : {V A : Type 0} (Spells Fits : V → Type 0) (found : Option V) (as_typed : V → Option A) (e : NumberFault)
    → ((v : V) → Spells v → found ≡ Some v) → ((v : V) → found ≡ Some v → Spells v) → ((v : V) → ¬ Fits v → as_typed v ≡ None)
    → ReadsNumber Spells Fits (Err e) → of_type as_typed found ≡ Err (fault_of e)
typed_err {V} {A} Spells Fits found as_typed number.NotNumber is some out reads =
    ap (of_type as_typed) (none_found Spells found some (reads.not_number.0 refl))
typed_err {V} {A} Spells Fits found as_typed number.Leaves is some out reads =
    let read = reads.leaves.0 refl in
    ap (of_type as_typed) (is read.0 read.1) ∙ outside as_typed read.0 (out read.0 read.2)

-- ---- whole numbers of a type

pub as_value_is : (z : ℤ) → FitsSigned w64 z → as_value z ≡ Some z
as_value_is (pos n) h = let small : n < 2 ^ 63 = omega arith in rw (is_lt n (2 ^ 63) small) refl
as_value_is (negsuc n) h = let small : n < 2 ^ 63 = omega arith in rw (is_lt n (2 ^ 63) small) refl

as_value_none : (z : ℤ) → ¬ FitsSigned w64 z → as_value z ≡ None
as_value_none (pos n) h = let large : ¬ (n < 2 ^ 63) = λ small. h (omega arith) in rw (not_lt n (2 ^ 63) large) refl
as_value_none (negsuc n) h = let large : ¬ (n < 2 ^ 63) = λ small. h (omega arith) in rw (not_lt n (2 ^ 63) large) refl

as_count_none : (z : ℤ) → ¬ FitsSigned w64 z → as_count z ≡ None
as_count_none (pos n) h = let large : ¬ (n < 2 ^ 32) = λ small. h (omega arith) in rw (not_lt n (2 ^ 32) large) refl
as_count_none (negsuc n) h = refl

pub value_ok : (word : List ℕ) (z : ℤ) → ReadsNumber (SpellsWhole word) (FitsSigned w64) (Ok z) → Ok z ≡ value_word word
value_ok word z reads =
    sym (typed_ok (SpellsWhole word) (FitsSigned w64) (whole_of word) as_value z (whole_is word) reads
    ∙ typed_some as_value z z (as_value_is z (read_fits (SpellsWhole word) (FitsSigned w64) z reads)))

-- a number of 64 bits, as code hands it on
handed_on : (z : ℤ) → FitsSigned w64 z → to_z w64 (of_z w64 z) ≡ z
handed_on z h = to_z-of_z w64 z h

pub value_passed : (word : List ℕ) (z : ℤ) → ReadsNumber (SpellsWhole word) (FitsSigned w64) (Ok z) → Ok (to_z w64 (of_z w64 z)) ≡ value_word word
value_passed word z reads = ap Ok (handed_on z (read_fits (SpellsWhole word) (FitsSigned w64) z reads)) ∙ value_ok word z reads

pub value_err : (word : List ℕ) (e : NumberFault) → ReadsNumber (SpellsWhole word) (FitsSigned w64) (Err e) → Err (fault_of e) ≡ value_word word
value_err word e reads = sym (typed_err (SpellsWhole word) (FitsSigned w64) (whole_of word) as_value e (whole_is word) (whole_some word) as_value_none reads)

pub count_ok : (word : List ℕ) (z : ℤ) → ReadsNumber (SpellsWhole word) (FitsSigned w64) (Ok z) → count_word word ≡ of_type as_count (Some z)
count_ok word z reads = typed_ok (SpellsWhole word) (FitsSigned w64) (whole_of word) as_count z (whole_is word) reads

pub count_passed : (word : List ℕ) (z : ℤ) (r : Result ℕ Misread) → ReadsNumber (SpellsWhole word) (FitsSigned w64) (Ok z) → r ≡ of_type as_count (Some (to_z w64 (of_z w64 z))) → r ≡ count_word word
count_passed word z r reads e =
    e ∙ ap (λ (y : ℤ). of_type as_count (Some y)) (handed_on z (read_fits (SpellsWhole word) (FitsSigned w64) z reads)) ∙ sym (count_ok word z reads)

pub count_err : (word : List ℕ) (e : NumberFault) → ReadsNumber (SpellsWhole word) (FitsSigned w64) (Err e) → Err (fault_of e) ≡ count_word word
count_err word e reads = sym (typed_err (SpellsWhole word) (FitsSigned w64) (whole_of word) as_count e (whole_is word) (whole_some word) as_count_none reads)
