-- The fraction of a word, and what spells it.
use Rattle.std.proofs.Common.{◌≡◌, ◌≢◌, ℕ, suc, ◌<◌, ◌≤◌, Bool, true, false, ◌&&◌, List, [], ◌∷◌, ◌++◌, length, get_or, ℤ, Option, None, Some, Ok, Err, refl, sym, ap, ap₂, ◌∙◌, subst, inl, inr, arith, unsigned_abs}
use Rattle.std.specs.Prelude.{◌==◌, ◌⊎◌, nat_le, if◌then◌else◌}
use Rattle.std.specs.Option.{option_map}
use Rattle.std.proofs.lemmas.Bool.Decides.{nat_tests}
use Rattle.qm_math.specs.Fraction.{Fraction}
use Rattle.qm_frac.specs.Gcd.{gcd_of}
use Rattle.qm_frac.specs.Lowest.{IsInRange}
use Rattle.qm_text.specs.Numbers.{SpellsNatural, SpellsWhole, SpellsFraction}
use Rattle.qm_text.specs.Reading.{ReadsNumber}
use Rattle.qm_text.specs.declared.fault.NumberFault.{NumberFault}
use Rattle.qm_text.proofs.Slashes.{whole_no_slash}
use Rattle.qm_text.proofs.Readings.{read_fits}
use Rattle.qm_certfile.specs.Lines.{Word}
use Rattle.qm_certread.specs.Spelling.{cut_at, with_front, natural_of, whole_of, over_one, is_in_range, is_broken, quotient_of, fraction_of, as_fraction, fraction_word}
use Rattle.qm_certread.specs.WordSteps.{fault_of}
use Rattle.qm_certread.proofs.Decoded.{natural_some, natural_is, whole_some, whole_is, typed_ok, typed_err, typed_some}

-- ---- the range

in_range : (a : Fraction) → IsInRange a → is_in_range a ≡ true
in_range a h = let num = h.num_fits in let den = h.den_fits in grind (arith, nat_tests)

pub is_range : (a : Fraction) → is_in_range a ≡ true → IsInRange a
is_range a e = record { num_fits = grind (arith, nat_tests); den_fits = grind (arith, nat_tests) }

not_range : (a : Fraction) → ¬ IsInRange a → is_in_range a ≡ false
not_range a h = elim (is_in_range a) as (λ b. is_in_range a ≡ b → b ≡ false) [ true ↦ λ e. absurd (h (is_range a e)) | false ↦ λ e. refl ] refl

-- ---- cutting at a byte

pub cut_join : (mark : ℕ) (above below : List ℕ) → ((k : ℕ) → k < length above → get_or above k 0 ≢ mark) → cut_at mark (above ++ mark ∷ below) ≡ Some (above, below)
cut_join mark [] below none = let here : (mark == mark) ≡ true = grind (arith, nat_tests) in rw here refl
cut_join mark (b ∷ above) below none =
    let other : b ≢ mark = none 0 (omega arith) in
    let here : (b == mark) ≡ false = grind (arith, nat_tests) in
    rw here (ap (with_front b) (cut_join mark above below (λ k h. none (suc k) (omega arith))))

pub cut_without : (mark : ℕ) (word : List ℕ) → ((k : ℕ) → k < length word → get_or word k 0 ≢ mark) → cut_at mark word ≡ None
cut_without mark [] none = refl
cut_without mark (b ∷ word) none =
    let other : b ≢ mark = none 0 (omega arith) in
    let here : (b == mark) ≡ false = grind (arith, nat_tests) in
    rw here (ap (with_front b) (cut_without mark word (λ k h. none (suc k) (omega arith))))

abbrev first_part : Option (Word × Word) → Word
first_part None = []
first_part (Some parts) = parts.0

abbrev second_part : Option (Word × Word) → Word
second_part None = []
second_part (Some parts) = parts.1

front_parts : (b mark : ℕ) (word above below : List ℕ) (found : Option (Word × Word)) → ((x y : List ℕ) → found ≡ Some (x, y) → word ≡ x ++ mark ∷ y)
    → with_front b found ≡ Some (above, below) → b ∷ word ≡ above ++ mark ∷ below
front_parts b mark word above below None before e = absurd cc
front_parts b mark word above below (Some (x, y)) before e =
    let first : above ≡ b ∷ x = sym (ap first_part e) in
    let second : below ≡ y = sym (ap second_part e) in
    rw (first, second) (ap (λ t. b ∷ t) (before x y refl))

parts_by : (here : Bool) (b mark : ℕ) (word above below : List ℕ) → (b == mark) ≡ here → ((x y : List ℕ) → cut_at mark word ≡ Some (x, y) → word ≡ x ++ mark ∷ y)
    → (if here then Some ([], word) else with_front b (cut_at mark word)) ≡ Some (above, below) → b ∷ word ≡ above ++ mark ∷ below
parts_by true b mark word above below is before e =
    let same : b ≡ mark = grind (arith, nat_tests) in
    let first : above ≡ [] = sym (ap first_part e) in
    let second : below ≡ word = sym (ap second_part e) in
    rw (first, second, same) refl
parts_by false b mark word above below is before e = front_parts b mark word above below (cut_at mark word) before e

pub cut_parts : (mark : ℕ) (word above below : List ℕ) → cut_at mark word ≡ Some (above, below) → word ≡ above ++ mark ∷ below
cut_parts mark [] above below e = absurd cc
cut_parts mark (b ∷ word) above below e = parts_by (b == mark) b mark word above below refl (cut_parts mark word) e

-- ---- fractions

gcd_by : (inside : Bool) (a : Fraction) → is_in_range a ≡ inside → ((gcd_of (unsigned_abs a.num) a.den ≡ 1) ⊎ ¬ IsInRange a) → (if inside then gcd_of (unsigned_abs a.num) a.den == 1 else true) ≡ true
gcd_by true a is (inl e) = rw e refl
gcd_by true a is (inr h) = absurd (h (is_range a is))
gcd_by false a is h = refl

broken : (a : Fraction) → 2 ≤ a.den → ((gcd_of (unsigned_abs a.num) a.den ≡ 1) ⊎ ¬ IsInRange a) → is_broken a ≡ true
broken a two h =
    let low : nat_le 2 a.den ≡ true = grind (arith, nat_tests) in
    rw low (gcd_by (is_in_range a) a refl h)

gcd_of_broken : (inside : Bool) (a : Fraction) → is_in_range a ≡ inside → (if inside then gcd_of (unsigned_abs a.num) a.den == 1 else true) ≡ true → (gcd_of (unsigned_abs a.num) a.den ≡ 1) ⊎ ¬ IsInRange a
gcd_of_broken true a is e = inl (grind (arith, nat_tests))
gcd_of_broken false a is e = inr (λ h. absurd (let other = in_range a h in cc))

is_both : (b c : Bool) → b && c ≡ true → (b ≡ true) × (c ≡ true)
is_both true c e = (refl, e)
is_both false c e = absurd cc

of_broken : (a : Fraction) → is_broken a ≡ true → (2 ≤ a.den) × ((gcd_of (unsigned_abs a.num) a.den ≡ 1) ⊎ ¬ IsInRange a)
of_broken a e =
    let both = is_both (nat_le 2 a.den) _ e in
    let low : nat_le 2 a.den ≡ true = both.0 in
    (grind (arith, nat_tests), gcd_of_broken (is_in_range a) a refl both.1)

abbrev from_parts : Word → Option (Word × Word) → Option Fraction
from_parts word None = option_map over_one (whole_of word)
from_parts word (Some parts) = quotient_of (whole_of parts.0) (natural_of parts.1)

pub fraction_is : (word : List ℕ) (a : Fraction) → SpellsFraction word a → fraction_of word ≡ Some a
fraction_is word a (inl h) =
    let none : cut_at 47 word ≡ None = cut_without 47 word (whole_no_slash word a.num h.0) in
    let whole : over_one a.num ≡ a = λ i. record { num = a.num; den = sym h.1 i } in
    ap (from_parts word) none ∙ ap (option_map over_one) (whole_is word a.num h.0) ∙ ap Some whole
fraction_is word a (inr h) =
    let q = h.0 in
    let some : cut_at 47 word ≡ Some (q.above, q.below) = ap (cut_at 47) q.parts ∙ cut_join 47 q.above q.below (whole_no_slash q.above a.num q.num) in
    ap (from_parts word) some
    ∙ ap₂ quotient_of (whole_is q.above a.num q.num) (natural_is q.below a.den q.den)
    ∙ ap (λ (t : Bool). if t then Some a else None) (broken a q.broken h.1)

over_some : (word : List ℕ) (a : Fraction) (found : Option ℤ) → whole_of word ≡ found → option_map over_one found ≡ Some a → SpellsFraction word a
over_some word a None is e = absurd cc
over_some word a (Some n) is e =
    let same : over_one n ≡ a = cc in
    subst (SpellsFraction word) same (inl (whole_some word n is, refl))

broken_some : (t : Bool) (word above below : List ℕ) (a b : Fraction) → word ≡ above ++ 47 ∷ below → SpellsWhole above b.num → SpellsNatural below b.den → is_broken b ≡ t
    → (if t then Some b else None) ≡ Some a → SpellsFraction word a
broken_some true word above below a b parts num den is e =
    let same : b ≡ a = cc in
    let low = of_broken b is in
    subst (SpellsFraction word) same (inr (record { above = above; below = below; parts = parts; num = num; den = den; broken = low.0 }, low.1))
broken_some false word above below a b parts num den is e = absurd cc

quotient_some : (word above below : List ℕ) (a : Fraction) (num : Option ℤ) (den : Option ℕ) → word ≡ above ++ 47 ∷ below → whole_of above ≡ num → natural_of below ≡ den
    → quotient_of num den ≡ Some a → SpellsFraction word a
quotient_some word above below a None den parts p q e = absurd cc
quotient_some word above below a (Some n) None parts p q e = absurd cc
quotient_some word above below a (Some n) (Some d) parts p q e =
    let b : Fraction = record { num = n; den = d } in
    broken_some (is_broken b) word above below a b parts (whole_some above n p) (natural_some below d q) refl e

pub fraction_some : (word : List ℕ) (a : Fraction) → fraction_of word ≡ Some a → SpellsFraction word a
fraction_some word a e =
    elim (cut_at 47 word) as (λ (o : Option (Word × Word)). cut_at 47 word ≡ o
    → (elim o [ None ↦ option_map over_one (whole_of word) | Some parts ↦ quotient_of (whole_of parts.0) (natural_of parts.1) ]) ≡ Some a → SpellsFraction word a) [
      | None ↦ λ is f. over_some word a (whole_of word) refl f
      | Some (x, y) ↦ λ is f. quotient_some word x y a (whole_of x) (natural_of y) (cut_parts 47 word x y is) refl refl f
    ] refl e

pub as_fraction_is : (a : Fraction) → IsInRange a → as_fraction a ≡ Some a
as_fraction_is a h = rw (in_range a h) refl

as_fraction_none : (a : Fraction) → ¬ IsInRange a → as_fraction a ≡ None
as_fraction_none a h = rw (not_range a h) refl

pub fraction_ok : (word : List ℕ) (a : Fraction) → ReadsNumber (SpellsFraction word) IsInRange (Ok a) → Ok a ≡ fraction_word word
fraction_ok word a reads =
    sym (typed_ok (SpellsFraction word) IsInRange (fraction_of word) as_fraction a (fraction_is word) reads
    ∙ typed_some as_fraction a a (as_fraction_is a (read_fits (SpellsFraction word) IsInRange a reads)))

pub fraction_err : (word : List ℕ) (e : NumberFault) → ReadsNumber (SpellsFraction word) IsInRange (Err e) → Err (fault_of e) ≡ fraction_word word
fraction_err word e reads = sym (typed_err (SpellsFraction word) IsInRange (fraction_of word) as_fraction e (fraction_is word) (fraction_some word) as_fraction_none reads)
