-- What words of fractions spell.
use Rattle.std.proofs.Common.{◌≡◌, ◌≢◌, ℕ, zero, suc, ◌<◌, ◌≤◌, List, ◌∷◌, ◌++◌, ℤ, unsigned_abs, ◌⊎◌, inl, inr, Ok, Err, refl, sym, ap, ap₂, ◌∙◌, subst, arith}
use Rattle.std.specs.Prelude.{Result, MatchResult, Option, Some, None}
use Rattle.std.specs.Option.{SomeIff, ok_or}
use Rattle.qm_frac.proofs.Terms.{lowest_again, in_range_small}
use Rattle.qm_math.specs.Fraction.{Fraction}
use Rattle.qm_frac.specs.Gcd.{gcd_of}
use Rattle.qm_frac.specs.Lowest.{IsInRange, lowest}
use Rattle.qm_frac.proofs.Divisors.{gcd_of-one}
use Rattle.qm_text.specs.declared.fault.NumberFault.{NumberFault}
use Rattle.qm_text.specs.declared.fault.NumberFault.TheVariants as fault
use Rattle.qm_text.specs.Numbers.{SpellsNatural, SpellsWhole, SpellsQuotient, SpellsFraction}
use Rattle.qm_text.specs.Reading.{ReadsNumber}
use Rattle.qm_text.specs.Steps.{HasNoSlash, SpellsDenominator, both_of}
use Rattle.qm_text.proofs.Readings.{reads_ok, reads_leaves, reads_none, err_passes}
use Rattle.qm_text.proofs.Wholes.{Small, SmallWhole, natural_one, whole_one}
use Rattle.qm_text.proofs.Slashes.{whole_no_slash, slash_stands, split_one}

over : ℤ → ℕ → Fraction
over n d = record { num = n; den = d }

whole_is_no_quotient : (word : List ℕ) (z : ℤ) (a : Fraction) → SpellsWhole word z → ¬ SpellsQuotient word a
whole_is_no_quotient word z a whole q = slash_stands q.above q.below (subst HasNoSlash q.parts (whole_no_slash word z whole))

quotient_one : (word : List ℕ) (v w : Fraction) → SpellsQuotient word v → SpellsQuotient word w → v ≡ w
quotient_one word v w p q =
    let same = split_one p.above p.below q.above q.below (whole_no_slash p.above v.num p.num) (whole_no_slash q.above w.num q.num) (sym p.parts ∙ q.parts) in
    let num = whole_one q.above v.num w.num (subst (λ t. SpellsWhole t v.num) same.0 p.num) q.num in
    let den = natural_one q.below v.den w.den (subst (λ t. SpellsNatural t v.den) same.1 p.den) q.den in
    ap₂ (λ (n : ℤ) (d : ℕ). record { num = n; den = d }) num den

pub fraction_one : (word : List ℕ) (v w : Fraction) → SpellsFraction word v → SpellsFraction word w → v ≡ w
fraction_one word v w (inl p) (inl q) = ap₂ (λ (n : ℤ) (d : ℕ). record { num = n; den = d }) (whole_one word v.num w.num p.0 q.0) (p.1 ∙ sym q.1)
fraction_one word v w (inl p) (inr q) = absurd (whole_is_no_quotient word v.num w p.0 q.0)
fraction_one word v w (inr p) (inl q) = absurd (whole_is_no_quotient word w.num v q.0 p.0)
fraction_one word v w (inr p) (inr q) = quotient_one word v w p.0 q.0

-- ---- a whole number

-- without a slash a fraction is a whole number
pub whole_of_fraction : (word : List ℕ) (a : Fraction) → HasNoSlash word → SpellsFraction word a → SpellsWhole word a.num × (a.den ≡ 1)
whole_of_fraction word a none (inl p) = p
whole_of_fraction word a none (inr q) = absurd (slash_stands q.0.above q.0.below (subst HasNoSlash q.0.parts none))

pub over_one_err : (word : List ℕ) (e : NumberFault) → HasNoSlash word → ReadsNumber (SpellsWhole word) SmallWhole (Err e) → ReadsNumber (SpellsFraction word) IsInRange (Err e)
over_one_err word e none h = err_passes (SpellsWhole word) SmallWhole (λ n. n) (SpellsFraction word) IsInRange (λ a. a) (fraction_one word) e h
    (λ never w spells. never w.num (whole_of_fraction word w none spells).0)
    (λ v spells large. (record { num = v; den = 1 }, inl (spells, refl), λ fits. large fits.num_fits))

-- what lowest answers
abbrev pub IsLowest : ℤ → ℕ → Result Fraction NumberFault → Type 0
IsLowest num den answer = MatchResult answer
    (λ r. (r ≡ record { num = num; den = den }) × (gcd_of (unsigned_abs num) den ≡ 1))
    (λ e. (e ≡ fault.NotNumber) × (gcd_of (unsigned_abs num) den ≢ 1))

pub over_one_ok : (word : List ℕ) (n : ℤ) (answer : Result Fraction NumberFault) → ReadsNumber (SpellsWhole word) SmallWhole (Ok n) → IsLowest n 1 answer
    → ReadsNumber (SpellsFraction word) IsInRange answer
over_one_ok word n (Ok r) h is =
    let read = (h.ok n).0 refl in
    let spells : SpellsWhole word n = subst (SpellsWhole word) (sym read.3) read.1 in
    let small : SmallWhole n = subst SmallWhole (sym read.3) read.2 in
    rw is.0 (reads_ok (SpellsFraction word) IsInRange (λ a. a) (fraction_one word) (record { num = n; den = 1 }) (inl (spells, refl))
    (record { num_fits = small; den_fits = omega arith }))
over_one_ok word n (Err e) h is = absurd (is.1 (gcd_of-one (unsigned_abs n)))

-- ---- a quotient

-- the parts of a fraction with a slash
pub parts_of_fraction : (above below : List ℕ) (a : Fraction) → HasNoSlash above → SpellsFraction (above ++ 47 ∷ below) a
    → SpellsWhole above a.num × SpellsDenominator below a.den
parts_of_fraction above below a none (inl p) = absurd (slash_stands above below (whole_no_slash (above ++ 47 ∷ below) a.num p.0))
parts_of_fraction above below a none (inr q) =
    let same = split_one above below q.0.above q.0.below none (whole_no_slash q.0.above a.num q.0.num) q.0.parts in
    (rw (same.0) q.0.num, (rw (same.1) q.0.den, q.0.broken))

quotient_of : (above below : List ℕ) (n : ℤ) (d : ℕ) → SpellsWhole above n → SpellsDenominator below d → SpellsQuotient (above ++ 47 ∷ below) (record { num = n; den = d })
quotient_of above below n d p q = record { above = above; below = below; parts = refl; num = p; den = q.0; broken = q.1 }

-- one part leaves
leaving : (above below : List ℕ) (n : ℤ) (d : ℕ) → HasNoSlash above → SpellsWhole above n → SpellsDenominator below d → ¬ IsInRange (record { num = n; den = d })
    → ReadsNumber (SpellsFraction (above ++ 47 ∷ below)) IsInRange (Err fault.Leaves)
leaving above below n d none p q large =
    reads_leaves (SpellsFraction (above ++ 47 ∷ below)) IsInRange (λ a. a) (fraction_one (above ++ 47 ∷ below)) (record { num = n; den = d })
    (inr (quotient_of above below n d p q, inr large)) large

no_fraction : (above below : List ℕ) → HasNoSlash above → ((n : ℤ) (d : ℕ) → SpellsWhole above n → SpellsDenominator below d → ⊥)
    → ReadsNumber (SpellsFraction (above ++ 47 ∷ below)) IsInRange (Err fault.NotNumber)
no_fraction above below none never = reads_none (SpellsFraction (above ++ 47 ∷ below)) IsInRange (λ a. a)
    (λ a spells. let parts = parts_of_fraction above below a none spells in never a.num a.den parts.0 parts.1)

pub quotient_err : (above below : List ℕ) (e : NumberFault) (num : Result ℤ NumberFault) (den : Result ℕ NumberFault) → HasNoSlash above
    → ReadsNumber (SpellsWhole above) SmallWhole num → ReadsNumber (SpellsDenominator below) Small den → Err e ≡ both_of num den
    → ReadsNumber (SpellsFraction (above ++ 47 ∷ below)) IsInRange (Err e)
quotient_err above below e (Ok n) (Ok d) none p q is = cc is
quotient_err above below e (Ok n) (Err fault.NotNumber) none p q is =
    let same : e ≡ fault.NotNumber = cc is in
    rw same (no_fraction above below none (λ m d whole part. q.not_number.0 refl d part))
quotient_err above below e (Ok n) (Err fault.Leaves) none p q is =
    let same : e ≡ fault.Leaves = cc is in
    let read = (p.ok n).0 refl in
    let den = q.leaves.0 refl in
    rw same (leaving above below read.0 den.0 none read.1 den.1 (λ fits. den.2 fits.den_fits))
quotient_err above below e (Err fault.NotNumber) den none p q is =
    let same : e ≡ fault.NotNumber = elim den as (λ (r : Result ℕ NumberFault). Err e ≡ both_of (Err fault.NotNumber) r → e ≡ fault.NotNumber) [ Ok d ↦ λ g. cc g | Err f ↦ λ g. cc g ] is in
    rw same (no_fraction above below none (λ m d whole part. p.not_number.0 refl m whole))
quotient_err above below e (Err fault.Leaves) (Ok d) none p q is =
    let same : e ≡ fault.Leaves = cc is in
    let num = p.leaves.0 refl in
    let read = (q.ok d).0 refl in
    rw same (leaving above below num.0 read.0 none num.1 read.1 (λ fits. num.2 fits.num_fits))
quotient_err above below e (Err fault.Leaves) (Err fault.NotNumber) none p q is =
    let same : e ≡ fault.NotNumber = cc is in
    rw same (no_fraction above below none (λ m d whole part. q.not_number.0 refl d part))
quotient_err above below e (Err fault.Leaves) (Err fault.Leaves) none p q is =
    let same : e ≡ fault.Leaves = cc is in
    let num = p.leaves.0 refl in
    let den = q.leaves.0 refl in
    rw same (leaving above below num.0 den.0 none num.1 den.1 (λ fits. num.2 fits.num_fits))

-- both parts were read
pub record AreParts (above below : List ℕ) (n : ℤ) (d : ℕ) : Type 0 where
  pub num : SpellsWhole above n
  pub num_fits : SmallWhole n
  pub den : SpellsDenominator below d
  pub den_fits : Small d

pub parts_read : (above below : List ℕ) (n : ℤ) (d : ℕ) (num : Result ℤ NumberFault) (den : Result ℕ NumberFault)
    → ReadsNumber (SpellsWhole above) SmallWhole num → ReadsNumber (SpellsDenominator below) Small den → Ok (n, d) ≡ both_of num den → AreParts above below n d
parts_read above below n d (Ok m) (Ok e) p q is =
    let num = (p.ok m).0 refl in
    let den = (q.ok e).0 refl in
    let pair : (n, d) ≡ (m, e) = cc is in
    let n_is : num.0 ≡ n = sym num.3 ∙ ap (λ (x : ℤ × ℕ). x.0) (sym pair) in
    let d_is : den.0 ≡ d = sym den.3 ∙ ap (λ (x : ℤ × ℕ). x.1) (sym pair) in
    record {
      num = subst (SpellsWhole above) n_is num.1;
      num_fits = subst SmallWhole n_is num.2;
      den = subst (SpellsDenominator below) d_is den.1;
      den_fits = subst Small d_is den.2;
    }
parts_read above below n d (Ok m) (Err e) p q is = cc is
parts_read above below n d (Err e) (Ok m) p q is = cc is
parts_read above below n d (Err fault.NotNumber) (Err e) p q is = cc is
parts_read above below n d (Err fault.Leaves) (Err e) p q is = cc is

-- what isn't in lowest terms, though its parts are in range, is no fraction
not_lowest : (above below : List ℕ) (n : ℤ) (d : ℕ) → HasNoSlash above → AreParts above below n d → gcd_of (unsigned_abs n) d ≢ 1
    → (a : Fraction) → ¬ SpellsFraction (above ++ 47 ∷ below) a
not_lowest above below n d none parts never a (inl p) = slash_stands above below (whole_no_slash (above ++ 47 ∷ below) a.num p.0)
not_lowest above below n d none parts never a (inr q) =
    let same : a ≡ record { num = n; den = d } = quotient_one (above ++ 47 ∷ below) a (record { num = n; den = d }) q.0 (quotient_of above below n d parts.num parts.den) in
    let terms = subst (λ (r : Fraction). (gcd_of (unsigned_abs r.num) r.den ≡ 1) ⊎ ¬ IsInRange r) same q.1 in
    elim terms as (λ (t : (gcd_of (unsigned_abs n) d ≡ 1) ⊎ ¬ IsInRange (record { num = n; den = d })). ⊥) [
      | inl one ↦ never one
      | inr large ↦ large (record { num_fits = parts.num_fits; den_fits = parts.den_fits })
    ]

pub quotient_ok : (above below : List ℕ) (n : ℤ) (d : ℕ) (answer : Result Fraction NumberFault) → HasNoSlash above → AreParts above below n d → IsLowest n d answer
    → ReadsNumber (SpellsFraction (above ++ 47 ∷ below)) IsInRange answer
quotient_ok above below n d (Ok r) none parts is =
    rw is.0 (reads_ok (SpellsFraction (above ++ 47 ∷ below)) IsInRange (λ a. a) (fraction_one (above ++ 47 ∷ below)) (record { num = n; den = d })
    (inr (quotient_of above below n d parts.num parts.den, inl is.1))
    (record { num_fits = parts.num_fits; den_fits = parts.den_fits }))
quotient_ok above below n d (Err e) none parts is =
    rw is.0 (reads_none (SpellsFraction (above ++ 47 ∷ below)) IsInRange (λ a. a) (not_lowest above below n d none parts is.1))

-- ---- the denominator

at_least : (v : ℕ) → ¬ Small v → 2 ≤ v
at_least zero large = absurd (large (omega arith))
at_least (suc zero) large = absurd (large (omega arith))
at_least (suc (suc v)) large = omega arith

pub denominator_err : (word : List ℕ) (e : NumberFault) → ReadsNumber (SpellsNatural word) Small (Err e) → ReadsNumber (SpellsDenominator word) Small (Err e)
denominator_err word e h = err_passes (SpellsNatural word) Small (λ n. n) (SpellsDenominator word) Small (λ n. n) (λ v w p q. natural_one word v w p.0 q.0) e h
    (λ never w spells. never w spells.0)
    (λ v spells large. (v, (spells, at_least v large), large))

pub denominator_none : (word : List ℕ) (n : ℕ) → ReadsNumber (SpellsNatural word) Small (Ok n) → n < 2 → ReadsNumber (SpellsDenominator word) Small (Err fault.NotNumber)
denominator_none word n h small = reads_none (SpellsDenominator word) Small (λ n. n)
    (λ v spells.
    let read = (h.ok n).0 refl in
    let same = natural_one word v read.0 spells.0 read.1 in
    let value = read.3 in
    let large = spells.1 in
    omega arith)

pub denominator_ok : (word : List ℕ) (n : ℕ) → ReadsNumber (SpellsNatural word) Small (Ok n) → 2 ≤ n → ReadsNumber (SpellsDenominator word) Small (Ok n)
denominator_ok word n h large =
    let read = (h.ok n).0 refl in
    let spells : SpellsNatural word n = subst (SpellsNatural word) (sym read.3) read.1 in
    let small : Small n = subst Small (sym read.3) read.2 in
    reads_ok (SpellsDenominator word) Small (λ n. n) (λ v w p q. natural_one word v w p.0 q.0) n (spells, large) small

-- ---- lowest terms

pub lowest_answer : (num : ℤ) (den : ℕ) → SmallWhole num → 0 < den → Small den → gcd_of (unsigned_abs num) den ≡ 1
    → (found : Option Fraction) → SomeIff found (IsInRange (lowest num den)) (lowest num den) → IsLowest num den (ok_or found fault.NotNumber)
lowest_answer num den num_small some den_small one (Some r) found =
    (found.1 ∙ lowest_again (record { num = num; den = den }) (record { positive = some; lowest = one; num_fits = num_small; den_fits = den_small }), one)
lowest_answer num den num_small some den_small one None found = absurd (found (in_range_small num den num_small den_small))
