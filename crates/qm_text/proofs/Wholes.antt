-- What words of digits spell.
use Rattle.std.proofs.Common.{◌≡◌, ◌≢◌, ℕ, zero, suc, ◌-◌, ◌^◌, ◌<◌, ◌≤◌, List, ◌∷◌, get_or, min, ℤ, pos, negsuc, neg_ℤ, unsigned_abs, to_z, of_z, true, false, Ok, Err, IsTrue, refl, sym, ap, ◌∙◌, subst, arith}
use Rattle.std.specs.Int.{w64, w128}
use Rattle.std.specs.Prelude.{FitsSigned, Result}
use Rattle.qm_text.specs.declared.fault.NumberFault.{NumberFault}
use Rattle.qm_text.specs.declared.fault.NumberFault.TheVariants as fault
use Rattle.qm_text.specs.Digits.{are_digits, is_plain_numeral, numeral_value}
use Rattle.qm_text.proofs.Slashes.{digits_of_plain}
use Rattle.qm_text.specs.Numbers.{SpellsNatural, SpellsWhole}
use Rattle.qm_text.specs.Reading.{ReadsNumber}
use Rattle.qm_text.proofs.Readings.{reads_ok, reads_leaves, reads_none, err_passes}
use Rattle.qm_frac.proofs.SignLaws.{unwrap}

-- below 2 ^ 127
abbrev pub Small : ℕ → Type 0
Small n = n < 2 ^ 127

abbrev pub SmallWhole : ℤ → Type 0
SmallWhole z = unsigned_abs z < 2 ^ 127

pub natural_one : (word : List ℕ) (v w : ℕ) → SpellsNatural word v → SpellsNatural word w → v ≡ w
natural_one word v w p q = p.1 ∙ sym q.1

-- a minus is no digit
minus_not_plain : (digits : List ℕ) → ¬ IsTrue (is_plain_numeral (45 ∷ digits))
minus_not_plain digits h =
    let all : are_digits (45 ∷ digits) ≡ true = digits_of_plain (45 ∷ digits) h in
    let e : ◌≡◌ {A = ℕ} 0 1 = cc all in
    absurd (omega arith)

-- what stands behind a minus
behind_minus : (digits others : List ℕ) → 45 ∷ digits ≡ 45 ∷ others → digits ≡ others
behind_minus digits others e = cc e

pub whole_one : (word : List ℕ) (v w : ℤ) → SpellsWhole word v → SpellsWhole word w → v ≡ w
whole_one word (pos m) (pos n) p q = ap pos (natural_one word m n p q)
whole_one word (pos m) (negsuc n) p q = absurd (minus_not_plain q.0 (subst (λ t. IsTrue (is_plain_numeral t)) q.1 p.0))
whole_one word (negsuc m) (pos n) p q = absurd (minus_not_plain p.0 (subst (λ t. IsTrue (is_plain_numeral t)) p.1 q.0))
whole_one word (negsuc m) (negsuc n) p q =
    let same = behind_minus p.0 q.0 (sym p.1 ∙ q.1) in
    let next : suc m ≡ suc n = natural_one q.0 (suc m) (suc n) (subst (λ t. SpellsNatural t (suc m)) same p.2) q.2 in
    let e : m ≡ n = omega arith in
    ap negsuc e

-- ---- numbers without a sign

pub natural_none : (word : List ℕ) → is_plain_numeral word ≡ false → ReadsNumber (SpellsNatural word) Small (Err fault.NotNumber)
natural_none word e = reads_none (SpellsNatural word) Small (λ n. n) (λ v h. cc (e, h.0))

pub natural_leaves : (word : List ℕ) (n : ℕ) → is_plain_numeral word ≡ true → n ≡ min (numeral_value word) (2 ^ 128 - 1) → 2 ^ 127 ≤ n
    → ReadsNumber (SpellsNatural word) Small (Err fault.Leaves)
natural_leaves word n e capped large =
    reads_leaves (SpellsNatural word) Small (λ n. n) (natural_one word) (numeral_value word) (e, refl) (λ small. omega arith)

pub natural_ok : (word : List ℕ) (n : ℕ) → is_plain_numeral word ≡ true → n ≡ min (numeral_value word) (2 ^ 128 - 1) → n < 2 ^ 127
    → ReadsNumber (SpellsNatural word) Small (Ok n)
natural_ok word n e capped small =
    let exact : n ≡ numeral_value word = omega arith in
    reads_ok (SpellsNatural word) Small (λ n. n) (natural_one word) n (e, exact) small

-- ---- numbers with a sign

pub SpellsWhole-minus : (digits : List ℕ) (n : ℕ) → 0 < n → SpellsNatural digits n → SpellsWhole (45 ∷ digits) (neg_ℤ (pos n))
SpellsWhole-minus digits zero some h = absurd (omega arith)
SpellsWhole-minus digits (suc n) some h = (digits, refl, h)

pub minus_size : (n : ℕ) → unsigned_abs (neg_ℤ (pos n)) ≡ n
minus_size zero = refl
minus_size (suc n) = refl

-- a number behind a minus, which isn't 0
pub natural_of_minus : (digits : List ℕ) (z : ℤ) → SpellsWhole (45 ∷ digits) z → (n : ℕ) × SpellsNatural digits n × (0 < n)
natural_of_minus digits (pos n) h = absurd (minus_not_plain digits h.0)
natural_of_minus digits (negsuc n) h = (suc n, subst (λ t. SpellsNatural t (suc n)) (sym (behind_minus digits h.0 h.1)) h.2, omega arith)

pub below_zero_err : (digits : List ℕ) (e : NumberFault) → ReadsNumber (SpellsNatural digits) Small (Err e)
    → ReadsNumber (SpellsWhole (45 ∷ digits)) SmallWhole (Err e)
below_zero_err digits e h = err_passes (SpellsNatural digits) Small (λ n. n) (SpellsWhole (45 ∷ digits)) SmallWhole (λ n. n) (whole_one (45 ∷ digits)) e h
    (λ none w spells. let n = natural_of_minus digits w spells in none n.0 n.1)
    (λ v spells large.
    let some : 0 < v = elim v as (λ (k : ℕ). ¬ Small k → 0 < k) [ zero ↦ λ g. absurd (g (omega arith)) | suc k ↦ λ g. omega arith ] large in
    (neg_ℤ (pos v), SpellsWhole-minus digits v some spells, λ small. large (subst Small (minus_size v) small)))

pub below_zero_none : (digits : List ℕ) (n : ℕ) → ReadsNumber (SpellsNatural digits) Small (Ok n) → n ≡ 0
    → ReadsNumber (SpellsWhole (45 ∷ digits)) SmallWhole (Err fault.NotNumber)
below_zero_none digits n h zero_is = reads_none (SpellsWhole (45 ∷ digits)) SmallWhole (λ n. n)
    (λ w spells.
    let other = natural_of_minus digits w spells in
    let read = (h.ok n).0 refl in
    let same = natural_one digits other.0 read.0 other.1 read.1 in
    let value = read.3 in
    let large = other.2 in
    omega arith)

pub below_zero_ok : (digits : List ℕ) (n : ℕ) → ReadsNumber (SpellsNatural digits) Small (Ok n) → n ≢ 0
    → ReadsNumber (SpellsWhole (45 ∷ digits)) SmallWhole (Ok (neg_ℤ (pos n)))
below_zero_ok digits n h some =
    let read = (h.ok n).0 refl in
    let spells : SpellsNatural digits n = subst (SpellsNatural digits) (sym read.3) read.1 in
    let small : Small n = subst Small (sym read.3) read.2 in
    reads_ok (SpellsWhole (45 ∷ digits)) SmallWhole (λ n. n) (whole_one (45 ∷ digits)) (neg_ℤ (pos n))
    (SpellsWhole-minus digits n (omega arith) spells)
    (subst Small (sym (minus_size n)) small)

-- without a minus a whole number is a natural one
pub natural_of_whole : (word : List ℕ) (z : ℤ) → get_or word 0 0 ≢ 45 → SpellsWhole word z → (n : ℕ) × (z ≡ pos n) × SpellsNatural word n
natural_of_whole word (pos n) first h = (n, refl, h)
natural_of_whole word (negsuc n) first h = absurd (first (ap (λ t. get_or t 0 0) h.1))

pub not_below_zero_err : (word : List ℕ) (e : NumberFault) → get_or word 0 0 ≢ 45 → ReadsNumber (SpellsNatural word) Small (Err e)
    → ReadsNumber (SpellsWhole word) SmallWhole (Err e)
not_below_zero_err word e first h = err_passes (SpellsNatural word) Small (λ n. n) (SpellsWhole word) SmallWhole (λ n. n) (whole_one word) e h
    (λ none w spells. let n = natural_of_whole word w first spells in none n.0 n.2)
    (λ v spells large. (pos v, spells, large))

pub not_below_zero_ok : (word : List ℕ) (n : ℕ) → ReadsNumber (SpellsNatural word) Small (Ok n) → ReadsNumber (SpellsWhole word) SmallWhole (Ok (pos n))
not_below_zero_ok word n h =
    let read = (h.ok n).0 refl in
    let spells : SpellsNatural word n = subst (SpellsNatural word) (sym read.3) read.1 in
    let small : Small n = subst Small (sym read.3) read.2 in
    reads_ok (SpellsWhole word) SmallWhole (λ n. n) (whole_one word) (pos n) spells small

-- a signed number of 128 bits, as calls pass it
pub wrapped : (z n : ℤ) → z ≡ n → SmallWhole n → to_z w128 (of_z w128 z) ≡ n
wrapped z n e small = ap (λ (k : ℤ). to_z w128 (of_z w128 k)) e ∙ unwrap n small

pub minus_small : (n : ℕ) → Small n → SmallWhole (neg_ℤ (pos n))
minus_small n small = subst Small (sym (minus_size n)) small

-- ---- 64 bits

pub narrow_ok : (n : ℤ) → FitsSigned w64 n → ReadsNumber (λ m. m ≡ n) (FitsSigned w64) (Ok n)
narrow_ok n fits = reads_ok (λ m. m ≡ n) (FitsSigned w64) (λ m. m) (λ v w p q. p ∙ sym q) n refl fits

pub narrow_err : (n : ℤ) → ¬ FitsSigned w64 n → ReadsNumber (λ m. m ≡ n) (FitsSigned w64) (Err fault.Leaves)
narrow_err n large = reads_leaves (λ m. m ≡ n) (FitsSigned w64) (λ m. m) (λ v w p q. p ∙ sym q) n refl large

pub fits_small : (n : ℤ) → FitsSigned w64 n → SmallWhole n
fits_small (pos n) h = omega arith
fits_small (negsuc n) h = omega arith

-- a number read and then made narrow
pub narrowed : (word : List ℕ) (n : ℤ) (answer : Result ℤ NumberFault) → ReadsNumber (SpellsWhole word) SmallWhole (Ok n) → ReadsNumber (λ m. m ≡ n) (FitsSigned w64) answer
    → ReadsNumber (SpellsWhole word) (FitsSigned w64) answer
narrowed word n answer h g =
    let read = (h.ok n).0 refl in
    let spells : SpellsWhole word n = subst (SpellsWhole word) (sym read.3) read.1 in
    elim answer as (λ (r : Result ℤ NumberFault). ReadsNumber (λ m. m ≡ n) (FitsSigned w64) r → ReadsNumber (SpellsWhole word) (FitsSigned w64) r) [
      | Ok m ↦ λ k.
          let found = (k.ok m).0 refl in
          let same : m ≡ n = found.3 ∙ found.1 in
          reads_ok (SpellsWhole word) (FitsSigned w64) (λ m. m) (whole_one word) m (subst (SpellsWhole word) (sym same) spells) (subst (FitsSigned w64) (sym found.3) found.2)
      | Err e ↦ λ k. err_passes (λ m. m ≡ n) (FitsSigned w64) (λ m. m) (SpellsWhole word) (FitsSigned w64) (λ m. m) (whole_one word) e k
          (λ none w other. absurd (none n refl))
          (λ v is large. (v, subst (SpellsWhole word) (sym is) spells, large))
    ] g

pub narrowed_err : (word : List ℕ) (e : NumberFault) → ReadsNumber (SpellsWhole word) SmallWhole (Err e) → ReadsNumber (SpellsWhole word) (FitsSigned w64) (Err e)
narrowed_err word e h = err_passes (SpellsWhole word) SmallWhole (λ n. n) (SpellsWhole word) (FitsSigned w64) (λ n. n) (whole_one word) e h
    (λ none. none)
    (λ v spells large. (v, spells, λ fits. large (fits_small v fits)))
