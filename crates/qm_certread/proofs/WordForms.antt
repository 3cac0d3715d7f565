-- A word says a number just where it is the number's own word.
use Rattle.std.proofs.Common.{◌≡◌, ℕ, suc, ◌<◌, ◌^◌, Bool, true, false, List, [], ◌∷◌, map, ℤ, pos, negsuc, None, Some, Ok, Err, refl, ap, ap₂, ◌∙◌, subst, arith}
use Rattle.std.specs.Prelude.{All, FitsSigned, nat_lt, if◌then◌else◌}
use Rattle.std.specs.Fmt.{decimal, signed_decimal}
use Rattle.std.specs.Int.{w64}
use Rattle.std.proofs.lemmas.Bool.Decides.{nat_tests}
use Rattle.std.proofs.lemmas.List.Elements.{All-cons, All-nil}
use Rattle.qm_math.specs.Fraction.{Fraction}
use Rattle.qm_frac.specs.Lowest.{IsFrac}
use Rattle.qm_text.specs.Numbers.{SpellsWhole, number_word}
use Rattle.qm_text.proofs.Written.{fraction_written, narrow_written}
use Rattle.qm_certfile.specs.Lines.{Word}
use Rattle.qm_certfile.specs.WellFormed.{IsWhole}
use Rattle.qm_certread.specs.Spelling.{Said, as_count, as_fraction, as_value, count_word, each, fraction_word, of_type, value_word, whole_of, with_both}
use Rattle.qm_certread.specs.Fits.{IsCount}
use Rattle.qm_certread.proofs.Decoded.{as_value_is, typed_some, whole_is, whole_some}
use Rattle.qm_certread.proofs.EntryForms.{frac_told, fraction_told, typed_by}
use Rattle.qm_certread.proofs.Quotients.{as_fraction_is, fraction_is}

-- ---- values

whole_fits : (z : ℤ) → IsWhole z → FitsSigned w64 z
whole_fits (pos n) h = omega arith
whole_fits (negsuc n) h = omega arith

value_by : (t : Bool) (n : ℕ) (y z : ℤ) → nat_lt n (2 ^ 63) ≡ t → (if t then Some y else None) ≡ Some z → (y ≡ z) × (n < 2 ^ 63)
value_by true n y z is e = (cc, grind (arith, nat_tests))
value_by false n y z is e = absurd cc

as_value_told : (y z : ℤ) → as_value y ≡ Some z → (y ≡ z) × IsWhole y
as_value_told (pos n) z e = value_by (nat_lt n (2 ^ 63)) n (pos n) z refl e
as_value_told (negsuc n) z e = value_by (nat_lt n (2 ^ 63)) n (negsuc n) z refl e

pub value_told : (word : Word) (z : ℤ) → value_word word ≡ Ok z → (word ≡ signed_decimal z) × IsWhole z
value_told word z e =
    let typed = typed_by as_value (whole_of word) z e in
    let told = as_value_told typed.0 z typed.2 in
    let whole = subst IsWhole told.0 told.1 in
    ((narrow_written word z (whole_fits z whole)).0 (subst (SpellsWhole word) told.0 (whole_some word typed.0 typed.1)), whole)

pub value_said : (z : ℤ) → IsWhole z → value_word (signed_decimal z) ≡ Ok z
value_said z h =
    let fits = whole_fits z h in
    ap (of_type as_value) (whole_is (signed_decimal z) z ((narrow_written (signed_decimal z) z fits).1 refl)) ∙ typed_some as_value z z (as_value_is z fits)

-- ---- counts

count_by : (t : Bool) (m n : ℕ) → nat_lt m (2 ^ 32) ≡ t → (if t then Some m else None) ≡ Some n → (m ≡ n) × (m < 2 ^ 32)
count_by true m n is e = (cc, grind (arith, nat_tests))
count_by false m n is e = absurd cc

as_count_told : (z : ℤ) (n : ℕ) → as_count z ≡ Some n → (z ≡ pos n) × IsCount n
as_count_told (pos m) n e = let told = count_by (nat_lt m (2 ^ 32)) m n refl e in (ap pos told.0, subst (λ k. k < 2 ^ 32) told.0 told.1)
as_count_told (negsuc m) n e = absurd cc

as_count_is : (n : ℕ) → IsCount n → as_count (pos n) ≡ Some n
as_count_is n h = let small : nat_lt n (2 ^ 32) ≡ true = grind (arith, nat_tests) in rw small refl

pub count_told : (word : Word) (n : ℕ) → count_word word ≡ Ok n → (word ≡ decimal n) × IsCount n
count_told word n e =
    let typed = typed_by as_count (whole_of word) n e in
    let told = as_count_told typed.0 n typed.2 in
    let fits : FitsSigned w64 (pos n) = let small = told.1 in omega arith in
    ((narrow_written word (pos n) fits).0 (subst (SpellsWhole word) told.0 (whole_some word typed.0 typed.1)), told.1)

pub count_said : (n : ℕ) → IsCount n → count_word (decimal n) ≡ Ok n
count_said n h =
    let fits : FitsSigned w64 (pos n) = omega arith in
    ap (of_type as_count) (whole_is (decimal n) (pos n) ((narrow_written (decimal n) (pos n) fits).1 refl)) ∙ typed_some as_count (pos n) n (as_count_is n h)

-- ---- fractions

pub fraction_told_so : (word : Word) (a : Fraction) → fraction_word word ≡ Ok a → (word ≡ number_word a) × IsFrac a
fraction_told_so word a e =
    let told = fraction_told word a e in
    let frac = frac_told word a told.0 told.1 in
    ((fraction_written word a frac).0 told.0, frac)

pub fraction_said : (a : Fraction) → IsFrac a → fraction_word (number_word a) ≡ Ok a
fraction_said a h =
    ap (of_type as_fraction) (fraction_is (number_word a) a ((fraction_written (number_word a) a h).1 refl))
    ∙ typed_some as_fraction a a (as_fraction_is a (record { num_fits = h.num_fits; den_fits = h.den_fits }))

-- ---- several words

pub both_ok : {A B C : Type 0} (f : A → B → C) (x : Said A) (y : Said B) (c : C) → with_both f x y ≡ Ok c → (a : A) × (b : B) × (x ≡ Ok a) × (y ≡ Ok b) × (f a b ≡ c)
both_ok {A} {B} {C} f (Ok a) (Ok b) c e = (a, b, refl, refl, cc)
both_ok {A} {B} {C} f (Ok a) (Err s) c e = absurd cc
both_ok {A} {B} {C} f (Err r) (Ok b) c e = absurd cc
both_ok {A} {B} {C} f (Err r) (Err s) c e = absurd cc

module _ {A : Type 0} (says : Word → Said A) (word : A → Word) (Is : A → Type 0) where
  pub each_told : ((w : Word) (a : A) → says w ≡ Ok a → (w ≡ word a) × Is a) → (words : List Word) (xs : List A) → each says words ≡ Ok xs → (words ≡ map word xs) × All Is xs
  each_told one [] xs e = let none : [] ≡ xs = cc in subst (λ (l : List A). ([] ≡ map word l) × All Is l) none (refl, All-nil Is)
  each_told one (w ∷ ws) xs e =
      let both = both_ok (λ (a : A) (rest : List A). a ∷ rest) (says w) (each says ws) xs e in
      let first = one w both.0 both.2 in
      let rest = each_told one ws both.1 both.3 in
      subst (λ (l : List A). (w ∷ ws ≡ map word l) × All Is l) both.4
      (ap₂ (λ (v : Word) (vs : List Word). v ∷ vs) first.0 rest.0, All-cons Is both.0 both.1 first.1 rest.1)

  pub each_said : ((a : A) → Is a → says (word a) ≡ Ok a) → (xs : List A) → All Is xs → each says (map word xs) ≡ Ok xs
  each_said one [] all = refl
  each_said one (x ∷ xs) all =
      let first : Is x = all 0 x (omega arith) in
      let rest : All Is xs = λ k d h. all (suc k) d (omega arith) in
      ap₂ (with_both (λ (a : A) (more : List A). a ∷ more)) (one x first) (each_said one xs rest)
