-- Where an operation has a value, that is the exact value, and it is in lowest terms and in range.
use Rattle.std.proofs.Common.{◌≡◌, ℕ, zero, suc, ◌*◌, ◌<◌, ℤ, pos, negsuc, ◌+ℤ◌, ◌*ℤ◌, Bool, true, false, Result, Ok, Err, refl, sym, ap, ◌∙◌, subst, unsigned_abs, arith}
use Rattle.std.specs.Prelude.{if◌then◌else◌}
use native.Mathlib.Nat.{mul-pos}
use lib.IntN.{*ℤ_comm}
use Rattle.std.proofs.lemmas.Int.{ints}
use Rattle.qm_math.specs.Fraction.{Fraction, IsSame}
use Rattle.qm_math.specs.Arithmetic.{sum_of, negated as minus_of, difference_of, product_of, quotient_of}
use Rattle.qm_math.proofs.Whole.{*ℤ_assoc, *ℤ_swap}
use Rattle.qm_math.proofs.Products.{cancel_same}
use Rattle.qm_frac.specs.Signs.{signed, is_below_zero}
use Rattle.qm_frac.specs.Lowest.{IsFrac, IsInRange}
use Rattle.qm_frac.specs.Arithmetic.{SumFits, sum, difference, product, quotient, negated, inverse, left_num, right_num, common_den}
use Rattle.qm_frac.proofs.MultipliedOut.{inverse-inverse_of}
use Rattle.qm_frac.specs.Checked.{and_then, sum_fits, is_in_range, added, subtracted, multiplied, divided}
use Rattle.qm_frac.specs.declared.leaves.Leaves.{Leaves}
use Rattle.qm_frac.specs.declared.leaves.Op.TheVariants as op
use Rattle.qm_frac.proofs.Terms.{quotient_pos, in_range_small, IsFrac-lowest}
use Rattle.qm_frac.proofs.Values.{sum-value, product-value}
use Rattle.qm_frac.proofs.AnswerLaws.{sum_fits_decides, in_range_decides}

-- ---- evaluations in steps

-- an evaluation that has a value has one at its first step and at its next
pub and_then-ok : {A B : Type 0} (first : Result A Leaves) (next : A → Result B Leaves) (r : B) → and_then first next ≡ Ok r → (x : A) × (first ≡ Ok x) × (next x ≡ Ok r)
and_then-ok (Ok x) next r h = (x, refl, h)
and_then-ok (Err e) next r h = absurd (cc)

pub and_then-Ok : {A : Type 0} (first : Result A Leaves) → and_then first (λ x. Ok x) ≡ first
and_then-Ok (Ok x) = refl
and_then-Ok (Err e) = refl

pub and_then_assoc : {A B C : Type 0} (first : Result A Leaves) (next : A → Result B Leaves) (last : B → Result C Leaves)
    → and_then (and_then first next) last ≡ and_then first (λ x. and_then (next x) last)
and_then_assoc (Ok x) next last = refl
and_then_assoc (Err e) next last = refl

-- ---- one operation

-- a choice that gave a value took the first way
chosen : (b : Bool) (x r : Fraction) (e : Leaves) → (let z : Result Fraction Leaves = if b then Ok x else Err e in z) ≡ Ok r → (b ≡ true) × (x ≡ r)
chosen true x r e h = (refl, cc)
chosen false x r e h = absurd (cc)

pub added_is : (a b r : Fraction) → added a b ≡ Ok r → SumFits a b × (sum a b ≡ r)
unfolding added
added_is a b r h =
    let p = chosen (sum_fits a b) (sum a b) r (record { op = op.Add; left = a; right = b }) h in
    ((sum_fits_decides a b).0 p.0, p.1)

pub subtracted_is : (a b r : Fraction) → subtracted a b ≡ Ok r → SumFits a (negated b) × (difference a b ≡ r)
unfolding subtracted
subtracted_is a b r h =
    let p = chosen (sum_fits a (negated b)) (difference a b) r (record { op = op.Sub; left = a; right = b }) h in
    ((sum_fits_decides a (negated b)).0 p.0, p.1)

pub multiplied_is : (a b r : Fraction) → multiplied a b ≡ Ok r → IsInRange (product a b) × (product a b ≡ r)
unfolding multiplied
multiplied_is a b r h =
    let p = chosen (is_in_range (product a b)) (product a b) r (record { op = op.Mul; left = a; right = b }) h in
    ((in_range_decides (product a b)).0 p.0, p.1)

pub divided_is : (a b r : Fraction) → divided a b ≡ Ok r → IsInRange (quotient a b) × (quotient a b ≡ r)
unfolding divided
divided_is a b r h =
    let p = chosen (is_in_range (quotient a b)) (quotient a b) r (record { op = op.Div; left = a; right = b }) h in
    ((in_range_decides (quotient a b)).0 p.0, p.1)

-- ---- the exact value

pub added-value : (a b r : Fraction) → added a b ≡ Ok r → IsSame r (sum_of a b)
added-value a b r h = subst (λ (x : Fraction). IsSame x (sum_of a b)) (added_is a b r h).1 (sum-value a b)

pub subtracted-value : (a b r : Fraction) → subtracted a b ≡ Ok r → IsSame r (difference_of a b)
unfolding minus_of
subtracted-value a b r h = subst (λ (x : Fraction). IsSame x (difference_of a b)) (subtracted_is a b r h).1 (sum-value a (negated b))

pub multiplied-value : (a b r : Fraction) → multiplied a b ≡ Ok r → IsSame r (product_of a b)
multiplied-value a b r h = subst (λ (x : Fraction). IsSame x (product_of a b)) (multiplied_is a b r h).1 (product-value a b)

divided-product : (a b r : Fraction) → divided a b ≡ Ok r → IsSame r (product_of a (inverse b))
divided-product a b r h = subst (λ (x : Fraction). IsSame x (product_of a (inverse b))) (divided_is a b r h).1 (product-value a (inverse b))

pub divided-value : (a b r : Fraction) → divided a b ≡ Ok r → IsSame r (quotient_of a b)
divided-value a b r h = rw (← inverse-inverse_of b) (divided-product a b r h)

-- ---- lowest terms in range

IsFrac-sum : (a b : Fraction) → 0 < a.den → 0 < b.den → SumFits a b → IsFrac (sum a b)
IsFrac-sum a b some more fits =
    let num = left_num a b +ℤ right_num a b in
    let below : 0 < common_den a b = mul-pos some (quotient_pos a.den b.den more) in
    IsFrac-lowest num (common_den a b) below (in_range_small num (common_den a b) fits.total fits.common)

pub IsFrac-added : (a b r : Fraction) → 0 < a.den → 0 < b.den → added a b ≡ Ok r → IsFrac r
IsFrac-added a b r some more h =
    let p = added_is a b r h in
    subst IsFrac p.1 (IsFrac-sum a b some more p.0)

pub IsFrac-subtracted : (a b r : Fraction) → 0 < a.den → 0 < b.den → subtracted a b ≡ Ok r → IsFrac r
IsFrac-subtracted a b r some more h =
    let p = subtracted_is a b r h in
    subst IsFrac p.1 (IsFrac-sum a (negated b) some more p.0)

pub IsFrac-multiplied : (a b r : Fraction) → 0 < a.den → 0 < b.den → multiplied a b ≡ Ok r → IsFrac r
IsFrac-multiplied a b r some more h =
    let p = multiplied_is a b r h in
    subst IsFrac p.1 (IsFrac-lowest (a.num *ℤ b.num) (a.den * b.den) (mul-pos some more) p.0)

pub IsFrac-divided : (a b r : Fraction) → 0 < a.den → 0 < unsigned_abs b.num → divided a b ≡ Ok r → IsFrac r
IsFrac-divided a b r some more h =
    let p = divided_is a b r h in
    subst IsFrac p.1 (IsFrac-lowest (a.num *ℤ (inverse b).num) (a.den * unsigned_abs b.num) (mul-pos some more) p.0)

-- ---- a quotient times the divisor

-- the numerator of an inverse times the number's own
inverse-num : (z : ℤ) (d : ℕ) → signed (is_below_zero z) d *ℤ z ≡ pos (d * unsigned_abs z)
inverse-num (pos n) d = refl
inverse-num (negsuc n) zero = grind (arith, ints)
inverse-num (negsuc n) (suc d) = refl

regrouped : (x b d m a i r e : ℤ) → x *ℤ (d *ℤ m) ≡ (a *ℤ i) *ℤ r → i *ℤ b ≡ e *ℤ m → ((x *ℤ b) *ℤ d) *ℤ m ≡ (a *ℤ (r *ℤ e)) *ℤ m
regrouped x b d m a i r e h k =
    *ℤ_assoc (x *ℤ b) d m
    ∙ *ℤ_swap x b (d *ℤ m)
    ∙ ap (λ (z : ℤ). z *ℤ b) h
    ∙ *ℤ_swap (a *ℤ i) r b
    ∙ ap (λ (z : ℤ). z *ℤ r) (*ℤ_assoc a i b ∙ ap (λ (z : ℤ). a *ℤ z) k ∙ sym (*ℤ_assoc a e m))
    ∙ *ℤ_swap (a *ℤ e) m r
    ∙ ap (λ (z : ℤ). z *ℤ m) (*ℤ_assoc a e r ∙ ap (λ (z : ℤ). a *ℤ z) (*ℤ_comm e r))

pub divided-times : (a b r : Fraction) → 0 < unsigned_abs b.num → divided a b ≡ Ok r → IsSame (product_of r b) a
unfolding product_of
divided-times a b r some h =
    let m = unsigned_abs b.num in
    cancel_same ((r.num *ℤ b.num) *ℤ pos a.den) (a.num *ℤ pos (r.den * b.den)) m some
    (regrouped r.num b.num (pos a.den) (pos m) a.num (inverse b).num (pos r.den) (pos b.den) (divided-product a b r h) (inverse-num b.num b.den))
