-- What the operations answer, from whether their steps fit.
use Rattle.std.proofs.Common.{◌≡◌, Bool, true, false, Ok, Err, refl, sym, ap, ◌∙◌}
use Rattle.std.specs.Prelude.{if◌then◌else◌}
use Rattle.std.specs.Bool.{Decides}
use Rattle.std.proofs.lemmas.Bool.Decides.{Decides-and, Decides-ltb, Decides-like}
use Rattle.qm_math.specs.Fraction.{Fraction}
use Rattle.qm_frac.specs.Lowest.{IsInRange}
use Rattle.qm_frac.specs.Arithmetic.{SumFits, sum, difference, product, quotient, negated}
use Rattle.qm_frac.specs.Checked.{sum_fits, is_in_range, added, subtracted, multiplied, divided}
use Rattle.qm_frac.specs.declared.leaves.Op.TheVariants as op

pub sum_fits_decides : (a b : Fraction) → Decides (sum_fits a b) (SumFits a b)
sum_fits_decides a b =
    Decides-like _ (λ p. record { common = p.0.0.0; left = p.0.0.1; right = p.0.1; total = p.1 }) (λ f. (((f.common, f.left), f.right), f.total))
    (Decides-and _ _ (Decides-and _ _ (Decides-and _ _ (Decides-ltb _ _) (Decides-ltb _ _)) (Decides-ltb _ _)) (Decides-ltb _ _))

pub in_range_decides : (r : Fraction) → Decides (is_in_range r) (IsInRange r)
in_range_decides r = Decides-like _ (λ p. record { num_fits = p.0; den_fits = p.1 }) (λ f. (f.num_fits, f.den_fits)) (Decides-and _ _ (Decides-ltb _ _) (Decides-ltb _ _))

-- a test that a fact decides chooses by the fact
if_so : {X P : Type 0} (b : Bool) (x y : X) → Decides b P → P → (if b then x else y) ≡ x
if_so b x y d h = rw (d.1 h) refl

if_not : {X P : Type 0} (b : Bool) (x y : X) → Decides b P → (P → ⊥) → (if b then x else y) ≡ y
if_not true x y d h = absurd (h (d.0 refl))
if_not false x y d h = refl

pub added_fits : (a b r : Fraction) → SumFits a b → r ≡ sum a b → Ok r ≡ added a b
unfolding added
added_fits a b r fits is = ap (λ (x : Fraction). Ok x) is ∙ sym (if_so (sum_fits a b) _ _ (sum_fits_decides a b) fits)

pub added_leaves : (a b : Fraction) → (SumFits a b → ⊥) → Err (record { op = op.Add; left = a; right = b }) ≡ added a b
unfolding added
added_leaves a b h = sym (if_not (sum_fits a b) _ _ (sum_fits_decides a b) h)

pub subtracted_fits : (a b r : Fraction) → SumFits a (negated b) → r ≡ difference a b → Ok r ≡ subtracted a b
unfolding subtracted
subtracted_fits a b r fits is = ap (λ (x : Fraction). Ok x) is ∙ sym (if_so (sum_fits a (negated b)) _ _ (sum_fits_decides a (negated b)) fits)

pub subtracted_leaves : (a b : Fraction) → (SumFits a (negated b) → ⊥) → Err (record { op = op.Sub; left = a; right = b }) ≡ subtracted a b
unfolding subtracted
subtracted_leaves a b h = sym (if_not (sum_fits a (negated b)) _ _ (sum_fits_decides a (negated b)) h)

pub multiplied_fits : (a b r : Fraction) → IsInRange (product a b) → r ≡ product a b → Ok r ≡ multiplied a b
unfolding multiplied
multiplied_fits a b r fits is = ap (λ (x : Fraction). Ok x) is ∙ sym (if_so (is_in_range (product a b)) _ _ (in_range_decides (product a b)) fits)

pub multiplied_leaves : (a b : Fraction) → (IsInRange (product a b) → ⊥) → Err (record { op = op.Mul; left = a; right = b }) ≡ multiplied a b
unfolding multiplied
multiplied_leaves a b h = sym (if_not (is_in_range (product a b)) _ _ (in_range_decides (product a b)) h)

pub divided_fits : (a b r : Fraction) → IsInRange (quotient a b) → r ≡ quotient a b → Ok r ≡ divided a b
unfolding divided
divided_fits a b r fits is = ap (λ (x : Fraction). Ok x) is ∙ sym (if_so (is_in_range (quotient a b)) _ _ (in_range_decides (quotient a b)) fits)

pub divided_leaves : (a b : Fraction) → (IsInRange (quotient a b) → ⊥) → Err (record { op = op.Div; left = a; right = b }) ≡ divided a b
unfolding divided
divided_leaves a b h = sym (if_not (is_in_range (quotient a b)) _ _ (in_range_decides (quotient a b)) h)
