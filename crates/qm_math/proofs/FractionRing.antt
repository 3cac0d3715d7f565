-- Equations of fractions, proved by computing normal forms of both sides multiplied out.
-- `same_by_ring items a b refl` proves an equation of a ring: the items are the fractions that the expressions name as x0, x1 and so on.
use Rattle.std.proofs.Common.{◌≡◌, ◌∙◌, sym, refl, ap, ap₂, ℕ, zero, suc, ◌+◌, List, [], ◌∷◌, arith, ℤ, pos, ◌+ℤ◌, ◌*ℤ◌, neg_ℤ}
use Rattle.qm_math.specs.Fraction.{Fraction, whole, IsSame}
use Rattle.qm_math.specs.Arithmetic.{sum_of, negated, product_of}
use Rattle.qm_math.proofs.Polynomials.{Expression, item, number, ◌⊕◌, ◌⊗◌, minus, pick, value, normal}
use Rattle.qm_math.proofs.Ring.{ring, Known, AllHold, lefts, rights, ring_from}

-- the item of a number, and 1 past the end
abbrev pub pick_fraction : List Fraction → ℕ → Fraction
pick_fraction [] n = whole (pos 1)
pick_fraction (x ∷ items) zero = x
pick_fraction (x ∷ items) (suc n) = pick_fraction items n

-- what an expression comes to where its items are these fractions
abbrev pub fraction_value : List Fraction → Expression → Fraction
fraction_value items (item n) = pick_fraction items n
fraction_value items (number k) = whole k
fraction_value items (a ⊕ b) = sum_of (fraction_value items a) (fraction_value items b)
fraction_value items (a ⊗ b) = product_of (fraction_value items a) (fraction_value items b)
fraction_value items (minus a) = negated (fraction_value items a)

-- numerators at the even places, denominators at the odd
abbrev pub parts : List Fraction → List ℤ
parts [] = []
parts (x ∷ items) = x.num ∷ pos x.den ∷ parts items

abbrev pub den_of : Expression → Expression
den_of (item n) = item (suc (n + n))
den_of (number k) = number (pos 1)
den_of (a ⊕ b) = den_of a ⊗ den_of b
den_of (a ⊗ b) = den_of a ⊗ den_of b
den_of (minus a) = den_of a

abbrev pub num_of : Expression → Expression
num_of (item n) = item (n + n)
num_of (number k) = number k
num_of (a ⊕ b) = num_of a ⊗ den_of b ⊕ num_of b ⊗ den_of a
num_of (a ⊗ b) = num_of a ⊗ num_of b
num_of (minus a) = minus (num_of a)

twice-suc : (n : ℕ) → suc n + suc n ≡ suc (suc (n + n))
twice-suc n = omega arith

pick_num : (items : List Fraction) (n : ℕ) → pick (parts items) (n + n) ≡ (pick_fraction items n).num
pick_num [] n = refl
pick_num (x ∷ items) zero = refl
pick_num (x ∷ items) (suc n) = ap (pick (parts (x ∷ items))) (twice-suc n) ∙ pick_num items n

pick_den : (items : List Fraction) (n : ℕ) → pick (parts items) (suc (n + n)) ≡ pos (pick_fraction items n).den
pick_den [] n = refl
pick_den (x ∷ items) zero = refl
pick_den (x ∷ items) (suc n) = ap (λ k. pick (parts (x ∷ items)) (suc k)) (twice-suc n) ∙ pick_den items n

pub den_of_value : (items : List Fraction) (a : Expression) → value (parts items) (den_of a) ≡ pos (fraction_value items a).den
unfolding sum_of product_of negated
den_of_value items (item n) = pick_den items n
den_of_value items (number k) = refl
den_of_value items (a ⊕ b) = ap₂ (λ x y. x *ℤ y) (den_of_value items a) (den_of_value items b)
den_of_value items (a ⊗ b) = ap₂ (λ x y. x *ℤ y) (den_of_value items a) (den_of_value items b)
den_of_value items (minus a) = den_of_value items a

pub num_of_value : (items : List Fraction) (a : Expression) → value (parts items) (num_of a) ≡ (fraction_value items a).num
unfolding sum_of product_of negated
num_of_value items (item n) = pick_num items n
num_of_value items (number k) = refl
num_of_value items (a ⊕ b) =
    ap₂ (λ x y. x +ℤ y)
    (ap₂ (λ x y. x *ℤ y) (num_of_value items a) (den_of_value items b))
    (ap₂ (λ x y. x *ℤ y) (num_of_value items b) (den_of_value items a))
num_of_value items (a ⊗ b) = ap₂ (λ x y. x *ℤ y) (num_of_value items a) (num_of_value items b)
num_of_value items (minus a) = ap neg_ℤ (num_of_value items a)

-- the cross product of a's numerator with b's denominator
pub cross_value : (items : List Fraction) (a b : Expression)
    → value (parts items) (num_of a ⊗ den_of b) ≡ (fraction_value items a).num *ℤ pos (fraction_value items b).den
cross_value items a b = ap₂ (λ x y. x *ℤ y) (num_of_value items a) (den_of_value items b)

pub same_by_ring : (items : List Fraction) (a b : Expression)
    → normal (num_of a ⊗ den_of b) ≡ normal (num_of b ⊗ den_of a) → IsSame (fraction_value items a) (fraction_value items b)
same_by_ring items a b e =
    sym (cross_value items a b) ∙ ring (parts items) (num_of a ⊗ den_of b) (num_of b ⊗ den_of a) e ∙ cross_value items b a

-- ---- from known equations
-- each known equation of fractions holds
abbrev pub AllSame : List Fraction → List Known → Type 0
AllSame items [] = Unit {0}
AllSame items (s ∷ known) = IsSame (fraction_value items s.1) (fraction_value items s.2) × AllSame items known

-- the known equations multiplied out; their multipliers speak of numerators and denominators already
abbrev pub crossed : List Known → List Known
crossed [] = []
crossed (s ∷ known) = (s.0, num_of s.1 ⊗ den_of s.2, num_of s.2 ⊗ den_of s.1) ∷ crossed known

crossed_hold : (items : List Fraction) (known : List Known) → AllSame items known → AllHold (parts items) (crossed known)
crossed_hold items [] h = tt
crossed_hold items (s ∷ known) h =
    (cross_value items s.1 s.2 ∙ h.0 ∙ sym (cross_value items s.2 s.1), crossed_hold items known h.1)

-- a is the same as b if known equations make up the difference, multiplied out
pub same_from : (items : List Fraction) (a b : Expression) (known : List Known) → AllSame items known
    → normal (num_of a ⊗ den_of b ⊕ rights (crossed known)) ≡ normal (num_of b ⊗ den_of a ⊕ lefts (crossed known))
    → IsSame (fraction_value items a) (fraction_value items b)
same_from items a b known h e =
    sym (cross_value items a b)
    ∙ ring_from (parts items) (num_of a ⊗ den_of b) (num_of b ⊗ den_of a) (crossed known) (crossed_hold items known h) e
    ∙ cross_value items b a
