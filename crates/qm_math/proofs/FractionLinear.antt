-- Equations and orders of fractions that follow from known ones. All items need positive denominators.
-- `same_given items a b known positive holds refl` proves that a is the same as b, where `known` lists a multiplier
-- and the two sides of each known equation, and a + (multiplier right) + .. is b + (multiplier left) + .. in every ring.
-- `at_most_given` and `below_given` also take known orders, the lesser side first.
use Rattle.std.proofs.Common.{◌≡◌, refl, sym, ℕ, zero, suc, ◌<◌, arith, List, [], ◌∷◌, pos}
use Rattle.qm_math.specs.Fraction.{Fraction, whole, IsSame, IsAtMost, IsBelow}
use Rattle.qm_math.specs.Arithmetic.{sum_of, product_of}
use Rattle.qm_math.proofs.Polynomials.{Expression, item, number, ◌⊕◌, ◌⊗◌, minus, normal}
use Rattle.qm_math.proofs.Ring.{Known, Order, lefts, rights, lessers, greaters}
use Rattle.qm_math.proofs.FractionRing.{fraction_value, pick_fraction, num_of, den_of, same_by_ring, AllSame}
use Rattle.qm_math.proofs.FractionLaws.{same_refl, whole_den, sum_of_den, product_of_den, negated_den, sum_of-same, product_of-same}
use Rattle.qm_math.proofs.Compare.{at_most_both}
use Rattle.qm_math.proofs.FractionOrder.{at_most_refl, at_most-same, sum_of-at_most, sum_of-below, at_most_by, below_by}

-- each item has a positive denominator
abbrev pub AllPositive : List Fraction → Type 0
AllPositive [] = Unit {0}
AllPositive (x ∷ items) = (0 < x.den) × AllPositive items

-- each known order holds
abbrev pub AllAtMost : List Fraction → List Order → Type 0
AllAtMost items [] = Unit {0}
AllAtMost items (o ∷ orders) = IsAtMost (fraction_value items o.0) (fraction_value items o.1) × AllAtMost items orders

pick_den_pos : (items : List Fraction) (n : ℕ) → AllPositive items → 0 < (pick_fraction items n).den
pick_den_pos [] n h = omega arith
pick_den_pos (x ∷ items) zero h = h.0
pick_den_pos (x ∷ items) (suc n) h = pick_den_pos items n h.1

pub fraction_value_den : (items : List Fraction) (a : Expression) → AllPositive items → 0 < (fraction_value items a).den
fraction_value_den items (item n) h = pick_den_pos items n h
fraction_value_den items (number k) h = whole_den k
fraction_value_den items (a ⊕ b) h = sum_of_den (fraction_value items a) (fraction_value items b) (fraction_value_den items a h) (fraction_value_den items b h)
fraction_value_den items (a ⊗ b) h = product_of_den (fraction_value items a) (fraction_value items b) (fraction_value_den items a h) (fraction_value_den items b h)
fraction_value_den items (minus a) h = negated_den (fraction_value items a) (fraction_value_den items a h)

lefts_same : (items : List Fraction) (known : List Known) → AllSame items known → IsSame (fraction_value items (lefts known)) (fraction_value items (rights known))
lefts_same items [] h = refl
lefts_same items (s ∷ known) h =
    sum_of-same (product_of (fraction_value items s.0) (fraction_value items s.1)) (fraction_value items (lefts known))
    (product_of (fraction_value items s.0) (fraction_value items s.2)) (fraction_value items (rights known))
    (product_of-same (fraction_value items s.0) (fraction_value items s.1) (fraction_value items s.0) (fraction_value items s.2)
    (same_refl (fraction_value items s.0)) h.0)
    (lefts_same items known h.1)

lessers_at_most : (items : List Fraction) (orders : List Order) → AllAtMost items orders → IsAtMost (fraction_value items (lessers orders)) (fraction_value items (greaters orders))
lessers_at_most items [] h = at_most_refl (whole (pos 0))
lessers_at_most items (o ∷ orders) h =
    sum_of-at_most (fraction_value items o.0) (fraction_value items (lessers orders)) (fraction_value items o.1) (fraction_value items (greaters orders))
    h.0 (lessers_at_most items orders h.1)

pub same_by : (a b x y : Fraction) → 0 < x.den → 0 < y.den → IsSame x y → IsSame (sum_of b x) (sum_of a y) → IsSame a b
same_by a b x y hx hy h e =
    at_most_both a b (at_most_by a b x y hx hy (at_most-same x y h) e) (at_most_by b a y x hy hx (at_most-same y x (sym h)) (sym e))

pub same_given : (items : List Fraction) (a b : Expression) (known : List Known) → AllPositive items → AllSame items known
    → normal (num_of (b ⊕ lefts known) ⊗ den_of (a ⊕ rights known)) ≡ normal (num_of (a ⊕ rights known) ⊗ den_of (b ⊕ lefts known))
    → IsSame (fraction_value items a) (fraction_value items b)
same_given items a b known positive h e =
    same_by (fraction_value items a) (fraction_value items b) (fraction_value items (lefts known)) (fraction_value items (rights known))
    (fraction_value_den items (lefts known) positive) (fraction_value_den items (rights known) positive)
    (lefts_same items known h) (same_by_ring items (b ⊕ lefts known) (a ⊕ rights known) e)

pub at_most_given : (items : List Fraction) (a b : Expression) (known : List Known) (orders : List Order) → AllPositive items → AllSame items known → AllAtMost items orders
    → normal (num_of (b ⊕ (lefts known ⊕ lessers orders)) ⊗ den_of (a ⊕ (rights known ⊕ greaters orders)))
    ≡ normal (num_of (a ⊕ (rights known ⊕ greaters orders)) ⊗ den_of (b ⊕ (lefts known ⊕ lessers orders)))
    → IsAtMost (fraction_value items a) (fraction_value items b)
at_most_given items a b known orders positive h o e =
    at_most_by (fraction_value items a) (fraction_value items b)
    (fraction_value items (lefts known ⊕ lessers orders)) (fraction_value items (rights known ⊕ greaters orders))
    (fraction_value_den items (lefts known ⊕ lessers orders) positive) (fraction_value_den items (rights known ⊕ greaters orders) positive)
    (sum_of-at_most (fraction_value items (lefts known)) (fraction_value items (lessers orders)) (fraction_value items (rights known)) (fraction_value items (greaters orders))
    (at_most-same (fraction_value items (lefts known)) (fraction_value items (rights known)) (lefts_same items known h)) (lessers_at_most items orders o))
    (same_by_ring items (b ⊕ (lefts known ⊕ lessers orders)) (a ⊕ (rights known ⊕ greaters orders)) e)

-- x below y is the one order known to be strict
pub below_given : (items : List Fraction) (a b x y : Expression) (known : List Known) (orders : List Order) → AllPositive items
    → IsBelow (fraction_value items x) (fraction_value items y) → AllSame items known → AllAtMost items orders
    → normal (num_of (b ⊕ (x ⊕ (lefts known ⊕ lessers orders))) ⊗ den_of (a ⊕ (y ⊕ (rights known ⊕ greaters orders))))
    ≡ normal (num_of (a ⊕ (y ⊕ (rights known ⊕ greaters orders))) ⊗ den_of (b ⊕ (x ⊕ (lefts known ⊕ lessers orders))))
    → IsBelow (fraction_value items a) (fraction_value items b)
below_given items a b x y known orders positive strict h o e =
    below_by (fraction_value items a) (fraction_value items b)
    (fraction_value items (x ⊕ (lefts known ⊕ lessers orders))) (fraction_value items (y ⊕ (rights known ⊕ greaters orders)))
    (fraction_value_den items a positive) (fraction_value_den items b positive)
    (sum_of-below (fraction_value items x) (fraction_value items (lefts known ⊕ lessers orders)) (fraction_value items y) (fraction_value items (rights known ⊕ greaters orders))
    (fraction_value_den items (lefts known ⊕ lessers orders) positive) (fraction_value_den items (rights known ⊕ greaters orders) positive)
    strict
    (sum_of-at_most (fraction_value items (lefts known)) (fraction_value items (lessers orders)) (fraction_value items (rights known)) (fraction_value items (greaters orders))
    (at_most-same (fraction_value items (lefts known)) (fraction_value items (rights known)) (lefts_same items known h)) (lessers_at_most items orders o)))
    (same_by_ring items (b ⊕ (x ⊕ (lefts known ⊕ lessers orders))) (a ⊕ (y ⊕ (rights known ⊕ greaters orders))) e)
