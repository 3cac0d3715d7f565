-- Equations and orders of whole numbers, proved by computing normal forms.
-- `ring items a b refl` proves an equation of a ring: the items are the numbers that the expressions name as x0, x1 and so on.
use Rattle.std.proofs.Common.{◌≡◌, ◌∙◌, sym, refl, ap, ap₂, List, [], ◌∷◌, arith, ℤ, pos, ◌+ℤ◌, ◌*ℤ◌, ◌≤ℤ◌, ◌<ℤ◌}
use Rattle.std.proofs.lemmas.Int.{ints}
use Rattle.qm_math.proofs.Polynomials.{Expression, item, number, ◌⊕◌, ◌⊗◌, value, normal, sum_of_terms, normal_value}

abbrev pub x0 : Expression
x0 = item 0

abbrev pub x1 : Expression
x1 = item 1

abbrev pub x2 : Expression
x2 = item 2

abbrev pub x3 : Expression
x3 = item 3

abbrev pub x4 : Expression
x4 = item 4

abbrev pub x5 : Expression
x5 = item 5

abbrev pub x6 : Expression
x6 = item 6

abbrev pub x7 : Expression
x7 = item 7

abbrev pub x8 : Expression
x8 = item 8

abbrev pub x9 : Expression
x9 = item 9

-- two expressions with one normal form come to the same, whatever their items are
pub ring : (items : List ℤ) (a b : Expression) → normal a ≡ normal b → value items a ≡ value items b
ring items a b e = sym (normal_value items a) ∙ ap (sum_of_terms items) e ∙ normal_value items b

-- ---- from known equations
-- a multiplier and the two sides of a known equation
abbrev pub Known : Type 0
Known = Expression × Expression × Expression

-- each known equation holds
abbrev pub AllHold : List ℤ → List Known → Type 0
AllHold items [] = Unit {0}
AllHold items (s ∷ known) = (value items s.1 ≡ value items s.2) × AllHold items known

-- the known left sides, and the right sides, each times its multiplier, added up
abbrev pub lefts : List Known → Expression
lefts [] = number (pos 0)
lefts (s ∷ known) = s.0 ⊗ s.1 ⊕ lefts known

abbrev pub rights : List Known → Expression
rights [] = number (pos 0)
rights (s ∷ known) = s.0 ⊗ s.2 ⊕ rights known

lefts_are_rights : (items : List ℤ) (known : List Known) → AllHold items known → value items (lefts known) ≡ value items (rights known)
lefts_are_rights items [] h = refl
lefts_are_rights items (s ∷ known) h =
    ap₂ (λ x y. (value items s.0 *ℤ x) +ℤ y) h.0 (lefts_are_rights items known h.1)

-- a equals b if known equations, each times a multiplier, make up the difference
pub ring_from : (items : List ℤ) (a b : Expression) (known : List Known) → AllHold items known
    → normal (a ⊕ rights known) ≡ normal (b ⊕ lefts known) → value items a ≡ value items b
ring_from items a b known h e =
    summed (value items a) (value items b) (value items (lefts known)) (value items (rights known))
    (ring items (a ⊕ rights known) (b ⊕ lefts known) e) (lefts_are_rights items known h)
  where
    summed : (a b x y : ℤ) → a +ℤ y ≡ b +ℤ x → x ≡ y → a ≡ b
    summed a b x y e h = omega (arith, ints)

-- ---- from known orders
-- the lesser and the greater side of a known order
abbrev pub Order : Type 0
Order = Expression × Expression

-- each known order holds
abbrev pub AllLe : List ℤ → List Order → Type 0
AllLe items [] = Unit {0}
AllLe items (o ∷ orders) = (value items o.0 ≤ℤ value items o.1) × AllLe items orders

abbrev pub lessers : List Order → Expression
lessers [] = number (pos 0)
lessers (o ∷ orders) = o.0 ⊕ lessers orders

abbrev pub greaters : List Order → Expression
greaters [] = number (pos 0)
greaters (o ∷ orders) = o.1 ⊕ greaters orders

lessers_le : (items : List ℤ) (orders : List Order) → AllLe items orders → value items (lessers orders) ≤ℤ value items (greaters orders)
lessers_le items [] h = omega (arith, ints)
lessers_le items (o ∷ orders) h =
    le_sum (value items o.0) (value items o.1) (value items (lessers orders)) (value items (greaters orders)) h.0 (lessers_le items orders h.1)
  where
    le_sum : (a b c d : ℤ) → a ≤ℤ b → c ≤ℤ d → (a +ℤ c) ≤ℤ (b +ℤ d)
    le_sum a b c d h k = omega (arith, ints)

-- a is at most b if known equations and orders make up the difference
pub le_from : (items : List ℤ) (a b : Expression) (known : List Known) (orders : List Order) → AllHold items known → AllLe items orders
    → normal (b ⊕ (lefts known ⊕ lessers orders)) ≡ normal (a ⊕ (rights known ⊕ greaters orders)) → value items a ≤ℤ value items b
le_from items a b known orders h o e =
    summed (value items a) (value items b) (value items (lefts known)) (value items (rights known)) (value items (lessers orders)) (value items (greaters orders))
    (ring items (b ⊕ (lefts known ⊕ lessers orders)) (a ⊕ (rights known ⊕ greaters orders)) e) (lefts_are_rights items known h) (lessers_le items orders o)
  where
    summed : (a b u v x y : ℤ) → b +ℤ (u +ℤ x) ≡ a +ℤ (v +ℤ y) → u ≡ v → x ≤ℤ y → a ≤ℤ b
    summed a b u v x y e h o = omega (arith, ints)

-- x below y is the one order known to be strict
pub lt_from : (items : List ℤ) (a b x y : Expression) (known : List Known) (orders : List Order) → value items x <ℤ value items y → AllHold items known → AllLe items orders
    → normal (b ⊕ (x ⊕ (lefts known ⊕ lessers orders))) ≡ normal (a ⊕ (y ⊕ (rights known ⊕ greaters orders))) → value items a <ℤ value items b
lt_from items a b x y known orders strict h o e =
    summed (value items a) (value items b) (value items (lefts known)) (value items (rights known)) (value items (lessers orders)) (value items (greaters orders))
    (value items x) (value items y)
    (ring items (b ⊕ (x ⊕ (lefts known ⊕ lessers orders))) (a ⊕ (y ⊕ (rights known ⊕ greaters orders))) e) (lefts_are_rights items known h) (lessers_le items orders o) strict
  where
    summed : (a b u v s t x y : ℤ) → b +ℤ (x +ℤ (u +ℤ s)) ≡ a +ℤ (y +ℤ (v +ℤ t)) → u ≡ v → s ≤ℤ t → x <ℤ y → a <ℤ b
    summed a b u v s t x y e h o strict = omega (arith, ints)

-- a is at most b if a known order x ≤ y makes up the difference
pub ring_le : (items : List ℤ) (a b x y : Expression)
    → value items x ≤ℤ value items y → normal (b ⊕ x) ≡ normal (a ⊕ y) → value items a ≤ℤ value items b
ring_le items a b x y h e =
    summed (value items a) (value items b) (value items x) (value items y) (ring items (b ⊕ x) (a ⊕ y) e) h
  where
    summed : (a b x y : ℤ) → b +ℤ x ≡ a +ℤ y → x ≤ℤ y → a ≤ℤ b
    summed a b x y e h = omega (arith, ints)

pub ring_lt : (items : List ℤ) (a b x y : Expression)
    → value items x <ℤ value items y → normal (b ⊕ x) ≡ normal (a ⊕ y) → value items a <ℤ value items b
ring_lt items a b x y h e =
    summed (value items a) (value items b) (value items x) (value items y) (ring items (b ⊕ x) (a ⊕ y) e) h
  where
    summed : (a b x y : ℤ) → b +ℤ x ≡ a +ℤ y → x <ℤ y → a <ℤ b
    summed a b x y e h = omega (arith, ints)
