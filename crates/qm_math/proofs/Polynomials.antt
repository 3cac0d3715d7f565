-- Expressions over numbered items, and their normal form: a list of terms, each a coefficient and the numbers of its factors in order.
-- Two expressions with one normal form have one value, so an equation of a ring is proved by computing both normal forms.
use Rattle.std.proofs.Common.{◌≡◌, ◌∙◌, sym, refl, ap, ap₂, ℕ, zero, suc, Bool, true, false, ◌&&◌, eqb, ltb, eqb-true, List, [], ◌∷◌, arith, ℤ, pos, negsuc, ◌+ℤ◌, ◌*ℤ◌, neg_ℤ}
use Rattle.std.proofs.Math.IntN.{+ℤ_assoc, +ℤ_idl, *ℤ_comm, zero-*ℤ, neg_ℤ-+ℤ}
use Rattle.std.proofs.lemmas.Int.{ints}
use Rattle.qm_math.proofs.Whole.{add-*ℤ, *ℤ_assoc}
use Rattle.qm_math.proofs.Products.{*ℤ-add, *ℤ_left_comm, *ℤ_four, neg-*ℤ, one-*ℤ, +ℤ_left_comm}

pub data Expression : Type 0 where
  item : ℕ → Expression
  number : ℤ → Expression
  ◌⊕◌ : Expression → Expression → Expression
  ◌⊗◌ : Expression → Expression → Expression
  minus : Expression → Expression

infixl 6 ◌⊕◌
infixl 7 ◌⊗◌
-- the item of a number, and 1 past the end
abbrev pub pick : List ℤ → ℕ → ℤ
pick [] n = pos 1
pick (x ∷ items) zero = x
pick (x ∷ items) (suc n) = pick items n

-- what an expression comes to where its items are these
abbrev pub value : List ℤ → Expression → ℤ
value items (item n) = pick items n
value items (number k) = k
value items (a ⊕ b) = value items a +ℤ value items b
value items (a ⊗ b) = value items a *ℤ value items b
value items (minus a) = neg_ℤ (value items a)

-- a coefficient and the numbers of the factors
abbrev pub Term : Type 0
Term = ℤ × List ℕ

-- ---- products of items
abbrev same : List ℕ → List ℕ → Bool
same [] [] = true
same [] (n ∷ ns) = false
same (m ∷ ms) [] = false
same (m ∷ ms) (n ∷ ns) = eqb m n && same ms ns

-- the order of the terms
abbrev first : Bool → Bool → Bool → Bool
first true b c = true
first false true c = c
first false false c = false

abbrev before : List ℕ → List ℕ → Bool
before [] ns = true
before (m ∷ ms) [] = false
before (m ∷ ms) (n ∷ ns) = first (ltb m n) (eqb m n) (before ms ns)

abbrev placed : Bool → ℕ → ℕ → List ℕ → List ℕ → List ℕ
placed true v w ms later = v ∷ w ∷ ms
placed false v w ms later = w ∷ later

abbrev put_factor : ℕ → List ℕ → List ℕ
put_factor v [] = v ∷ []
put_factor v (w ∷ ms) = placed (ltb v w) v w ms (put_factor v ms)

abbrev put_factors : List ℕ → List ℕ → List ℕ
put_factors [] ns = ns
put_factors (m ∷ ms) ns = put_factor m (put_factors ms ns)

-- ---- sums of terms
abbrev put : ℤ → List ℕ → List Term → List Term
put (pos zero) ms p = p
put (pos (suc c)) ms p = (pos (suc c), ms) ∷ p
put (negsuc c) ms p = (negsuc c, ms) ∷ p

abbrev added : Bool → Bool → ℤ → List ℕ → ℤ → List ℕ → List Term → List Term → List Term
added true b c ms d ns p later = put (c +ℤ d) ns p
added false true c ms d ns p later = put c ms ((d, ns) ∷ p)
added false false c ms d ns p later = (d, ns) ∷ later

abbrev put_term : ℤ → List ℕ → List Term → List Term
put_term c ms [] = put c ms []
put_term c ms (t ∷ p) = added (same ms t.1) (before ms t.1) c ms t.0 t.1 p (put_term c ms p)

abbrev put_terms : List Term → List Term → List Term
put_terms [] q = q
put_terms (t ∷ p) q = put_term t.0 t.1 (put_terms p q)

abbrev multiplied : ℤ → List ℕ → List Term → List Term
multiplied c ms [] = []
multiplied c ms (t ∷ p) = put_term (c *ℤ t.0) (put_factors ms t.1) (multiplied c ms p)

abbrev multiply : List Term → List Term → List Term
multiply [] q = []
multiply (t ∷ p) q = put_terms (multiplied t.0 t.1 q) (multiply p q)

abbrev negative : List Term → List Term
negative [] = []
negative (t ∷ p) = (neg_ℤ t.0, t.1) ∷ negative p

abbrev pub normal : Expression → List Term
normal (item n) = (pos 1, n ∷ []) ∷ []
normal (number k) = put k [] []
normal (a ⊕ b) = put_terms (normal a) (normal b)
normal (a ⊗ b) = multiply (normal a) (normal b)
normal (minus a) = negative (normal a)

-- ---- the value of a normal form
abbrev pub product_of_factors : List ℤ → List ℕ → ℤ
product_of_factors items [] = pos 1
product_of_factors items (m ∷ ms) = pick items m *ℤ product_of_factors items ms

abbrev pub sum_of_terms : List ℤ → List Term → ℤ
sum_of_terms items [] = pos 0
sum_of_terms items (t ∷ p) = (t.0 *ℤ product_of_factors items t.1) +ℤ sum_of_terms items p

-- ---- each step keeps the value
and_left : (a b : Bool) → a && b ≡ true → a ≡ true
and_left true b e = refl
and_left false b e = e

and_right : (a b : Bool) → a && b ≡ true → b ≡ true
and_right true b e = e
and_right false b e = cc

same_is : (ms ns : List ℕ) → same ms ns ≡ true → ms ≡ ns
same_is [] [] e = refl
same_is [] (n ∷ ns) e = cc
same_is (m ∷ ms) [] e = cc
same_is (m ∷ ms) (n ∷ ns) e =
    ap₂ (λ (x : ℕ) (xs : List ℕ). x ∷ xs) (eqb-true m n (and_left (eqb m n) (same ms ns) e)) (same_is ms ns (and_right (eqb m n) (same ms ns) e))

placed_value : (items : List ℤ) (b : Bool) (v w : ℕ) (ms later : List ℕ)
    → product_of_factors items later ≡ pick items v *ℤ product_of_factors items ms
    → product_of_factors items (placed b v w ms later) ≡ pick items v *ℤ (pick items w *ℤ product_of_factors items ms)
placed_value items true v w ms later e = refl
placed_value items false v w ms later e =
    ap (λ k. pick items w *ℤ k) e ∙ *ℤ_left_comm (pick items w) (pick items v) (product_of_factors items ms)

put_factor_value : (items : List ℤ) (v : ℕ) (ms : List ℕ)
    → product_of_factors items (put_factor v ms) ≡ pick items v *ℤ product_of_factors items ms
put_factor_value items v [] = refl
put_factor_value items v (w ∷ ms) = placed_value items (ltb v w) v w ms (put_factor v ms) (put_factor_value items v ms)

put_factors_value : (items : List ℤ) (ms ns : List ℕ)
    → product_of_factors items (put_factors ms ns) ≡ product_of_factors items ms *ℤ product_of_factors items ns
put_factors_value items [] ns = sym (one-*ℤ (product_of_factors items ns))
put_factors_value items (m ∷ ms) ns =
    put_factor_value items m (put_factors ms ns)
    ∙ ap (λ k. pick items m *ℤ k) (put_factors_value items ms ns)
    ∙ sym (*ℤ_assoc (pick items m) (product_of_factors items ms) (product_of_factors items ns))

put_value : (items : List ℤ) (c : ℤ) (ms : List ℕ) (p : List Term)
    → sum_of_terms items (put c ms p) ≡ (c *ℤ product_of_factors items ms) +ℤ sum_of_terms items p
put_value items (pos zero) ms p =
    sym (ap (λ k. k +ℤ sum_of_terms items p) (zero-*ℤ (product_of_factors items ms)) ∙ +ℤ_idl (sum_of_terms items p))
put_value items (pos (suc c)) ms p = refl
put_value items (negsuc c) ms p = refl

joined : (c d m s : ℤ) → ((c +ℤ d) *ℤ m) +ℤ s ≡ (c *ℤ m) +ℤ ((d *ℤ m) +ℤ s)
joined c d m s = ap (λ k. k +ℤ s) (add-*ℤ c d m) ∙ +ℤ_assoc (c *ℤ m) (d *ℤ m) s

added_value : (items : List ℤ) (a b : Bool) (c : ℤ) (ms : List ℕ) (d : ℤ) (ns : List ℕ) (p later : List Term)
    → (a ≡ true → ms ≡ ns)
    → sum_of_terms items later ≡ (c *ℤ product_of_factors items ms) +ℤ sum_of_terms items p
    → sum_of_terms items (added a b c ms d ns p later) ≡ (c *ℤ product_of_factors items ms) +ℤ ((d *ℤ product_of_factors items ns) +ℤ sum_of_terms items p)
added_value items true b c ms d ns p later is e =
    put_value items (c +ℤ d) ns p
    ∙ joined c d (product_of_factors items ns) (sum_of_terms items p)
    ∙ ap (λ k. (c *ℤ product_of_factors items k) +ℤ ((d *ℤ product_of_factors items ns) +ℤ sum_of_terms items p)) (sym (is refl))
added_value items false true c ms d ns p later is e = put_value items c ms ((d, ns) ∷ p)
added_value items false false c ms d ns p later is e =
    ap (λ k. (d *ℤ product_of_factors items ns) +ℤ k) e
    ∙ +ℤ_left_comm (d *ℤ product_of_factors items ns) (c *ℤ product_of_factors items ms) (sum_of_terms items p)

put_term_value : (items : List ℤ) (c : ℤ) (ms : List ℕ) (p : List Term)
    → sum_of_terms items (put_term c ms p) ≡ (c *ℤ product_of_factors items ms) +ℤ sum_of_terms items p
put_term_value items c ms [] = put_value items c ms []
put_term_value items c ms (t ∷ p) =
    added_value items (same ms t.1) (before ms t.1) c ms t.0 t.1 p (put_term c ms p) (same_is ms t.1) (put_term_value items c ms p)

put_terms_value : (items : List ℤ) (p q : List Term)
    → sum_of_terms items (put_terms p q) ≡ sum_of_terms items p +ℤ sum_of_terms items q
put_terms_value items [] q = sym (+ℤ_idl (sum_of_terms items q))
put_terms_value items (t ∷ p) q =
    put_term_value items t.0 t.1 (put_terms p q)
    ∙ ap (λ k. (t.0 *ℤ product_of_factors items t.1) +ℤ k) (put_terms_value items p q)
    ∙ sym (+ℤ_assoc (t.0 *ℤ product_of_factors items t.1) (sum_of_terms items p) (sum_of_terms items q))

multiplied_value : (items : List ℤ) (c : ℤ) (ms : List ℕ) (p : List Term)
    → sum_of_terms items (multiplied c ms p) ≡ (c *ℤ product_of_factors items ms) *ℤ sum_of_terms items p
multiplied_value items c ms [] = sym (*ℤ_comm (c *ℤ product_of_factors items ms) (pos 0) ∙ zero-*ℤ (c *ℤ product_of_factors items ms))
multiplied_value items c ms (t ∷ p) =
    put_term_value items (c *ℤ t.0) (put_factors ms t.1) (multiplied c ms p)
    ∙ ap₂ (λ x y. ((c *ℤ t.0) *ℤ x) +ℤ y) (put_factors_value items ms t.1) (multiplied_value items c ms p)
    ∙ ap (λ k. k +ℤ ((c *ℤ product_of_factors items ms) *ℤ sum_of_terms items p)) (*ℤ_four c t.0 (product_of_factors items ms) (product_of_factors items t.1))
    ∙ sym (*ℤ-add (c *ℤ product_of_factors items ms) (t.0 *ℤ product_of_factors items t.1) (sum_of_terms items p))

multiply_value : (items : List ℤ) (p q : List Term)
    → sum_of_terms items (multiply p q) ≡ sum_of_terms items p *ℤ sum_of_terms items q
multiply_value items [] q = sym (zero-*ℤ (sum_of_terms items q))
multiply_value items (t ∷ p) q =
    put_terms_value items (multiplied t.0 t.1 q) (multiply p q)
    ∙ ap₂ (λ x y. x +ℤ y) (multiplied_value items t.0 t.1 q) (multiply_value items p q)
    ∙ sym (add-*ℤ (t.0 *ℤ product_of_factors items t.1) (sum_of_terms items p) (sum_of_terms items q))

negative_value : (items : List ℤ) (p : List Term) → sum_of_terms items (negative p) ≡ neg_ℤ (sum_of_terms items p)
negative_value items [] = refl
negative_value items (t ∷ p) =
    ap₂ (λ x y. x +ℤ y) (neg-*ℤ t.0 (product_of_factors items t.1)) (negative_value items p)
    ∙ sym (neg_ℤ-+ℤ (t.0 *ℤ product_of_factors items t.1) (sum_of_terms items p))

pub normal_value : (items : List ℤ) (a : Expression) → sum_of_terms items (normal a) ≡ value items a
normal_value items (item n) = omega (arith, ints)
normal_value items (number k) = put_value items k [] [] ∙ omega (arith, ints)
normal_value items (a ⊕ b) =
    put_terms_value items (normal a) (normal b) ∙ ap₂ (λ x y. x +ℤ y) (normal_value items a) (normal_value items b)
normal_value items (a ⊗ b) =
    multiply_value items (normal a) (normal b) ∙ ap₂ (λ x y. x *ℤ y) (normal_value items a) (normal_value items b)
normal_value items (minus a) = negative_value items (normal a) ∙ ap neg_ℤ (normal_value items a)
