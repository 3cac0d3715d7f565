-- The bounds of the normal form, with the rows of exact ones, hold exactly where the bounds that are written do.
use Rattle.std.proofs.Common.{◌≡◌, ◌↔◌, ℕ, ◌<◌, [], ◌∷◌, refl, sym, subst, arith, ℤ, pos, ◌+ℤ◌, ◌*ℤ◌, ◌≤ℤ◌, ◌<ℤ◌}
use Rattle.std.proofs.lemmas.Int.{ints}
use Rattle.qm_math.specs.Fraction.{Fraction, IsAtMost}
use Rattle.qm_math.specs.Over.{over}
use Rattle.qm_math.proofs.Polynomials.{number, ◌⊕◌, ◌⊗◌}
use Rattle.qm_math.proofs.Ring.{x0, x1, x2, ring}
use Rattle.qm_math.proofs.Whole.{cancel_le, cancel_lt, scaled_le}
use Rattle.qm_math.specs.Rounding.{ceil_of, floor_of}
use Rattle.qm_math.proofs.Rounding.{ceil_at, floor_at}

-- ---- rounding

-- a whole number is at least the least one above a fraction exactly where it is at least the fraction
ceil_le : (c k num : ℤ) (ld : ℕ) → 0 < ld → num ≤ℤ (c *ℤ pos ld) → (c *ℤ pos ld) <ℤ (num +ℤ pos ld) → (c ≤ℤ k) ↔ (num ≤ℤ (k *ℤ pos ld))
ceil_le c k num ld some low high = (
  λ h. let m = scaled_le c k ld h in omega (arith, ints, low, m),
  λ h.
      let next : (k +ℤ pos 1) *ℤ pos ld ≡ (k *ℤ pos ld) +ℤ pos ld = ring (k ∷ pos ld ∷ []) ((x0 ⊕ number (pos 1)) ⊗ x1) (x0 ⊗ x1 ⊕ x1) refl in
      let below : (c *ℤ pos ld) <ℤ ((k +ℤ pos 1) *ℤ pos ld) = subst (λ (m : ℤ). (c *ℤ pos ld) <ℤ m) (sym next) (let l : (c *ℤ pos ld) <ℤ ((k *ℤ pos ld) +ℤ pos ld) = omega (arith, ints, h, high) in l) in
      let less = cancel_lt c (k +ℤ pos 1) ld below in
      omega (arith, ints, less),
)

floor_le : (f k num : ℤ) (ud : ℕ) → 0 < ud → (f *ℤ pos ud) ≤ℤ num → num <ℤ ((f *ℤ pos ud) +ℤ pos ud) → (k ≤ℤ f) ↔ ((k *ℤ pos ud) ≤ℤ num)
floor_le f k num ud some low high = (
  λ h. let m = scaled_le k f ud h in omega (arith, ints, low, m),
  λ h.
      let next : (f +ℤ pos 1) *ℤ pos ud ≡ (f *ℤ pos ud) +ℤ pos ud = ring (f ∷ pos ud ∷ []) ((x0 ⊕ number (pos 1)) ⊗ x1) (x0 ⊗ x1 ⊕ x1) refl in
      let below : (k *ℤ pos ud) <ℤ ((f +ℤ pos 1) *ℤ pos ud) = subst (λ (m : ℤ). (k *ℤ pos ud) <ℤ m) (sym next) (let l : (k *ℤ pos ud) <ℤ ((f *ℤ pos ud) +ℤ pos ud) = omega (arith, ints, h, high) in l) in
      let less = cancel_lt k (f +ℤ pos 1) ud below in
      omega (arith, ints, less),
)

-- ---- whole values

pub whole_lower : (den : ℕ) (k : ℤ) (l : Fraction) → 0 < den → 0 < l.den → ((ceil_of l *ℤ pos den) ≤ℤ (k *ℤ pos den)) ↔ IsAtMost l (over den (k *ℤ pos den))
whole_lower den k l some l_den =
    let c = ceil_of l in
    let is = ceil_at l.num l.den l_den in
    let rounds = ceil_le c k l.num l.den l_den is.0 is.1 in
    let e : (k *ℤ pos l.den) *ℤ pos den ≡ (k *ℤ pos den) *ℤ pos l.den = ring (k ∷ pos l.den ∷ pos den ∷ []) (x0 ⊗ x1 ⊗ x2) (x0 ⊗ x2 ⊗ x1) refl in (
      λ h. subst (λ (m : ℤ). (l.num *ℤ pos den) ≤ℤ m) e (scaled_le l.num (k *ℤ pos l.den) den (rounds.0 (cancel_le c k den some h))),
      λ h. scaled_le c k den (rounds.1 (cancel_le l.num (k *ℤ pos l.den) den some (subst (λ (m : ℤ). (l.num *ℤ pos den) ≤ℤ m) (sym e) h))),
    )

pub whole_upper : (den : ℕ) (k : ℤ) (u : Fraction) → 0 < den → 0 < u.den → ((k *ℤ pos den) ≤ℤ (floor_of u *ℤ pos den)) ↔ IsAtMost (over den (k *ℤ pos den)) u
whole_upper den k u some u_den =
    let f = floor_of u in
    let is = floor_at u.num u.den u_den in
    let rounds = floor_le f k u.num u.den u_den is.0 is.1 in
    let e : (k *ℤ pos u.den) *ℤ pos den ≡ (k *ℤ pos den) *ℤ pos u.den = ring (k ∷ pos u.den ∷ pos den ∷ []) (x0 ⊗ x1 ⊗ x2) (x0 ⊗ x2 ⊗ x1) refl in (
      λ h. subst (λ (m : ℤ). m ≤ℤ (u.num *ℤ pos den)) e (scaled_le (k *ℤ pos u.den) u.num den (rounds.0 (cancel_le k f den some h))),
      λ h. scaled_le k f den (rounds.1 (cancel_le (k *ℤ pos u.den) u.num den some (subst (λ (m : ℤ). m ≤ℤ (u.num *ℤ pos den)) (sym e) h))),
    )

-- ---- any values: the bound that is rounded outwards is no closer

pub outward_lower : (den : ℕ) (n : ℤ) (l : Fraction) → 0 < l.den → IsAtMost l (over den n) → (floor_of l *ℤ pos den) ≤ℤ n
outward_lower den n l l_den h =
    let f = floor_of l in
    let is = floor_at l.num l.den l_den in
    let e : (f *ℤ pos l.den) *ℤ pos den ≡ (f *ℤ pos den) *ℤ pos l.den = ring (f ∷ pos l.den ∷ pos den ∷ []) (x0 ⊗ x1 ⊗ x2) (x0 ⊗ x2 ⊗ x1) refl in
    let m : ((f *ℤ pos l.den) *ℤ pos den) ≤ℤ (l.num *ℤ pos den) = scaled_le (f *ℤ pos l.den) l.num den is.0 in
    let g : ((f *ℤ pos den) *ℤ pos l.den) ≤ℤ (l.num *ℤ pos den) = subst (λ (a : ℤ). a ≤ℤ (l.num *ℤ pos den)) e m in
    let whole_g : ((f *ℤ pos den) *ℤ pos l.den) ≤ℤ (n *ℤ pos l.den) = omega (arith, ints, g, h) in
    cancel_le (f *ℤ pos den) n l.den l_den whole_g

pub outward_upper : (den : ℕ) (n : ℤ) (u : Fraction) → 0 < u.den → IsAtMost (over den n) u → n ≤ℤ (ceil_of u *ℤ pos den)
outward_upper den n u u_den h =
    let c = ceil_of u in
    let is = ceil_at u.num u.den u_den in
    let e : (c *ℤ pos u.den) *ℤ pos den ≡ (c *ℤ pos den) *ℤ pos u.den = ring (c ∷ pos u.den ∷ pos den ∷ []) (x0 ⊗ x1 ⊗ x2) (x0 ⊗ x2 ⊗ x1) refl in
    let m : (u.num *ℤ pos den) ≤ℤ ((c *ℤ pos u.den) *ℤ pos den) = scaled_le u.num (c *ℤ pos u.den) den is.0 in
    let g : (u.num *ℤ pos den) ≤ℤ ((c *ℤ pos den) *ℤ pos u.den) = subst (λ (a : ℤ). (u.num *ℤ pos den) ≤ℤ a) e m in
    let whole_g : (n *ℤ pos u.den) ≤ℤ ((c *ℤ pos den) *ℤ pos u.den) = omega (arith, ints, g, h) in
    cancel_le n (c *ℤ pos den) u.den u_den whole_g

-- ---- a bound that is whole is not rounded

pub exact_lower : (den : ℕ) (n : ℤ) (l : Fraction) → l.den ≡ 1 → (floor_of l *ℤ pos den) ≤ℤ n → IsAtMost l (over den n)
exact_lower den n l one h =
    let is = floor_at l.num l.den (let s : 0 < l.den = omega (arith, one) in s) in
    let f = floor_of l in
    let low : l.num <ℤ ((f *ℤ pos 1) +ℤ pos 1) = subst (λ (d : ℕ). l.num <ℤ ((f *ℤ pos d) +ℤ pos d)) one is.1 in
    let less : l.num ≤ℤ f = omega (arith, ints, low) in
    let m = scaled_le l.num f den less in
    subst (λ (d : ℕ). (l.num *ℤ pos den) ≤ℤ (n *ℤ pos d)) (sym one) (let g : (l.num *ℤ pos den) ≤ℤ (n *ℤ pos 1) = omega (arith, ints, m, h) in g)

pub exact_upper : (den : ℕ) (n : ℤ) (u : Fraction) → u.den ≡ 1 → n ≤ℤ (ceil_of u *ℤ pos den) → IsAtMost (over den n) u
exact_upper den n u one h =
    let is = ceil_at u.num u.den (let s : 0 < u.den = omega (arith, one) in s) in
    let c = ceil_of u in
    let high : (c *ℤ pos 1) <ℤ (u.num +ℤ pos 1) = subst (λ (d : ℕ). (c *ℤ pos d) <ℤ (u.num +ℤ pos d)) one is.1 in
    let less : c ≤ℤ u.num = omega (arith, ints, high) in
    let m = scaled_le c u.num den less in
    subst (λ (d : ℕ). (n *ℤ pos d) ≤ℤ (u.num *ℤ pos den)) (sym one) (let g : (n *ℤ pos 1) ≤ℤ (u.num *ℤ pos den) = omega (arith, ints, m, h) in g)
