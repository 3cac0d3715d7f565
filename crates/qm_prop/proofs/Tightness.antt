-- A row alone narrows a range exactly as far as its slack says.
use Rattle.std.proofs.Common.{◌≡◌, ◌≢◌, ◌∙◌, sym, ap, refl, subst, ℕ, suc, ◌+◌, ◌-◌, ◌*◌, ◌/◌, ◌<◌, ◌≤◌, ◌↔◌, inl, inr, [], ◌∷◌, arith, unsigned_abs, Bool, true, false, ℤ, pos, ◌+ℤ◌, ◌-ℤ◌, ◌*ℤ◌, neg_ℤ, ◌≤ℤ◌, ◌<ℤ◌}
use Rattle.std.specs.Prelude.{negsuc, nat_lt, Some, None, unwrap_or, if◌then◌else◌}
use Rattle.std.proofs.Math.Nat.{le-div_iff_mul-le}
use Rattle.std.proofs.lemmas.Bool.Decides.{leb_tells}
use Rattle.std.proofs.lemmas.Int.{ints}
use Rattle.qm_math.specs.Ranges.{IsBetween, count_of, least_product}
use Rattle.qm_math.proofs.Polynomials.{◌⊗◌, minus}
use Rattle.qm_math.proofs.Ring.{x0, x1, ring}
use Rattle.qm_math.proofs.Products.{*ℤ-add}
use Rattle.qm_math.proofs.Magnitudes.{unsigned_abs-nonzero}
use Rattle.qm_model.specs.declared.range.Range.{Range}
use Rattle.qm_prop.specs.Narrower.{cut_to, range_by, room_of, width_of}
use Rattle.qm_prop.proofs.Keeping.{count_is}

-- ---- so many steps fit
room-whole : (slack n y : ℕ) → 0 < n → (y ≤ slack / n) ↔ (n * y ≤ slack)
room-whole slack n y some =
    let iff = le-div_iff_mul-le {k = n} {x = y} {y = slack} some in
    (λ h. omega (arith, iff.0 h), λ h. iff.1 (omega (arith, h)))

room-outer : (slack n y : ℕ) → 0 < n → (y ≤ (slack + (n - 1)) / n) ↔ (n * y < slack + n)
room-outer slack n y some =
    let iff = le-div_iff_mul-le {k = n} {x = y} {y = slack + (n - 1)} some in
    (λ h. omega (arith, iff.0 h), λ h. iff.1 (omega (arith, h)))

beyond : (a b : ℤ) (m s : ℕ) → b ≡ a +ℤ pos m → (m ≤ s) ↔ (b ≤ℤ (a +ℤ pos s))
beyond a b m s e = (λ h. omega (arith, ints, h, e), λ h. omega (arith, ints, h, e))

beyond_strict : (a b : ℤ) (m s : ℕ) → b ≡ a +ℤ pos m → (m < s) ↔ (b <ℤ (a +ℤ pos s))
beyond_strict a b m s e = (λ h. omega (arith, ints, h, e), λ h. omega (arith, ints, h, e))

-- ---- how far a value lies from the better end for a coefficient
abbrev far_of : ℤ → Range → ℤ → ℕ
far_of (pos n) r v = count_of (v -ℤ r.low)
far_of (negsuc k) r v = count_of (r.high -ℤ v)

product : (n y : ℕ) → pos n *ℤ pos y ≡ pos (n * y)
product n y = omega (arith, ints)

-- its multiple lies that many times the coefficient's size above the least one
far-multiple : (coef : ℤ) (r : Range) (v : ℤ) → IsBetween r.low r.high v → coef *ℤ v ≡ least_product coef r.low r.high +ℤ pos (unsigned_abs coef * far_of coef r v)
far-multiple (pos n) r v between =
    let y : ℕ = count_of (v -ℤ r.low) in
    let at : v ≡ r.low +ℤ pos y = from_low v r.low y (count_is (v -ℤ r.low) (omega (arith, ints, between.0))) in
    ap (λ z. pos n *ℤ z) at ∙ *ℤ-add (pos n) r.low (pos y) ∙ ap (λ z. (pos n *ℤ r.low) +ℤ z) (product n y)
  where
    from_low : (v low : ℤ) (y : ℕ) → v -ℤ low ≡ pos y → v ≡ low +ℤ pos y
    from_low v low y e = omega (arith, ints, e)
far-multiple (negsuc k) r v between =
    let y : ℕ = count_of (r.high -ℤ v) in
    let at : v ≡ r.high +ℤ neg_ℤ (pos y) = from_high v r.high y (count_is (r.high -ℤ v) (omega (arith, ints, between.1))) in
    ap (λ z. negsuc k *ℤ z) at ∙ *ℤ-add (negsuc k) r.high (neg_ℤ (pos y)) ∙ ap (λ z. (negsuc k *ℤ r.high) +ℤ z) (times k y)
  where
    from_high : (v high : ℤ) (y : ℕ) → high -ℤ v ≡ pos y → v ≡ high +ℤ neg_ℤ (pos y)
    from_high v high y e = omega (arith, ints, e)

    times : (k y : ℕ) → negsuc k *ℤ neg_ℤ (pos y) ≡ pos (suc k * y)
    times k y = ring (negsuc k ∷ pos y ∷ []) (x0 ⊗ minus x1) (minus x0 ⊗ x1) refl ∙ product (suc k) y

-- ---- a value stays exactly where it lies within the room
cut_iff : (coef : ℤ) (room : ℕ) (r : Range) (v : ℤ) → IsBetween r.low r.high v → IsBetween (cut_to coef room r).low (cut_to coef room r).high v ↔ (far_of coef r v ≤ room)
cut_iff (pos n) room r v between =
    let e = count_is (v -ℤ r.low) (omega (arith, ints, between.0)) in
    (λ h. omega (arith, ints, e, h.1), λ h. (between.0, omega (arith, ints, e, h)))
cut_iff (negsuc k) room r v between =
    let e = count_is (r.high -ℤ v) (omega (arith, ints, between.1)) in
    (λ h. omega (arith, ints, e, h.0), λ h. (omega (arith, ints, e, h), between.1))

far-width : (coef : ℤ) (r : Range) (v : ℤ) → IsBetween r.low r.high v → far_of coef r v ≤ width_of r
far-width (pos n) r v between =
    let e = count_is (v -ℤ r.low) (omega (arith, ints, between.0)) in
    let w = count_is (r.high -ℤ r.low) (omega (arith, ints, between.0, between.1)) in
    omega (arith, ints, e, w, between.1)
far-width (negsuc k) r v between =
    let e = count_is (r.high -ℤ v) (omega (arith, ints, between.1)) in
    let w = count_is (r.high -ℤ r.low) (omega (arith, ints, between.0, between.1)) in
    omega (arith, ints, e, w, between.0)

by_room : (Q : Range → Type 0) (room width : ℕ) (x r : Range) → (room < width → Q x) → (width ≤ room → Q r) → Q (unwrap_or (if nat_lt room width then Some x else None) r)
by_room Q room width x r cut whole = elim (leb_tells (suc room) width) [
  | inl h ↦ subst (λ t. Q (unwrap_or (if t then Some x else None) r)) (sym h.0) (cut h.1)
  | inr h ↦ subst (λ t. Q (unwrap_or (if t then Some x else None) r)) (sym h.0) (whole (omega (arith, h.1)))
]

stays_iff : (whole : Bool) (coef : ℤ) (slack : ℕ) (r : Range) (v : ℤ) → IsBetween r.low r.high v
    → IsBetween (range_by whole coef slack r).low (range_by whole coef slack r).high v ↔ (far_of coef r v ≤ room_of whole slack (unsigned_abs coef))
stays_iff whole coef slack r v between =
    let room : ℕ = room_of whole slack (unsigned_abs coef) in
    by_room (λ q. IsBetween q.low q.high v ↔ (far_of coef r v ≤ room)) room (width_of r) (cut_to coef room r) r
    (λ short. cut_iff coef room r v between)
    (λ long. (λ h. omega (arith, long, far-width coef r v between), λ h. between))

through : {A B C : Type 0} → A ↔ B → B ↔ C → A ↔ C
through f g = (λ a. g.0 (f.0 a), λ c. f.1 (g.1 c))

pub whole-exactly : (coef : ℤ) (slack : ℕ) (r : Range) (v : ℤ) → coef ≢ pos 0 → IsBetween r.low r.high v
    → IsBetween (range_by true coef slack r).low (range_by true coef slack r).high v ↔ ((coef *ℤ v) ≤ℤ (least_product coef r.low r.high +ℤ pos slack))
whole-exactly coef slack r v some between =
    through (stays_iff true coef slack r v between)
    (through (room-whole slack (unsigned_abs coef) (far_of coef r v) (unsigned_abs-nonzero coef some))
    (beyond (least_product coef r.low r.high) (coef *ℤ v) (unsigned_abs coef * far_of coef r v) slack (far-multiple coef r v between)))

pub continuous-exactly : (coef : ℤ) (slack : ℕ) (r : Range) (v : ℤ) → coef ≢ pos 0 → IsBetween r.low r.high v
    → IsBetween (range_by false coef slack r).low (range_by false coef slack r).high v ↔ ((coef *ℤ v) <ℤ (least_product coef r.low r.high +ℤ pos (slack + unsigned_abs coef)))
continuous-exactly coef slack r v some between =
    through (stays_iff false coef slack r v between)
    (through (room-outer slack (unsigned_abs coef) (far_of coef r v) (unsigned_abs-nonzero coef some))
    (beyond_strict (least_product coef r.low r.high) (coef *ℤ v) (unsigned_abs coef * far_of coef r v) (slack + unsigned_abs coef) (far-multiple coef r v between)))
