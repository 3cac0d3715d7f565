-- What a narrowed range is, and that it keeps the values at which its row holds.
use Rattle.std.proofs.Common.{◌≡◌, ◌≢◌, ◌∙◌, sym, ap, refl, subst, ℕ, zero, suc, ◌+◌, ◌-◌, ◌*◌, ◌/◌, ◌<◌, ◌≤◌, [], ◌∷◌, arith, unsigned_abs, ℤ, pos, ◌+ℤ◌, ◌-ℤ◌, ◌*ℤ◌, neg_ℤ, ◌≤ℤ◌, ◌<ℤ◌, Bool, true, false}
use Rattle.std.specs.Prelude.{negsuc, nat_lt, Some, None, if◌then◌else◌}
use Rattle.std.proofs.Math.Nat.{mul-le-mul_right}
use Rattle.std.proofs.lemmas.Bool.{ltb-true}
use Rattle.std.proofs.lemmas.Int.{ints}
use Rattle.std.proofs.lemmas.Nat.{le-div}
use Rattle.qm_math.specs.Ranges.{count_of, least_product}
use Rattle.qm_math.proofs.Polynomials.{◌⊕◌, ◌⊗◌, minus}
use Rattle.qm_math.proofs.Ring.{x0, x1, x2, x3, x4, ring, ring_le}
use Rattle.qm_math.proofs.Whole.{add-*ℤ}
use Rattle.qm_model.specs.declared.range.Range.{Range}
use Rattle.qm_model.specs.declared.variable.Var.{Var}
use Rattle.qm_model.specs.Boxes.{IsInside}
use Rattle.qm_model.specs.Sound.{IsWhole}
use Rattle.qm_prop.specs.Narrower.{above_low, below_high, cut_to, narrower, room_of, width_of}
use Rattle.qm_prop.specs.Points.{IsValueIn}

chosen : (b : Bool) (x after : Range) → (if b then Some x else None) ≡ Some after → (b ≡ true) × (x ≡ after)
chosen true x after e = (refl, cc)
chosen false x after e = absurd (cc)

below_count : (z : ℤ) (n : ℕ) → n < count_of z → pos n <ℤ z
below_count (pos m) n h = omega (arith, ints)
below_count (negsuc m) n h = absurd (omega arith)

cut_inside : (coef : ℤ) (steps : ℕ) (r : Range) → pos steps <ℤ (r.high -ℤ r.low) → IsInside (cut_to coef steps r) r
cut_inside (pos k) steps r h = record {
  low = omega (arith, ints);
  high = omega (arith, ints, h);
  low_near = omega arith;
  high_near = omega (arith, ints, h);
}
cut_inside (negsuc k) steps r h = record {
  low = omega (arith, ints, h);
  high = omega (arith, ints);
  low_near = omega (arith, ints, h);
  high_near = omega arith;
}

cut_differs : (coef : ℤ) (steps : ℕ) (r : Range) → pos steps <ℤ (r.high -ℤ r.low) → cut_to coef steps r ≢ r
cut_differs (pos k) steps r h e = omega (arith, ints, h, ap (λ (q : Range). q.high) e)
cut_differs (negsuc k) steps r h e = omega (arith, ints, h, ap (λ (q : Range). q.low) e)

cut_least : (coef : ℤ) (steps : ℕ) (r : Range) → least_product coef (cut_to coef steps r).low (cut_to coef steps r).high ≡ least_product coef r.low r.high
cut_least (pos k) steps r = refl
cut_least (negsuc k) steps r = refl

-- what a narrowed range is
pub record IsNarrower (whole : Bool) (coef : ℤ) (slack : ℕ) (r after : Range) : Type 0 where
  pub cut : after ≡ cut_to coef (room_of whole slack (unsigned_abs coef)) r
  pub inside : IsInside after r
  pub differs : after ≢ r
  pub least : least_product coef after.low after.high ≡ least_product coef r.low r.high

pub narrower-is : (whole : Bool) (coef : ℤ) (slack : ℕ) (r after : Range) → narrower whole coef slack r ≡ Some after → IsNarrower whole coef slack r after
narrower-is whole coef slack r after e =
    let steps : ℕ = room_of whole slack (unsigned_abs coef) in
    let both = chosen (nat_lt steps (width_of r)) (cut_to coef steps r) after e in
    let short = below_count (r.high -ℤ r.low) steps (ltb-true steps (width_of r) both.0) in
    let made : IsNarrower whole coef slack r (cut_to coef steps r) = record {
      cut = refl;
      inside = cut_inside coef steps r short;
      differs = cut_differs coef steps r short;
      least = cut_least coef steps r;
    } in
    subst (IsNarrower whole coef slack r) both.1 made

-- ---- values are kept
cancel_right : (a b d : ℕ) → 0 < d → a * d ≤ b * d → a ≤ b
cancel_right a b d positive h = grind arith

cancel_left : (a b d : ℕ) → 0 < d → d * a ≤ d * b → a ≤ b
cancel_left a b d positive h = grind arith

ceil_enough : (slack size : ℕ) → 0 < size → slack ≤ size * ((slack + (size - 1)) / size)
ceil_enough slack size some = omega arith

-- a distance of y over den from the better end, which the row's slack allows, is within the room
room_enough : (whole : Bool) (slack size y den : ℕ) → 0 < size → 0 < den → size * y ≤ slack * den → (whole ≡ true → (m : ℕ) × (y ≡ m * den))
    → y ≤ room_of whole slack size * den
room_enough true slack size y den some positive h multiple =
    let m : ℕ = (multiple refl).0 in
    let is : y ≡ m * den = (multiple refl).1 in
    let less : size * m ≤ slack = cancel_right (size * m) slack den positive (omega (arith, h, ap (λ k. size * k) is)) in
    let steps : m ≤ slack / size = le-div m slack size some (omega (arith, less)) in
    omega (arith, is, mul-le-mul_right den steps)
room_enough false slack size y den some positive h multiple =
    let steps : ℕ = (slack + (size - 1)) / size in
    let enough : slack ≤ size * steps = ceil_enough slack size some in
    let bound : size * y ≤ size * (steps * den) = omega (arith, h, mul-le-mul_right den enough) in
    cancel_left y (steps * den) size some bound

-- a multiple of the denominator that is not negative
multiple_from : (z : ℤ) (y den : ℕ) → 0 < den → z *ℤ pos den ≡ pos y → (m : ℕ) × (y ≡ m * den)
multiple_from (pos m) y den positive e = (m, omega (arith, ints, e))
multiple_from (negsuc m) y den positive e = absurd (omega (arith, ints, e, mul-le-mul_right {m = 1} {n = suc m} den (omega arith)))

natural_of : (z : ℤ) → pos 0 ≤ℤ z → (y : ℕ) × (z ≡ pos y)
natural_of (pos y) h = (y, refl)
natural_of (negsuc y) h = absurd (omega (arith, ints, h))

times : (n y slack den : ℕ) → (pos n *ℤ pos y) ≤ℤ (pos slack *ℤ pos den) → n * y ≤ slack * den
times n y slack den h = omega (arith, ints, h)

positive_size : (n : ℕ) → pos n ≢ pos 0 → 0 < n
positive_size zero some = absurd (some refl)
positive_size (suc n) some = omega arith

-- the steps from the low end, and from the high end
above_kept : (x : Var) (den slack n : ℕ) (r : Range) (v : ℤ) → 0 < den → 0 < n → IsValueIn den x r v
    → (pos n *ℤ v) ≤ℤ (((pos n *ℤ r.low) +ℤ pos slack) *ℤ pos den) → IsValueIn den x (above_low (room_of x.whole slack n) r) v
above_kept x den slack n r v positive some inside h =
    let far : pos 0 ≤ℤ (v +ℤ neg_ℤ (r.low *ℤ pos den)) = omega (arith, ints, inside.low) in
    let y : ℕ = (natural_of (v +ℤ neg_ℤ (r.low *ℤ pos den)) far).0 in
    let at : v +ℤ neg_ℤ (r.low *ℤ pos den) ≡ pos y = (natural_of (v +ℤ neg_ℤ (r.low *ℤ pos den)) far).1 in
    let apart : (pos n *ℤ (v +ℤ neg_ℤ (r.low *ℤ pos den))) ≤ℤ (pos slack *ℤ pos den) =
    ring_le (pos n ∷ v ∷ r.low ∷ pos den ∷ pos slack ∷ []) (x0 ⊗ (x1 ⊕ minus (x2 ⊗ x3))) (x4 ⊗ x3) (x0 ⊗ x1) ((x0 ⊗ x2 ⊕ x4) ⊗ x3) h refl in
    let multiple = λ (w : IsWhole x). multiple_of (inside.whole w).0 r.low v y den positive (inside.whole w).1 at in
    let steps : ℕ = room_of x.whole slack n in
    let enough : y ≤ steps * den = room_enough x.whole slack n y den some positive (times n y slack den (rw at at apart)) multiple in
    record { low = inside.low; high = end_le r.low v steps y den at enough; whole = inside.whole }
  where
    multiple_of : (k low v : ℤ) (y den : ℕ) → 0 < den → v ≡ k *ℤ pos den → v +ℤ neg_ℤ (low *ℤ pos den) ≡ pos y → (m : ℕ) × (y ≡ m * den)
    multiple_of k low v y den positive is at =
        multiple_from (k +ℤ neg_ℤ low) y den positive
        (ring (k ∷ low ∷ pos den ∷ []) ((x0 ⊕ minus x1) ⊗ x2) (x0 ⊗ x2 ⊕ minus (x1 ⊗ x2)) refl ∙ ap (λ z. z +ℤ neg_ℤ (low *ℤ pos den)) (sym is) ∙ at)

    end_le : (low v : ℤ) (steps y den : ℕ) → v +ℤ neg_ℤ (low *ℤ pos den) ≡ pos y → y ≤ steps * den → v ≤ℤ ((low +ℤ pos steps) *ℤ pos den)
    end_le low v steps y den at enough = omega (arith, ints, at, enough, add-*ℤ low (pos steps) (pos den))

below_kept : (x : Var) (den slack k : ℕ) (r : Range) (v : ℤ) → 0 < den → IsValueIn den x r v
    → (negsuc k *ℤ v) ≤ℤ (((negsuc k *ℤ r.high) +ℤ pos slack) *ℤ pos den) → IsValueIn den x (below_high (room_of x.whole slack (suc k)) r) v
below_kept x den slack k r v positive inside h =
    let far : pos 0 ≤ℤ ((r.high *ℤ pos den) +ℤ neg_ℤ v) = omega (arith, ints, inside.high) in
    let y : ℕ = (natural_of ((r.high *ℤ pos den) +ℤ neg_ℤ v) far).0 in
    let at : (r.high *ℤ pos den) +ℤ neg_ℤ v ≡ pos y = (natural_of ((r.high *ℤ pos den) +ℤ neg_ℤ v) far).1 in
    let apart : (pos (suc k) *ℤ ((r.high *ℤ pos den) +ℤ neg_ℤ v)) ≤ℤ (pos slack *ℤ pos den) =
    ring_le (negsuc k ∷ v ∷ r.high ∷ pos den ∷ pos slack ∷ []) (minus x0 ⊗ (x2 ⊗ x3 ⊕ minus x1)) (x4 ⊗ x3) (x0 ⊗ x1) ((x0 ⊗ x2 ⊕ x4) ⊗ x3) h refl in
    let multiple = λ (w : IsWhole x). multiple_of (inside.whole w).0 r.high v y den positive (inside.whole w).1 at in
    let steps : ℕ = room_of x.whole slack (suc k) in
    let enough : y ≤ steps * den = room_enough x.whole slack (suc k) y den (omega arith) positive (times (suc k) y slack den (rw at at apart)) multiple in
    record { low = end_le r.high v steps y den at enough; high = inside.high; whole = inside.whole }
  where
    multiple_of : (k high v : ℤ) (y den : ℕ) → 0 < den → v ≡ k *ℤ pos den → (high *ℤ pos den) +ℤ neg_ℤ v ≡ pos y → (m : ℕ) × (y ≡ m * den)
    multiple_of k high v y den positive is at =
        multiple_from (high +ℤ neg_ℤ k) y den positive
        (ring (k ∷ high ∷ pos den ∷ []) ((x1 ⊕ minus x0) ⊗ x2) (x1 ⊗ x2 ⊕ minus (x0 ⊗ x2)) refl ∙ ap (λ z. (high *ℤ pos den) +ℤ neg_ℤ z) (sym is) ∙ at)

    end_le : (high v : ℤ) (steps y den : ℕ) → (high *ℤ pos den) +ℤ neg_ℤ v ≡ pos y → y ≤ steps * den → ((high -ℤ pos steps) *ℤ pos den) ≤ℤ v
    end_le high v steps y den at enough =
        omega (arith, ints, at, enough, ring (high ∷ pos steps ∷ pos den ∷ []) ((x0 ⊕ minus x1) ⊗ x2) (x0 ⊗ x2 ⊕ minus (x1 ⊗ x2)) refl)

-- a value whose term the row's slack allows stays in the narrowed range
pub value-kept : (x : Var) (den slack : ℕ) (coef : ℤ) (r after : Range) (v : ℤ) → 0 < den → coef ≢ pos 0 → IsNarrower x.whole coef slack r after → IsValueIn den x r v
    → (coef *ℤ v) ≤ℤ ((least_product coef r.low r.high +ℤ pos slack) *ℤ pos den) → IsValueIn den x after v
value-kept x den slack (pos n) r after v positive some is inside h =
    subst (λ q. IsValueIn den x q v) (sym is.cut) (above_kept x den slack n r v positive (positive_size n some) inside h)
value-kept x den slack (negsuc k) r after v positive some is inside h =
    subst (λ q. IsValueIn den x q v) (sym is.cut) (below_kept x den slack k r v positive inside h)
