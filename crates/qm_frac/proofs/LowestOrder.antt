-- The order of two fractions, and of two of one value, by the numbers that they were made of.
use Rattle.std.proofs.Common.{◌≡◌, ◌∙◌, refl, sym, ap, ap₂, ℕ, ◌*◌, ◌<◌, ℤ, pos, ◌*ℤ◌, ◌<ℤ◌, mul-pos, [], ◌∷◌}
use Rattle.std.specs.declared.cmp.Ordering.{Ordering}
use Rattle.std.specs.declared.cmp.Ordering.TheVariants.{Less, Equal, Greater}
use Rattle.std.specs.Ordering.{MatchOrdering, int_cmp}
use Rattle.std.specs.Cmp.{int_cmp_is, int_ranks}
use Rattle.qm_math.proofs.Whole.{scaled_lt}
use Rattle.qm_math.proofs.Polynomials.{◌⊗◌}
use Rattle.qm_math.proofs.Ring.{x0, x1, x2, x3, x4, x5, ring_from}
use Rattle.qm_frac.specs.Lowest.{lowest}
use Rattle.qm_frac.specs.Order.{fraction_cmp}
use Rattle.qm_frac.proofs.Values.{lowest-value}
use Rattle.qm_frac.proofs.SameLowest.{lowest_den_pos}

-- a positive factor changes no order
pub scaled_cmp : (s t : ℤ) (k : ℕ) → 0 < k → int_cmp s t ≡ int_cmp (s *ℤ pos k) (t *ℤ pos k)
scaled_cmp s t k some = int_cmp_is (s *ℤ pos k) (t *ℤ pos k) (int_cmp s t) (same (int_cmp s t) (int_ranks s t))
  where
    same : (r : Ordering) → MatchOrdering r (s <ℤ t) (s ≡ t) (t <ℤ s) → MatchOrdering r ((s *ℤ pos k) <ℤ (t *ℤ pos k)) (s *ℤ pos k ≡ t *ℤ pos k) ((t *ℤ pos k) <ℤ (s *ℤ pos k))
    same Less h = scaled_lt s t k some h
    same Equal h = ap (λ (z : ℤ). z *ℤ pos k) h
    same Greater h = scaled_lt t s k some h

pub cmp_lowest : (n m : ℤ) (d e : ℕ) → 0 < d → 0 < e → fraction_cmp (lowest n d) (lowest m e) ≡ int_cmp (n *ℤ pos e) (m *ℤ pos d)
cmp_lowest n m d e hd he =
    let x = lowest n d in
    let y = lowest m e in
    let dens : 0 < x.den * y.den = mul-pos (lowest_den_pos n d hd) (lowest_den_pos m e he) in
    let left : (x.num *ℤ pos y.den) *ℤ pos (d * e) ≡ (n *ℤ pos e) *ℤ pos (x.den * y.den) =
    ring_from (x.num ∷ pos x.den ∷ pos y.den ∷ n ∷ pos d ∷ pos e ∷ []) (x0 ⊗ x2 ⊗ (x4 ⊗ x5)) (x3 ⊗ x5 ⊗ (x1 ⊗ x2)) ((x2 ⊗ x5, x0 ⊗ x4, x3 ⊗ x1) ∷ []) (lowest-value n d, tt) refl in
    let right : (y.num *ℤ pos x.den) *ℤ pos (d * e) ≡ (m *ℤ pos d) *ℤ pos (x.den * y.den) =
    ring_from (y.num ∷ pos x.den ∷ pos y.den ∷ m ∷ pos d ∷ pos e ∷ []) (x0 ⊗ x1 ⊗ (x4 ⊗ x5)) (x3 ⊗ x4 ⊗ (x1 ⊗ x2)) ((x1 ⊗ x4, x0 ⊗ x5, x3 ⊗ x2) ∷ []) (lowest-value m e, tt) refl in
    scaled_cmp (x.num *ℤ pos y.den) (y.num *ℤ pos x.den) (d * e) (mul-pos hd he)
    ∙ ap₂ (λ (s t : ℤ). int_cmp s t) left right
    ∙ sym (scaled_cmp (n *ℤ pos e) (m *ℤ pos d) (x.den * y.den) dens)
