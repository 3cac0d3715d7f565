-- The signs of entries of whole rows, and the order of two quotients of one.
use Rattle.std.proofs.Common.{◌≡◌, ◌∙◌, refl, sym, ap, ap₂, ℕ, suc, ◌*◌, ◌<◌, ℤ, pos, ◌*ℤ◌, ◌<ℤ◌, unsigned_abs, arith, mul-pos, Bool, true, false, ◌+◌, add-one, List, [], ◌∷◌, length, get_or, map, drop, All, Ok}
use Rattle.std.specs.declared.cmp.Ordering.{Ordering}
use Rattle.std.specs.declared.cmp.Ordering.TheVariants.{Less, Equal, Greater}
use Rattle.std.specs.Ordering.{int_cmp}
use Rattle.std.proofs.lemmas.Int.{ints}
use Rattle.std.proofs.lemmas.List.{at_drop_more, get_or-map, length-map}
use Rattle.qm_math.specs.Fraction.{Fraction}
use Rattle.qm_math.proofs.Polynomials.{◌⊗◌}
use Rattle.qm_math.proofs.Ring.{x0, x1, x2, x3, ring}
use Rattle.qm_frac.specs.Lowest.{lowest}
use Rattle.qm_tableau.specs.Tables.{entry_of}
use Rattle.qm_tableau.specs.Leaving.{Placed}
use Rattle.qm_tableau.specs.Rule.{is_greater}
use Rattle.qm_tableau.specs.Wholes.{IsSmallRow, at_place, fractions_of}
use Rattle.qm_tableau.proofs.NoLeaving.{factor_is}
use Rattle.qm_tableau.proofs.WholeEntries.{entry_in_row}
use Rattle.qm_frac.specs.Checked.{divided}
use Rattle.qm_frac.specs.Order.{fraction_cmp}
use Rattle.qm_frac.specs.Signs.{pos_abs}
use Rattle.qm_frac.proofs.LowestOrder.{cmp_lowest, scaled_cmp}

-- the row is a and b over d, the leaving row p and q over e
pub quotients_compare : (a b : ℤ) (p q d e : ℕ) → 0 < p → 0 < q → 0 < d → 0 < e
    → fraction_cmp (lowest (a *ℤ pos e) (d * p)) (lowest (b *ℤ pos e) (d * q)) ≡ int_cmp (a *ℤ pos q) (b *ℤ pos p)
quotients_compare a b p q d e hp hq hd he =
    cmp_lowest (a *ℤ pos e) (b *ℤ pos e) (d * p) (d * q) (mul-pos hd hp) (mul-pos hd hq)
    ∙ ap₂ (λ (s t : ℤ). int_cmp s t)
    (ring (a ∷ pos q ∷ pos d ∷ pos e ∷ []) (x0 ⊗ x3 ⊗ (x2 ⊗ x1)) (x0 ⊗ x1 ⊗ (x2 ⊗ x3)) refl)
    (ring (b ∷ pos p ∷ pos d ∷ pos e ∷ []) (x0 ⊗ x3 ⊗ (x2 ⊗ x1)) (x0 ⊗ x1 ⊗ (x2 ⊗ x3)) refl)
    ∙ sym (scaled_cmp (a *ℤ pos q) (b *ℤ pos p) (d * e) (mul-pos hd he))

-- what the rule's comparison answers, where it has come to one row
abbrev pub decided : Ordering → Placed Bool → Placed Bool
decided o rest = elim o [ Less ↦ Ok false | Equal ↦ rest | Greater ↦ Ok true ]

one_row : (k b i : ℕ) (p q x y : Fraction) (o : Ordering) (row : List Fraction) (rest : List (List Fraction))
    → divided (entry_of row k) p ≡ Ok x → divided (entry_of row b) q ≡ Ok y → fraction_cmp x y ≡ o
    → is_greater k p b q i (row ∷ rest) ≡ decided o (is_greater k p b q (suc i) rest)
one_row k b i p q x y o row rest x_is y_is o_is =
    rw (x_is, y_is) (ap (λ (r : Ordering). decided r (is_greater k p b q (suc i) rest)) o_is)

magnitude_some : (z : ℤ) → pos 0 <ℤ z → 0 < unsigned_abs z
magnitude_some z h = omega (arith, ints, h)

-- the quotient of a column, with the magnitudes of the denominators and of the leaving row's number
quotient_is : (k : ℕ) (leaving row : List ℤ) → IsSmallRow leaving → IsSmallRow row → length leaving ≡ length row → suc k < length row → pos 0 <ℤ at_place leaving (suc k)
    → divided (entry_of (fractions_of row) k) (entry_of (fractions_of leaving) k)
    ≡ Ok (lowest (at_place row (suc k) *ℤ pos (unsigned_abs (at_place leaving 0))) (unsigned_abs (at_place row 0) * unsigned_abs (at_place leaving (suc k))))
quotient_is k leaving row l r count inside some =
    let x = at_place row (suc k) in
    let d = unsigned_abs (at_place row 0) in
    let e = unsigned_abs (at_place leaving 0) in
    let p = unsigned_abs (at_place leaving (suc k)) in
    let in_leaving : suc k < length leaving = omega (arith, count, inside) in
    let p_at : entry_of (fractions_of leaving) k ≡ lowest (pos p) e = entry_in_row leaving k in_leaving ∙ ap (λ (z : ℤ). lowest z e) (sym (pos_abs (at_place leaving (suc k)) some)) in
    ap₂ (λ (a b : Fraction). divided a b) (entry_in_row row k inside) p_at
    ∙ factor_is x p d e k (magnitude_some (at_place row 0) r.positive) (magnitude_some (at_place leaving 0) l.positive) (magnitude_some (at_place leaving (suc k)) some)
    (r.small (suc k) (pos 0) inside) (l.small (suc k) (pos 0) in_leaving) (r.small 0 (pos 0) (omega (arith, inside))) (l.small 0 (pos 0) (omega (arith, in_leaving)))

module _ (k b : ℕ) (leaving row : List ℤ) (l : IsSmallRow leaving) (r : IsSmallRow row) (count : length leaving ≡ length row) (k_in : suc k < length row) (b_in : suc b < length row)
    (hp : pos 0 <ℤ at_place leaving (suc k)) (hq : pos 0 <ℤ at_place leaving (suc b)) where
  pub greater_in_row : (i : ℕ) (rest : List (List Fraction))
      → is_greater k (entry_of (fractions_of leaving) k) b (entry_of (fractions_of leaving) b) i (fractions_of row ∷ rest)
      ≡ decided (int_cmp (at_place row (suc k) *ℤ at_place leaving (suc b)) (at_place row (suc b) *ℤ at_place leaving (suc k)))
      (is_greater k (entry_of (fractions_of leaving) k) b (entry_of (fractions_of leaving) b) (suc i) rest)
  greater_in_row i rest =
      let x = at_place row (suc k) in
      let y = at_place row (suc b) in
      let p = at_place leaving (suc k) in
      let q = at_place leaving (suc b) in
      one_row k b i (entry_of (fractions_of leaving) k) (entry_of (fractions_of leaving) b) _ _ _ (fractions_of row) rest
      (quotient_is k leaving row l r count k_in hp) (quotient_is b leaving row l r count b_in hq)
      (quotients_compare x y (unsigned_abs p) (unsigned_abs q) (unsigned_abs (at_place row 0)) (unsigned_abs (at_place leaving 0)) (magnitude_some p hp) (magnitude_some q hq)
      (magnitude_some (at_place row 0) r.positive) (magnitude_some (at_place leaving 0) l.positive)
      ∙ ap₂ (λ (m n : ℤ). int_cmp (x *ℤ m) (y *ℤ n)) (pos_abs q hq) (pos_abs p hp))

-- the same in row i of all rows
module _ (k b i w : ℕ) (leaving : List ℤ) (rows : List (List ℤ)) (l : IsSmallRow leaving) (small : All IsSmallRow rows) (count : length leaving ≡ w) (widths : All (λ row. length row ≡ w) rows)
    (h : i < length rows) (k_in : suc k < w) (b_in : suc b < w) (hp : pos 0 <ℤ at_place leaving (suc k)) (hq : pos 0 <ℤ at_place leaving (suc b)) where
  pub greater_step : (r : Ordering)
      → r ≡ int_cmp (at_place (get_or rows i []) (suc k) *ℤ at_place leaving (suc b)) (at_place (get_or rows i []) (suc b) *ℤ at_place leaving (suc k))
      → is_greater k (entry_of (fractions_of leaving) k) b (entry_of (fractions_of leaving) b) i (drop i (map fractions_of rows))
      ≡ decided r (is_greater k (entry_of (fractions_of leaving) k) b (entry_of (fractions_of leaving) b) (i + 1) (drop (i + 1) (map fractions_of rows)))
  greater_step r r_is =
      let row = get_or rows i [] in
      let p = entry_of (fractions_of leaving) k in
      let q = entry_of (fractions_of leaving) b in
      let rest = drop (i + 1) (map fractions_of rows) in
      let wide : length row ≡ w = widths i [] h in
      let many : i < length (map fractions_of rows) = let n = length-map rows fractions_of in omega (arith, h, n) in
      at_drop_more (is_greater k p b q i) (map fractions_of rows) i [] many
      ∙ ap (λ (x : List Fraction). is_greater k p b q i (x ∷ rest)) (get_or-map fractions_of rows i [] [] h)
      ∙ greater_in_row k b leaving row l (small i [] h) (count ∙ sym wide) (omega (arith, wide, k_in)) (omega (arith, wide, b_in)) hp hq i rest
      ∙ ap₂ (λ (o : Ordering) (n : ℕ). decided o (is_greater k p b q n rest)) (sym r_is) (sym (add-one i))
