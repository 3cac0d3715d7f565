-- A pivot on rows of small whole numbers, operation by operation: none leaves, and the rows are the updated ones.
use Rattle.std.proofs.Common.{◌≡◌, ◌∙◌, refl, sym, ap, subst, ℕ, suc, ◌-◌, ◌*◌, ◌≤◌, ◌<◌, ◌≢◌, ◌^◌, ℤ, pos, negsuc, ◌+ℤ◌, ◌-ℤ◌, ◌*ℤ◌, ◌<ℤ◌, neg_ℤ, unsigned_abs, arith, mul-pos, List, [], ◌∷◌, length, get_or, map, set, true, false, All, Ok}
use Rattle.std.specs.Prelude.{◌==◌, Bool, if◌then◌else◌}
use native.Mathlib.Nat.{dvd-mul_right}
use Prim.Native.Nat.{◌∣◌}
use Rattle.std.proofs.Math.Nat.{mul-le-mul}
use Rattle.std.proofs.lemmas.Int.{ints}
use Rattle.std.proofs.lemmas.List.{get_or-map}
use Rattle.std.proofs.lemmas.List.Elements.{All-head, All-tail}
use Rattle.std.proofs.lemmas.Nat.Gcd.{dvd_trans}
use Rattle.qm_math.specs.Fraction.{Fraction, IsSame, whole}
use Rattle.qm_math.specs.Arithmetic.{inverse_of, product_of, quotient_of}
use Rattle.qm_math.proofs.FractionLaws.{quotient_of-same, quotient_of_den, same_sym, same_trans}
use Rattle.qm_math.proofs.Polynomials.{◌⊗◌, minus, number}
use Rattle.qm_math.proofs.Ring.{x0, x1, x2, x3, x4, x5, x6, x7, ring, ring_from}
use Rattle.qm_frac.specs.Lowest.{IsInRange, lowest}
use Rattle.qm_frac.specs.Arithmetic.{SumFits, inverse, negated, product, quotient}
use Rattle.qm_frac.specs.Checked.{divided, multiplied, subtracted}
use Rattle.qm_frac.proofs.AnswerLaws.{divided_fits, multiplied_fits, subtracted_fits}
use Rattle.qm_frac.proofs.MultipliedOut.{inverse-inverse_of}
use Rattle.qm_frac.proofs.SameLowest.{lowest_den_dvd, lowest_den_pos, lowest_num_some, lowest_same}
use Rattle.qm_frac.proofs.SignLaws.{unsigned_abs-neg}
use Rattle.qm_frac.proofs.SumsOver.{sum_fits_over, sum_over}
use Rattle.qm_frac.proofs.Terms.{in_range_small}
use Rattle.qm_frac.proofs.Values.{lowest-value}
use Rattle.qm_tableau.specs.Tables.{Table, entry_of, row_at}
use Rattle.qm_tableau.specs.Leaving.{Placed, placed}
use Rattle.qm_tableau.specs.Pivoting.{less_multiple, new_entries, new_entry, new_row, new_rows, pivoted}
use Rattle.qm_tableau.specs.Wholes.{AreSmallRows, IsSmall, IsSmallRow, at_place, fractions_of, over, updated_numbers, updated_row}
use Rattle.qm_tableau.proofs.SmallNumbers.{difference_small, product_small}

-- a value that is a quotient
quotient_same : (n : ℤ) (m : ℕ) (a b : Fraction) → 0 < m → 0 < a.den → 0 < unsigned_abs b.num → IsSame (record { num = n; den = m }) (quotient_of a b) → lowest n m ≡ quotient a b
unfolding product_of
quotient_same n m a b hm ha hb same =
    let i = inverse b in
    let as_product : IsSame (record { num = n; den = m }) (product_of a i) = subst (λ (z : Fraction). IsSame (record { num = n; den = m }) (product_of a z)) (sym (inverse-inverse_of b)) same in
    lowest_same n (a.num *ℤ i.num) m (a.den * i.den) hm (mul-pos ha hb) as_product

-- f over d is the row's entry in the column, and p over e the leaving row's
module _ (f : ℤ) (p d e c : ℕ) (hd : 0 < d) (he : 0 < e) (some : 0 < p) (fs : IsSmall f) (ps : p ≤ 2 ^ 62) (ds : d ≤ 2 ^ 62) (es : e ≤ 2 ^ 62) where
  den_some : 0 < d * p
  den_some = mul-pos hd some

  den_small : d * p ≤ 2 ^ 124
  den_small = let h : d * p ≤ 2 ^ 62 * 2 ^ 62 = mul-le-mul ds ps in omega (arith, h)

  not_zero : pos p ≢ pos 0
  not_zero h = omega (arith, ints, h, some)

  abbrev factor : Fraction
  factor = lowest (f *ℤ pos e) (d * p)

  factor_raw : IsSame (record { num = f *ℤ pos e; den = d * p }) (quotient_of (record { num = f; den = d }) (record { num = pos p; den = e }))
  unfolding product_of inverse_of
  factor_raw =
      ring (f ∷ pos p ∷ pos d ∷ pos e ∷ []) (x0 ⊗ x3 ⊗ (x2 ⊗ x1)) (x0 ⊗ (number (pos 1) ⊗ x3) ⊗ (x2 ⊗ x1)) refl

  factor_same : IsSame (record { num = f *ℤ pos e; den = d * p }) (quotient_of (lowest f d) (lowest (pos p) e))
  factor_same =
      let a : Fraction = record { num = f; den = d } in
      let b : Fraction = record { num = pos p; den = e } in
      same_trans (record { num = f *ℤ pos e; den = d * p }) (quotient_of a b) (quotient_of (lowest f d) (lowest (pos p) e))
      (quotient_of_den a b hd not_zero) factor_raw
      (quotient_of-same a b (lowest f d) (lowest (pos p) e) (same_sym (lowest f d) a (lowest-value f d)) (same_sym (lowest (pos p) e) b (lowest-value (pos p) e)))

  -- the division by the pivot
  pub factor_is : divided (lowest f d) (lowest (pos p) e) ≡ Ok factor
  factor_is =
      let a = lowest f d in
      let b = lowest (pos p) e in
      let is : factor ≡ quotient a b =
      quotient_same (f *ℤ pos e) (d * p) a b den_some (lowest_den_pos f d hd) (lowest_num_some p e some) factor_same in
      let num = product_small f (pos e) fs es in
      let fits : IsInRange factor = in_range_small (f *ℤ pos e) (d * p) (omega (arith, num)) (omega (arith, den_small)) in
      sym (divided_fits a b factor (subst IsInRange is fits) is)

  -- the factor times an entry of the leaving row
  product_is : (b : ℤ) → IsSmall b → multiplied factor (lowest b e) ≡ Ok (lowest (f *ℤ b) (d * p))
  product_is b bs =
      let o = lowest b e in
      let x = lowest (f *ℤ b) (d * p) in
      let f_is = lowest-value (f *ℤ pos e) (d * p) in
      let o_is = lowest-value b e in
      let is : x ≡ product factor o =
      lowest_same (f *ℤ b) (factor.num *ℤ o.num) (d * p) (factor.den * o.den) den_some (mul-pos (lowest_den_pos (f *ℤ pos e) (d * p) den_some) (lowest_den_pos b e he))
      (ring_from (f ∷ b ∷ factor.num ∷ pos factor.den ∷ o.num ∷ pos o.den ∷ pos e ∷ pos (d * p) ∷ []) (x0 ⊗ x1 ⊗ (x3 ⊗ x5)) (x2 ⊗ x4 ⊗ x7)
      ((x4, x0 ⊗ x6 ⊗ x3, x2 ⊗ x7) ∷ (x0 ⊗ x3, x1 ⊗ x5, x4 ⊗ x6) ∷ []) (sym f_is, (sym o_is, tt)) refl) in
      let num = product_small f b fs bs in
      let fits : IsInRange x = in_range_small (f *ℤ b) (d * p) (omega (arith, num)) (omega (arith, den_small)) in
      sym (multiplied_fits factor o x (subst IsInRange is fits) is)

  -- an entry less that product
  difference_is : (a b : ℤ) → IsSmall a → IsSmall b
      → subtracted (lowest a d) (lowest (f *ℤ b) (d * p)) ≡ Ok (lowest ((a *ℤ pos p) -ℤ (f *ℤ b)) (d * p))
  difference_is a b sa sb =
      let t = lowest a d in
      let x = lowest (f *ℤ b) (d * p) in
      let y = negated x in
      let hx = lowest_den_pos (f *ℤ b) (d * p) den_some in
      let ht = lowest_den_pos a d hd in
      let tm : t.den ∣ d * p = dvd_trans t.den (lowest_den_dvd a d) (dvd-mul_right d p) in
      let xm : x.den ∣ d * p = lowest_den_dvd (f *ℤ b) (d * p) in
      let t_is : t.num *ℤ pos (d * p) ≡ (a *ℤ pos p) *ℤ pos t.den =
      ring_from (t.num ∷ pos d ∷ pos p ∷ a ∷ pos t.den ∷ []) (x0 ⊗ (x1 ⊗ x2)) (x3 ⊗ x2 ⊗ x4) ((x2, x0 ⊗ x1, x3 ⊗ x4) ∷ []) (lowest-value a d, tt) refl in
      let y_is : y.num *ℤ pos (d * p) ≡ neg_ℤ (f *ℤ b) *ℤ pos x.den =
      ring_from (x.num ∷ pos (d * p) ∷ f ∷ b ∷ pos x.den ∷ []) (minus x0 ⊗ x1) (minus (x2 ⊗ x3) ⊗ x4) ((number (negsuc 0), x0 ⊗ x1, x2 ⊗ x3 ⊗ x4) ∷ []) (lowest-value (f *ℤ b) (d * p), tt) refl in
      let left = product_small a (pos p) sa ps in
      let right = product_small f b fs sb in
      let turned = unsigned_abs-neg (f *ℤ b) in
      let both : unsigned_abs ((a *ℤ pos p) +ℤ neg_ℤ (f *ℤ b)) < 2 ^ 127 = difference_small (a *ℤ pos p) (f *ℤ b) left right in
      let fits : SumFits t y =
      sum_fits_over t y (d * p) (a *ℤ pos p) (neg_ℤ (f *ℤ b)) ht hx den_some tm xm t_is y_is (omega (arith, den_small)) (omega (arith, left)) (omega (arith, turned, right)) both in
      sym (subtracted_fits t x _ fits (sym (sum_over t y (d * p) (a *ℤ pos p) (neg_ℤ (f *ℤ b)) ht hx den_some tm xm t_is y_is)))

  less_is : (a b : ℤ) → IsSmall a → IsSmall b → less_multiple (lowest a d) factor (lowest b e) ≡ Ok (lowest ((a *ℤ pos p) -ℤ (f *ℤ b)) (d * p))
  less_is a b sa sb = rw (product_is b sb) (difference_is a b sa sb)

  entry_is : (i k : ℕ) (a b : ℤ) → IsSmall a → IsSmall b
      → new_entry i c factor k (lowest a d) (lowest b e) ≡ Ok (lowest (if k == c then f *ℤ pos e else (a *ℤ pos p) -ℤ (f *ℤ b)) (d * p))
  entry_is i k a b sa sb = by_test (k == c)
    where
      by_test : (t : Bool) → (if t then Ok factor else placed i k (less_multiple (lowest a d) factor (lowest b e)))
          ≡ Ok (lowest (if t then f *ℤ pos e else (a *ℤ pos p) -ℤ (f *ℤ b)) (d * p))
      by_test true = refl
      by_test false = rw (less_is a b sa sb) refl

  entries_are : (i k : ℕ) (xs ys : List ℤ) → length xs ≡ length ys → All IsSmall xs → All IsSmall ys
      → new_entries i c factor k (over d xs) (over e ys) ≡ Ok (over (d * p) (updated_numbers c (pos p) f (pos e) k xs ys))
  entries_are i k [] ys count sx sy = refl
  entries_are i k (a ∷ xs) [] count sx sy = absurd (omega (arith, count))
  entries_are i k (a ∷ xs) (b ∷ ys) count sx sy =
      let here = entry_is i k a b (All-head IsSmall a xs sx) (All-head IsSmall b ys sy) in
      let later = entries_are i (suc k) xs ys (omega (arith, count)) (All-tail IsSmall a xs sx) (All-tail IsSmall b ys sy) in
      rw (here, later) refl

  numbers_are : (i : ℕ) (xs ys : List ℤ) → length xs ≡ length ys → All IsSmall xs → All IsSmall ys → c < length xs → get_or xs c (pos 0) ≡ f → get_or ys c (pos 0) ≡ pos p
      → new_row c (over e ys) i (over d xs) ≡ Ok (over (d * p) (updated_numbers c (pos p) f (pos e) 0 xs ys))
  numbers_are i xs ys count sx sy inside x_is y_is =
      let x_at : entry_of (over d xs) c ≡ lowest f d = get_or-map (λ (x : ℤ). lowest x d) xs c (pos 0) (whole (pos 0)) inside ∙ ap (λ (x : ℤ). lowest x d) x_is in
      let y_at : entry_of (over e ys) c ≡ lowest (pos p) e = get_or-map (λ (x : ℤ). lowest x e) ys c (pos 0) (whole (pos 0)) (omega (arith, inside, count)) ∙ ap (λ (x : ℤ). lowest x e) y_is in
      rw (x_at, y_at, factor_is) (entries_are i 0 xs ys count sx sy)

-- ---- whole rows

module _ (c : ℕ) where
  row_by_pivot : (q : ℤ) (i e d : ℕ) (ys xs : List ℤ) → get_or ys c (pos 0) ≡ q → pos 0 <ℤ q → IsSmallRow (pos e ∷ ys) → IsSmallRow (pos d ∷ xs)
      → length xs ≡ length ys → c < length xs
      → new_row c (over e ys) i (over d xs) ≡ Ok (fractions_of (updated_row c (pos e ∷ ys) (pos d ∷ xs)))
  row_by_pivot (negsuc n) i e d ys xs is some l r count inside = absurd (omega (arith, ints, some))
  row_by_pivot (pos p) i e d ys xs is some l r count inside =
      let f = get_or xs c (pos 0) in
      let sx = All-tail IsSmall (pos d) xs r.small in
      let sy = All-tail IsSmall (pos e) ys l.small in
      let ps : unsigned_abs (get_or ys c (pos 0)) ≤ 2 ^ 62 = sy c (pos 0) (omega (arith, count, inside)) in
      let done = numbers_are f p d e c (let h : 0 < d = omega (arith, ints, r.positive) in h) (let h : 0 < e = omega (arith, ints, l.positive) in h) (let h : 0 < p = omega (arith, ints, some) in h)
      (sx c (pos 0) inside) (rw is at ps) (All-head IsSmall (pos d) xs r.small) (All-head IsSmall (pos e) ys l.small)
      i xs ys count sx sy inside refl is in
      done ∙ ap (λ (z : ℤ). (let r : Placed (List Fraction) = Ok (over (unsigned_abs (pos d *ℤ z)) (updated_numbers c z f (pos e) 0 xs ys)) in r)) (sym is)

  pub row_is : (i : ℕ) (leaving row : List ℤ) → IsSmallRow leaving → IsSmallRow row → length row ≡ length leaving → suc c < length row → pos 0 <ℤ at_place leaving (suc c)
      → new_row c (fractions_of leaving) i (fractions_of row) ≡ Ok (fractions_of (updated_row c leaving row))
  row_is i leaving [] l r count inside some = absurd (omega (arith, inside))
  row_is i [] (d ∷ xs) l r count inside some = absurd (omega (arith, count))
  row_is i (e ∷ ys) (negsuc d ∷ xs) l r count inside some = absurd (let h = r.positive in omega (arith, ints, h))
  row_is i (negsuc e ∷ ys) (pos d ∷ xs) l r count inside some = absurd (let h = l.positive in omega (arith, ints, h))
  row_is i (pos e ∷ ys) (pos d ∷ xs) l r count inside some =
      row_by_pivot (get_or ys c (pos 0)) i e d ys xs refl some l r (omega (arith, count)) (omega (arith, inside))

  pub rows_are : (i w : ℕ) (leaving : List ℤ) (rows : List (List ℤ)) → IsSmallRow leaving → length leaving ≡ w → suc c < w → pos 0 <ℤ at_place leaving (suc c)
      → All IsSmallRow rows → All (λ row. length row ≡ w) rows
      → new_rows c (fractions_of leaving) i (map fractions_of rows) ≡ Ok (map (λ row. fractions_of (updated_row c leaving row)) rows)
  rows_are i w leaving [] l count inside some small widths = refl
  rows_are i w leaving (row ∷ rows) l count inside some small widths =
      let wide : length row ≡ w = All-head (λ (r : List ℤ). length r ≡ w) row rows widths in
      let here = row_is i leaving row l (All-head IsSmallRow row rows small) (wide ∙ sym count) (omega (arith, inside, wide)) some in
      let later = rows_are (suc i) w leaving rows l count inside some (All-tail IsSmallRow row rows small) (All-tail (λ (r : List ℤ). length r ≡ w) row rows widths) in
      rw (here, later) refl

-- the table after a pivot in a positive entry
pub pivot_is : (t : Table) (rows : List (List ℤ)) (r c : ℕ) → AreSmallRows t rows → r < length rows → c ≤ length t.columns → pos 0 <ℤ at_place (get_or rows r []) (suc c)
    → pivoted t r c ≡ Ok (record { columns = set t.columns (c - 1) r; rows = map (λ row. fractions_of (updated_row c (get_or rows r []) row)) rows })
pivot_is t rows r c s inside column some =
    let leaving = get_or rows r [] in
    let w = suc (suc (length t.columns)) in
    let at : row_at t.rows r ≡ fractions_of leaving = ap (λ (xs : List (List Fraction)). row_at xs r) s.fractions ∙ get_or-map fractions_of rows r [] [] inside in
    let all = rows_are c 0 w leaving rows (s.small r [] inside) (s.width r [] inside) (omega (arith, column)) some s.small s.width in
    rw (at, s.fractions, all) refl
