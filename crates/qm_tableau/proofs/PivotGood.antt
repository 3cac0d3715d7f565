-- A pivot that the rule names keeps a tableau good.
use Rattle.std.proofs.Common.{◌≡◌, ◌∙◌, refl, sym, ap, ap₂, subst, ℕ, zero, suc, ◌-◌, ◌<◌, ◌≢◌, ⊎_elim, List, [], ◌∷◌, length, get_or, set, set-set, map, arith, All, Ok, pos, unsigned_abs}
use Rattle.std.specs.List.{AllZip}
use Rattle.std.proofs.lemmas.Bool.{cases_eq}
use Rattle.std.proofs.lemmas.List.{get_or-map, get_or-set_other, get_or-set_same, length-map, length-set}
use Rattle.std.proofs.lemmas.List.Elements.{All-cons, All-from_get_or, All-get_or, All-head, All-nil, All-set, All-tail, length_all_zip}
use Rattle.qm_math.specs.Fraction.{Fraction, HasPositiveDen, IsBelow, IsSame, whole}
use Rattle.qm_math.specs.Arithmetic.{difference_of, product_of, quotient_of, sum_of}
use Rattle.qm_math.specs.Totals.{sum_of_products}
use Rattle.qm_math.specs.Lexicographic.{IsLexBelow, IsLexNegative}
use Rattle.qm_math.proofs.Polynomials.{number, ◌⊕◌, ◌⊗◌, minus}
use Rattle.qm_math.proofs.Ring.{x0, x1, x2, x3, x4, x5}
use Rattle.qm_math.proofs.FractionLinear.{same_given}
use Rattle.qm_math.proofs.FractionLaws.{difference_of_den, product_of-inverse_of, product_of-quotient_of, product_of_den, quotient_of_den, same_refl, same_sym, same_trans, sum_of_den}
use Rattle.qm_math.proofs.Quotients.{above_num}
use Rattle.qm_math.proofs.Rows.{sum_of_products-set_value, sum_of_products_den}
use Rattle.qm_math.proofs.SameLists.{all_same_refl}
use Rattle.qm_math.proofs.Magnitudes.{unsigned_abs-nonzero}
use Rattle.qm_math.proofs.FractionOrder.{above_of_num, num_of_above, below_of_num}
use Rattle.qm_frac.specs.Checked.{divided, multiplied, subtracted}
use Rattle.qm_frac.proofs.CheckedLaws.{IsFrac-divided, IsFrac-multiplied, IsFrac-subtracted, and_then-ok}
use Rattle.qm_model.specs.declared.range.Range.{Range}
use Rattle.qm_model.specs.declared.row.Row.{Row}
use Rattle.qm_model.specs.declared.game.Problem.{Problem}
use Rattle.qm_tableau.specs.declared.choice.Choice.TheVariants as choice
use Rattle.qm_tableau.specs.Tables.{Table, entry_of, row_at}
use Rattle.qm_tableau.specs.Quantities.{quantities}
use Rattle.qm_tableau.specs.Leaving.{Placed, placed}
use Rattle.qm_tableau.specs.Pivoting.{new_entries, new_entry, new_row, new_rows, pivoted}
use Rattle.qm_tableau.specs.Rule.{chosen}
use Rattle.qm_tableau.specs.Columns.{affine_value, column_at}
use Rattle.qm_tableau.specs.Exact.{exact_row}
use Rattle.qm_tableau.specs.Good.{ComeTo, IsGood, IsPoint, IsUnitRow, column_values, values_at}
use Rattle.qm_tableau.proofs.Constants.{affine_den, column_values_den, values_den, zip_at}
use Rattle.qm_tableau.proofs.Exactness.{entry_den, next-ok, other_entry, own_entry, pivot_exact, placed-ok, same_value}
use Rattle.qm_tableau.proofs.Greatest.{IsChosen, chosen_is}
use Rattle.qm_tableau.proofs.Keeping.{pivot_keeps}
use Rattle.qm_tableau.proofs.Lowering.{pivot_lowers}
use Rattle.qm_tableau.proofs.Moving.{affine_same}
use Rattle.qm_tableau.proofs.PivotColumns.{all_taken, column_negative, exact_long, exact_other, exact_own, no_quotient, nothing_taken, same_entry}

-- ---- positive denominators
module _ (c : ℕ) (l : List Fraction) (some : 0 < unsigned_abs (entry_of l c).num) (ld : All HasPositiveDen l) where
  entry_positive : (i : ℕ) (f : Fraction) (k : ℕ) (t o x : Fraction) → 0 < f.den → 0 < t.den → 0 < o.den → new_entry i c f k t o ≡ Ok x → 0 < x.den
  entry_positive i f k t o x fd td od h =
      ⊎_elim (λ e. subst HasPositiveDen (own_entry i c f k t o x e h) fd)
      (λ other. (let less = other_entry i c f k t o x other h in
      let parts = and_then-ok (multiplied f o) (λ m. subtracted t m) x less in
      (IsFrac-subtracted t parts.0 x td (IsFrac-multiplied f o parts.0 fd od parts.1).positive parts.2).positive)) (cases_eq k c)

  entries_positive : (i : ℕ) (f : Fraction) (k : ℕ) (ts os xs : List Fraction) → 0 < f.den → All HasPositiveDen ts → All HasPositiveDen os
      → new_entries i c f k ts os ≡ Ok xs → All HasPositiveDen xs
  entries_positive i f k [] os xs fd td od h = subst (λ (ys : List Fraction). All HasPositiveDen ys) (same_value [] xs h) (All-nil HasPositiveDen)
  entries_positive i f k (t ∷ ts) [] xs fd td od h = subst (λ (ys : List Fraction). All HasPositiveDen ys) (same_value [] xs h) (All-nil HasPositiveDen)
  entries_positive i f k (t ∷ ts) (o ∷ os) xs fd td od h =
      let first = next-ok (new_entry i c f k t o) _ xs h in
      let rest = next-ok (new_entries i c f (suc k) ts os) (λ ys. Ok (first.0 ∷ ys)) xs first.2 in
      subst (λ (ys : List Fraction). All HasPositiveDen ys) (same_value (first.0 ∷ rest.0) xs rest.2)
      (All-cons HasPositiveDen first.0 rest.0 (entry_positive i f k t o first.0 fd (All-head HasPositiveDen t ts td) (All-head HasPositiveDen o os od) first.1)
      (entries_positive i f (suc k) ts os rest.0 fd (All-tail HasPositiveDen t ts td) (All-tail HasPositiveDen o os od) rest.1))

  rows_positive : (i : ℕ) (rows us : List (List Fraction)) → All (λ row. All HasPositiveDen row) rows → new_rows c l i rows ≡ Ok us → All (λ row. All HasPositiveDen row) us
  rows_positive i [] us d h = subst (λ (vs : List (List Fraction)). All (λ row. All HasPositiveDen row) vs) (same_value [] us h) (All-nil (λ (row : List Fraction). All HasPositiveDen row))
  rows_positive i (row ∷ rows) us d h =
      let rd = All-head (λ (r : List Fraction). All HasPositiveDen r) row rows d in
      let first = next-ok (new_row c l i row) _ us h in
      let rest = next-ok (new_rows c l (suc i) rows) (λ ys. Ok (first.0 ∷ ys)) us first.2 in
      let steps = next-ok (placed i c (divided (entry_of row c) (entry_of l c))) (λ factor. new_entries i c factor 0 row l) first.0 first.1 in
      let f_is : divided (entry_of row c) (entry_of l c) ≡ Ok steps.0 = placed-ok i c (divided (entry_of row c) (entry_of l c)) steps.0 steps.1 in
      let fd = (IsFrac-divided (entry_of row c) (entry_of l c) steps.0 (entry_den row c rd) some f_is).positive in
      subst (λ (vs : List (List Fraction)). All (λ row. All HasPositiveDen row) vs) (same_value (first.0 ∷ rest.0) us rest.2)
      (All-cons (λ (r : List Fraction). All HasPositiveDen r) first.0 rest.0 (entries_positive i steps.0 0 row l first.0 fd rd ld steps.2)
      (rows_positive (suc i) rows rest.0 (All-tail (λ (r : List Fraction). All HasPositiveDen r) row rows d) rest.1))

pub pivoted_positive : (t u : Table) (r c : ℕ) → r < length t.rows → 0 < unsigned_abs (entry_of (row_at t.rows r) c).num → All (λ row. All HasPositiveDen row) t.rows → pivoted t r c ≡ Ok u
    → All (λ row. All HasPositiveDen row) u.rows
pivoted_positive t u r c inside some d h =
    let l = row_at t.rows r in
    let steps = next-ok (new_rows c l 0 t.rows) (λ rows. Ok (record { columns = set t.columns (c - 1) r; rows = rows })) u h in
    let all = rows_positive c l some (d r [] inside) 0 t.rows steps.0 d steps.1 in
    let same : steps.0 ≡ u.rows = ap (λ (v : Table). v.rows) (same_table (record { columns = set t.columns (c - 1) r; rows = steps.0 }) u steps.2) in
    subst (λ (vs : List (List Fraction)). All (λ row. All HasPositiveDen row) vs) same all
  where
    same_table : (x y : Table) → (let z : Placed Table = Ok x in z) ≡ Ok y → x ≡ y
    same_table x y e = same_value x y e

-- ---- lists with a value put in one place
set_same : (xs : List Fraction) (i : ℕ) (a b : Fraction) → IsSame a b → AllZip IsSame (set xs i a) (set xs i b)
set_same [] i a b e = tt
set_same (x ∷ xs) zero a b e = (e, all_same_refl xs)
set_same (x ∷ xs) (suc i) a b e = (same_refl x, set_same xs i a b e)

set_back : (xs : List Fraction) (i : ℕ) (a d : Fraction) → i < length xs → IsSame (get_or xs i d) a → AllZip IsSame xs (set xs i a)
set_back [] i a d h e = tt
set_back (x ∷ xs) zero a d h e = (e, all_same_refl xs)
set_back (x ∷ xs) (suc i) a d h e = (same_refl x, set_back xs i a d (omega (arith, h)) e)

mapped_set : (vs : List Fraction) (cols : List ℕ) (i r : ℕ) → column_values (set cols i r) vs ≡ set (column_values cols vs) i (entry_of vs r)
mapped_set vs [] i r = refl
mapped_set vs (c ∷ cols) zero r = refl
mapped_set vs (c ∷ cols) (suc i) r = ap (λ (ys : List Fraction). entry_of vs c ∷ ys) (mapped_set vs cols i r)

-- rows that are kept come to the same values
through : (us ts : List (List Fraction)) (vs inputs moved before : List Fraction) → AllZip IsSame inputs moved
    → AllZip (λ now row. IsSame (affine_value now moved) (affine_value row before)) us ts → ComeTo ts before vs
    → All (λ row. All HasPositiveDen row) us → All (λ row. All HasPositiveDen row) ts → All HasPositiveDen moved → All HasPositiveDen before → ComeTo us inputs vs
through [] [] [] inputs moved before same kept come ud td md bd = tt
through [] [] (v ∷ vs) inputs moved before same kept come ud td md bd = absurd come
through [] (t ∷ ts) vs inputs moved before same kept come ud td md bd = absurd kept
through (u ∷ us) [] vs inputs moved before same kept come ud td md bd = absurd kept
through (u ∷ us) (t ∷ ts) [] inputs moved before same kept come ud td md bd = absurd come
through (u ∷ us) (t ∷ ts) (v ∷ vs) inputs moved before same kept come ud td md bd =
    let u0 = All-head (λ (r : List Fraction). All HasPositiveDen r) u us ud in
    let t0 = All-head (λ (r : List Fraction). All HasPositiveDen r) t ts td in
    let here : IsSame (affine_value u inputs) v =
    same_trans (affine_value u inputs) (affine_value u moved) v (affine_den u moved u0 md) (affine_same u inputs moved same)
    (same_trans (affine_value u moved) (affine_value t before) v (affine_den t before t0 bd) kept.0 come.0) in
    (here, through us ts vs inputs moved before same kept.1 come.1 (All-tail (λ (r : List Fraction). All HasPositiveDen r) u us ud) (All-tail (λ (r : List Fraction). All HasPositiveDen r) t ts td) md bd)

-- ---- the value of a column's quantity at which the leaving row comes to a given value
solved : (o s t p y z : Fraction) → 0 < o.den → 0 < s.den → 0 < t.den → 0 < p.den → 0 < y.den → 0 < z.den
    → IsSame (sum_of s (product_of p y)) (sum_of t (product_of p z)) → IsSame (product_of p z) (difference_of (sum_of y (product_of p y)) (sum_of o t)) → IsSame (sum_of o s) y
solved o s t p y z od sd td pd yd zd e k =
    same_given (o ∷ s ∷ t ∷ p ∷ y ∷ z ∷ []) (x0 ⊕ x1) x4
    ((number (pos 1), x1 ⊕ x3 ⊗ x4, x2 ⊕ x3 ⊗ x5) ∷ (number (pos 1), x3 ⊗ x5, x4 ⊕ x3 ⊗ x4 ⊕ minus (x0 ⊕ x2)) ∷ [])
    (od, (sd, (td, (pd, (yd, (zd, tt)))))) (e, (k, tt)) refl

solution : (l ys : List Fraction) (c : ℕ) → suc c < length l → c < length ys → All HasPositiveDen l → All HasPositiveDen ys → (entry_of l (suc c)).num ≢ pos 0
    → (z : Fraction) × (0 < z.den) × IsSame (affine_value l (set ys c z)) (get_or ys c (whole (pos 0)))
solution [] ys c inside within ld yd nz = absurd (omega (arith, inside))
solution (o ∷ os) ys c inside within ld yd nz =
    let n = whole (pos 0) in
    let p = get_or os c n in
    let y = get_or ys c n in
    let t = sum_of_products os ys in
    let od = All-head HasPositiveDen o os ld in
    let osd = All-tail HasPositiveDen o os ld in
    let pd = All-get_or HasPositiveDen os c n (omega (arith, inside)) osd in
    let yd0 = All-get_or HasPositiveDen ys c n within yd in
    let td = sum_of_products_den os ys osd yd in
    let w = difference_of (sum_of y (product_of p y)) (sum_of o t) in
    let wd = difference_of_den (sum_of y (product_of p y)) (sum_of o t) (sum_of_den y (product_of p y) yd0 (product_of_den p y pd yd0)) (sum_of_den o t od td) in
    let z = quotient_of w p in
    let zd = quotient_of_den w p wd nz in
    let sd = sum_of_products_den os (set ys c z) osd (All-set HasPositiveDen ys c z zd yd) in (
      z,
      zd,
      solved o (sum_of_products os (set ys c z)) t p y z od sd td pd yd0 zd
          (sum_of_products-set_value os ys c z n n (omega (arith, inside)) within) (product_of-quotient_of w p wd pd nz),
    )

-- ---- unit rows
module _ (c : ℕ) (l : List Fraction) (inside : c < length l) (ld : All HasPositiveDen l) (nz : (entry_of l c).num ≢ pos 0) where
  own_unit : (u : List Fraction) → AllZip IsSame u (exact_row c l l) → IsUnitRow c u
  own_unit u e =
      let p = entry_of l c in
      let pd = entry_den l c ld in
      let g = quotient_of p p in
      let gd = quotient_of_den p p pd nz in
      let g_one : IsSame g (whole (pos 1)) = product_of-inverse_of p in
      record {
        one = same_trans (entry_of u c) g (whole (pos 1)) gd (subst (λ (y : Fraction). IsSame (entry_of u c) y) (exact_own c l l refl inside) (same_entry u (exact_row c l l) c e)) g_one;
        zeros = λ j within other.
            (let long = length_all_zip IsSame u (exact_row c l l) e in
            let long_row = exact_long c l l refl in
            let a = entry_of l j in
            let ad = entry_den l j ld in
            same_trans (entry_of u j) (difference_of a (product_of g a)) (whole (pos 0)) (difference_of_den a (product_of g a) ad (product_of_den g a gd ad))
            (subst (λ (y : Fraction). IsSame (entry_of u j) y) (exact_other c l l refl j (omega (arith, within, long, long_row)) other) (same_entry u (exact_row c l l) j e))
            (all_taken g a gd ad g_one));
      }

  -- a row with 0 in the entering column is kept
  kept_entry : (row u : List Fraction) → length row ≡ length l → All HasPositiveDen row → IsSame (entry_of row c) (whole (pos 0)) → AllZip IsSame u (exact_row c l row)
      → (j : ℕ) → j < length u → j ≢ c → IsSame (entry_of u j) (entry_of row j)
  kept_entry row u count rd none e j within other =
      let long = length_all_zip IsSame u (exact_row c l row) e in
      let long_row = exact_long c l row count in
      let p = entry_of l c in
      let g = quotient_of (entry_of row c) p in
      let gd = quotient_of_den (entry_of row c) p (entry_den row c rd) nz in
      let a = entry_of row j in
      let b = entry_of l j in
      let ad = entry_den row j rd in
      let bd = entry_den l j ld in
      same_trans (entry_of u j) (difference_of a (product_of g b)) a (difference_of_den a (product_of g b) ad (product_of_den g b gd bd))
      (subst (λ (y : Fraction). IsSame (entry_of u j) y) (exact_other c l row count j (omega (arith, within, long, long_row)) other) (same_entry u (exact_row c l row) j e))
      (nothing_taken a g b ad gd bd (no_quotient (entry_of row c) p (entry_den l c ld) nz none))

  other_unit : (k : ℕ) (row u : List Fraction) → k < length l → k ≢ c → length row ≡ length l → All HasPositiveDen row → IsUnitRow k row → AllZip IsSame u (exact_row c l row) → IsUnitRow k u
  other_unit k row u below apart count rd unit e =
      let long = length_all_zip IsSame u (exact_row c l row) e in
      let long_row = exact_long c l row count in
      let none : IsSame (entry_of row c) (whole (pos 0)) = unit.zeros c (omega (arith, inside, count)) (λ q. apart (sym q)) in
      let kept = kept_entry row u count rd none e in
      let p = entry_of l c in
      let g = quotient_of (entry_of row c) p in
      record {
        one = same_trans (entry_of u k) (entry_of row k) (whole (pos 1)) (entry_den row k rd) (kept k (omega (arith, below, count, long, long_row)) apart) unit.one;
        zeros = λ j within other. ⊎_elim
            (λ (same : j ≡ c). subst (λ (n : ℕ). IsSame (entry_of u n) (whole (pos 0))) (sym same)
            (same_trans (entry_of u c) g (whole (pos 0)) (quotient_of_den (entry_of row c) p (entry_den row c rd) nz)
            (subst (λ (y : Fraction). IsSame (entry_of u c) y) (exact_own c l row count (omega (arith, inside, count))) (same_entry u (exact_row c l row) c e))
            (no_quotient (entry_of row c) p (entry_den l c ld) nz none)))
            (λ (away : j ≡ c → ⊥). same_trans (entry_of u j) (entry_of row j) (whole (pos 0)) (entry_den row j rd) (kept j within away)
            (unit.zeros j (omega (arith, within, long, long_row)) other)) (cases_eq j c);
      }

-- ---- the tableau after the pivot
module _ (P : Problem) (cuts : List Row) (bx : List Range) (t u : Table) (r c : ℕ) (gt : IsGood P cuts bx t) (ch : IsChosen t r (suc c)) (h : pivoted t r (suc c) ≡ Ok u) where
  abbrev l : List Fraction
  l = row_at t.rows r

  ld : All HasPositiveDen l
  ld = gt.positive r [] ch.row

  long : length l ≡ suc (length t.columns)
  long = gt.width r [] ch.row

  within : c < length t.columns
  within = let i = ch.inside in omega (arith, i, long)

  above : IsBelow (whole (pos 0)) (entry_of l (suc c))
  above = above_of_num (entry_of l (suc c)) ch.entry

  nz : (entry_of l (suc c)).num ≢ pos 0
  nz = above_num (entry_of l (suc c)) above

  some : 0 < unsigned_abs (entry_of l (suc c)).num
  some = unsigned_abs-nonzero (entry_of l (suc c)).num nz

  place : suc c - 1 ≡ c
  place = omega arith

  columns : u.columns ≡ set t.columns c r
  columns = (pivot_exact t u r (suc c) ch.row some gt.width gt.positive h).columns ∙ ap (λ (n : ℕ). set t.columns n r) place

  columns_long : length u.columns ≡ length t.columns
  columns_long = ap (λ (cs : List ℕ). length cs) columns ∙ length-set t.columns c r

  rows : AllZip (AllZip IsSame) u.rows (map (exact_row (suc c) l) t.rows)
  rows = (pivot_exact t u r (suc c) ch.row some gt.width gt.positive h).rows

  high : length u.rows ≡ length t.rows
  high = length_all_zip (AllZip IsSame) u.rows (map (exact_row (suc c) l) t.rows) rows ∙ length-map t.rows (exact_row (suc c) l)

  same_count : All (λ row. length row ≡ length l) t.rows
  same_count = λ k e g. gt.width k e g ∙ sym long

  ud : All (λ row. All HasPositiveDen row) u.rows
  ud = pivoted_positive t u r (suc c) ch.row some gt.positive h

  row_after : (i : ℕ) → i < length t.rows → AllZip IsSame (row_at u.rows i) (exact_row (suc c) l (row_at t.rows i))
  row_after i inside =
      subst (λ (x : List Fraction). AllZip IsSame (row_at u.rows i) x) (get_or-map (exact_row (suc c) l) t.rows i [] [] inside)
      (zip_at (AllZip IsSame) u.rows (map (exact_row (suc c) l) t.rows) i [] [] rows (omega (arith, inside, high)))

  width_after : (i : ℕ) → i < length u.rows → length (row_at u.rows i) ≡ suc (length u.columns)
  width_after i inside =
      let below : i < length t.rows = omega (arith, inside, high) in
      let count = same_count i [] below in
      let first = length_all_zip IsSame (row_at u.rows i) (exact_row (suc c) l (row_at t.rows i)) (row_after i below) in
      let second = exact_long (suc c) l (row_at t.rows i) count in
      omega (arith, first, second, count, long, columns_long)

  kept : (before : List Fraction) → length before ≡ length t.columns → All HasPositiveDen before
      → AllZip (λ now row. IsSame (affine_value now (set before c (affine_value l before))) (affine_value row before)) u.rows t.rows
  kept before count bd =
      subst (λ (n : ℕ). AllZip (λ now row. IsSame (affine_value now (set before n (affine_value l before))) (affine_value row before)) u.rows t.rows) place
      (pivot_keeps t u r (suc c) before ch.row (omega arith) (omega (arith, within)) some gt.width gt.positive count bd h)

  functions : (xs : List Fraction) → IsPoint bx xs → ComeTo u.rows (column_values u.columns (values_at P cuts bx xs)) (values_at P cuts bx xs)
  functions xs is =
      let vs = values_at P cuts bx xs in
      let vd = values_den xs (quantities P cuts bx) is.positive in
      let before = column_values t.columns vs in
      let bd = column_values_den t.columns vs vd in
      let come = gt.functions xs is in
      let y = affine_value l before in
      let moved = set before c y in
      let md = All-set HasPositiveDen before c y (affine_den l before ld bd) bd in
      let comes : IsSame y (entry_of vs r) = zip_at (λ (row : List Fraction) (value : Fraction). IsSame (affine_value row before) value) t.rows vs r [] (whole (pos 0)) come ch.row in
      let inputs : column_values u.columns vs ≡ set before c (entry_of vs r) = ap (λ (cs : List ℕ). column_values cs vs) columns ∙ mapped_set vs t.columns c r in
      let same : AllZip IsSame (column_values u.columns vs) moved =
      subst (λ (ys : List Fraction). AllZip IsSame ys moved) (sym inputs) (set_same before c (entry_of vs r) y (same_sym y (entry_of vs r) comes)) in
      through u.rows t.rows vs (column_values u.columns vs) moved before same (kept before (length-map t.columns (entry_of vs)) bd) come ud gt.positive md bd

  taken : (ys : List Fraction) → length ys ≡ length u.columns → All HasPositiveDen ys → (xs : List Fraction) × IsPoint bx xs × ComeTo u.rows ys (values_at P cuts bx xs)
  taken ys count yd =
      let inside : c < length ys = omega (arith, within, count, columns_long) in
      let s = solution l ys c ch.inside inside ld yd nz in
      let z = s.0 in
      let before = set ys c z in
      let bd = All-set HasPositiveDen ys c z s.1 yd in
      let before_long : length before ≡ length t.columns = length-set ys c z ∙ count ∙ columns_long in
      let a = affine_value l before in
      let md = All-set HasPositiveDen before c a (affine_den l before ld bd) bd in
      let same : AllZip IsSame ys (set before c a) =
      subst (λ (w : List Fraction). AllZip IsSame ys w) (sym (set-set ys c z a)) (set_back ys c a (whole (pos 0)) inside (same_sym a (get_or ys c (whole (pos 0))) s.2)) in
      let at = gt.taken before before_long bd in
      (at.0, at.1, through u.rows t.rows (values_at P cuts bx at.0) ys (set before c a) before same (kept before before_long bd) at.2 ud gt.positive md bd)

  units : (k : ℕ) → k < length u.columns → IsUnitRow (suc k) (row_at u.rows (get_or u.columns k 0))
  units k below = ⊎_elim
      (λ (same : k ≡ c).
      (let is : get_or u.columns k 0 ≡ r = ap₂ (λ (cs : List ℕ) (n : ℕ). get_or cs n 0) columns same ∙ get_or-set_same t.columns c r 0 within in
      subst (λ (n : ℕ). IsUnitRow (suc n) (row_at u.rows (get_or u.columns k 0))) (sym same)
      (subst (λ (i : ℕ). IsUnitRow (suc c) (row_at u.rows i)) (sym is) (own_unit (suc c) l ch.inside ld nz (row_at u.rows r) (row_after r ch.row)))))
      (λ (other : k ≡ c → ⊥).
      (let is : get_or u.columns k 0 ≡ get_or t.columns k 0 = ap (λ (cs : List ℕ). get_or cs k 0) columns ∙ get_or-set_other t.columns c k r 0 other in
      let i = get_or t.columns k 0 in
      let inside : k < length t.columns = omega (arith, below, columns_long) in
      let named : i < length t.rows = gt.named k 0 inside in
      subst (λ (j : ℕ). IsUnitRow (suc k) (row_at u.rows j)) (sym is)
      (other_unit (suc c) l ch.inside ld nz (suc k) (row_at t.rows i) (row_at u.rows i) (omega (arith, inside, long)) (λ e. other (omega (arith, e)))
      (same_count i [] named) (gt.positive i [] named) (gt.units k inside) (row_after i named)))) (cases_eq k c)

  negative : (k : ℕ) → k < length u.columns → IsLexNegative (column_at u.rows (suc k))
  negative k below =
      let inside : k < length t.columns = omega (arith, below, columns_long) in
      column_negative (suc c) l ch.inside ld above t.rows u.rows same_count gt.positive ud rows (gt.negative c within) (suc k) (get_or t.columns k 0) (omega (arith, inside, long))
      (gt.negative k inside) (gt.named k 0 inside) (λ other. gt.units k inside)
      (λ more. ch.greatest (suc k) (omega arith) (omega (arith, inside, long)) (num_of_above (entry_of l (suc k)) more))

  good_after : IsGood P cuts bx u
  good_after = record {
    count = columns_long ∙ gt.count;
    height = high ∙ gt.height;
    width = All-from_get_or (λ (row : List Fraction). length row ≡ suc (length u.columns)) u.rows [] width_after;
    positive = ud;
    named = subst (λ (cs : List ℕ). All (λ row. row < length u.rows) cs) (sym columns)
        (All-set (λ (row : ℕ). row < length u.rows) t.columns c r (let e = ch.row in omega (arith, e, high)) (λ k d g. (let e = gt.named k d g in omega (arith, e, high))));
    functions = functions;
    taken = taken;
    units = units;
    negative = negative;
  }

  lower_after : IsLexBelow (column_at u.rows 0) (column_at t.rows 0)
  lower_after =
      pivot_lowers t u r (suc c) ch.row (omega arith) gt.width gt.positive (below_of_num (entry_of l 0) ch.constant) above (gt.negative c within) h

pub pivot_good : (P : Problem) (cuts : List Row) (bx : List Range) (t u : Table) (r c : ℕ) → IsGood P cuts bx t → chosen t ≡ Ok (choice.Pivot r c) → pivoted t r c ≡ Ok u → IsGood P cuts bx u
pivot_good P cuts bx t u r zero gt is h = absurd (let f = (chosen_is t r zero gt.positive is).from in omega (arith, f))
pivot_good P cuts bx t u r (suc c) gt is h = good_after P cuts bx t u r c gt (chosen_is t r (suc c) gt.positive is) h

pub pivot_falls : (P : Problem) (cuts : List Row) (bx : List Range) (t u : Table) (r c : ℕ) → IsGood P cuts bx t → chosen t ≡ Ok (choice.Pivot r c) → pivoted t r c ≡ Ok u
    → IsLexBelow (column_at u.rows 0) (column_at t.rows 0)
pivot_falls P cuts bx t u r zero gt is h = absurd (let f = (chosen_is t r zero gt.positive is).from in omega (arith, f))
pivot_falls P cuts bx t u r (suc c) gt is h = lower_after P cuts bx t u r c gt (chosen_is t r (suc c) gt.positive is) h
