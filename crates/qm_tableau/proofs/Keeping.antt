-- A pivot keeps every row the same function of the quantities that the columns belong to.
use Rattle.std.proofs.Common.{◌≡◌, ◌∙◌, refl, sym, ap, ℕ, zero, suc, ◌-◌, ◌<◌, ◌≤◌, List, [], ◌∷◌, length, set, arith, All, Ok, pos, unsigned_abs, subst}
use Rattle.std.specs.List.{AllZip}
use Rattle.std.proofs.lemmas.List.Elements.{All-head, All-set, All-tail}
use Rattle.qm_math.specs.Fraction.{Fraction, HasPositiveDen, IsSame, whole}
use Rattle.qm_math.specs.Arithmetic.{product_of, quotient_of}
use Rattle.qm_math.specs.Pivots.{pivoted_constant, pivoted_row, row_value}
use Rattle.qm_math.specs.Totals.{reduced_row, sum_of_products}
use Rattle.qm_math.proofs.FractionLaws.{difference_of_den, product_of-quotient_of, product_of_comm, product_of_den, quotient_of_den, same_refl, same_trans, sum_of-same, sum_of_den}
use Rattle.qm_math.proofs.Pivots.{row_value-pivoted_row}
use Rattle.qm_math.proofs.Rows.{reduced_row_den, sum_of_products-same, sum_of_products_den}
use Rattle.qm_math.proofs.SameLists.{all_same_refl}
use Rattle.qm_tableau.specs.Tables.{Table, entry_of, row_at}
use Rattle.qm_tableau.specs.Leaving.{Placed, next}
use Rattle.qm_tableau.specs.Pivoting.{new_row, new_rows, pivoted}
use Rattle.qm_tableau.specs.Columns.{affine_value}
use Rattle.qm_tableau.specs.Exact.{exact_row}
use Rattle.qm_tableau.proofs.Exactness.{entry_den, next-ok, not_zero, row_exact, same_value}

module _ (c : ℕ) (o : Fraction) (os vs : List Fraction) (p_some : 0 < unsigned_abs (entry_of (o ∷ os) (suc c)).num) (ld : All HasPositiveDen (o ∷ os))
    (inside : c < length os) (many : length vs ≡ length os) (vd : All HasPositiveDen vs) where
  -- what the leaving row comes to
  abbrev y : Fraction
  y = row_value o os vs

  abbrev ws : List Fraction
  ws = set vs c y

  row_kept : (t : Fraction) (ts x : List Fraction) → length ts ≡ length os → All HasPositiveDen (t ∷ ts) → AllZip IsSame x (exact_row (suc c) (o ∷ os) (t ∷ ts))
      → IsSame (affine_value x ws) (row_value t ts vs)
  row_kept t ts [] count d same = absurd same
  row_kept t ts (x ∷ xs) count d same =
      let a = entry_of (t ∷ ts) (suc c) in
      let p = entry_of (o ∷ os) (suc c) in
      let nz = not_zero p.num p_some in
      let g = quotient_of a p in
      let ad = entry_den (t ∷ ts) (suc c) d in
      let pd = entry_den (o ∷ os) (suc c) ld in
      let gd = quotient_of_den a p ad nz in
      let td = All-head HasPositiveDen t ts d in
      let tsd = All-tail HasPositiveDen t ts d in
      let od = All-head HasPositiveDen o os ld in
      let osd = All-tail HasPositiveDen o os ld in
      let yd = sum_of_den o (sum_of_products os vs) od (sum_of_products_den os vs osd vd) in
      let wd = All-set HasPositiveDen vs c y yd vd in
      let pc = pivoted_constant t g o in
      let pr = pivoted_row ts g os c in
      let pcd = difference_of_den t (product_of g o) td (product_of_den g o gd od) in
      let prd = All-set HasPositiveDen (reduced_row ts g os) c g gd (reduced_row_den ts g os gd tsd osd) in
      let moved : IsSame (row_value x xs ws) (row_value pc pr ws) =
      sum_of-same x (sum_of_products xs ws) pc (sum_of_products pr ws) same.0 (sum_of_products-same xs pr ws ws same.1 (all_same_refl ws)) in
      let factor : IsSame (product_of g p) a = same_trans (product_of g p) (product_of p g) a (product_of_den p g pd gd) (product_of_comm g p) (product_of-quotient_of a p ad pd nz) in
      let kept = row_value-pivoted_row t o g y ts os vs c (whole (pos 0)) count (let n = count in omega (arith, n, inside)) (omega (arith, many, inside)) td od gd yd tsd osd vd factor (same_refl y) in
      same_trans (row_value x xs ws) (row_value pc pr ws) (row_value t ts vs) (sum_of_den pc (sum_of_products pr ws) pcd (sum_of_products_den pr ws prd wd)) moved kept

  rows_kept : (i : ℕ) (rows us : List (List Fraction)) → All (λ row. length row ≡ suc (length os)) rows → All (λ row. All HasPositiveDen row) rows
      → new_rows (suc c) (o ∷ os) i rows ≡ Ok us → AllZip (λ now before. IsSame (affine_value now ws) (affine_value before vs)) us rows
  rows_kept i [] us count d h = rw (sym (same_value [] us h)) tt
  rows_kept i ([] ∷ rows) us count d h = absurd (let e = All-head (λ (r : List Fraction). length r ≡ suc (length os)) [] rows count in omega (arith, e))
  rows_kept i ((t ∷ ts) ∷ rows) us count d h =
      let first = next-ok (new_row (suc c) (o ∷ os) i (t ∷ ts)) (λ z. next (new_rows (suc c) (o ∷ os) (suc i) rows) (λ zs. Ok (z ∷ zs))) us h in
      let rest = next-ok (new_rows (suc c) (o ∷ os) (suc i) rows) (λ zs. Ok (first.0 ∷ zs)) us first.2 in
      let long = All-head (λ (r : List Fraction). length r ≡ suc (length os)) (t ∷ ts) rows count in
      let rd = All-head (λ (r : List Fraction). All HasPositiveDen r) (t ∷ ts) rows d in
      let exact = row_exact (suc c) (o ∷ os) p_some ld i (t ∷ ts) first.0 long rd first.1 in
      let here = row_kept t ts first.0 (omega (arith, long)) rd exact in
      let more = rows_kept (suc i) rows rest.0 (All-tail (λ (r : List Fraction). length r ≡ suc (length os)) (t ∷ ts) rows count)
      (All-tail (λ (r : List Fraction). All HasPositiveDen r) (t ∷ ts) rows d) rest.1 in
      rw (sym (same_value (first.0 ∷ rest.0) us rest.2)) (here, more)

kept : (t u : Table) (r c : ℕ) (vs leaving : List Fraction) → leaving ≡ row_at t.rows r → length leaving ≡ suc (length t.columns) → All HasPositiveDen leaving
    → 0 < c → c ≤ length t.columns → 0 < unsigned_abs (entry_of leaving c).num
    → All (λ row. length row ≡ suc (length t.columns)) t.rows → All (λ row. All HasPositiveDen row) t.rows
    → length vs ≡ length t.columns → All HasPositiveDen vs → pivoted t r c ≡ Ok u
    → AllZip (λ now before. IsSame (affine_value now (set vs (c - 1) (affine_value leaving vs))) (affine_value before vs)) u.rows t.rows
kept t u r c vs [] is long ld some inside p_some count d many vd h = absurd (omega (arith, long))
kept t u r zero vs (o ∷ os) is long ld some inside p_some count d many vd h = absurd (omega (arith, some))
kept t u r (suc c) vs (o ∷ os) is long ld some inside p_some count d many vd h =
    let after : List (List Fraction) → Placed Table = λ rows. Ok (record { columns = set t.columns (suc c - 1) r; rows = rows }) in
    let steps = next-ok (new_rows (suc c) (row_at t.rows r) 0 t.rows) after u h in
    let made : new_rows (suc c) (o ∷ os) 0 t.rows ≡ Ok steps.0 = ap (λ (l : List Fraction). new_rows (suc c) l 0 t.rows) is ∙ steps.1 in
    let same_count : All (λ row. length row ≡ suc (length os)) t.rows = λ k e g. count k e g ∙ sym long in
    let all = rows_kept c o os vs p_some ld (omega (arith, long, inside)) (omega (arith, long, many)) vd 0 t.rows steps.0 same_count d made in
    let at : c ≡ suc c - 1 = omega arith in
    let rows : steps.0 ≡ u.rows = ap (λ (v : Table). v.rows) (same_value (record { columns = set t.columns (suc c - 1) r; rows = steps.0 }) u steps.2) in
    subst (λ (n : ℕ). AllZip (λ now before. IsSame (affine_value now (set vs n (row_value o os vs))) (affine_value before vs)) u.rows t.rows) at
    (subst (λ (us : List (List Fraction)). AllZip (λ now before. IsSame (affine_value now (set vs c (row_value o os vs))) (affine_value before vs)) us t.rows) rows all)

pub pivot_keeps : (t u : Table) (r c : ℕ) (vs : List Fraction) → r < length t.rows → 0 < c → c ≤ length t.columns
    → 0 < unsigned_abs (entry_of (row_at t.rows r) c).num
    → All (λ row. length row ≡ suc (length t.columns)) t.rows → All (λ row. All HasPositiveDen row) t.rows
    → length vs ≡ length t.columns → All HasPositiveDen vs → pivoted t r c ≡ Ok u
    → AllZip (λ now before. IsSame (affine_value now (set vs (c - 1) (affine_value (row_at t.rows r) vs))) (affine_value before vs)) u.rows t.rows
pivot_keeps t u r c vs at some inside p_some count d many vd h =
    kept t u r c vs (row_at t.rows r) refl (count r [] at) (d r [] at) some inside p_some count d many vd h
