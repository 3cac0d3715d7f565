-- Tableaus with the same numbers, and pivots of such tableaus.
use Rattle.std.proofs.Common.{◌≡◌, ◌∙◌, sym, ap, subst, ℕ, zero, suc, ◌-◌, ◌<◌, ◌≢◌, List, [], ◌∷◌, length, set, map, All, Ok, ℤ, pos, ◌<ℤ◌, unsigned_abs}
use Rattle.std.specs.List.{AllZip}
use Rattle.std.proofs.lemmas.List.{length-set}
use Rattle.std.proofs.lemmas.List.Elements.{All-cons, All-head, All-nil, All-set, All-tail, length_all_zip}
use Rattle.qm_math.specs.Fraction.{Fraction, HasPositiveDen, IsSame}
use Rattle.qm_math.specs.Arithmetic.{product_of, quotient_of}
use Rattle.qm_math.specs.Totals.{reduced_row}
use Rattle.qm_math.proofs.FractionLaws.{difference_of-same, product_of-same, quotient_of-same, quotient_of_den}
use Rattle.qm_math.proofs.FractionOrder.{same_above}
use Rattle.qm_math.proofs.Rows.{reduced_row_den}
use Rattle.qm_math.proofs.SameLists.{all_same_refl, all_same_trans}
use Rattle.qm_math.proofs.Magnitudes.{unsigned_abs-above_zero}
use Rattle.qm_tableau.specs.Tables.{Table, entry_of, row_at}
use Rattle.qm_tableau.specs.Pivoting.{pivoted}
use Rattle.qm_tableau.specs.Exact.{AreSameTables, exact_row, exact_table}
use Rattle.qm_tableau.proofs.Exactness.{entry_den, not_zero, pivot_exact}
use Rattle.qm_tableau.proofs.PivotColumns.{exact_long, same_entry}

-- ---- lists of rows with the same numbers
pub rows_refl : (ts : List (List Fraction)) → AllZip (AllZip IsSame) ts ts
rows_refl [] = tt
rows_refl (t ∷ ts) = (all_same_refl t, rows_refl ts)

pub rows_trans : (ts us vs : List (List Fraction)) → All (λ row. All HasPositiveDen row) us → AllZip (AllZip IsSame) ts us → AllZip (AllZip IsSame) us vs → AllZip (AllZip IsSame) ts vs
rows_trans [] [] vs d e k = k
rows_trans [] (u ∷ us) vs d e k = absurd e
rows_trans (t ∷ ts) [] vs d e k = absurd e
rows_trans (t ∷ ts) (u ∷ us) [] d e k = absurd k
rows_trans (t ∷ ts) (u ∷ us) (v ∷ vs) d e k = (
  all_same_trans t u v (All-head (λ (r : List Fraction). All HasPositiveDen r) u us d) e.0 k.0,
  rows_trans ts us vs (All-tail (λ (r : List Fraction). All HasPositiveDen r) u us d) e.1 k.1,
)

pub same_row_at : (ts us : List (List Fraction)) (r : ℕ) → AllZip (AllZip IsSame) ts us → AllZip IsSame (row_at ts r) (row_at us r)
same_row_at [] [] r e = tt
same_row_at [] (u ∷ us) r e = absurd e
same_row_at (t ∷ ts) [] r e = absurd e
same_row_at (t ∷ ts) (u ∷ us) zero e = e.0
same_row_at (t ∷ ts) (u ∷ us) (suc r) e = same_row_at ts us r e.1

pub row_at_den : (ts : List (List Fraction)) (r : ℕ) → All (λ row. All HasPositiveDen row) ts → All HasPositiveDen (row_at ts r)
row_at_den [] r d = All-nil HasPositiveDen
row_at_den (t ∷ ts) zero d = All-head (λ (r : List Fraction). All HasPositiveDen r) t ts d
row_at_den (t ∷ ts) (suc r) d = row_at_den ts r (All-tail (λ (r : List Fraction). All HasPositiveDen r) t ts d)

-- ---- signs of the same number
pub same_entry_above : (ts us : List (List Fraction)) (r c : ℕ) → AllZip (AllZip IsSame) ts us → All (λ row. All HasPositiveDen row) ts → All (λ row. All HasPositiveDen row) us
    → pos 0 <ℤ (entry_of (row_at ts r) c).num → 0 < unsigned_abs (entry_of (row_at us r) c).num
same_entry_above ts us r c e td ud h =
    let a = entry_of (row_at ts r) c in
    let b = entry_of (row_at us r) c in
    unsigned_abs-above_zero b.num
    (same_above a b (entry_den (row_at ts r) c (row_at_den ts r td)) (entry_den (row_at us r) c (row_at_den us r ud)) (same_entry (row_at ts r) (row_at us r) c (same_row_at ts us r e)) h)

-- ---- the pivot in unbounded fractions
reduced_same : (ks ls : List Fraction) (f g : Fraction) (os ps : List Fraction) → IsSame f g → AllZip IsSame ks ls → AllZip IsSame os ps
    → AllZip IsSame (reduced_row ks f os) (reduced_row ls g ps)
reduced_same [] [] f g os ps same e k = tt
reduced_same [] (l ∷ ls) f g os ps same e k = absurd e
reduced_same (x ∷ ks) [] f g os ps same e k = absurd e
reduced_same (x ∷ ks) (l ∷ ls) f g [] [] same e k = e
reduced_same (x ∷ ks) (l ∷ ls) f g [] (p ∷ ps) same e k = absurd k
reduced_same (x ∷ ks) (l ∷ ls) f g (o ∷ os) [] same e k = absurd k
reduced_same (x ∷ ks) (l ∷ ls) f g (o ∷ os) (p ∷ ps) same e k =
    (difference_of-same x (product_of f o) l (product_of g p) e.0 (product_of-same f o g p same k.0), reduced_same ks ls f g os ps same e.1 k.1)

set_same : (xs ys : List Fraction) (i : ℕ) (a b : Fraction) → IsSame a b → AllZip IsSame xs ys → AllZip IsSame (set xs i a) (set ys i b)
set_same [] [] i a b same e = tt
set_same [] (y ∷ ys) i a b same e = absurd e
set_same (x ∷ xs) [] i a b same e = absurd e
set_same (x ∷ xs) (y ∷ ys) zero a b same e = (same, e.1)
set_same (x ∷ xs) (y ∷ ys) (suc i) a b same e = (e.0, set_same xs ys i a b same e.1)

exact_row_same : (c : ℕ) (l m row other : List Fraction) → AllZip IsSame l m → AllZip IsSame row other → AllZip IsSame (exact_row c l row) (exact_row c m other)
exact_row_same c l m row other e k =
    let f = quotient_of (entry_of row c) (entry_of l c) in
    let g = quotient_of (entry_of other c) (entry_of m c) in
    let same = quotient_of-same (entry_of row c) (entry_of l c) (entry_of other c) (entry_of m c) (same_entry row other c k) (same_entry l m c e) in
    set_same (reduced_row row f l) (reduced_row other g m) c f g same (reduced_same row other f g l m same k e)

exact_rows_same : (c : ℕ) (l m : List Fraction) (ts us : List (List Fraction)) → AllZip IsSame l m → AllZip (AllZip IsSame) ts us
    → AllZip (AllZip IsSame) (map (exact_row c l) ts) (map (exact_row c m) us)
exact_rows_same c l m [] [] e k = tt
exact_rows_same c l m [] (u ∷ us) e k = absurd k
exact_rows_same c l m (t ∷ ts) [] e k = absurd k
exact_rows_same c l m (t ∷ ts) (u ∷ us) e k = (exact_row_same c l m t u e k.0, exact_rows_same c l m ts us e k.1)

-- denominators stay above 0
exact_row_den : (c : ℕ) (l row : List Fraction) → (entry_of l c).num ≢ pos 0 → All HasPositiveDen l → All HasPositiveDen row → All HasPositiveDen (exact_row c l row)
exact_row_den c l row nz ld d =
    let f = quotient_of (entry_of row c) (entry_of l c) in
    let fd = quotient_of_den (entry_of row c) (entry_of l c) (entry_den row c d) nz in
    All-set HasPositiveDen (reduced_row row f l) c f fd (reduced_row_den row f l fd d ld)

exact_rows_den : (c : ℕ) (l : List Fraction) (ts : List (List Fraction)) → (entry_of l c).num ≢ pos 0 → All HasPositiveDen l → All (λ row. All HasPositiveDen row) ts
    → All (λ row. All HasPositiveDen row) (map (exact_row c l) ts)
exact_rows_den c l [] nz ld d = All-nil (λ (row : List Fraction). All HasPositiveDen row)
exact_rows_den c l (t ∷ ts) nz ld d =
    All-cons (λ (row : List Fraction). All HasPositiveDen row) (exact_row c l t) (map (exact_row c l) ts)
    (exact_row_den c l t nz ld (All-head (λ (r : List Fraction). All HasPositiveDen r) t ts d))
    (exact_rows_den c l ts nz ld (All-tail (λ (r : List Fraction). All HasPositiveDen r) t ts d))

pub exact_positive : (t : Table) (r c : ℕ) → 0 < unsigned_abs (entry_of (row_at t.rows r) c).num → All (λ row. All HasPositiveDen row) t.rows
    → All (λ row. All HasPositiveDen row) (exact_table t r c).rows
exact_positive t r c some d = exact_rows_den c (row_at t.rows r) t.rows (not_zero (entry_of (row_at t.rows r) c).num some) (row_at_den t.rows r d) d

-- ---- the pivot in checked fractions
-- rows keep their width
exact_widths : (c n : ℕ) (l : List Fraction) (us ts : List (List Fraction)) → length l ≡ n → All (λ row. length row ≡ n) ts
    → AllZip (AllZip IsSame) us (map (exact_row c l) ts) → All (λ row. length row ≡ n) us
exact_widths c n l [] [] long w e = All-nil (λ (row : List Fraction). length row ≡ n)
exact_widths c n l [] (t ∷ ts) long w e = absurd e
exact_widths c n l (u ∷ us) [] long w e = absurd e
exact_widths c n l (u ∷ us) (t ∷ ts) long w e =
    let wide = All-head (λ (r : List Fraction). length r ≡ n) t ts w in
    let count : length t ≡ length l = wide ∙ sym long in
    All-cons (λ (row : List Fraction). length row ≡ n) u us (length_all_zip IsSame u (exact_row c l t) e.0 ∙ exact_long c l t count ∙ wide)
    (exact_widths c n l us ts long (All-tail (λ (r : List Fraction). length r ≡ n) t ts w) e.1)

pub pivoted_width : (t u : Table) (r c : ℕ) → r < length t.rows → All (λ row. length row ≡ suc (length t.columns)) t.rows
    → AreSameTables u (exact_table t r c) → All (λ row. length row ≡ suc (length u.columns)) u.rows
pivoted_width t u r c inside w e =
    let l = row_at t.rows r in
    let columns : length u.columns ≡ length t.columns = ap (λ (cs : List ℕ). length cs) e.columns ∙ length-set t.columns (c - 1) r in
    subst (λ (n : ℕ). All (λ row. length row ≡ suc n) u.rows) (sym columns) (exact_widths c (suc (length t.columns)) l u.rows t.rows (w r [] inside) w e.rows)

-- the pivots of two tableaus with the same numbers, one in checked and one in unbounded fractions
pub pivots_same : (t u v : Table) (r c : ℕ) → r < length t.rows → 0 < unsigned_abs (entry_of (row_at t.rows r) c).num → All (λ row. length row ≡ suc (length t.columns)) t.rows
    → All (λ row. All HasPositiveDen row) t.rows → AreSameTables t u → pivoted t r c ≡ Ok v → AreSameTables v (exact_table u r c)
pivots_same t u v r c inside some w d e h =
    let exact = pivot_exact t v r c inside some w d h in
    let l = row_at t.rows r in
    let m = row_at u.rows r in
    record {
      columns = exact.columns ∙ ap (λ (cs : List ℕ). set cs (c - 1) r) e.columns;
      rows = rows_trans v.rows (map (exact_row c l) t.rows) (map (exact_row c m) u.rows) (exact_positive t r c some d) exact.rows
          (exact_rows_same c l m t.rows u.rows (same_row_at t.rows u.rows r e.rows) e.rows);
    }
