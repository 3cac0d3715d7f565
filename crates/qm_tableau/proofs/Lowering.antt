-- A pivot lowers the column of constants.
use Rattle.std.proofs.Common.{◌≡◌, ◌∙◌, refl, sym, ap, ℕ, suc, ◌-◌, ◌<◌, List, [], ◌∷◌, length, set, arith, All, Ok, pos, unsigned_abs, ◌≢◌}
use Rattle.std.specs.List.{AllZip}
use Rattle.std.proofs.lemmas.List.Elements.{All-cons, All-head, All-nil, All-tail}
use Rattle.qm_math.specs.Fraction.{Fraction, HasPositiveDen, IsBelow, IsSame, whole}
use Rattle.qm_math.specs.Arithmetic.{difference_of, inverse_of, product_of, quotient_of}
use Rattle.qm_math.specs.Totals.{reduced_row}
use Rattle.qm_math.specs.Lexicographic.{IsLexBelow, IsLexNegative}
use Rattle.qm_math.proofs.FractionLaws.{difference_of-same, difference_of_den, product_of-same, product_of_assoc, product_of_comm, product_of_den, product_of-quotient_of, product_of-zero, same_refl, same_sym, same_trans, quotient_of_den, inverse_of_den, whole_den}
use Rattle.qm_math.proofs.FractionOrder.{below_congr}
use Rattle.qm_math.proofs.Quotients.{above_num, cancel_product_of-below}
use Rattle.qm_math.proofs.Lexicographic.{IsLexBelow-reduced_row}
use Rattle.qm_math.proofs.Rows.{reduced_row_den}
use Rattle.qm_math.proofs.SameLists.{IsLexBelow-same, all_same_refl, all_same_sym}
use Rattle.qm_math.proofs.Magnitudes.{unsigned_abs-nonzero}
use Rattle.qm_frac.specs.Checked.{divided, multiplied, subtracted}
use Rattle.qm_frac.proofs.CheckedLaws.{IsFrac-divided, IsFrac-multiplied, IsFrac-subtracted, and_then-ok, divided-value}
use Rattle.qm_tableau.specs.Tables.{Table, entry_of, row_at}
use Rattle.qm_tableau.specs.Leaving.{Placed, placed, next}
use Rattle.qm_tableau.specs.Pivoting.{less_multiple, new_entries, new_entry, new_row, new_rows, pivoted}
use Rattle.qm_tableau.specs.Columns.{column_at}
use Rattle.qm_tableau.proofs.Exactness.{entry_den, less-value, next-ok, not_zero, other_entry, placed-ok, same_value}

-- a negative number over a positive one
pub quotient_below : (a b : Fraction) → 0 < a.den → 0 < b.den → IsBelow a (whole (pos 0)) → IsBelow (whole (pos 0)) b → IsBelow (quotient_of a b) (whole (pos 0))
quotient_below a b ad bd below above =
    let nz = above_num b above in
    let q = quotient_of a b in
    let z = whole (pos 0) in
    let qd = quotient_of_den a b ad nz in
    let zd = whole_den (pos 0) in
    cancel_product_of-below b q z above
    (below_congr a z (product_of b q) (product_of b z) ad zd (product_of_den b q bd qd) (product_of_den b z bd zd)
    (same_sym (product_of b q) a (product_of-quotient_of a b ad bd nz)) (same_sym (product_of b z) z (product_of-zero b)) below)

-- a divided-value times a number: the two numbers that aren't divided by change places
pub exchanged : (t p o : Fraction) → 0 < t.den → 0 < o.den → p.num ≢ pos 0 → IsSame (product_of (quotient_of t p) o) (product_of (quotient_of o p) t)
exchanged t p o td od nz =
    let i = inverse_of p in
    let id = inverse_of_den p nz in
    let a : IsSame (product_of (product_of t i) o) (product_of t (product_of i o)) = product_of_assoc t i o in
    let b : IsSame (product_of t (product_of i o)) (product_of t (product_of o i)) = product_of-same t (product_of i o) t (product_of o i) (same_refl t) (product_of_comm i o) in
    let c : IsSame (product_of t (product_of o i)) (product_of (product_of o i) t) = product_of_comm t (product_of o i) in
    same_trans (product_of (product_of t i) o) (product_of t (product_of i o)) (product_of (product_of o i) t) (product_of_den t (product_of i o) td (product_of_den i o id od)) a
    (same_trans (product_of t (product_of i o)) (product_of t (product_of o i)) (product_of (product_of o i) t) (product_of_den t (product_of o i) td (product_of_den o i od id)) b c)

module _ (c : ℕ) (some : 0 < c) (o : Fraction) (os : List Fraction) (p_some : 0 < unsigned_abs (entry_of (o ∷ os) c).num) (ld : All HasPositiveDen (o ∷ os)) where
  abbrev rate : Fraction
  rate = quotient_of o (entry_of (o ∷ os) c)

  -- the new constant of a row
  constant_is : (i : ℕ) (t : Fraction) (ts x : List Fraction) → All HasPositiveDen (t ∷ ts) → new_row c (o ∷ os) i (t ∷ ts) ≡ Ok x
      → HasPositiveDen (entry_of x 0) × IsSame (entry_of x 0) (difference_of t (product_of rate (entry_of (t ∷ ts) c)))
  constant_is i t ts x d h =
      let a = entry_of (t ∷ ts) c in
      let p = entry_of (o ∷ os) c in
      let nz = not_zero p.num p_some in
      let ad = entry_den (t ∷ ts) c d in
      let td = All-head HasPositiveDen t ts d in
      let od = All-head HasPositiveDen o os ld in
      let q = quotient_of a p in
      let qd = quotient_of_den a p ad nz in
      let rd = quotient_of_den o p od nz in
      let steps = next-ok (placed i c (divided a p)) (λ factor. new_entries i c factor 0 (t ∷ ts) (o ∷ os)) x h in
      let f = steps.0 in
      let f_is : divided a p ≡ Ok f = placed-ok i c (divided a p) f steps.1 in
      let fd = (IsFrac-divided a p f ad p_some f_is).positive in
      let first = next-ok (new_entry i c f 0 t o) (λ y. next (new_entries i c f 1 ts os) (λ ys. Ok (y ∷ ys))) x steps.2 in
      let rest = next-ok (new_entries i c f 1 ts os) (λ ys. Ok (first.0 ∷ ys)) x first.2 in
      let y = first.0 in
      let less : less_multiple t f o ≡ Ok y = other_entry i c f 0 t o y (λ e. omega (arith, some, e)) first.1 in
      let value : IsSame y (difference_of t (product_of q o)) = less-value t f q o y td fd qd od (divided-value a p f f_is) less in
      let parts = and_then-ok (multiplied f o) (λ m. subtracted t m) y less in
      let yd = (IsFrac-subtracted t parts.0 y td (IsFrac-multiplied f o parts.0 fd od parts.1).positive parts.2).positive in
      let head : y ≡ entry_of x 0 = ap (λ (ys : List Fraction). entry_of ys 0) (same_value (y ∷ rest.0) x rest.2) in
      let moved : IsSame (difference_of t (product_of q o)) (difference_of t (product_of rate a)) =
      difference_of-same t (product_of q o) t (product_of rate a) (same_refl t) (exchanged a p o ad od nz) in
      rw (sym head) (yd, same_trans y (difference_of t (product_of q o)) (difference_of t (product_of rate a)) (difference_of_den t (product_of q o) td (product_of_den q o qd od)) value moved)

  -- the new constants: from the old ones, a multiple of the entering column is taken away
  constants_are : (i : ℕ) (rows us : List (List Fraction)) → All (λ row. length row ≡ suc (length os)) rows → All (λ row. All HasPositiveDen row) rows
      → new_rows c (o ∷ os) i rows ≡ Ok us
      → All HasPositiveDen (column_at us 0) × AllZip IsSame (column_at us 0) (reduced_row (column_at rows 0) rate (column_at rows c))
  constants_are i [] us count d h = rw (sym (same_value [] us h)) ((λ k e g. absurd (omega arith)), tt)
  constants_are i ([] ∷ rows) us count d h = absurd (let e = All-head (λ (r : List Fraction). length r ≡ suc (length os)) [] rows count in omega (arith, e))
  constants_are i ((t ∷ ts) ∷ rows) us count d h =
      let first = next-ok (new_row c (o ∷ os) i (t ∷ ts)) (λ y. next (new_rows c (o ∷ os) (suc i) rows) (λ ys. Ok (y ∷ ys))) us h in
      let rest = next-ok (new_rows c (o ∷ os) (suc i) rows) (λ ys. Ok (first.0 ∷ ys)) us first.2 in
      let here = constant_is i t ts first.0 (All-head (λ (r : List Fraction). All HasPositiveDen r) (t ∷ ts) rows d) first.1 in
      let more = constants_are (suc i) rows rest.0 (All-tail (λ (r : List Fraction). length r ≡ suc (length os)) (t ∷ ts) rows count)
      (All-tail (λ (r : List Fraction). All HasPositiveDen r) (t ∷ ts) rows d) rest.1 in
      rw (sym (same_value (first.0 ∷ rest.0) us rest.2)) (All-cons HasPositiveDen (entry_of first.0 0) (column_at rest.0 0) here.0 more.0, (here.1, more.1))

pub column_den : (rows : List (List Fraction)) (k : ℕ) → All (λ row. All HasPositiveDen row) rows → All HasPositiveDen (column_at rows k)
column_den [] k d = All-nil HasPositiveDen
column_den (row ∷ rows) k d = All-cons HasPositiveDen (entry_of row k) (column_at rows k) (entry_den row k (All-head (λ (r : List Fraction). All HasPositiveDen r) row rows d))
    (column_den rows k (All-tail (λ (r : List Fraction). All HasPositiveDen r) row rows d))

pub length_column : (rows : List (List Fraction)) (k : ℕ) → length (column_at rows k) ≡ length rows
length_column [] k = refl
length_column (row ∷ rows) k = ap suc (length_column rows k)

lowered : (t u : Table) (r c : ℕ) (leaving : List Fraction) → 0 < c → leaving ≡ row_at t.rows r → length leaving ≡ suc (length t.columns) → All HasPositiveDen leaving
    → All (λ row. length row ≡ suc (length t.columns)) t.rows → All (λ row. All HasPositiveDen row) t.rows
    → IsBelow (entry_of leaving 0) (whole (pos 0)) → IsBelow (whole (pos 0)) (entry_of leaving c) → IsLexNegative (column_at t.rows c)
    → pivoted t r c ≡ Ok u → IsLexBelow (column_at u.rows 0) (column_at t.rows 0)
lowered t u r c [] some is long ld count d below above falls h = absurd (omega (arith, long))
lowered t u r c (o ∷ os) some is long ld count d below above falls h =
    let p = entry_of (o ∷ os) c in
    let nz = above_num p above in
    let p_some : 0 < unsigned_abs p.num = unsigned_abs-nonzero p.num nz in
    let after : List (List Fraction) → Placed Table = λ rows. Ok (record { columns = set t.columns (c - 1) r; rows = rows }) in
    let steps = next-ok (new_rows c (row_at t.rows r) 0 t.rows) after u h in
    let made : new_rows c (o ∷ os) 0 t.rows ≡ Ok steps.0 = ap (λ (l : List Fraction). new_rows c l 0 t.rows) is ∙ steps.1 in
    let same_count : All (λ row. length row ≡ suc (length os)) t.rows = λ k e g. count k e g ∙ sym long in
    let new = constants_are c some o os p_some ld 0 t.rows steps.0 same_count d made in
    let f = quotient_of o p in
    let od = All-head HasPositiveDen o os ld in
    let pd = entry_den (o ∷ os) c ld in
    let fd = quotient_of_den o p od nz in
    let ks = column_at t.rows 0 in
    let cs = column_at t.rows c in
    let kd = column_den t.rows 0 d in
    let cd = column_den t.rows c d in
    let low = IsLexBelow-reduced_row ks f cs (length_column t.rows 0 ∙ sym (length_column t.rows c)) fd kd cd (quotient_below o p od pd below above) falls in
    let all = IsLexBelow-same (reduced_row ks f cs) ks (column_at steps.0 0) ks (reduced_row_den ks f cs fd kd cd) kd new.0 kd
    (all_same_sym (column_at steps.0 0) (reduced_row ks f cs) new.1) (all_same_refl ks) low in
    rw (sym (same_value (record { columns = set t.columns (c - 1) r; rows = steps.0 }) u steps.2)) all

pub pivot_lowers : (t u : Table) (r c : ℕ) → r < length t.rows → 0 < c
    → All (λ row. length row ≡ suc (length t.columns)) t.rows → All (λ row. All HasPositiveDen row) t.rows
    → IsBelow (entry_of (row_at t.rows r) 0) (whole (pos 0)) → IsBelow (whole (pos 0)) (entry_of (row_at t.rows r) c) → IsLexNegative (column_at t.rows c)
    → pivoted t r c ≡ Ok u → IsLexBelow (column_at u.rows 0) (column_at t.rows 0)
pivot_lowers t u r c inside some count d below above falls h =
    lowered t u r c (row_at t.rows r) some refl (count r [] inside) (d r [] inside) count d below above falls h
