-- A pivot that doesn't leave has the exact values.
use Rattle.std.proofs.Common.{◌≡◌, ◌∙◌, refl, sym, ap, ℕ, zero, suc, ◌+◌, ◌-◌, ◌<◌, true, false, ◌≢◌, List, [], ◌∷◌, length, set, map, arith, All, Ok, Err, ℤ, pos, unsigned_abs}
use Rattle.std.specs.Prelude.{◌==◌}
use Rattle.std.specs.List.{AllZip}
use Rattle.std.proofs.lemmas.Int.{ints}
use Rattle.std.proofs.lemmas.Bool.Decides.{nat_tests}
use Rattle.std.proofs.lemmas.List.Elements.{All-head, All-tail}
use Rattle.qm_math.specs.Fraction.{Fraction, HasPositiveDen, IsSame}
use Rattle.qm_math.specs.Arithmetic.{difference_of, product_of, quotient_of}
use Rattle.qm_math.specs.Totals.{reduced_row}
use Rattle.qm_math.proofs.FractionLaws.{difference_of-same, difference_of_den, product_of-same, product_of_den, same_refl, same_trans, quotient_of_den}
use Rattle.qm_frac.specs.Checked.{Checked, divided, multiplied, subtracted}
use Rattle.qm_frac.proofs.CheckedLaws.{IsFrac-divided, IsFrac-multiplied, and_then-ok, divided-value, multiplied-value, subtracted-value}
use Rattle.qm_tableau.specs.Tables.{Table, entry_of, row_at}
use Rattle.qm_tableau.specs.Leaving.{Placed, placed, next}
use Rattle.qm_tableau.specs.Pivoting.{less_multiple, new_entries, new_entry, new_row, new_rows, pivoted}
use Rattle.qm_tableau.specs.Exact.{AreSameTables, exact_row, exact_table}

-- an evaluation in places that has a value has one at its first step and at its next
pub next-ok : {A B : Type 0} (first : Placed A) (f : A → Placed B) (r : B) → next first f ≡ Ok r → (x : A) × (first ≡ Ok x) × (f x ≡ Ok r)
next-ok (Ok x) f r h = (x, refl, h)
next-ok (Err e) f r h = absurd (cc)

pub same_value : {A : Type 0} (x y : A) → (let z : Placed A = Ok x in z) ≡ Ok y → x ≡ y
same_value x y h = cc

pub placed-ok : {A : Type 0} (i k : ℕ) (x : Checked A) (r : A) → placed i k x ≡ Ok r → x ≡ Ok r
placed-ok i k (Ok x) r h = ap (λ y. Ok y) (same_value x r h)
placed-ok i k (Err e) r h = absurd (cc)

-- an entry less a multiple, for a factor that is the same number
pub less-value : (t f g o x : Fraction) → 0 < t.den → 0 < f.den → 0 < g.den → 0 < o.den → IsSame f g → less_multiple t f o ≡ Ok x
    → IsSame x (difference_of t (product_of g o))
less-value t f g o x td fd gd od same h =
    let steps = and_then-ok (multiplied f o) (λ p. subtracted t p) x h in
    let p = steps.0 in
    let pd = (IsFrac-multiplied f o p fd od steps.1).positive in
    let p_is : IsSame p (product_of g o) = same_trans p (product_of f o) (product_of g o) (product_of_den f o fd od) (multiplied-value f o p steps.1) (product_of-same f o g o same (same_refl o)) in
    same_trans x (difference_of t p) (difference_of t (product_of g o)) (difference_of_den t p td pd) (subtracted-value t p x steps.2)
    (difference_of-same t p t (product_of g o) (same_refl t) p_is)

-- ---- one entry

pub other_entry : (i c : ℕ) (f : Fraction) (k : ℕ) (t o x : Fraction) → (k ≡ c → ⊥) → new_entry i c f k t o ≡ Ok x → less_multiple t f o ≡ Ok x
other_entry i c f k t o x other h =
    let e : (k == c) ≡ false = grind (arith, nat_tests) in
    placed-ok i k (less_multiple t f o) x (rw e at h)

pub own_entry : (i c : ℕ) (f : Fraction) (k : ℕ) (t o x : Fraction) → k ≡ c → new_entry i c f k t o ≡ Ok x → f ≡ x
own_entry i c f k t o x own h =
    let e : (k == c) ≡ true = grind (arith, nat_tests) in
    same_value f x (rw e at h)

-- ---- one row

module _ (i c : ℕ) (f g : Fraction) (fd : 0 < f.den) (gd : 0 < g.den) (same : IsSame f g) where
  -- behind the entering column
  behind : (k : ℕ) (ts os xs : List Fraction) → c < k → length ts ≡ length os → All HasPositiveDen ts → All HasPositiveDen os
      → new_entries i c f k ts os ≡ Ok xs → AllZip IsSame xs (reduced_row ts g os)
  behind k [] os xs later count td od h = rw (sym (same_value [] xs h)) tt
  behind k (t ∷ ts) [] xs later count td od h = absurd (omega (arith, count))
  behind k (t ∷ ts) (o ∷ os) xs later count td od h =
      let first = next-ok (new_entry i c f k t o) _ xs h in
      let rest = next-ok (new_entries i c f (suc k) ts os) (λ ys. Ok (first.0 ∷ ys)) xs first.2 in
      let here = less-value t f g o first.0 (All-head HasPositiveDen t ts td) fd gd (All-head HasPositiveDen o os od) same
      (other_entry i c f k t o first.0 (λ e. omega (arith, later, e)) first.1) in
      let more = behind (suc k) ts os rest.0 (omega (arith, later)) (omega (arith, count)) (All-tail HasPositiveDen t ts td) (All-tail HasPositiveDen o os od) rest.1 in
      rw (sym (same_value (first.0 ∷ rest.0) xs rest.2)) (here, more)

  -- from column k on, where the entering column is the one n behind
  row_from : (n k : ℕ) (ts os xs : List Fraction) → c ≡ k + n → length ts ≡ length os → All HasPositiveDen ts → All HasPositiveDen os
      → new_entries i c f k ts os ≡ Ok xs → AllZip IsSame xs (set (reduced_row ts g os) n g)
  row_from n k [] os xs at count td od h = rw (sym (same_value [] xs h)) tt
  row_from n k (t ∷ ts) [] xs at count td od h = absurd (omega (arith, count))
  row_from zero k (t ∷ ts) (o ∷ os) xs at count td od h =
      let first = next-ok (new_entry i c f k t o) _ xs h in
      let rest = next-ok (new_entries i c f (suc k) ts os) (λ ys. Ok (first.0 ∷ ys)) xs first.2 in
      let here : IsSame first.0 g = rw (sym (own_entry i c f k t o first.0 (omega (arith, at)) first.1)) same in
      let more = behind (suc k) ts os rest.0 (omega (arith, at)) (omega (arith, count)) (All-tail HasPositiveDen t ts td) (All-tail HasPositiveDen o os od) rest.1 in
      rw (sym (same_value (first.0 ∷ rest.0) xs rest.2)) (here, more)
  row_from (suc n) k (t ∷ ts) (o ∷ os) xs at count td od h =
      let first = next-ok (new_entry i c f k t o) _ xs h in
      let rest = next-ok (new_entries i c f (suc k) ts os) (λ ys. Ok (first.0 ∷ ys)) xs first.2 in
      let here = less-value t f g o first.0 (All-head HasPositiveDen t ts td) fd gd (All-head HasPositiveDen o os od) same
      (other_entry i c f k t o first.0 (λ e. omega (arith, at, e)) first.1) in
      let more = row_from n (suc k) ts os rest.0 (omega (arith, at)) (omega (arith, count)) (All-tail HasPositiveDen t ts td) (All-tail HasPositiveDen o os od) rest.1 in
      rw (sym (same_value (first.0 ∷ rest.0) xs rest.2)) (here, more)

-- ---- all rows

pub entry_den : (row : List Fraction) (k : ℕ) → All HasPositiveDen row → 0 < (entry_of row k).den
entry_den [] k d = omega arith
entry_den (t ∷ ts) zero d = All-head HasPositiveDen t ts d
entry_den (t ∷ ts) (suc k) d = entry_den ts k (All-tail HasPositiveDen t ts d)

pub not_zero : (n : ℤ) → 0 < unsigned_abs n → n ≢ pos 0
not_zero n h e = omega (arith, ints, h, e)

module _ (c : ℕ) (leaving : List Fraction) (some : 0 < unsigned_abs (entry_of leaving c).num) (ld : All HasPositiveDen leaving) where
  pub row_exact : (i : ℕ) (row x : List Fraction) → length row ≡ length leaving → All HasPositiveDen row → new_row c leaving i row ≡ Ok x
      → AllZip IsSame x (exact_row c leaving row)
  row_exact i row x count d h =
      let a = entry_of row c in
      let b = entry_of leaving c in
      let steps = next-ok (placed i c (divided a b)) (λ factor. new_entries i c factor 0 row leaving) x h in
      let is : divided a b ≡ Ok steps.0 = placed-ok i c (divided a b) steps.0 steps.1 in
      let ad = entry_den row c d in
      let bd = entry_den leaving c ld in
      row_from i c steps.0 (quotient_of a b) (IsFrac-divided a b steps.0 ad some is).positive (quotient_of_den a b ad (not_zero b.num some)) (divided-value a b steps.0 is)
      c 0 row leaving x (let e : c ≡ 0 + c = omega arith in e) count d ld steps.2

  rows_exact : (i : ℕ) (rows us : List (List Fraction)) → All (λ row. length row ≡ length leaving) rows → All (λ row. All HasPositiveDen row) rows
      → new_rows c leaving i rows ≡ Ok us → AllZip (AllZip IsSame) us (map (exact_row c leaving) rows)
  rows_exact i [] us count d h = rw (sym (same_value [] us h)) tt
  rows_exact i (row ∷ rows) us count d h =
      let first = next-ok (new_row c leaving i row) _ us h in
      let rest = next-ok (new_rows c leaving (suc i) rows) (λ ys. Ok (first.0 ∷ ys)) us first.2 in
      let here = row_exact i row first.0 (All-head (λ (r : List Fraction). length r ≡ length leaving) row rows count) (All-head (λ (r : List Fraction). All HasPositiveDen r) row rows d) first.1 in
      let more = rows_exact (suc i) rows rest.0 (All-tail (λ (r : List Fraction). length r ≡ length leaving) row rows count) (All-tail (λ (r : List Fraction). All HasPositiveDen r) row rows d) rest.1 in
      rw (sym (same_value (first.0 ∷ rest.0) us rest.2)) (here, more)

pub pivot_exact : (t u : Table) (r c : ℕ) → r < length t.rows → 0 < unsigned_abs (entry_of (row_at t.rows r) c).num
    → All (λ row. length row ≡ suc (length t.columns)) t.rows → All (λ row. All HasPositiveDen row) t.rows
    → pivoted t r c ≡ Ok u → AreSameTables u (exact_table t r c)
pivot_exact t u r c inside some count d h =
    let leaving = row_at t.rows r in
    let ld : All HasPositiveDen leaving = d r [] inside in
    let wide : length leaving ≡ suc (length t.columns) = count r [] inside in
    let same : All (λ row. length row ≡ length leaving) t.rows = λ k e g. count k e g ∙ sym wide in
    let after : List (List Fraction) → Placed Table = λ rows. Ok (record { columns = set t.columns (c - 1) r; rows = rows }) in
    let steps = next-ok (new_rows c leaving 0 t.rows) after u h in
    let rows = rows_exact c leaving some ld 0 t.rows steps.0 same d steps.1 in
    rw (sym (same_value (record { columns = set t.columns (c - 1) r; rows = steps.0 }) u steps.2)) (record { columns = refl; rows = rows })
