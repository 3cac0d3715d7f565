-- A pivot at the greatest column keeps the columns lexicographically negative.
use Rattle.std.proofs.Common.{◌≡◌, ◌∙◌, refl, sym, ap, subst, ℕ, zero, suc, ◌<◌, ◌≢◌, ◌⊎◌, inl, inr, ⊎_elim, List, [], ◌∷◌, length, get_or, map, arith, All, pos}
use Rattle.std.specs.List.{AllZip}
use Rattle.std.proofs.lemmas.Int.{ints}
use Rattle.std.proofs.lemmas.Bool.{cases_eq}
use Rattle.std.proofs.lemmas.List.{get_or-set_other, get_or-set_same, length-set}
use Rattle.std.proofs.lemmas.List.Elements.{All-head, All-tail, All-map}
use Rattle.qm_math.specs.Fraction.{Fraction, HasPositiveDen, IsBelow, IsSame, whole}
use Rattle.qm_math.specs.Arithmetic.{difference_of, inverse_of, product_of, quotient_of}
use Rattle.qm_math.specs.Totals.{reduced_row}
use Rattle.qm_math.specs.Lexicographic.{IsLexBelow, IsLexNegative}
use Rattle.qm_math.proofs.Polynomials.{number, ◌⊕◌, ◌⊗◌, minus}
use Rattle.qm_math.proofs.Ring.{x0, x1, x2}
use Rattle.qm_math.proofs.FractionLinear.{same_given}
use Rattle.qm_math.proofs.FractionLaws.{difference_of-same, difference_of_den, inverse_of_den, one-product_of, product_of-inverse_of, product_of-same, product_of-zero, product_of_comm, product_of_den, quotient_of_den, same_refl, same_sym, same_trans, whole_den, zero-product_of}
use Rattle.qm_math.proofs.Compare.{at_most_both, at_most_or_below}
use Rattle.qm_math.proofs.FractionOrder.{below_congr, below_irrefl}
use Rattle.qm_math.proofs.Quotients.{above_num, cancel_product_of-below}
use Rattle.qm_math.proofs.Lexicographic.{IsLexNegative-from_below, IsLexNegative-reduced_row, IsLexNegative-reduced_row_zero, IsLexNegative-scaled}
use Rattle.qm_math.proofs.Rows.{get_or-reduced_row, length-reduced_row, reduced_row_den}
use Rattle.qm_math.proofs.SameLists.{IsLexBelow-same, IsLexNegative-same, all_same_sym}
use Rattle.qm_math.proofs.Magnitudes.{unsigned_abs-nonzero}
use Rattle.qm_tableau.specs.Tables.{entry_of, row_at}
use Rattle.qm_tableau.specs.Columns.{column_at}
use Rattle.qm_tableau.specs.Exact.{exact_row}
use Rattle.qm_tableau.specs.Good.{IsUnitRow}
use Rattle.qm_tableau.proofs.Constants.{zip_at}
use Rattle.qm_tableau.proofs.Exactness.{entry_den}
use Rattle.qm_tableau.proofs.Greatest.{IsNotAbove, quotients, quotients_den}
use Rattle.qm_tableau.proofs.Lowering.{column_den, exchanged, quotient_below}

-- ---- signs
pub inverse_above : (p : Fraction) → 0 < p.den → IsBelow (whole (pos 0)) p → IsBelow (whole (pos 0)) (inverse_of p)
inverse_above p pd above =
    let z = whole (pos 0) in
    let i = inverse_of p in
    let id = inverse_of_den p (above_num p above) in
    let one_above : IsBelow z (whole (pos 1)) = omega (arith, ints) in
    cancel_product_of-below p z i above
    (below_congr z (whole (pos 1)) (product_of p z) (product_of p i) (whole_den (pos 0)) (whole_den (pos 1)) (product_of_den p z pd (whole_den (pos 0))) (product_of_den p i pd id)
    (same_sym (product_of p z) z (product_of-zero p)) (same_sym (product_of p i) (whole (pos 1)) (product_of-inverse_of p)) one_above)

not_nothing : (a : Fraction) → 0 < a.den → IsBelow (whole (pos 0)) a → IsSame a (whole (pos 0)) → ⊥
not_nothing a ad above same =
    let z = whole (pos 0) in
    below_irrefl z (below_congr z a z z (whole_den (pos 0)) ad (whole_den (pos 0)) (whole_den (pos 0)) (same_refl z) same above)

-- the quotient of 0
pub no_quotient : (a p : Fraction) → 0 < p.den → p.num ≢ pos 0 → IsSame a (whole (pos 0)) → IsSame (quotient_of a p) (whole (pos 0))
no_quotient a p pd nz e =
    let i = inverse_of p in
    let z = whole (pos 0) in
    same_trans (product_of a i) (product_of z i) z (product_of_den z i (whole_den (pos 0)) (inverse_of_den p nz)) (product_of-same a i z i e (same_refl i)) (zero-product_of i)

pub nothing_taken : (a g l : Fraction) → 0 < a.den → 0 < g.den → 0 < l.den → IsSame g (whole (pos 0)) → IsSame (difference_of a (product_of g l)) a
nothing_taken a g l ad gd ld e =
    same_given (a ∷ g ∷ l ∷ []) (x0 ⊕ minus (x1 ⊗ x2)) x0 ((minus x2, x1, number (pos 0)) ∷ []) (ad, (gd, (ld, tt))) (e, tt) refl

pub all_taken : (g l : Fraction) → 0 < g.den → 0 < l.den → IsSame g (whole (pos 1)) → IsSame (difference_of l (product_of g l)) (whole (pos 0))
all_taken g l gd ld e =
    same_given (g ∷ l ∷ []) (x1 ⊕ minus (x0 ⊗ x1)) (number (pos 0)) ((minus x1, x0, number (pos 1)) ∷ []) (gd, (ld, tt)) (e, tt) refl

-- ---- entries after the pivot
module _ (c : ℕ) (l row : List Fraction) (count : length row ≡ length l) where
  abbrev g : Fraction
  g = quotient_of (entry_of row c) (entry_of l c)

  pub exact_other : (k : ℕ) → k < length row → k ≢ c → entry_of (exact_row c l row) k ≡ difference_of (entry_of row k) (product_of g (entry_of l k))
  exact_other k inside other =
      get_or-set_other (reduced_row row g l) c k g (whole (pos 0)) other
      ∙ get_or-reduced_row row g l k (whole (pos 0)) (whole (pos 0)) (whole (pos 0)) inside (omega (arith, inside, count))

  pub exact_own : c < length row → entry_of (exact_row c l row) c ≡ g
  exact_own inside = get_or-set_same (reduced_row row g l) c g (whole (pos 0)) (let e = length-reduced_row row g l in omega (arith, e, inside))

  pub exact_long : length (exact_row c l row) ≡ length row
  exact_long = length-set (reduced_row row g l) c g ∙ length-reduced_row row g l

-- an entry of a row that is the same place by place
pub same_entry : (x y : List Fraction) (k : ℕ) → AllZip IsSame x y → IsSame (entry_of x k) (entry_of y k)
same_entry [] [] k e = refl
same_entry [] (y ∷ ys) k e = absurd e
same_entry (x ∷ xs) [] k e = absurd e
same_entry (x ∷ xs) (y ∷ ys) zero e = e.0
same_entry (x ∷ xs) (y ∷ ys) (suc k) e = same_entry xs ys k e.1

module _ (c : ℕ) (l : List Fraction) (inside : c < length l) (ld : All HasPositiveDen l) (above : IsBelow (whole (pos 0)) (entry_of l c)) where
  abbrev p : Fraction
  p = entry_of l c

  entering_den : 0 < p.den
  entering_den = entry_den l c ld

  entering_some : p.num ≢ pos 0
  entering_some = above_num p above

  -- ---- the other columns
  other_column : (k : ℕ) → k < length l → k ≢ c → (ts us : List (List Fraction)) → All (λ row. length row ≡ length l) ts → All (λ row. All HasPositiveDen row) ts
      → AllZip (AllZip IsSame) us (map (exact_row c l) ts)
      → AllZip IsSame (column_at us k) (reduced_row (column_at ts k) (quotient_of (entry_of l k) p) (column_at ts c))
  other_column k within other [] [] count d e = tt
  other_column k within other [] (u ∷ us) count d e = absurd e
  other_column k within other (t ∷ ts) [] count d e = absurd e
  other_column k within other (t ∷ ts) (u ∷ us) count d e =
      let long = All-head (λ (row : List Fraction). length row ≡ length l) t ts count in
      let td = All-head (λ (row : List Fraction). All HasPositiveDen row) t ts d in
      let a = entry_of t c in
      let x = entry_of t k in
      let o = entry_of l k in
      let ad = entry_den t c td in
      let xd = entry_den t k td in
      let od = entry_den l k ld in
      let g = quotient_of a p in
      let gd = quotient_of_den a p ad entering_some in
      let first : IsSame (entry_of u k) (difference_of x (product_of g o)) =
      subst (λ (y : Fraction). IsSame (entry_of u k) y) (exact_other c l t long k (omega (arith, within, long)) other) (same_entry u (exact_row c l t) k e.0) in
      let f = quotient_of o p in
      let here : IsSame (entry_of u k) (difference_of x (product_of f a)) =
      same_trans (entry_of u k) (difference_of x (product_of g o)) (difference_of x (product_of f a)) (difference_of_den x (product_of g o) xd (product_of_den g o gd od)) first
      (difference_of-same x (product_of g o) x (product_of f a) (same_refl x) (exchanged a p o ad od entering_some)) in
      (here, other_column k within other ts us (All-tail (λ (row : List Fraction). length row ≡ length l) t ts count) (All-tail (λ (row : List Fraction). All HasPositiveDen row) t ts d) e.1)

  -- ---- the entering column
  own_column : (ts us : List (List Fraction)) → All (λ row. length row ≡ length l) ts → All (λ row. All HasPositiveDen row) ts
      → AllZip (AllZip IsSame) us (map (exact_row c l) ts) → AllZip IsSame (column_at us c) (map (product_of (inverse_of p)) (column_at ts c))
  own_column [] [] count d e = tt
  own_column [] (u ∷ us) count d e = absurd e
  own_column (t ∷ ts) [] count d e = absurd e
  own_column (t ∷ ts) (u ∷ us) count d e =
      let long = All-head (λ (row : List Fraction). length row ≡ length l) t ts count in
      let td = All-head (λ (row : List Fraction). All HasPositiveDen row) t ts d in
      let a = entry_of t c in
      let i = inverse_of p in
      let first : IsSame (entry_of u c) (product_of a i) =
      subst (λ (y : Fraction). IsSame (entry_of u c) y) (exact_own c l t long (omega (arith, inside, long))) (same_entry u (exact_row c l t) c e.0) in
      let here : IsSame (entry_of u c) (product_of i a) =
      same_trans (entry_of u c) (product_of a i) (product_of i a) (product_of_den a i (entry_den t c td) (inverse_of_den p entering_some)) first (product_of_comm a i) in
      (here, own_column ts us (All-tail (λ (row : List Fraction). length row ≡ length l) t ts count) (All-tail (λ (row : List Fraction). All HasPositiveDen row) t ts d) e.1)

  module _ (ts us : List (List Fraction)) (count : All (λ row. length row ≡ length l) ts) (d : All (λ row. All HasPositiveDen row) ts)
      (ud : All (λ row. All HasPositiveDen row) us) (e : AllZip (AllZip IsSame) us (map (exact_row c l) ts)) (falls : IsLexNegative (column_at ts c)) where
    own_negative : IsLexNegative (column_at us c)
    own_negative =
        let i = inverse_of p in
        let id = inverse_of_den p entering_some in
        let cd = column_den ts c d in
        IsLexNegative-same (map (product_of i) (column_at ts c)) (column_at us c)
        (All-map HasPositiveDen (product_of i) (column_at ts c) (λ k z h. product_of_den i (get_or (column_at ts c) k z) id (cd k z h))) (column_den us c ud)
        (all_same_sym (column_at us c) (map (product_of i) (column_at ts c)) (own_column ts us count d e))
        (IsLexNegative-scaled i (column_at ts c) id cd (inverse_above p entering_den above) falls)

    -- once the list of the column without the multiple is negative
    from_reduced : (k : ℕ) → k < length l → k ≢ c → IsLexNegative (reduced_row (column_at ts k) (quotient_of (entry_of l k) p) (column_at ts c)) → IsLexNegative (column_at us k)
    from_reduced k within other h =
        let f = quotient_of (entry_of l k) p in
        let fd = quotient_of_den (entry_of l k) p (entry_den l k ld) entering_some in
        let new = reduced_row (column_at ts k) f (column_at ts c) in
        IsLexNegative-same new (column_at us k) (reduced_row_den (column_at ts k) f (column_at ts c) fd (column_den ts k d) (column_den ts c d)) (column_den us k ud)
        (all_same_sym (column_at us k) new (other_column k within other ts us count d e)) h

-- ---- quotients of columns
quotients_scaled : (rows : List (List Fraction)) (k : ℕ) (p : Fraction) → AllZip IsSame (quotients rows k p) (map (product_of (inverse_of p)) (column_at rows k))
unfolding quotients
quotients_scaled [] k p = tt
quotients_scaled (row ∷ rows) k p = (product_of_comm (entry_of row k) (inverse_of p), quotients_scaled rows k p)

quotients_at : (rows : List (List Fraction)) (k : ℕ) (p : Fraction) (i : ℕ) (d : Fraction) → i < length rows → get_or (quotients rows k p) i d ≡ quotient_of (entry_of (row_at rows i) k) p
unfolding quotients
quotients_at [] k p i d h = absurd (omega (arith, h))
quotients_at (row ∷ rows) k p zero d h = refl
quotients_at (row ∷ rows) k p (suc i) d h = quotients_at rows k p i d (omega (arith, h))

quotients_long : (rows : List (List Fraction)) (k : ℕ) (p : Fraction) → length (quotients rows k p) ≡ length rows
unfolding quotients
quotients_long [] k p = refl
quotients_long (row ∷ rows) k p = ap suc (quotients_long rows k p)

-- two columns over their entries differ where one has a unit row
differ : (rows : List (List Fraction)) (k c : ℕ) (a p : Fraction) (i : ℕ) → 0 < (entry_of (row_at rows i) k).den → 0 < (entry_of (row_at rows i) c).den → 0 < a.den → 0 < p.den → IsBelow (whole (pos 0)) a → IsBelow (whole (pos 0)) p → i < length rows
    → IsSame (entry_of (row_at rows i) k) (whole (pos 1)) → IsSame (entry_of (row_at rows i) c) (whole (pos 0)) → AllZip IsSame (quotients rows k a) (quotients rows c p) → ⊥
differ rows k c a p i xd yd ad pd more above inside one none same =
    let x = entry_of (row_at rows i) k in
    let y = entry_of (row_at rows i) c in
    let z = whole (pos 0) in
    let b = inverse_of a in
    let bd = inverse_of_den a (above_num a more) in
    let at : IsSame (get_or (quotients rows k a) i z) (get_or (quotients rows c p) i z) =
    zip_at IsSame (quotients rows k a) (quotients rows c p) i z z same (let e = quotients_long rows k a in omega (arith, e, inside)) in
    let left : IsSame (quotient_of x a) (get_or (quotients rows c p) i z) = subst (λ (v : Fraction). IsSame v (get_or (quotients rows c p) i z)) (quotients_at rows k a i z inside) at in
    let both : IsSame (quotient_of x a) (quotient_of y p) = subst (λ (v : Fraction). IsSame (quotient_of x a) v) (quotients_at rows c p i z inside) left in
    let is_b : IsSame (quotient_of x a) b = same_trans (product_of x b) (product_of (whole (pos 1)) b) b (product_of_den (whole (pos 1)) b (whole_den (pos 1)) bd)
    (product_of-same x b (whole (pos 1)) b one (same_refl b)) (one-product_of b) in
    let gone : IsSame (quotient_of y p) z = no_quotient y p pd (above_num p above) none in
    not_nothing b bd (inverse_above a ad more)
    (same_trans b (quotient_of x a) z (quotient_of_den x a xd (above_num a more)) (same_sym (quotient_of x a) b is_b) (same_trans (quotient_of x a) (quotient_of y p) z (quotient_of_den y p yd (above_num p above)) both gone))

lists_below : (rows : List (List Fraction)) (k c : ℕ) (a p : Fraction) → 0 < a.den → 0 < p.den → IsBelow (whole (pos 0)) a → IsBelow (whole (pos 0)) p → All (λ row. All HasPositiveDen row) rows
    → IsLexBelow (quotients rows k a) (quotients rows c p) → IsLexNegative (reduced_row (column_at rows k) (quotient_of a p) (column_at rows c))
lists_below rows k c a p ad pd more above d below =
    let i = inverse_of a in
    let j = inverse_of p in
    let id = inverse_of_den a (above_num a more) in
    let jd = inverse_of_den p (above_num p above) in
    let ks = column_at rows k in
    let os = column_at rows c in
    let kd = column_den rows k d in
    let od = column_den rows c d in
    let scaled_d = All-map HasPositiveDen (product_of i) ks (λ n z h. product_of_den i (get_or ks n z) id (kd n z h)) in
    let scaled_e = All-map HasPositiveDen (product_of j) os (λ n z h. product_of_den j (get_or os n z) jd (od n z h)) in
    let lists : IsLexBelow (map (product_of i) ks) (map (product_of j) os) =
    IsLexBelow-same (quotients rows k a) (quotients rows c p) (map (product_of i) ks) (map (product_of j) os)
    (quotients_den rows k a (unsigned_abs-nonzero a.num (above_num a more)) d) (quotients_den rows c p (unsigned_abs-nonzero p.num (above_num p above)) d) scaled_d scaled_e
    (quotients_scaled rows k a) (quotients_scaled rows c p) below in
    let factor : IsSame (product_of i (product_of a j)) j = cancelled a i j ad id jd (product_of-inverse_of a) in
    IsLexNegative-from_below ks i (quotient_of a p) j os id (quotient_of_den a p ad (above_num p above)) jd kd od (inverse_above a ad more) factor lists
  where
    cancelled : (a i j : Fraction) → 0 < a.den → 0 < i.den → 0 < j.den → IsSame (product_of a i) (whole (pos 1)) → IsSame (product_of i (product_of a j)) j
    cancelled a i j ad id jd e =
        same_given (a ∷ i ∷ j ∷ []) (x1 ⊗ (x0 ⊗ x2)) x2 ((x2, x0 ⊗ x1, number (pos 1)) ∷ []) (ad, (id, (jd, tt))) (e, tt) refl

signs : (o : Fraction) → IsSame o (whole (pos 0)) ⊎ (IsBelow o (whole (pos 0)) ⊎ IsBelow (whole (pos 0)) o)
signs o = ⊎_elim (λ le. ⊎_elim (λ ge. inl (at_most_both o (whole (pos 0)) le ge)) (λ less. inr (inl less)) (at_most_or_below (whole (pos 0)) o))
    (λ more. inr (inr more)) (at_most_or_below o (whole (pos 0)))

-- ---- every column
pub column_negative : (c : ℕ) (l : List Fraction) → c < length l → All HasPositiveDen l → IsBelow (whole (pos 0)) (entry_of l c)
    → (ts us : List (List Fraction)) → All (λ row. length row ≡ length l) ts → All (λ row. All HasPositiveDen row) ts → All (λ row. All HasPositiveDen row) us
    → AllZip (AllZip IsSame) us (map (exact_row c l) ts) → IsLexNegative (column_at ts c)
    → (k i : ℕ) → k < length l → IsLexNegative (column_at ts k) → i < length ts → (k ≢ c → IsUnitRow k (row_at ts i))
    → (IsBelow (whole (pos 0)) (entry_of l k) → IsNotAbove (quotients ts k (entry_of l k)) (quotients ts c (entry_of l c)))
    → IsLexNegative (column_at us k)
column_negative c l inside ld above ts us count d ud e falls k i within own below unit greatest =
    ⊎_elim (λ same. subst (λ (n : ℕ). IsLexNegative (column_at us n)) (sym same) (own_negative c l inside ld above ts us count d ud e falls))
    (λ other. from_reduced c l inside ld above ts us count d ud e falls k within other (by_sign other)) (cases_eq k c)
  where
    by_sign : k ≢ c → IsLexNegative (reduced_row (column_at ts k) (quotient_of (entry_of l k) (entry_of l c)) (column_at ts c))
    by_sign other =
        let p = entry_of l c in
        let pd = entry_den l c ld in
        let od = entry_den l k ld in
        let f = quotient_of (entry_of l k) p in
        let fd = quotient_of_den (entry_of l k) p od (above_num p above) in
        let ks = column_at ts k in
        let os = column_at ts c in
        let kd = column_den ts k d in
        let cd = column_den ts c d in
        let row = row_at ts i in
        let rd = d i [] below in
        let long = count i [] below in
        ⊎_elim (λ none. IsLexNegative-reduced_row_zero ks f os fd kd cd (no_quotient (entry_of l k) p pd (above_num p above) none) own)
        (⊎_elim (λ negative. IsLexNegative-reduced_row ks f os fd kd cd (quotient_below (entry_of l k) p od pd negative above) own falls)
        (λ more. ⊎_elim (λ less. lists_below ts k c (entry_of l k) p od pd more above d less)
        (λ same. absurd (differ ts k c (entry_of l k) p i (entry_den row k rd) (entry_den row c rd) od pd more above below (unit other).one
        ((unit other).zeros c (omega (arith, inside, long)) (λ e. other (sym e))) same)) (greatest more)))
        (signs (entry_of l k))
