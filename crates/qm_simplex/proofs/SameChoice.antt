-- The rule in checked fractions and the rule in unbounded fractions name the same at tableaus with the same numbers.
use Rattle.std.proofs.Common.{◌≡◌, ◌∙◌, refl, sym, ap, subst, ℕ, suc, ◌+◌, ◌<◌, Bool, true, false, List, [], ◌∷◌, drop, arith, All, Option, Some, None, Ok, ℤ, pos, ◌*ℤ◌, ◌<ℤ◌, unsigned_abs, Ordering, Less, Equal, Greater, if◌then◌else◌, int_lt}
use Rattle.std.specs.List.{AllZip}
use Rattle.std.specs.Ordering.{MatchOrdering}
use Rattle.std.specs.Cmp.{int_ranks}
use Rattle.std.proofs.lemmas.Int.{ints}
use Rattle.std.proofs.lemmas.List.Elements.{All-head, All-tail}
use Rattle.qm_math.specs.Fraction.{Fraction, HasPositiveDen, IsBelow, IsSame, is_below}
use Rattle.qm_math.specs.Arithmetic.{quotient_of}
use Rattle.qm_math.proofs.FractionLaws.{quotient_of-same, quotient_of_den, same_sym, same_trans}
use Rattle.qm_math.proofs.FractionOrder.{below_congr, same_above, same_below}
use Rattle.qm_math.proofs.WholeTests.{lt_of_test, test_of_lt}
use Rattle.qm_math.proofs.Magnitudes.{unsigned_abs-above_zero}
use Rattle.qm_frac.specs.Checked.{divided}
use Rattle.qm_frac.specs.Order.{fraction_cmp}
use Rattle.qm_frac.proofs.CheckedLaws.{IsFrac-divided, divided-value}
use Rattle.qm_tableau.specs.declared.choice.Choice.{Choice}
use Rattle.qm_tableau.specs.declared.choice.Choice.TheVariants as choice
use Rattle.qm_tableau.specs.Tables.{Table, entry_of, row_at}
use Rattle.qm_tableau.specs.Leaving.{Placed, placed, next}
use Rattle.qm_tableau.specs.Rule.{choice_at, choice_of, chosen, entering_column, greater_column, is_greater, leaving_row}
use Rattle.qm_tableau.specs.Exact.{AreSameTables}
use Rattle.qm_tableau.proofs.Exactness.{entry_den, next-ok, not_zero, placed-ok, same_value}
use Rattle.qm_tableau.proofs.PivotColumns.{same_entry}
use Rattle.qm_tableau.proofs.Greatest.{entry_of-drop}
use Rattle.qm_simplex.specs.Exact.{exact_choice, exact_choice_at, exact_entering_column, exactly_greater_column, is_exactly_greater}
use Rattle.qm_simplex.proofs.SameTables.{row_at_den, same_row_at}

-- ---- tests
test_of_not : (a b : ℤ) → (a <ℤ b → ⊥) → int_lt a b ≡ false
test_of_not a b none = by_test (int_lt a b) refl
  where
    by_test : (x : Bool) → int_lt a b ≡ x → x ≡ false
    by_test true e = absurd (none (lt_of_test a b e))
    by_test false e = refl

same_test : (a b c d : ℤ) → (a <ℤ b → c <ℤ d) → (c <ℤ d → a <ℤ b) → int_lt a b ≡ int_lt c d
same_test a b c d f g = by_test (int_lt a b) refl
  where
    by_test : (x : Bool) → int_lt a b ≡ x → x ≡ int_lt c d
    by_test true e = sym (test_of_lt c d (f (lt_of_test a b e)))
    by_test false e = sym (test_of_not c d (λ h. (let yes : int_lt a b ≡ true = test_of_lt a b (g h) in absurd (cc))))

negative_test : (a b : Fraction) → 0 < a.den → 0 < b.den → IsSame a b → int_lt a.num (pos 0) ≡ int_lt b.num (pos 0)
negative_test a b ad bd e = same_test a.num (pos 0) b.num (pos 0) (same_below a b ad bd e) (same_below b a bd ad (same_sym a b e))

positive_test : (a b : Fraction) → 0 < a.den → 0 < b.den → IsSame a b → int_lt (pos 0) a.num ≡ int_lt (pos 0) b.num
positive_test a b ad bd e = same_test (pos 0) a.num (pos 0) b.num (same_above a b ad bd e) (same_above b a bd ad (same_sym a b e))

-- ---- the leaving row
leaving_same : (i : ℕ) (ts us : List (List Fraction)) → AllZip (AllZip IsSame) ts us → All (λ row. All HasPositiveDen row) ts → All (λ row. All HasPositiveDen row) us
    → leaving_row i ts ≡ leaving_row i us
leaving_same i [] [] e td ud = refl
leaving_same i [] (u ∷ us) e td ud = absurd e
leaving_same i (t ∷ ts) [] e td ud = absurd e
leaving_same i (t ∷ ts) (u ∷ us) e td ud =
    let t0 = All-head (λ (r : List Fraction). All HasPositiveDen r) t ts td in
    let u0 = All-head (λ (r : List Fraction). All HasPositiveDen r) u us ud in
    joined (int_lt (entry_of t 0).num (pos 0)) (int_lt (entry_of u 0).num (pos 0))
    (negative_test (entry_of t 0) (entry_of u 0) (entry_den t 0 t0) (entry_den u 0 u0) (same_entry t u 0 e.0))
    (leaving_same (suc i) ts us e.1 (All-tail (λ (r : List Fraction). All HasPositiveDen r) t ts td) (All-tail (λ (r : List Fraction). All HasPositiveDen r) u us ud))
  where
    joined : (x y : Bool) → x ≡ y → leaving_row (suc i) ts ≡ leaving_row (suc i) us
        → (let z : Option ℕ = if x then Some i else leaving_row (suc i) ts in z) ≡ (let z : Option ℕ = if y then Some i else leaving_row (suc i) us in z)
    joined true true e k = refl
    joined true false e k = absurd (cc)
    joined false true e k = absurd (cc)
    joined false false e k = k

all_behind : (ts : List (List Fraction)) → All (λ row. All HasPositiveDen row) ts → All (λ row. All HasPositiveDen row) (drop 1 ts)
all_behind [] d = d
all_behind (t ∷ ts) d = All-tail (λ (r : List Fraction). All HasPositiveDen r) t ts d

rows_behind : (ts us : List (List Fraction)) → AllZip (AllZip IsSame) ts us → AllZip (AllZip IsSame) (drop 1 ts) (drop 1 us)
rows_behind [] [] e = tt
rows_behind [] (u ∷ us) e = absurd e
rows_behind (t ∷ ts) [] e = absurd e
rows_behind (t ∷ ts) (u ∷ us) e = e.1

numbers_behind : (xs ys : List Fraction) → AllZip IsSame xs ys → AllZip IsSame (drop 1 xs) (drop 1 ys)
numbers_behind [] [] e = tt
numbers_behind [] (y ∷ ys) e = absurd e
numbers_behind (x ∷ xs) [] e = absurd e
numbers_behind (x ∷ xs) (y ∷ ys) e = e.1

-- ---- one column against another
-- the two tests of the quotients x and y
abbrev by_tests : Bool → Bool → Bool → Bool
by_tests above below rest = if above then true else (if below then false else rest)

lesser : (above below rest : Bool) → above ≡ false → below ≡ true → by_tests above below rest ≡ false
lesser true below rest a b = absurd (cc)
lesser false true rest a b = refl
lesser false false rest a b = absurd (cc)

neither : (above below rest : Bool) → above ≡ false → below ≡ false → by_tests above below rest ≡ rest
neither true below rest a b = absurd (cc)
neither false true rest a b = absurd (cc)
neither false false rest a b = refl

greater : (above below rest : Bool) → above ≡ true → by_tests above below rest ≡ true
greater true below rest a = refl
greater false below rest a = absurd (cc)

-- p and q are entries in the leaving row of the first tableau, v and w those of the second
module _ (k : ℕ) (p v : Fraction) (b : ℕ) (q w : Fraction) (p_some : 0 < unsigned_abs p.num) (v_some : 0 < unsigned_abs v.num) (q_some : 0 < unsigned_abs q.num)
    (w_some : 0 < unsigned_abs w.num) (pv : IsSame p v) (qw : IsSame q w) where
  greater_same : (i : ℕ) (ts us : List (List Fraction)) (r : Bool) → AllZip (AllZip IsSame) ts us → All (λ row. All HasPositiveDen row) ts → All (λ row. All HasPositiveDen row) us
      → is_greater k p b q i ts ≡ Ok r → is_exactly_greater k v b w us ≡ r
  greater_same i [] [] r e td ud h = same_value false r h
  greater_same i [] (u ∷ us) r e td ud h = absurd e
  greater_same i (t ∷ ts) [] r e td ud h = absurd e
  greater_same i (t ∷ ts) (u ∷ us) r e td ud h =
      let t0 = All-head (λ (l : List Fraction). All HasPositiveDen l) t ts td in
      let u0 = All-head (λ (l : List Fraction). All HasPositiveDen l) u us ud in
      let m = entry_of t k in
      let n = entry_of t b in
      let md = entry_den t k t0 in
      let nd = entry_den t b t0 in
      let first = next-ok (placed i k (divided m p)) _ r h in
      let second = next-ok (placed i b (divided n q)) _ r first.2 in
      let x = first.0 in
      let y = second.0 in
      let x_is : divided m p ≡ Ok x = placed-ok i k (divided m p) x first.1 in
      let y_is : divided n q ≡ Ok y = placed-ok i b (divided n q) y second.1 in
      let f = quotient_of (entry_of u k) v in
      let g = quotient_of (entry_of u b) w in
      by_order x y f g (IsFrac-divided m p x md p_some x_is).positive (IsFrac-divided n q y nd q_some y_is).positive
      (quotient_of_den (entry_of u k) v (entry_den u k u0) (not_zero v.num v_some)) (quotient_of_den (entry_of u b) w (entry_den u b u0) (not_zero w.num w_some))
      (same_trans x (quotient_of m p) f (quotient_of_den m p md (not_zero p.num p_some)) (divided-value m p x x_is) (quotient_of-same m p (entry_of u k) v (same_entry t u k e.0) pv))
      (same_trans y (quotient_of n q) g (quotient_of_den n q nd (not_zero q.num q_some)) (divided-value n q y y_is) (quotient_of-same n q (entry_of u b) w (same_entry t u b e.0) qw))
      (fraction_cmp x y) refl
      (λ z. greater_same (suc i) ts us r e.1 (All-tail (λ (l : List Fraction). All HasPositiveDen l) t ts td) (All-tail (λ (l : List Fraction). All HasPositiveDen l) u us ud) z) second.2
    where
      by_order : (x y f g : Fraction) → 0 < x.den → 0 < y.den → 0 < f.den → 0 < g.den → IsSame x f → IsSame y g
          → (o : Ordering) → fraction_cmp x y ≡ o → (is_greater k p b q (suc i) ts ≡ Ok r → is_exactly_greater k v b w us ≡ r)
          → (let z : Placed Bool = elim o [ Less ↦ Ok false | Equal ↦ is_greater k p b q (suc i) ts | Greater ↦ Ok true ] in z) ≡ Ok r
          → by_tests (is_below g f) (is_below f g) (is_exactly_greater k v b w us) ≡ r
      by_order x y f g xd yd fd gd e n Less o later z =
          let ranked : MatchOrdering Less (IsBelow x y) (IsSame x y) (IsBelow y x) =
          subst (λ (o : Ordering). MatchOrdering o (IsBelow x y) (IsSame x y) (IsBelow y x)) o (int_ranks (x.num *ℤ pos y.den) (y.num *ℤ pos x.den)) in
          let below : IsBelow f g = below_congr x y f g xd yd fd gd e n ranked in
          lesser (is_below g f) (is_below f g) (is_exactly_greater k v b w us) (test_of_not (g.num *ℤ pos f.den) (f.num *ℤ pos g.den) (λ h. omega (arith, ints, h, below)))
          (test_of_lt (f.num *ℤ pos g.den) (g.num *ℤ pos f.den) below) ∙ same_value false r z
      by_order x y f g xd yd fd gd e n Equal o later z =
          let ranked : MatchOrdering Equal (IsBelow x y) (IsSame x y) (IsBelow y x) =
          subst (λ (o : Ordering). MatchOrdering o (IsBelow x y) (IsSame x y) (IsBelow y x)) o (int_ranks (x.num *ℤ pos y.den) (y.num *ℤ pos x.den)) in
          let even : IsSame f g = same_trans f x g xd (same_sym x f e) (same_trans x y g yd ranked n) in
          neither (is_below g f) (is_below f g) (is_exactly_greater k v b w us) (test_of_not (g.num *ℤ pos f.den) (f.num *ℤ pos g.den) (λ h. omega (arith, ints, h, even)))
          (test_of_not (f.num *ℤ pos g.den) (g.num *ℤ pos f.den) (λ h. omega (arith, ints, h, even))) ∙ later z
      by_order x y f g xd yd fd gd e n Greater o later z =
          let ranked : MatchOrdering Greater (IsBelow x y) (IsSame x y) (IsBelow y x) =
          subst (λ (o : Ordering). MatchOrdering o (IsBelow x y) (IsSame x y) (IsBelow y x)) o (int_ranks (x.num *ℤ pos y.den) (y.num *ℤ pos x.den)) in
          let above : IsBelow g f = below_congr y x g f yd xd gd fd n e ranked in
          greater (is_below g f) (is_below f g) (is_exactly_greater k v b w us) (test_of_lt (g.num *ℤ pos f.den) (f.num *ℤ pos g.den) above) ∙ same_value true r z

-- ---- the greatest column
module _ (ts us : List (List Fraction)) (l m : List Fraction) (e : AllZip (AllZip IsSame) ts us) (le : AllZip IsSame l m) (td : All (λ row. All HasPositiveDen row) ts)
    (ud : All (λ row. All HasPositiveDen row) us) (ld : All HasPositiveDen l) (md : All HasPositiveDen m) where
  -- the entry in the leaving row is positive, in both tableaus
  IsEntering : ℕ → Type 0
  IsEntering j = pos 0 <ℤ (entry_of l j).num

  AreEntering : Option ℕ → Type 0
  AreEntering None = Unit {0}
  AreEntering (Some j) = IsEntering j

  other_entering : (j : ℕ) → IsEntering j → pos 0 <ℤ (entry_of m j).num
  unfolding IsEntering
  other_entering j h = same_above (entry_of l j) (entry_of m j) (entry_den l j ld) (entry_den m j md) (same_entry l m j le) h

  column_same : (k : ℕ) (best : Option ℕ) (c : ℕ) → IsEntering k → AreEntering best → greater_column ts l k best ≡ Ok c
      → (exactly_greater_column us m k best ≡ c) × IsEntering c
  unfolding AreEntering IsEntering
  column_same k None c kh bh h = (same_value k c h, subst (λ (j : ℕ). pos 0 <ℤ (entry_of l j).num) (same_value k c h) kh)
  column_same k (Some b) c kh bh h =
      let first = next-ok (is_greater k (entry_of l k) b (entry_of l b) 0 ts) (λ greater. Ok (if greater then k else b)) c h in
      let same : is_exactly_greater k (entry_of m k) b (entry_of m b) us ≡ first.0 =
      greater_same k (entry_of l k) (entry_of m k) b (entry_of l b) (entry_of m b) (unsigned_abs-above_zero (entry_of l k).num kh) (unsigned_abs-above_zero (entry_of m k).num (other_entering k kh))
      (unsigned_abs-above_zero (entry_of l b).num bh) (unsigned_abs-above_zero (entry_of m b).num (other_entering b bh)) (same_entry l m k le) (same_entry l m b le) 0 ts us first.0 e td ud first.1 in
      let is : (if first.0 then k else b) ≡ c = same_value (if first.0 then k else b) c first.2 in
      (ap (λ (x : Bool). if x then k else b) same ∙ is, subst (λ (j : ℕ). pos 0 <ℤ (entry_of l j).num) is (by_answer first.0))
    where
      by_answer : (x : Bool) → pos 0 <ℤ (entry_of l (let z : ℕ = if x then k else b in z)).num
      by_answer true = kh
      by_answer false = bh

  entering_same : (xs ys : List Fraction) (k : ℕ) (best r : Option ℕ) → AllZip IsSame xs ys → All HasPositiveDen xs → All HasPositiveDen ys
      → ((j : ℕ) → entry_of xs j ≡ entry_of l (k + j)) → AreEntering best → entering_column ts l k best xs ≡ Ok r → exact_entering_column us m k best ys ≡ r
  unfolding AreEntering IsEntering
  entering_same [] [] k best r s xd yd at bh h = same_value best r h
  entering_same [] (y ∷ ys) k best r s xd yd at bh h = absurd s
  entering_same (x ∷ xs) [] k best r s xd yd at bh h = absurd s
  entering_same (x ∷ xs) (y ∷ ys) k best r s xd yd at bh h =
      by_test (int_lt (pos 0) x.num) (int_lt (pos 0) y.num) refl (positive_test x y (All-head HasPositiveDen x xs xd) (All-head HasPositiveDen y ys yd) s.0)
      (λ new nh g. entering_same xs ys (suc k) new r s.1 (All-tail HasPositiveDen x xs xd) (All-tail HasPositiveDen y ys yd)
      (λ j. at (suc j) ∙ ap (λ (n : ℕ). entry_of l n) (let q : k + suc j ≡ suc k + j = omega arith in q)) nh g) h
    where
      here : x ≡ entry_of l k
      here = at 0 ∙ ap (λ (n : ℕ). entry_of l n) (let q : k + 0 ≡ k = omega arith in q)

      by_test : (a b : Bool) → int_lt (pos 0) x.num ≡ a → a ≡ b
          → ((new : Option ℕ) → AreEntering new → entering_column ts l (suc k) new xs ≡ Ok r → exact_entering_column us m (suc k) new ys ≡ r)
          → (let z : Placed (Option ℕ) = if a then next (greater_column ts l k best) (λ c. entering_column ts l (suc k) (Some c) xs) else entering_column ts l (suc k) best xs in z) ≡ Ok r
          → (let z : Option ℕ = if b then exact_entering_column us m (suc k) (Some (exactly_greater_column us m k best)) ys else exact_entering_column us m (suc k) best ys in z) ≡ r
      by_test true true q both later g =
          let more : pos 0 <ℤ x.num = lt_of_test (pos 0) x.num q in
          let kh : pos 0 <ℤ (entry_of l k).num = subst (λ (z : Fraction). pos 0 <ℤ z.num) here more in
          let first = next-ok (greater_column ts l k best) (λ c. entering_column ts l (suc k) (Some c) xs) r g in
          let named = column_same k best first.0 kh bh first.1 in
          ap (λ (c : ℕ). exact_entering_column us m (suc k) (Some c) ys) named.0 ∙ later (Some first.0) named.1 first.2
      by_test true false q both later g = absurd (cc)
      by_test false true q both later g = absurd (cc)
      by_test false false q both later g = later best bh g

-- ---- the choice
den_behind : (row : List Fraction) → All HasPositiveDen row → All HasPositiveDen (drop 1 row)
den_behind [] d = d
den_behind (t ∷ ts) d = All-tail HasPositiveDen t ts d

pub choice_same : (t u : Table) (named : Choice) → AreSameTables t u → All (λ row. All HasPositiveDen row) t.rows → All (λ row. All HasPositiveDen row) u.rows
    → chosen t ≡ Ok named → exact_choice u ≡ named
unfolding AreEntering
choice_same t u named e td ud h =
    ap (λ (s : Option ℕ). exact_choice_at u.rows s)
    (sym (leaving_same 1 (drop 1 t.rows) (drop 1 u.rows) (rows_behind t.rows u.rows e.rows) (all_behind t.rows td) (all_behind u.rows ud)))
    ∙ by_row (leaving_row 1 (drop 1 t.rows)) h
  where
    same_choice : (x y : Choice) → (let z : Placed Choice = Ok x in z) ≡ Ok y → x ≡ y
    same_choice x y q = same_value x y q

    by_row : (s : Option ℕ) → choice_at t.rows s ≡ Ok named → exact_choice_at u.rows s ≡ named
    by_row None g = same_choice choice.Done named g
    by_row (Some s) g =
        let l = row_at t.rows s in
        let m = row_at u.rows s in
        let ld = row_at_den t.rows s td in
        let md = row_at_den u.rows s ud in
        let le = same_row_at t.rows u.rows s e.rows in
        let steps = next-ok (entering_column t.rows l 1 None (drop 1 l)) (λ best. Ok (choice_of s best)) named g in
        let same = entering_same t.rows u.rows l m e.rows le td ud ld md (drop 1 l) (drop 1 m) 1 None steps.0 (numbers_behind l m le) (den_behind l ld) (den_behind m md) (entry_of-drop l) tt steps.1 in
        ap (λ (best : Option ℕ). choice_of s best) same ∙ same_choice (choice_of s steps.0) named steps.2
