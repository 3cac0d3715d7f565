-- What the rule's choice says of the leaving row and of the entering column.
use Rattle.std.proofs.Common.{◌≡◌, ◌∙◌, refl, sym, ap, subst, ℕ, suc, ◌+◌, ◌<◌, ◌≤◌, ◌⊎◌, inl, inr, ⊎_elim, Bool, true, false, List, [], ◌∷◌, length, drop, arith, All, Option, Some, None, Ok, pos, ◌*ℤ◌, ◌<ℤ◌, unsigned_abs, Ordering, Less, Equal, Greater, if◌then◌else◌, int_lt}
use Rattle.std.specs.List.{AllZip}
use Rattle.std.specs.Ordering.{MatchOrdering}
use Rattle.std.specs.Cmp.{int_ranks}
use Rattle.std.proofs.lemmas.Bool.{cases_order}
use Rattle.std.proofs.lemmas.List.Elements.{All-cons, All-head, All-nil, All-tail}
use Rattle.qm_math.specs.Fraction.{Fraction, HasPositiveDen, IsBelow, IsSame}
use Rattle.qm_math.specs.Arithmetic.{quotient_of}
use Rattle.qm_math.specs.Lexicographic.{IsLexBelow}
use Rattle.qm_math.proofs.FractionLaws.{quotient_of_den, same_sym, same_trans}
use Rattle.qm_math.proofs.FractionOrder.{below_congr}
use Rattle.qm_math.proofs.Lexicographic.{IsLexBelow-trans}
use Rattle.qm_math.proofs.SameLists.{IsLexBelow-same, all_same_refl, all_same_sym}
use Rattle.qm_math.proofs.WholeTests.{lt_of_test, test_of_lt}
use Rattle.qm_math.proofs.Magnitudes.{unsigned_abs-above_zero}
use Rattle.qm_frac.specs.Checked.{divided}
use Rattle.qm_frac.specs.Order.{fraction_cmp}
use Rattle.qm_frac.proofs.CheckedLaws.{IsFrac-divided, divided-value}
use Rattle.qm_tableau.specs.declared.choice.Choice.{Choice}
use Rattle.qm_tableau.specs.declared.choice.Choice.TheVariants as choice
use Rattle.qm_tableau.specs.Tables.{Table, entry_of, row_at}
use Rattle.qm_tableau.specs.Leaving.{Placed, placed, next}
use Rattle.qm_tableau.specs.Rule.{choice_at, choice_of, chosen, entering_column, greater_column, is_greater, leaving_row}
use Rattle.qm_tableau.proofs.Exactness.{entry_den, next-ok, not_zero, placed-ok, same_value}

-- ---- the leaving row
pub leaving_is : (i : ℕ) (rows : List (List Fraction)) (r : ℕ) → leaving_row i rows ≡ Some r
    → (k : ℕ) × (r ≡ i + k) × (k < length rows) × ((entry_of (row_at rows k) 0).num <ℤ pos 0)
leaving_is i [] r h = absurd (cc)
leaving_is i (row ∷ rows) r h = by_test (int_lt (entry_of row 0).num (pos 0)) refl (λ g. leaving_is (suc i) rows r g) h
  where
    by_test : (b : Bool) → int_lt (entry_of row 0).num (pos 0) ≡ b
        → (leaving_row (suc i) rows ≡ Some r → (k : ℕ) × (r ≡ suc i + k) × (k < length rows) × ((entry_of (row_at rows k) 0).num <ℤ pos 0))
        → (let z : Option ℕ = if b then Some i else leaving_row (suc i) rows in z) ≡ Some r
        → (k : ℕ) × (r ≡ i + k) × (k < length (row ∷ rows)) × ((entry_of (row_at (row ∷ rows) k) 0).num <ℤ pos 0)
    by_test true e later g =
        let same : i ≡ r = cc in
        (0, omega (arith, same), omega arith, lt_of_test (entry_of row 0).num (pos 0) e)
    by_test false e later g =
        let rest = later g in
        (suc rest.0, (let is = rest.1 in omega (arith, is)), (let below = rest.2 in omega (arith, below)), rest.3)

-- ---- one column against another
-- the column over p
unfoldable pub quotients : List (List Fraction) → ℕ → Fraction → List Fraction
quotients [] k p = []
quotients (row ∷ rows) k p = quotient_of (entry_of row k) p ∷ quotients rows k p

pub quotients_den : (rows : List (List Fraction)) (k : ℕ) (p : Fraction) → 0 < unsigned_abs p.num → All (λ row. All HasPositiveDen row) rows → All HasPositiveDen (quotients rows k p)
unfolding quotients
quotients_den [] k p some d = All-nil HasPositiveDen
quotients_den (row ∷ rows) k p some d =
    All-cons HasPositiveDen (quotient_of (entry_of row k) p) (quotients rows k p)
    (quotient_of_den (entry_of row k) p (entry_den row k (All-head (λ (r : List Fraction). All HasPositiveDen r) row rows d)) (not_zero p.num some))
    (quotients_den rows k p some (All-tail (λ (r : List Fraction). All HasPositiveDen r) row rows d))

abbrev pub IsNotAbove : List Fraction → List Fraction → Type 0
IsNotAbove xs ys = IsLexBelow xs ys ⊎ AllZip IsSame xs ys

-- what the answer of a comparison says
Says : Bool → List Fraction → List Fraction → Type 0
Says true xs ys = IsLexBelow ys xs
Says false xs ys = IsNotAbove xs ys

says_more : (r : Bool) (x y : Fraction) (xs ys : List Fraction) → IsSame x y → Says r xs ys → Says r (x ∷ xs) (y ∷ ys)
unfolding Says
says_more true x y xs ys e h = inr (same_sym x y e, h)
says_more false x y xs ys e h = ⊎_elim (λ below. inl (inr (e, below))) (λ all. inr (e, all)) h

module _ (k : ℕ) (p : Fraction) (b : ℕ) (q : Fraction) (p_some : 0 < unsigned_abs p.num) (q_some : 0 < unsigned_abs q.num) where
  compared : (i : ℕ) (rows : List (List Fraction)) (r : Bool) → All (λ row. All HasPositiveDen row) rows → is_greater k p b q i rows ≡ Ok r
      → Says r (quotients rows k p) (quotients rows b q)
  unfolding Says quotients
  compared i [] r d h = subst (λ (s : Bool). Says s (quotients [] k p) (quotients [] b q)) (same_value false r h) (inr tt)
  compared i (row ∷ rows) r d h =
      let rd = All-head (λ (l : List Fraction). All HasPositiveDen l) row rows d in
      let m = entry_of row k in
      let n = entry_of row b in
      let md = entry_den row k rd in
      let nd = entry_den row b rd in
      let first = next-ok (placed i k (divided m p)) _ r h in
      let second = next-ok (placed i b (divided n q)) _ r first.2 in
      let x = first.0 in
      let y = second.0 in
      let x_is : divided m p ≡ Ok x = placed-ok i k (divided m p) x first.1 in
      let y_is : divided n q ≡ Ok y = placed-ok i b (divided n q) y second.1 in
      by_order x y (quotient_of m p) (quotient_of n q) (IsFrac-divided m p x md p_some x_is).positive (IsFrac-divided n q y nd q_some y_is).positive
      (quotient_of_den m p md (not_zero p.num p_some)) (quotient_of_den n q nd (not_zero q.num q_some)) (divided-value m p x x_is) (divided-value n q y y_is)
      (fraction_cmp x y) refl (λ g. compared (suc i) rows r (All-tail (λ (l : List Fraction). All HasPositiveDen l) row rows d) g) second.2
    where
      by_order : (x y u v : Fraction) → 0 < x.den → 0 < y.den → 0 < u.den → 0 < v.den → IsSame x u → IsSame y v
          → (o : Ordering) → fraction_cmp x y ≡ o → (is_greater k p b q (suc i) rows ≡ Ok r → Says r (quotients rows k p) (quotients rows b q))
          → (let z : Placed Bool = elim o [ Less ↦ Ok false | Equal ↦ is_greater k p b q (suc i) rows | Greater ↦ Ok true ] in z) ≡ Ok r
          → Says r (u ∷ quotients rows k p) (v ∷ quotients rows b q)
      by_order x y u v xd yd ud vd e f Less o later g =
          let ranked : MatchOrdering Less (IsBelow x y) (IsSame x y) (IsBelow y x) =
          subst (λ (o : Ordering). MatchOrdering o (IsBelow x y) (IsSame x y) (IsBelow y x)) o (int_ranks (x.num *ℤ pos y.den) (y.num *ℤ pos x.den)) in
          let below : IsBelow x y = ranked in
          subst (λ (s : Bool). Says s (u ∷ quotients rows k p) (v ∷ quotients rows b q)) (same_value false r g) (inl (inl (below_congr x y u v xd yd ud vd e f below)))
      by_order x y u v xd yd ud vd e f Equal o later g =
          let ranked : MatchOrdering Equal (IsBelow x y) (IsSame x y) (IsBelow y x) =
          subst (λ (o : Ordering). MatchOrdering o (IsBelow x y) (IsSame x y) (IsBelow y x)) o (int_ranks (x.num *ℤ pos y.den) (y.num *ℤ pos x.den)) in
          let same : IsSame x y = ranked in
          says_more r u v (quotients rows k p) (quotients rows b q) (same_trans u x v xd (same_sym x u e) (same_trans x y v yd same f))
          (later g)
      by_order x y u v xd yd ud vd e f Greater o later g =
          let ranked : MatchOrdering Greater (IsBelow x y) (IsSame x y) (IsBelow y x) =
          subst (λ (o : Ordering). MatchOrdering o (IsBelow x y) (IsSame x y) (IsBelow y x)) o (int_ranks (x.num *ℤ pos y.den) (y.num *ℤ pos x.den)) in
          let above : IsBelow y x = ranked in
          subst (λ (s : Bool). Says s (u ∷ quotients rows k p) (v ∷ quotients rows b q)) (same_value true r g) (inl (below_congr y x v u yd xd vd ud f e above))

-- ---- the greatest column
module _ (rows : List (List Fraction)) (leaving : List Fraction) (d : All (λ row. All HasPositiveDen row) rows) where
  abbrev IsCandidate : ℕ → Type 0
  IsCandidate j = pos 0 <ℤ (entry_of leaving j).num

  abbrev over_entry : ℕ → List Fraction
  over_entry j = quotients rows j (entry_of leaving j)

  -- the best among the columns below n
  IsBest : ℕ → Option ℕ → Type 0
  IsBest n None = (j : ℕ) → 1 ≤ j → j < n → IsCandidate j → ⊥
  IsBest n (Some b) = (1 ≤ b) × (b < n) × IsCandidate b × ((j : ℕ) → 1 ≤ j → j < n → IsCandidate j → IsNotAbove (over_entry j) (over_entry b))

  over_den : (j : ℕ) → IsCandidate j → All HasPositiveDen (over_entry j)
  over_den j h = quotients_den rows j (entry_of leaving j) (unsigned_abs-above_zero (entry_of leaving j).num h) d

  moved_up : (j b k : ℕ) → IsCandidate j → IsCandidate b → IsCandidate k → IsNotAbove (over_entry j) (over_entry b) → IsLexBelow (over_entry b) (over_entry k)
      → IsNotAbove (over_entry j) (over_entry k)
  moved_up j b k hj hb hk first below =
      ⊎_elim (λ less. inl (IsLexBelow-trans (over_entry j) (over_entry b) (over_entry k) (over_den j hj) (over_den b hb) (over_den k hk) less below))
      (λ same. inl (IsLexBelow-same (over_entry b) (over_entry k) (over_entry j) (over_entry k) (over_den b hb) (over_den k hk) (over_den j hj) (over_den k hk)
      (all_same_sym (over_entry j) (over_entry b) same) (all_same_refl (over_entry k)) below)) first

  -- column k is compared too
  compared_up_to : (n b : ℕ) → 1 ≤ b → b < suc n → IsCandidate b
      → ((j : ℕ) → 1 ≤ j → j < n → IsCandidate j → IsNotAbove (over_entry j) (over_entry b))
      → IsNotAbove (over_entry n) (over_entry b)
      → (j : ℕ) → 1 ≤ j → j < suc n → IsCandidate j → IsNotAbove (over_entry j) (over_entry b)
  compared_up_to n b some below candidate earlier here j from inside jc =
      ⊎_elim (λ e. subst (λ (m : ℕ). IsNotAbove (over_entry m) (over_entry b)) (sym e) here)
      (⊎_elim (λ less. earlier j from less jc) (λ more. absurd (omega (arith, inside, more)))) (cases_order j n)

  with_candidate : (k : ℕ) (best : Option ℕ) (c : ℕ) → 1 ≤ k → IsCandidate k → IsBest k best → greater_column rows leaving k best ≡ Ok c → IsBest (suc k) (Some c)
  unfolding IsBest Says
  with_candidate k None c from candidate best h =
      subst (λ (m : ℕ). IsBest (suc k) (Some m)) (same_value k c h)
      (from, omega arith, candidate, compared_up_to k k from (omega arith) candidate (λ j f inside jc. absurd (best j f inside jc)) (inr (all_same_refl (over_entry k))))
  with_candidate k (Some b) c from candidate best h =
      let first = next-ok (is_greater k (entry_of leaving k) b (entry_of leaving b) 0 rows) (λ greater. Ok (if greater then k else b)) c h in
      let says = compared k (entry_of leaving k) b (entry_of leaving b) (unsigned_abs-above_zero (entry_of leaving k).num candidate) (unsigned_abs-above_zero (entry_of leaving b).num best.2) 0 rows first.0 d first.1 in
      by_answer first.0 says (same_value (if first.0 then k else b) c first.2)
    where
      by_answer : (g : Bool) → Says g (over_entry k) (over_entry b) → (let z : ℕ = if g then k else b in z) ≡ c → IsBest (suc k) (Some c)
      by_answer true says e =
          subst (λ (m : ℕ). IsBest (suc k) (Some m)) e (
            from,
            omega arith,
            candidate,
            compared_up_to k k from (omega arith) candidate
                (λ j f inside jc. moved_up j b k jc best.2 candidate (best.3 j f inside jc) says) (inr (all_same_refl (over_entry k))),
          )
      by_answer false says e =
          let below : b < suc k = (let g = best.1 in omega (arith, g)) in
          subst (λ (m : ℕ). IsBest (suc k) (Some m)) e (best.0, below, best.2, compared_up_to k b best.0 below best.2 best.3 says)

  -- column k is no candidate
  without : (k : ℕ) (best : Option ℕ) → (IsCandidate k → ⊥) → IsBest k best → IsBest (suc k) best
  unfolding IsBest
  without k None none best =
      λ j from inside jc. ⊎_elim (λ e. none (subst IsCandidate e jc)) (⊎_elim (λ less. best j from less jc) (λ more. absurd (omega (arith, inside, more)))) (cases_order j k)
  without k (Some b) none best = (
    best.0,
    (let g = best.1 in omega (arith, g)),
    best.2,
    (λ j from inside jc.
        ⊎_elim (λ e. absurd (none (subst IsCandidate e jc))) (⊎_elim (λ less. best.3 j from less jc) (λ more. absurd (omega (arith, inside, more)))) (cases_order j k)),
  )

  greatest : (ts : List Fraction) (k : ℕ) (best r : Option ℕ) → 1 ≤ k → ((j : ℕ) → entry_of ts j ≡ entry_of leaving (k + j)) → IsBest k best
      → entering_column rows leaving k best ts ≡ Ok r → IsBest (k + length ts) r
  greatest [] k best r from at holds h =
      let end : k ≡ k + 0 = omega arith in
      subst (λ (n : ℕ). IsBest n r) end (subst (IsBest k) (same_value best r h) holds)
  greatest (t ∷ ts) k best r from at holds h =
      by_test (int_lt (pos 0) t.num) refl
      (λ new new_holds g. greatest ts (suc k) new r (omega arith)
      (λ j. at (suc j) ∙ ap (λ (n : ℕ). entry_of leaving n) (let e : k + suc j ≡ suc k + j = omega arith in e)) new_holds g) h
    where
      end : suc k + length ts ≡ k + suc (length ts)
      end = omega arith

      here : t ≡ entry_of leaving k
      here = at 0 ∙ ap (λ (n : ℕ). entry_of leaving n) (let e : k + 0 ≡ k = omega arith in e)

      by_test : (b : Bool) → int_lt (pos 0) t.num ≡ b
          → ((new : Option ℕ) → IsBest (suc k) new → entering_column rows leaving (suc k) new ts ≡ Ok r → IsBest (suc k + length ts) r)
          → (let z : Placed (Option ℕ) = if b then next (greater_column rows leaving k best) (λ b. entering_column rows leaving (suc k) (Some b) ts) else entering_column rows leaving (suc k) best ts in z) ≡ Ok r
          → IsBest (k + suc (length ts)) r
      by_test true e later g =
          let more : pos 0 <ℤ t.num = lt_of_test (pos 0) t.num e in
          let candidate : IsCandidate k = subst (λ (x : Fraction). pos 0 <ℤ x.num) here more in
          let first = next-ok (greater_column rows leaving k best) (λ b. entering_column rows leaving (suc k) (Some b) ts) r g in
          subst (λ (n : ℕ). IsBest n r) end (later (Some first.0) (with_candidate k best first.0 from candidate holds first.1) first.2)
      by_test false e later g =
          let none : IsCandidate k → ⊥ = λ c. (let more : pos 0 <ℤ t.num = subst (λ (x : Fraction). pos 0 <ℤ x.num) (sym here) c in let yes : int_lt (pos 0) t.num ≡ true = test_of_lt (pos 0) t.num more in absurd (cc)) in
          subst (λ (n : ℕ). IsBest n r) end (later best (without k best none holds) g)

-- ---- the choice
pub record IsChosen (t : Table) (r c : ℕ) : Type 0 where
  pub row : r < length t.rows
  pub constant : (entry_of (row_at t.rows r) 0).num <ℤ pos 0
  pub from : 1 ≤ c
  pub inside : c < length (row_at t.rows r)
  pub entry : pos 0 <ℤ (entry_of (row_at t.rows r) c).num
  pub greatest : (j : ℕ) → 1 ≤ j → j < length (row_at t.rows r) → pos 0 <ℤ (entry_of (row_at t.rows r) j).num
      → IsNotAbove (quotients t.rows j (entry_of (row_at t.rows r) j)) (quotients t.rows c (entry_of (row_at t.rows r) c))

none_first : (rows : List (List Fraction)) (leaving : List Fraction) (d : All (λ row. All HasPositiveDen row) rows) → IsBest rows leaving d 1 None
unfolding IsBest
none_first rows leaving d = λ j from inside c. omega (arith, from, inside)

pub entry_of-drop : (row : List Fraction) (j : ℕ) → entry_of (drop 1 row) j ≡ entry_of row (1 + j)
entry_of-drop [] j = refl
entry_of-drop (t ∷ ts) j = let e : 1 + j ≡ suc j = omega arith in sym (ap (λ (n : ℕ). entry_of (t ∷ ts) n) e)

whole_width : (row : List Fraction) (c : ℕ) → 1 ≤ c → c < 1 + length (drop 1 row) → c < length row
whole_width [] c from h = absurd (omega (arith, from, h))
whole_width (t ∷ ts) c from h = omega (arith, h)

whole_width_back : (row : List Fraction) (c : ℕ) → 1 ≤ c → c < length row → c < 1 + length (drop 1 row)
whole_width_back [] c from h = absurd (omega (arith, h))
whole_width_back (t ∷ ts) c from h = omega (arith, h)

named : (r c s : ℕ) (best : Option ℕ) → choice_of s best ≡ choice.Pivot r c → (s ≡ r) × (best ≡ Some c)
named r c s None h = absurd (cc)
named r c s (Some b) h = (cc, cc)

pub row_is : (rows : List (List Fraction)) (r : ℕ) → leaving_row 1 (drop 1 rows) ≡ Some r → (r < length rows) × ((entry_of (row_at rows r) 0).num <ℤ pos 0)
row_is [] r h = absurd (cc)
row_is (row ∷ rows) r h =
    let at = leaving_is 1 rows r h in
    let is : suc at.0 ≡ r = (let e = at.1 in omega (arith, e)) in
    subst (λ (n : ℕ). (n < length (row ∷ rows)) × ((entry_of (row_at (row ∷ rows) n) 0).num <ℤ pos 0)) is ((let below = at.2 in omega (arith, below)), at.3)

pub chosen_is : (t : Table) (r c : ℕ) → All (λ row. All HasPositiveDen row) t.rows → chosen t ≡ Ok (choice.Pivot r c) → IsChosen t r c
unfolding IsBest
chosen_is t r c d h = by_row (leaving_row 1 (drop 1 t.rows)) refl h
  where
    same_choice : (x y : Choice) → (let z : Placed Choice = Ok x in z) ≡ Ok y → x ≡ y
    same_choice x y e = same_value x y e

    by_row : (s : Option ℕ) → leaving_row 1 (drop 1 t.rows) ≡ s → choice_at t.rows s ≡ Ok (choice.Pivot r c) → IsChosen t r c
    by_row None e g = absurd (let same : choice.Done ≡ choice.Pivot r c = same_choice choice.Done (choice.Pivot r c) g in cc)
    by_row (Some s) e g =
        let leaving = row_at t.rows s in
        let steps = next-ok (entering_column t.rows leaving 1 None (drop 1 leaving)) (λ best. Ok (choice_of s best)) (choice.Pivot r c) g in
        let names = named r c s steps.0 (same_choice (choice_of s steps.0) (choice.Pivot r c) steps.2) in
        let best = greatest t.rows leaving d (drop 1 leaving) 1 None steps.0 (omega arith) (entry_of-drop leaving) (none_first t.rows leaving d) steps.1 in
        let holds : IsBest t.rows leaving d (1 + length (drop 1 leaving)) (Some c) = subst (IsBest t.rows leaving d (1 + length (drop 1 leaving))) names.1 best in
        let row = row_is t.rows s e in
        subst (λ (n : ℕ). IsChosen t n c) names.0
        (record {
          row = row.0;
          constant = row.1;
          from = holds.0;
          inside = whole_width leaving c holds.0 holds.1;
          entry = holds.2;
          greatest = λ j from inside candidate. holds.3 j from (whole_width_back leaving j from inside) candidate;
        })
