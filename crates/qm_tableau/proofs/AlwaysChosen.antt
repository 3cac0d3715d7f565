-- The rule's choice on rows of small whole numbers: no operation of it leaves.
use Rattle.std.proofs.Common.{◌≡◌, ◌∙◌, refl, sym, ap, ℕ, suc, ◌+◌, ◌≤◌, ◌<◌, ℤ, pos, ◌*ℤ◌, ◌<ℤ◌, unsigned_abs, arith, Bool, true, false, Option, Some, None, List, [], ◌∷◌, length, drop, get_or, map, All, Ok}
use Rattle.std.specs.Prelude.{if◌then◌else◌, int_lt, IfSome}
use Rattle.std.specs.declared.cmp.Ordering.{Ordering}
use Rattle.std.specs.declared.cmp.Ordering.TheVariants.{Less, Equal, Greater}
use Rattle.std.specs.Ordering.{int_cmp}
use Rattle.std.proofs.lemmas.Int.{ints}
use Rattle.std.proofs.lemmas.List.{length-drop, length-map}
use Rattle.std.proofs.lemmas.List.Elements.{All-head, All-tail}
use Rattle.qm_math.specs.Fraction.{Fraction}
use Rattle.qm_math.proofs.WholeTests.{lt_of_test}
use Rattle.qm_tableau.specs.declared.choice.Choice.{Choice}
use Rattle.qm_tableau.specs.declared.choice.Choice.TheVariants as choice
use Rattle.qm_tableau.specs.Tables.{Table, entry_of, row_at}
use Rattle.qm_tableau.specs.Leaving.{Placed, next}
use Rattle.qm_tableau.specs.Rule.{choice_at, choice_of, chosen, entering_column, greater_column, is_greater, leaving_row}
use Rattle.qm_tableau.specs.Wholes.{AreSmallRows, IsSmallRow, at_place, fractions_of}
use Rattle.qm_tableau.proofs.Greatest.{entry_of-drop, row_is}
use Rattle.qm_tableau.proofs.QuotientOrder.{decided, greater_in_row}
use Rattle.qm_tableau.proofs.WholeEntries.{above_lowest, entry_in_row, length_fractions, row_in_rows}

by_order : (all rest : Placed Bool) (o : Ordering) → ((v : Bool) × (rest ≡ Ok v)) → all ≡ decided o rest → (v : Bool) × (all ≡ Ok v)
by_order all rest Less later e = (false, e)
by_order all rest Equal later e = (later.0, e ∙ later.1)
by_order all rest Greater later e = (true, e)

either : (b : Bool) (x y : Placed (Option ℕ)) → (b ≡ true → (o : Option ℕ) × (x ≡ Ok o)) → ((o : Option ℕ) × (y ≡ Ok o)) → (o : Option ℕ) × ((let z : Placed (Option ℕ) = if b then x else y in z) ≡ Ok o)
either true x y f g = f refl
either false x y f g = g

module _ (rows : List (List ℤ)) (w : ℕ) (small : All IsSmallRow rows) (widths : All (λ row. length row ≡ w) rows) (leaving : List ℤ) (l : IsSmallRow leaving) (count : length leaving ≡ w) where
  abbrev IsCandidate : ℕ → Type 0
  IsCandidate b = (suc b < w) × (pos 0 <ℤ at_place leaving (suc b))

  compared : (k b i : ℕ) → IsCandidate k → IsCandidate b → (rs : List (List ℤ)) → All IsSmallRow rs → All (λ row. length row ≡ w) rs
      → (v : Bool) × (is_greater k (entry_of (fractions_of leaving) k) b (entry_of (fractions_of leaving) b) i (map fractions_of rs) ≡ Ok v)
  compared k b i kc bc [] s ws = (false, refl)
  compared k b i kc bc (row ∷ rs) s ws =
      let wide : length row ≡ w = All-head (λ (r : List ℤ). length r ≡ w) row rs ws in
      let later = compared k b (suc i) kc bc rs (All-tail IsSmallRow row rs s) (All-tail (λ (r : List ℤ). length r ≡ w) row rs ws) in
      let k_in = kc.0 in
      let b_in = bc.0 in
      by_order _ _ (int_cmp (at_place row (suc k) *ℤ at_place leaving (suc b)) (at_place row (suc b) *ℤ at_place leaving (suc k))) later
      (greater_in_row k b leaving row l (All-head IsSmallRow row rs s) (count ∙ sym wide) (omega (arith, wide, k_in)) (omega (arith, wide, b_in)) kc.1 bc.1 i (map fractions_of rs))

  greater_of : (v : Bool) (k b : ℕ) → IsCandidate k → IsCandidate b → IsCandidate (if v then k else b)
  greater_of true k b kc bc = kc
  greater_of false k b kc bc = bc

  picked : (k : ℕ) (best : Option ℕ) → IsCandidate k → IfSome best IsCandidate
      → (b : ℕ) × (greater_column (map fractions_of rows) (fractions_of leaving) k best ≡ Ok b) × IsCandidate b
  picked k None kc bc = (k, refl, kc)
  picked k (Some b) kc bc =
      let r = compared k b 0 kc bc rows small widths in (
        (if r.0 then k else b),
        ap (λ (p : Placed Bool). next p (λ greater. Ok (if greater then k else b))) r.1,
        greater_of r.0 k b kc bc,
      )

  candidate_by_test : (k : ℕ) (t : Fraction) → suc k < w → t ≡ entry_of (fractions_of leaving) k → int_lt (pos 0) t.num ≡ true → IsCandidate k
  candidate_by_test k t inside here e =
      let in_row : suc k < length leaving = omega (arith, inside, count) in
      let den : 0 < unsigned_abs (at_place leaving 0) = (let p = l.positive in omega (arith, ints, p)) in
      let test : int_lt (pos 0) (at_place leaving (suc k)) ≡ true =
      sym (above_lowest (at_place leaving (suc k)) (unsigned_abs (at_place leaving 0)) den)
      ∙ sym (ap (λ (x : Fraction). int_lt (pos 0) x.num) (here ∙ entry_in_row leaving k in_row)) ∙ e in
      (inside, lt_of_test (pos 0) (at_place leaving (suc k)) test)

  entered : (ts : List Fraction) (k : ℕ) (best : Option ℕ) → suc (k + length ts) ≤ w → ((j : ℕ) → entry_of ts j ≡ entry_of (fractions_of leaving) (k + j)) → IfSome best IsCandidate
      → (o : Option ℕ) × (entering_column (map fractions_of rows) (fractions_of leaving) k best ts ≡ Ok o)
  entered [] k best inside at bc = (best, refl)
  entered (t ∷ ts) k best inside at bc =
      let fits : suc (suc k + length ts) ≤ w = omega (arith, inside) in
      let here : t ≡ entry_of (fractions_of leaving) k = at 0 ∙ ap (λ (n : ℕ). entry_of (fractions_of leaving) n) (let e : k + 0 ≡ k = omega arith in e) in
      let later_at = λ (j : ℕ). at (suc j) ∙ ap (λ (n : ℕ). entry_of (fractions_of leaving) n) (let e : k + suc j ≡ suc k + j = omega arith in e) in
      either (int_lt (pos 0) t.num) _ _
      (λ e. (let p = picked k best (candidate_by_test k t (omega (arith, inside)) here e) bc in
      let r = entered ts (suc k) (Some p.0) fits later_at p.2 in
      (r.0, ap (λ (q : Placed ℕ). next q (λ c. entering_column (map fractions_of rows) (fractions_of leaving) (suc k) (Some c) ts)) p.1 ∙ r.1)))
      (entered ts (suc k) best fits later_at bc)

pub always_chosen : (t : Table) (rows : List (List ℤ)) → AreSmallRows t rows → (c : Choice) × (chosen t ≡ Ok c)
always_chosen t rows s = by_row (leaving_row 1 (drop 1 t.rows)) refl
  where
    by_row : (o : Option ℕ) → leaving_row 1 (drop 1 t.rows) ≡ o → (c : Choice) × (choice_at t.rows o ≡ Ok c)
    by_row None e = (choice.Done, refl)
    by_row (Some r) e =
        let inside = (row_is t.rows r e).0 in
        let many : length t.rows ≡ length rows = ap (λ (xs : List (List Fraction)). length xs) s.fractions ∙ length-map rows fractions_of in
        let below : r < length rows = omega (arith, inside, many) in
        let leaving = get_or rows r [] in
        let w = suc (suc (length t.columns)) in
        let wide : length leaving ≡ w = s.width r [] below in
        let n : length (fractions_of leaving) ≡ suc (length t.columns) = length_fractions leaving (suc (length t.columns)) wide in
        let rest : length (drop 1 (fractions_of leaving)) ≡ length t.columns = length-drop 1 (fractions_of leaving) ∙ (omega (arith, n)) in
        let all = entered rows w s.small s.width leaving (s.small r [] below) wide (drop 1 (fractions_of leaving)) 1 None (omega (arith, rest)) (entry_of-drop (fractions_of leaving)) tt in
        let row : row_at t.rows r ≡ fractions_of leaving = ap (λ (xs : List (List Fraction)). row_at xs r) s.fractions ∙ row_in_rows rows r below in (
          choice_of r all.0,
          ap (λ (f : List Fraction). (let p : Placed Choice = next (entering_column t.rows f 1 None (drop 1 f)) (λ best. Ok (choice_of r best)) in p)) row
              ∙ ap (λ (xs : List (List Fraction)). (let p : Placed Choice = next (entering_column xs (fractions_of leaving) 1 None (drop 1 (fractions_of leaving))) (λ best. Ok (choice_of r best)) in p)) s.fractions
              ∙ ap (λ (p : Placed (Option ℕ)). next p (λ best. Ok (choice_of r best))) all.1,
        )
