-- The multipliers of the slacks make entries of a combination.
use Rattle.std.proofs.Common.{◌≡◌, refl, sym, ap, subst, ℕ, zero, suc, ◌+◌, ◌-◌, ◌<◌, ◌≤◌, ⊎_elim, Bool, true, false, List, [], ◌∷◌, ◌++◌, length, drop, arith, All, Option, Some, None, Ok, ℤ, pos, ◌<ℤ◌, if◌then◌else◌, int_lt, nat_lt}
use Rattle.std.specs.Prelude.{◌==◌}
use Rattle.std.specs.Ordering.{int_eq}
use Rattle.std.proofs.lemmas.Int.{ints}
use Rattle.std.proofs.lemmas.Bool.Decides.{nat_tests}
use Rattle.std.proofs.lemmas.List.Elements.{All-append, All-cons, All-drop, All-head, All-nil, All-tail}
use Rattle.qm_math.specs.Fraction.{Fraction, HasPositiveDen, IsAtMost, IsBelow, IsSame, whole}
use Rattle.qm_math.specs.Arithmetic.{negated}
use Rattle.qm_math.specs.Lexicographic.{IsLexNegative}
use Rattle.qm_math.proofs.FractionLaws.{negated_den, whole_den}
use Rattle.qm_model.specs.declared.range.Range.{Range}
use Rattle.qm_model.specs.declared.row.Row.{Row}
use Rattle.qm_model.specs.declared.row_id.RowId.{RowId}
use Rattle.qm_model.specs.declared.row_id.RowId.TheVariants as id
use Rattle.qm_model.specs.declared.game.Problem.{Problem}
use Rattle.qm_tableau.specs.declared.choice.Choice.{Choice}
use Rattle.qm_tableau.specs.declared.choice.Choice.TheVariants as choice
use Rattle.qm_tableau.specs.Tables.{Table, entry_of, row_at}
use Rattle.qm_tableau.specs.Columns.{column_at}
use Rattle.qm_tableau.specs.Leaving.{Placed, next}
use Rattle.qm_tableau.specs.Rule.{choice_at, choice_of, chosen, entering_column, greater_column, leaving_row}
use Rattle.qm_tableau.specs.Good.{IsGood}
use Rattle.qm_tableau.proofs.Exactness.{next-ok, same_value}
use Rattle.qm_trees.specs.declared.combination.Entry.{Entry}
use Rattle.qm_trees.specs.Entries.{AreEntries, IsBefore, IsPositive}
use Rattle.qm_tableau.proofs.Greatest.{leaving_is}
use Rattle.qm_simplex.specs.Multipliers.{closing_entries, entries_below, entry_for, multiplier, number_for, slack_name, slack_rows, slacks_start}

-- ---- entries behind entries
abbrev pub IsBehind : RowId → Entry → Type 0
IsBehind row e = IsBefore e.row row

pub entries_with_last : (es : List Entry) (f : Entry) → AreEntries es → All (IsBehind f.row) es → IsPositive f → AreEntries (es ++ f ∷ [])
entries_with_last [] f are before more = more
entries_with_last (e ∷ []) f are before more = (are, All-head (IsBehind f.row) e [] before, more)
entries_with_last (e ∷ g ∷ es) f are before more = (are.0, are.1, entries_with_last (g ∷ es) f are.2 (All-tail (IsBehind f.row) e (g ∷ es) before) more)

-- ---- the names of slacks come one after the other
later : (rows urows m n : ℕ) → m < n → (a b c d : Bool) → nat_lt m rows ≡ a → nat_lt n rows ≡ b → nat_lt (m - rows) urows ≡ c → nat_lt (n - rows) urows ≡ d
    → IsBefore (if a then id.Row m else (if c then id.Uncertain (m - rows) else id.Cut (m - rows - urows)))
    (if b then id.Row n else (if d then id.Uncertain (n - rows) else id.Cut (n - rows - urows)))
later rows urows m n h true true c d p q r s = h
later rows urows m n h true false c true p q r s = tt
later rows urows m n h true false c false p q r s = tt
later rows urows m n h false true c d p q r s = absurd (grind (arith, nat_tests))
later rows urows m n h false false true true p q r s = grind (arith, nat_tests)
later rows urows m n h false false true false p q r s = tt
later rows urows m n h false false false true p q r s = absurd (grind (arith, nat_tests))
later rows urows m n h false false false false p q r s = grind (arith, nat_tests)

pub names_increase : (rows urows m n : ℕ) → m < n → IsBefore (slack_name rows urows m) (slack_name rows urows n)
names_increase rows urows m n h =
    later rows urows m n h (nat_lt m rows) (nat_lt n rows) (nat_lt (m - rows) urows) (nat_lt (n - rows) urows) refl refl refl refl

-- ---- multipliers that are not negative
abbrev pub IsSome : Fraction → Type 0
IsSome x = HasPositiveDen x × IsAtMost (whole (pos 0)) x

above_zero : (x : Fraction) → IsAtMost (whole (pos 0)) x → int_eq x.num (pos 0) ≡ false → IsBelow (whole (pos 0)) x
above_zero x h e = grind (arith, ints)

module _ (name : ℕ → RowId) (by : ℕ → Fraction) (some : (n : ℕ) → IsSome (by n)) (increases : (m n : ℕ) → m < n → IsBefore (name m) (name n)) where
  entry_before : (m n : ℕ) → m < n → All (IsBehind (name n)) (entry_for (name m) (by m))
  entry_before m n h = by_test (int_eq (by m).num (pos 0))
    where
      by_test : (b : Bool) → All (IsBehind (name n)) (if b then [] else record { row = name m; by = by m } ∷ [])
      by_test true = All-nil (IsBehind (name n))
      by_test false = All-cons (IsBehind (name n)) (record { row = name m; by = by m }) [] (increases m n h) (All-nil (IsBehind (name n)))

  all_before : (m n : ℕ) → m ≤ n → All (IsBehind (name n)) (entries_below name by m)
  all_before zero n h = All-nil (IsBehind (name n))
  all_before (suc m) n h =
      All-append (IsBehind (name n)) (entries_below name by m) (entry_for (name m) (by m)) (all_before m n (omega (arith, h))) (entry_before m n (omega (arith, h)))

  with_entry : (n : ℕ) (es : List Entry) → AreEntries es → All (IsBehind (name n)) es → AreEntries (es ++ entry_for (name n) (by n))
  with_entry n es are before = by_test (int_eq (by n).num (pos 0)) refl
    where
      by_test : (b : Bool) → int_eq (by n).num (pos 0) ≡ b → AreEntries (es ++ (if b then [] else record { row = name n; by = by n } ∷ []))
      by_test true e = nothing_more es are
        where
          nothing_more : (es : List Entry) → AreEntries es → AreEntries (es ++ [])
          nothing_more [] are = are
          nothing_more (e ∷ []) are = are
          nothing_more (e ∷ f ∷ es) are = (are.0, are.1, nothing_more (f ∷ es) are.2)
      by_test false e = entries_with_last es (record { row = name n; by = by n }) are before ((some n).0, above_zero (by n) (some n).1 e)

  pub are_entries : (n : ℕ) → AreEntries (entries_below name by n)
  are_entries zero = tt
  are_entries (suc n) = with_entry n (entries_below name by n) (are_entries n) (all_before n n (omega arith))

-- ---- numbers of a row that are not positive
abbrev pub IsNone : Fraction → Type 0
IsNone x = IsAtMost x (whole (pos 0))

zero_none : IsNone (whole (pos 0))
zero_none = omega (arith, ints)

zero_some : IsAtMost (whole (pos 0)) (whole (pos 0))
zero_some = omega (arith, ints)

one_some : IsAtMost (whole (pos 0)) (whole (pos 1))
one_some = omega (arith, ints)

pub turned_some : (x : Fraction) → IsNone x → IsAtMost (whole (pos 0)) (negated x)
unfolding negated
turned_some x h = omega (arith, ints, h)

pub number_den : (i : ℕ) (columns : List ℕ) (numbers : List Fraction) → All HasPositiveDen numbers → 0 < (number_for i columns numbers).den
number_den i [] numbers d = whole_den (pos 0)
number_den i (c ∷ columns) [] d = whole_den (pos 0)
number_den i (c ∷ columns) (t ∷ numbers) d = by_test (c == i) (All-head HasPositiveDen t numbers d) (number_den i columns numbers (All-tail HasPositiveDen t numbers d))
  where
    by_test : (b : Bool) → 0 < t.den → 0 < (number_for i columns numbers).den → 0 < (if b then t else number_for i columns numbers).den
    by_test true h k = h
    by_test false h k = k

number_none : (i : ℕ) (columns : List ℕ) (numbers : List Fraction) → All IsNone numbers → IsNone (number_for i columns numbers)
number_none i [] numbers h = zero_none
number_none i (c ∷ columns) [] h = zero_none
number_none i (c ∷ columns) (t ∷ numbers) h = by_test (c == i) (All-head IsNone t numbers h) (number_none i columns numbers (All-tail IsNone t numbers h))
  where
    by_test : (b : Bool) → IsNone t → IsNone (number_for i columns numbers) → IsNone (if b then t else number_for i columns numbers)
    by_test true h k = h
    by_test false h k = k

pub multiplier_some : (t : Table) (r i : ℕ) → All HasPositiveDen (drop 1 (row_at t.rows r)) → All IsNone (drop 1 (row_at t.rows r)) → IsSome (multiplier t r i)
multiplier_some t r i d h = by_test (i == r)
  where
    by_test : (b : Bool) → IsSome (if b then whole (pos 1) else negated (number_for i t.columns (drop 1 (row_at t.rows r))))
    by_test true = (whole_den (pos 1), one_some)
    by_test false = (
      negated_den (number_for i t.columns (drop 1 (row_at t.rows r))) (number_den i t.columns (drop 1 (row_at t.rows r)) d),
      turned_some (number_for i t.columns (drop 1 (row_at t.rows r))) (number_none i t.columns (drop 1 (row_at t.rows r)) h),
    )

-- ---- where each column is lexicographically negative, the first row has no positive number
pub first_none : (rows : List (List Fraction)) (k : ℕ) → IsLexNegative (column_at rows k) → IsNone (entry_of (row_at rows 0) k)
first_none [] k h = zero_none
first_none (row ∷ rows) k h = ⊎_elim (λ below. below_none (entry_of row k) below) (λ same. same_none (entry_of row k) same.0) h
  where
    below_none : (x : Fraction) → IsBelow x (whole (pos 0)) → IsNone x
    below_none x h = omega (arith, ints, h)

    same_none : (x : Fraction) → IsSame x (whole (pos 0)) → IsNone x
    same_none x h = omega (arith, ints, h)

behind_none : (row : List Fraction) → ((k : ℕ) → suc k < length row → IsNone (entry_of row (suc k))) → All IsNone (drop 1 row)
behind_none [] h = All-nil IsNone
behind_none (t ∷ ts) h = all_none ts (λ k inside. h k (omega (arith, inside)))
  where
    all_none : (xs : List Fraction) → ((k : ℕ) → k < length xs → IsNone (entry_of xs k)) → All IsNone xs
    all_none [] h = All-nil IsNone
    all_none (x ∷ xs) h = All-cons IsNone x xs (h 0 (omega arith)) (all_none xs (λ k inside. h (suc k) (omega (arith, inside))))

-- ---- where there is no candidate, the leaving row has no positive number
some_stays : (rows : List (List Fraction)) (leaving : List Fraction) (ts : List Fraction) (k b : ℕ) → entering_column rows leaving k (Some b) ts ≡ Ok None → ⊥
some_stays rows leaving [] k b h = let e : (let z : Option ℕ = Some b in z) ≡ None = same_value (Some b) None h in absurd (cc)
some_stays rows leaving (t ∷ ts) k b h = by_test (int_lt (pos 0) t.num) (λ c g. some_stays rows leaving ts (suc k) c g) h
  where
    by_test : (c : Bool) → ((b : ℕ) → entering_column rows leaving (suc k) (Some b) ts ≡ Ok None → ⊥)
        → (let z : Placed (Option ℕ) = if c then next (greater_column rows leaving k (Some b)) (λ b. entering_column rows leaving (suc k) (Some b) ts) else entering_column rows leaving (suc k) (Some b) ts in z) ≡ Ok None → ⊥
    by_test true later g =
        let first = next-ok (greater_column rows leaving k (Some b)) (λ b. entering_column rows leaving (suc k) (Some b) ts) None g in
        later first.0 first.2
    by_test false later g = later b g

not_positive : (x : Fraction) → int_lt (pos 0) x.num ≡ false → IsNone x
not_positive x e = grind (arith, ints)

none_positive : (rows : List (List Fraction)) (leaving : List Fraction) (ts : List Fraction) (k : ℕ) → entering_column rows leaving k None ts ≡ Ok None → All IsNone ts
none_positive rows leaving [] k h = All-nil IsNone
none_positive rows leaving (t ∷ ts) k h = by_test (int_lt (pos 0) t.num) refl (λ g. none_positive rows leaving ts (suc k) g) h
  where
    by_test : (c : Bool) → int_lt (pos 0) t.num ≡ c → (entering_column rows leaving (suc k) None ts ≡ Ok None → All IsNone ts)
        → (let z : Placed (Option ℕ) = if c then next (greater_column rows leaving k None) (λ b. entering_column rows leaving (suc k) (Some b) ts) else entering_column rows leaving (suc k) None ts in z) ≡ Ok None
        → All IsNone (t ∷ ts)
    by_test true e later g =
        let first = next-ok (greater_column rows leaving k None) (λ b. entering_column rows leaving (suc k) (Some b) ts) None g in
        absurd (some_stays rows leaving ts (suc k) first.0 first.2)
    by_test false e later g = All-cons IsNone t ts (not_positive t e) (later g)

-- ---- what the choice says
-- the row that can't be raised: its constant is negative and no other number positive
pub record IsVoidRow (t : Table) (r : ℕ) : Type 0 where
  pub from : 1 ≤ r
  pub row : r < length t.rows
  pub constant : (entry_of (row_at t.rows r) 0).num <ℤ pos 0
  pub none : All IsNone (drop 1 (row_at t.rows r))

void_at : (t : Table) (rows : List (List Fraction)) (s : ℕ) → t.rows ≡ rows → leaving_row 1 (drop 1 rows) ≡ Some s → All IsNone (drop 1 (row_at rows s)) → IsVoidRow t s
void_at t [] s is e h = absurd (cc)
void_at t (row ∷ rows) s is e h =
    let at = leaving_is 1 rows s e in
    let k = at.0 in
    let place : suc k ≡ s = (let p = at.1 in omega (arith, p)) in
    let here : (entry_of (row_at (row ∷ rows) s) 0).num <ℤ pos 0 = subst (λ (n : ℕ). (entry_of (row_at (row ∷ rows) n) 0).num <ℤ pos 0) place at.3 in
    let long : length t.rows ≡ suc (length rows) = ap (λ (rs : List (List Fraction)). length rs) is in
    record {
      from = omega (arith, place);
      row = (let below = at.2 in omega (arith, below, place, long));
      constant = subst (λ (rs : List (List Fraction)). (entry_of (row_at rs s) 0).num <ℤ pos 0) (sym is) here;
      none = subst (λ (rs : List (List Fraction)). All IsNone (drop 1 (row_at rs s))) (sym is) h;
    }

pub void_row : (t : Table) (r : ℕ) → chosen t ≡ Ok (choice.VoidRow r) → IsVoidRow t r
void_row t r h = by_row (leaving_row 1 (drop 1 t.rows)) refl h
  where
    same_choice : (x y : Choice) → (let z : Placed Choice = Ok x in z) ≡ Ok y → x ≡ y
    same_choice x y e = same_value x y e

    named : (s : ℕ) (best : Option ℕ) → choice_of s best ≡ choice.VoidRow r → (s ≡ r) × (best ≡ None)
    named s None e = (cc, refl)
    named s (Some c) e = absurd (cc)

    by_row : (s : Option ℕ) → leaving_row 1 (drop 1 t.rows) ≡ s → choice_at t.rows s ≡ Ok (choice.VoidRow r) → IsVoidRow t r
    by_row None e g = absurd (let same : choice.Done ≡ choice.VoidRow r = same_choice choice.Done (choice.VoidRow r) g in cc)
    by_row (Some s) e g =
        let leaving = row_at t.rows s in
        let steps = next-ok (entering_column t.rows leaving 1 None (drop 1 leaving)) (λ best. Ok (choice_of s best)) (choice.VoidRow r) g in
        let names = named s steps.0 (same_choice (choice_of s steps.0) (choice.VoidRow r) steps.2) in
        let none : entering_column t.rows leaving 1 None (drop 1 leaving) ≡ Ok None = rw names.1 at steps.1 in
        rw names.0 at (void_at t t.rows s refl e (none_positive t.rows leaving (drop 1 leaving) 1 none))

-- no row's constant is negative
abbrev pub IsNonnegative : List Fraction → Type 0
IsNonnegative row = IsAtMost (whole (pos 0)) (entry_of row 0)

none_leaves : (i : ℕ) (rows : List (List Fraction)) → leaving_row i rows ≡ None → All IsNonnegative rows
none_leaves i [] h = All-nil IsNonnegative
none_leaves i (row ∷ rows) h = by_test (int_lt (entry_of row 0).num (pos 0)) refl (λ g. none_leaves (suc i) rows g) h
  where
    above : (x : Fraction) → int_lt x.num (pos 0) ≡ false → IsAtMost (whole (pos 0)) x
    above x e = grind (arith, ints)

    by_test : (b : Bool) → int_lt (entry_of row 0).num (pos 0) ≡ b → (leaving_row (suc i) rows ≡ None → All IsNonnegative rows)
        → (let z : Option ℕ = if b then Some i else leaving_row (suc i) rows in z) ≡ None → All IsNonnegative (row ∷ rows)
    by_test true e later g = absurd (cc)
    by_test false e later g = All-cons IsNonnegative row rows (above (entry_of row 0) e) (later g)

pub done_rows : (t : Table) → chosen t ≡ Ok choice.Done → All IsNonnegative (drop 1 t.rows)
done_rows t h = by_row (leaving_row 1 (drop 1 t.rows)) refl h
  where
    same_choice : (x y : Choice) → (let z : Placed Choice = Ok x in z) ≡ Ok y → x ≡ y
    same_choice x y e = same_value x y e

    not_done : (s : ℕ) (best : Option ℕ) → choice_of s best ≡ choice.Done → ⊥
    not_done s None e = absurd (cc)
    not_done s (Some c) e = absurd (cc)

    by_row : (s : Option ℕ) → leaving_row 1 (drop 1 t.rows) ≡ s → choice_at t.rows s ≡ Ok choice.Done → All IsNonnegative (drop 1 t.rows)
    by_row None e g = none_leaves 1 (drop 1 t.rows) e
    by_row (Some s) e g =
        let leaving = row_at t.rows s in
        let steps = next-ok (entering_column t.rows leaving 1 None (drop 1 leaving)) (λ best. Ok (choice_of s best)) choice.Done g in
        absurd (not_done s steps.0 (same_choice (choice_of s steps.0) choice.Done steps.2))

-- ---- the multipliers of a good tableau
module _ (P : Problem) (cuts : List Row) (bx : List Range) (t : Table) (gt : IsGood P cuts bx t) where
  pub first_numbers : All IsNone (drop 1 (row_at t.rows 0))
  first_numbers = behind_none (row_at t.rows 0) (λ k inside. first_none t.rows (suc k) (gt.negative k (wide t.rows gt.width inside)))
    where
      wide : {k : ℕ} (rows : List (List Fraction)) → All (λ row. length row ≡ suc (length t.columns)) rows → suc k < length (row_at rows 0) → k < length t.columns
      wide [] w h = absurd (omega (arith, h))
      wide (row ∷ rows) w h = let e = All-head (λ (row : List Fraction). length row ≡ suc (length t.columns)) row rows w in omega (arith, e, h)

  row_den : (r : ℕ) → All HasPositiveDen (row_at t.rows r)
  row_den r = at t.rows r gt.positive
    where
      at : (rows : List (List Fraction)) (r : ℕ) → All (λ row. All HasPositiveDen row) rows → All HasPositiveDen (row_at rows r)
      at [] r d = All-nil HasPositiveDen
      at (row ∷ rows) zero d = All-head (λ (row : List Fraction). All HasPositiveDen row) row rows d
      at (row ∷ rows) (suc r) d = at rows r (All-tail (λ (row : List Fraction). All HasPositiveDen row) row rows d)

  pub some_by : (r : ℕ) → All IsNone (drop 1 (row_at t.rows r)) → (i : ℕ) → IsSome (multiplier t r i)
  some_by r h i = multiplier_some t r i (All-drop HasPositiveDen 1 (row_at t.rows r) (row_den r)) h

  closing_by : (r : ℕ) → All IsNone (drop 1 (row_at t.rows r)) → AreEntries (closing_entries P cuts bx t r)
  closing_by r h =
      are_entries (slack_name (length P.rows) (length P.urows)) (λ n. multiplier t r (slacks_start bx + n)) (λ n. some_by r h (slacks_start bx + n))
      (names_increase (length P.rows) (length P.urows)) (length (slack_rows P cuts))

pub best_entries : (P : Problem) (cuts : List Row) (bx : List Range) (t : Table) → IsGood P cuts bx t → AreEntries (closing_entries P cuts bx t 0)
best_entries P cuts bx t gt = closing_by P cuts bx t gt 0 (first_numbers P cuts bx t gt)

pub void_entries : (P : Problem) (cuts : List Row) (bx : List Range) (t : Table) (r : ℕ) → IsGood P cuts bx t → chosen t ≡ Ok (choice.VoidRow r)
    → AreEntries (closing_entries P cuts bx t r)
void_entries P cuts bx t r gt h = closing_by P cuts bx t gt r (void_row t r h).none
