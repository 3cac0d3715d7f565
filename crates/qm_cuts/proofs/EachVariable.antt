-- What is seen of variables, one after the other.
use Rattle.std.proofs.Common.{◌≡◌, ◌∙◌, ap, refl, sym, ℕ, zero, suc, ◌+◌, ◌-◌, ◌<◌, ◌≤◌, Bool, true, false, pos, List, [], ◌∷◌, ◌++◌, length, get_or, drop, Option, Some, None, Ok, Err, arith, add-one}
use Rattle.std.specs.Prelude.{IfSome, if◌then◌else◌, ◌&&◌, ◌==◌}
use Rattle.std.specs.Ordering.{int_eq}
use Rattle.std.proofs.lemmas.List.{at_drop_more, drop_all, append-nil}
use Rattle.std.proofs.lemmas.List.Elements.{All-head, All-tail}
use Rattle.qm_math.specs.Fraction.{Fraction}
use Rattle.qm_frac.specs.declared.leaves.Leaves.{Leaves}
use Rattle.qm_frac.specs.Checked.{Checked, and_then}
use Rattle.qm_model.specs.declared.row.Row.{Row}
use Rattle.qm_model.specs.declared.row.Term.{Term}
use Rattle.qm_model.specs.declared.variable.Var.{Var}
use Rattle.qm_model.specs.declared.game.Problem.{Problem}
use Rattle.qm_model.specs.Linear.{coefficient}
use Rattle.qm_trees.specs.declared.cut_combo.CutEntry.{CutEntry}
use Rattle.qm_trees.specs.CutEntries.{row_on, rows_on}
use Rattle.qm_trees.specs.CutRules.{may_stand}
use Rattle.qm_trees.specs.Entries.{Weighted}
use Rattle.qm_trees.specs.Evaluation.{add_coefficients, zero as nothing}
use Rattle.qm_cuts.specs.declared.seen.Seen.{Seen}
use Rattle.qm_cuts.specs.Steps.{HaveNo, fit_each, fits_at, or_later, see_each, seen_with}
use Rattle.qm_cuts.proofs.Deriving.{a_variable}

-- ---- a variable that no row has

no_coefficient : (P : Problem) (earlier : List Row) (es : List CutEntry) (var : ℕ) (c : Fraction) → HaveNo P earlier es var → add_coefficients var (rows_on P earlier es) c ≡ Ok c
no_coefficient P earlier [] var c none = refl
no_coefficient P earlier (e ∷ es) var c none =
    let Has : CutEntry → Type 0 = λ (e : CutEntry). IfSome (row_on P earlier e.on) (λ row. coefficient row.terms var ≡ pos 0) in
    by_row (row_on P earlier e.on) refl (All-head Has e es none) (no_coefficient P earlier es var c (All-tail Has e es none))
  where
    by_row : (o : Option Row) → row_on P earlier e.on ≡ o → IfSome o (λ row. coefficient row.terms var ≡ pos 0) → add_coefficients var (rows_on P earlier es) c ≡ Ok c
        → add_coefficients var (rows_on P earlier (e ∷ es)) c ≡ Ok c
    by_row None is says later = rw is later
    by_row (Some row) is says later = rw (is, says) later

zero_stands : (x : Var) → may_stand x nothing ≡ true
zero_stands x = by_kind x.whole
  where
    by_kind : (b : Bool) → (if b then 1 == 1 else int_eq (pos 0) (pos 0)) ≡ true
    by_kind true = refl
    by_kind false = refl

nothing_changes : (var : ℕ) (x : Var) (seen : Seen) → seen_with var x nothing seen ≡ seen
nothing_changes var x seen = rw (zero_stands x) (by_broken seen.broken)
  where
    by_broken : (o : Option ℕ) → (let s : Seen = record { broken = or_later o None; terms = seen.terms ++ [] } in s) ≡ record { broken = o; terms = seen.terms }
    by_broken None = rw append-nil refl
    by_broken (Some v) = rw append-nil refl

see_passes : (P : Problem) (earlier : List Row) (es : List CutEntry) (var : ℕ) (xs : List Var) (x : Var) (seen : Seen) → HaveNo P earlier es var
    → see_each (rows_on P earlier es) var (x ∷ xs) seen ≡ see_each (rows_on P earlier es) (suc var) xs seen
see_passes P earlier es var xs x seen none = rw (no_coefficient P earlier es var nothing none) (ap (λ s. see_each (rows_on P earlier es) (suc var) xs s) (nothing_changes var x seen))

-- ---- what is seen, up to the next variable that a row has and from there on

module _ (P : Problem) (earlier : List Row) (es : List CutEntry) where
  abbrev ws : List Weighted
  ws = rows_on P earlier es

  see_past : (count from : ℕ) (seen : Seen) → from + count ≤ length P.vars → ((n : ℕ) → from ≤ n → n < from + count → HaveNo P earlier es n)
      → see_each ws from (drop from P.vars) seen ≡ see_each ws (from + count) (drop (from + count) P.vars) seen
  see_past zero from seen within none = let same : from + 0 ≡ from = omega arith in rw same refl
  see_past (suc count) from seen within none =
      let same : from + suc count ≡ suc from + count = omega arith in
      let next : from + 1 ≡ suc from = omega arith in
      let first : see_each ws from (drop from P.vars) seen ≡ see_each ws (suc from) (drop (suc from) P.vars) seen =
      at_drop_more (λ xs. see_each ws from xs seen) P.vars from a_variable (omega (arith, within))
      ∙ see_passes P earlier es from (drop (from + 1) P.vars) (get_or P.vars from a_variable) seen (none from (omega arith) (omega arith))
      ∙ rw next refl in
      rw same (first ∙ see_past count (suc from) seen (omega (arith, within)) (λ n h k. none n (omega (arith, h)) (omega (arith, k))))

  pub see_next : (from next : ℕ) (seen : Seen) → from ≤ next → next ≤ length P.vars → ((n : ℕ) → from ≤ n → n < next → HaveNo P earlier es n)
      → see_each ws from (drop from P.vars) seen ≡ see_each ws next (drop next P.vars) seen
  see_next from next seen later within none =
      let at : from + (next - from) ≡ next = omega (arith, later) in
      let past = see_past (next - from) from seen (omega (arith, later, within)) (λ n h k. none n h (omega (arith, k, later))) in
      rw at at past

  module _ (i : ℕ) (x : Var) (seen : Seen) (all : Checked Seen) (below : i < length P.vars) (before : see_each ws i (drop i P.vars) seen ≡ all) where
    seen_here : and_then (add_coefficients i ws nothing) (λ c. see_each ws (i + 1) (drop (i + 1) P.vars) (seen_with i (get_or P.vars i x) c seen)) ≡ all
    seen_here = sym (at_drop_more (λ xs. see_each ws i xs seen) P.vars i x below ∙ rw add-one refl) ∙ before

    pub see_leaves : (leaves : Leaves) → add_coefficients i ws nothing ≡ Err leaves → all ≡ Err leaves
    see_leaves leaves e = sym seen_here ∙ rw e refl

    pub see_step : (c : Fraction) (next : ℕ) (after : Seen) → add_coefficients i ws nothing ≡ Ok c → after ≡ seen_with i (get_or P.vars i x) c seen
        → i + 1 ≤ next → next ≤ length P.vars → ((n : ℕ) → i + 1 ≤ n → n < next → HaveNo P earlier es n) → see_each ws next (drop next P.vars) after ≡ all
    see_step c next after e is later within none =
        let here = rw e at seen_here in
        sym (see_next (i + 1) next after later within none) ∙ ap (λ s. see_each ws (i + 1) (drop (i + 1) P.vars) s) is ∙ here

pub see_end : (ws : List Weighted) (xs : List Var) (i : ℕ) (seen : Seen) → length xs ≤ i → see_each ws i (drop i xs) seen ≡ Ok seen
see_end ws xs i seen h = ap (λ ys. see_each ws i ys seen) (drop_all i xs h)

-- ---- the same of the test of terms

fit_passes : (P : Problem) (earlier : List Row) (es : List CutEntry) (ts : List Term) (var : ℕ) (xs : List Var) (x : Var) (fit : Bool) → HaveNo P earlier es var → coefficient ts var ≡ pos 0
    → fit_each (rows_on P earlier es) ts var (x ∷ xs) fit ≡ fit_each (rows_on P earlier es) ts (suc var) xs fit
fit_passes P earlier es ts var xs x fit none no_term =
    rw (no_coefficient P earlier es var nothing none) (ap (λ b. fit_each (rows_on P earlier es) ts (suc var) xs b) (rw (zero_stands x, no_term) (still fit)))
  where
    still : (b : Bool) → (b && true) ≡ b
    still true = refl
    still false = refl

module _ (P : Problem) (earlier : List Row) (es : List CutEntry) (ts : List Term) where
  abbrev vs : List Weighted
  vs = rows_on P earlier es

  fit_past : (count from : ℕ) (fit : Bool) → from + count ≤ length P.vars → ((n : ℕ) → from ≤ n → n < from + count → HaveNo P earlier es n) → ((n : ℕ) → from ≤ n → n < from + count → coefficient ts n ≡ pos 0)
      → fit_each vs ts from (drop from P.vars) fit ≡ fit_each vs ts (from + count) (drop (from + count) P.vars) fit
  fit_past zero from fit within none no_term = let same : from + 0 ≡ from = omega arith in rw same refl
  fit_past (suc count) from fit within none no_term =
      let same : from + suc count ≡ suc from + count = omega arith in
      let next : from + 1 ≡ suc from = omega arith in
      let first : fit_each vs ts from (drop from P.vars) fit ≡ fit_each vs ts (suc from) (drop (suc from) P.vars) fit =
      at_drop_more (λ xs. fit_each vs ts from xs fit) P.vars from a_variable (omega (arith, within))
      ∙ fit_passes P earlier es ts from (drop (from + 1) P.vars) (get_or P.vars from a_variable) fit (none from (omega arith) (omega arith)) (no_term from (omega arith) (omega arith))
      ∙ rw next refl in
      rw same (first ∙ fit_past count (suc from) fit (omega (arith, within)) (λ n h k. none n (omega (arith, h)) (omega (arith, k))) (λ n h k. no_term n (omega (arith, h)) (omega (arith, k))))

  pub fit_next : (from next : ℕ) (fit : Bool) → from ≤ next → next ≤ length P.vars → ((n : ℕ) → from ≤ n → n < next → HaveNo P earlier es n) → ((n : ℕ) → from ≤ n → n < next → coefficient ts n ≡ pos 0)
      → fit_each vs ts from (drop from P.vars) fit ≡ fit_each vs ts next (drop next P.vars) fit
  fit_next from next fit later within none no_term =
      let at : from + (next - from) ≡ next = omega (arith, later) in
      let past = fit_past (next - from) from fit (omega (arith, later, within)) (λ n h k. none n h (omega (arith, k, later))) (λ n h k. no_term n h (omega (arith, k, later))) in
      rw at at past

  module _ (i : ℕ) (x : Var) (fit : Bool) (all : Checked Bool) (below : i < length P.vars) (before : fit_each vs ts i (drop i P.vars) fit ≡ all) where
    fit_here : and_then (add_coefficients i vs nothing) (λ c. fit_each vs ts (i + 1) (drop (i + 1) P.vars) (fit && fits_at ts i (get_or P.vars i x) c)) ≡ all
    fit_here = sym (at_drop_more (λ xs. fit_each vs ts i xs fit) P.vars i x below ∙ rw add-one refl) ∙ before

    pub fit_leaves : (leaves : Leaves) → add_coefficients i vs nothing ≡ Err leaves → Err leaves ≡ all
    fit_leaves leaves e = sym (rw e refl) ∙ fit_here

    pub fit_step : (c : Fraction) (next : ℕ) (after : Bool) → add_coefficients i vs nothing ≡ Ok c → after ≡ (fit && fits_at ts i (get_or P.vars i x) c)
        → i + 1 ≤ next → next ≤ length P.vars → ((n : ℕ) → i + 1 ≤ n → n < next → HaveNo P earlier es n) → ((n : ℕ) → i + 1 ≤ n → n < next → coefficient ts n ≡ pos 0)
        → fit_each vs ts next (drop next P.vars) after ≡ all
    fit_step c next after e is later within none no_term =
        let here = rw e at fit_here in
        sym (fit_next (i + 1) next after later within none no_term) ∙ ap (λ b. fit_each vs ts (i + 1) (drop (i + 1) P.vars) b) is ∙ here
