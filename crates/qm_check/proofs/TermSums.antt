-- Sums to which the terms of a row are added one by one.
use Rattle.std.proofs.Common.{◌≡◌, ◌≢◌, ◌∙◌, refl, sym, ap, ℕ, suc, zero, ◌+◌, ◌<◌, Bool, true, false, List, [], ◌∷◌, length, get_or, set, drop, Ok, Err, arith, subst, ℤ, pos}
use Rattle.std.specs.Prelude.{if◌then◌else◌, ◌==◌, Some}
use Rattle.std.specs.Ordering.{int_eq}
use Rattle.std.proofs.lemmas.Int.{ints}
use Rattle.std.proofs.lemmas.Bool.{false_from_ne_true}
use Rattle.std.proofs.lemmas.Bool.Decides.{Decides-int_eq, Decides-eqb}
use Rattle.std.proofs.lemmas.List.{at_drop_more, drop_more, get_or-set_same, get_or-set_other}
use Rattle.qm_math.specs.Fraction.{Fraction, whole}
use Rattle.qm_frac.specs.Checked.{Checked, and_then, added, multiplied}
use Rattle.qm_model.specs.declared.row.Term.{Term}
use Rattle.qm_model.specs.declared.row.Row.{Row}
use Rattle.qm_model.specs.declared.game.Problem.{Problem}
use Rattle.qm_model.specs.Linear.{IsOrdered, IsOrderedFrom, coefficient}
use Rattle.qm_model.proofs.Forms.{coefficient-later, coefficient-other, coefficient-same, IsOrderedFrom-weaker}
use Rattle.qm_trees.specs.declared.combination.Entry.{Entry}
use Rattle.qm_trees.specs.Entries.{Weighted, row_named, weighted_rows, with_row}
use Rattle.qm_trees.specs.Evaluation.{zero as nothing, add_coefficients}
use Rattle.qm_check.specs.Sums.{plus_product, sum_of_var}

-- ---- ordered terms

ordered_from : (ts : List Term) (least i : ℕ) → IsOrderedFrom least ts → IsOrderedFrom least (drop i ts)
ordered_from ts least zero order = order
ordered_from [] least (suc i) order = tt
ordered_from (t ∷ ts) least (suc i) order = IsOrderedFrom-weaker (drop i ts) least (suc t.var) (omega (arith, order.0)) (ordered_from ts (suc t.var) i order.2)

module _ (ts : List Term) (i : ℕ) (d : Term) (h : i < length ts) (order : IsOrdered ts) where
  abbrev t : Term
  t = get_or ts i d

  term_then_others : drop i ts ≡ t ∷ drop (i + 1) ts
  term_then_others = drop_more ts i d h

  ordered_here : IsOrderedFrom 0 (t ∷ drop (i + 1) ts)
  ordered_here = subst (IsOrderedFrom 0) term_then_others (ordered_from ts 0 i order)

  coefficient_behind : coefficient (drop (i + 1) ts) t.var ≡ pos 0
  coefficient_behind = coefficient-later (drop (i + 1) ts) (suc t.var) t.var ordered_here.2 (omega arith)

  coefficient_here : coefficient (drop i ts) t.var ≡ t.coef
  coefficient_here =
      ap (λ us. coefficient us t.var) term_then_others ∙ coefficient-same t (drop (i + 1) ts) t.var refl ∙ omega (arith, ints, coefficient_behind)

  coefficient_elsewhere : (var : ℕ) → t.var ≢ var → coefficient (drop i ts) var ≡ coefficient (drop (i + 1) ts) var
  coefficient_elsewhere var other = ap (λ us. coefficient us var) term_then_others ∙ coefficient-other t (drop (i + 1) ts) var other

  coefficient_some : int_eq t.coef (pos 0) ≡ false
  coefficient_some = false_from_ne_true (int_eq t.coef (pos 0)) (λ e. ordered_here.1 ((Decides-int_eq t.coef (pos 0)).0 e))

-- ---- a sum that takes each coefficient that isn't 0

-- what a coefficient does to a sum, where it isn't 0
abbrev pub taken_in : (ℤ → Fraction → Checked Fraction) → ℤ → Fraction → Checked Fraction
taken_in op k c = if int_eq k (pos 0) then Ok c else op k c

none_taken : (op : ℤ → Fraction → Checked Fraction) (k : ℤ) (x : Checked Fraction) → k ≡ pos 0 → and_then x (taken_in op k) ≡ x
none_taken op k (Err leaves) e = refl
none_taken op k (Ok c) e = rw e refl

some_taken : (op : ℤ → Fraction → Checked Fraction) (k : ℤ) (x : Checked Fraction) → int_eq k (pos 0) ≡ false → and_then x (taken_in op k) ≡ and_then x (op k)
some_taken op k (Err leaves) e = refl
some_taken op k (Ok c) e = rw e refl

module _ (op : ℤ → Fraction → Checked Fraction) (ts : List Term) (i : ℕ) (d : Term) (sums : List (Checked Fraction)) (cell : Checked Fraction)
    (h : i < length ts) (order : IsOrdered ts) (there : (get_or ts i d).var < length sums)
    (cell_is : cell ≡ and_then (sum_of_var sums (get_or ts i d).var) (op (get_or ts i d).coef)) where
  abbrev this : Term
  this = get_or ts i d

  at_its_variable : and_then (sum_of_var (set sums this.var cell) this.var) (taken_in op (coefficient (drop (i + 1) ts) this.var))
      ≡ and_then (sum_of_var sums this.var) (taken_in op (coefficient (drop i ts) this.var))
  at_its_variable =
      none_taken op (coefficient (drop (i + 1) ts) this.var) (sum_of_var (set sums this.var cell) this.var) (coefficient_behind ts i d h order)
      ∙ get_or-set_same sums this.var cell (Ok nothing) there
      ∙ cell_is
      ∙ sym (some_taken op this.coef (sum_of_var sums this.var) (coefficient_some ts i d h order))
      ∙ ap (λ k. and_then (sum_of_var sums this.var) (taken_in op k)) (sym (coefficient_here ts i d h order))

  at_another : (var : ℕ) → this.var ≢ var
      → and_then (sum_of_var (set sums this.var cell) var) (taken_in op (coefficient (drop (i + 1) ts) var))
      ≡ and_then (sum_of_var sums var) (taken_in op (coefficient (drop i ts) var))
  at_another var other =
      ap (λ x. and_then x (taken_in op (coefficient (drop (i + 1) ts) var))) (get_or-set_other sums this.var var cell (Ok nothing) (λ e. other (sym e)))
      ∙ ap (λ k. and_then (sum_of_var sums var) (taken_in op k)) (sym (coefficient_elsewhere ts i d h order var other))

  -- the term at i is taken in, and then the others
  pub term_taken : (var : ℕ) → and_then (sum_of_var (set sums this.var cell) var) (taken_in op (coefficient (drop (i + 1) ts) var))
      ≡ and_then (sum_of_var sums var) (taken_in op (coefficient (drop i ts) var))
  term_taken var = by (this.var == var) refl
    where
      by : (b : Bool) → (this.var == var) ≡ b
          → and_then (sum_of_var (set sums this.var cell) var) (taken_in op (coefficient (drop (i + 1) ts) var))
          ≡ and_then (sum_of_var sums var) (taken_in op (coefficient (drop i ts) var))
      by true e = let same : this.var ≡ var = (Decides-eqb this.var var).0 e in
          subst (λ v. and_then (sum_of_var (set sums this.var cell) v) (taken_in op (coefficient (drop (i + 1) ts) v)) ≡ and_then (sum_of_var sums v) (taken_in op (coefficient (drop i ts) v))) same at_its_variable
      by false e = at_another var (λ same. let f = (Decides-eqb this.var var).1 same in cc)

-- ---- a multiplier times each coefficient

abbrev pub product_added : Fraction → ℤ → Fraction → Checked Fraction
product_added by k c = and_then (multiplied by (whole k)) (λ p. and_then (added c p) (λ d. Ok d))

pub plus_product_is : (x : Checked Fraction) (by : Fraction) (k : ℤ) → plus_product x by k ≡ and_then x (product_added by k)
plus_product_is (Err leaves) by k = refl
plus_product_is (Ok c) by k = each (multiplied by (whole k))
  where
    last : (y : Checked Fraction) → y ≡ and_then y (λ d. Ok d)
    last (Ok d) = refl
    last (Err leaves) = refl

    each : (m : Checked Fraction) → and_then m (λ p. added c p) ≡ and_then m (λ p. and_then (added c p) (λ d. Ok d))
    each (Ok p) = last (added c p)
    each (Err leaves) = refl

-- ---- the rows one by one

skipped_or : (b : Bool) (x : Checked Fraction) (c : Fraction) (f : Fraction → Checked Fraction) (next : Fraction → Checked Fraction)
    → (let y : Checked Fraction = if b then next c else and_then x (λ p. and_then (f p) next) in y)
    ≡ and_then (if b then Ok c else and_then x (λ p. and_then (f p) (λ d. Ok d))) next
skipped_or true x c f next = refl
skipped_or false (Err e) c f next = refl
skipped_or false (Ok p) c f next = each (f p)
  where
    each : (y : Checked Fraction) → and_then y next ≡ and_then (and_then y (λ d. Ok d)) next
    each (Ok d) = refl
    each (Err leaves) = refl

-- the first row, and then the others
rows_more : (var : ℕ) (w : Weighted) (ws : List Weighted) (c : Fraction)
    → add_coefficients var (w ∷ ws) c ≡ and_then (add_coefficients var (w ∷ []) c) (λ d. add_coefficients var ws d)
rows_more var w ws c =
    let k = coefficient w.row.terms var in
    skipped_or (int_eq k (pos 0)) (multiplied w.by (whole k)) c (λ p. added c p) (λ d. add_coefficients var ws d)

-- the row of the entry at i is taken in, and then the others
pub row_taken : (P : Problem) (cuts : List Row) (es : List Entry) (i : ℕ) (e : Entry) (row : Row) (var : ℕ) (x : Checked Fraction)
    → i < length es → e ≡ get_or es i e → row_named P cuts e.row ≡ Some row
    → and_then (and_then x (add_coefficients var (with_row e.by row ∷ []))) (add_coefficients var (weighted_rows P cuts (drop (i + 1) es)))
    ≡ and_then x (add_coefficients var (weighted_rows P cuts (drop i es)))
row_taken P cuts es i e row var (Err leaves) h is named = refl
row_taken P cuts es i e row var (Ok c) h is named =
    let first : weighted_rows P cuts (e ∷ drop (i + 1) es) ≡ with_row e.by row ∷ weighted_rows P cuts (drop (i + 1) es) = rw named refl in
    let more : weighted_rows P cuts (drop i es) ≡ with_row e.by row ∷ weighted_rows P cuts (drop (i + 1) es) =
    at_drop_more (weighted_rows P cuts) es i e h ∙ ap (λ f. weighted_rows P cuts (f ∷ drop (i + 1) es)) (sym is) ∙ first in
    sym (ap (λ (ws : List Weighted). add_coefficients var ws c) more
    ∙ rows_more var (with_row e.by row) (weighted_rows P cuts (drop (i + 1) es)) c)
