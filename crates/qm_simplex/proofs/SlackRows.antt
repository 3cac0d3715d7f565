-- The weighted rows of the slacks' entries: what they come to together is what the slacks come to, each times its multiplier.
use Rattle.std.proofs.Common.{◌≡◌, ◌∙◌, refl, sym, ap, subst, ℕ, zero, suc, ◌+◌, ◌-◌, ◌<◌, ◌≤◌, Bool, true, false, List, [], ◌∷◌, ◌++◌, length, get_or, map, arith, All, Option, Some, pos, if◌then◌else◌, nat_lt}
use Rattle.std.specs.Prelude.{slice_get}
use Rattle.std.specs.Option.{option_map}
use Rattle.std.specs.List.{filter_map}
use Rattle.std.specs.Ordering.{int_eq}
use Rattle.std.proofs.lemmas.Int.{ints}
use Rattle.std.proofs.lemmas.Option.{slice_get-get_or}
use Rattle.std.proofs.lemmas.Bool.Decides.{nat_tests}
use Rattle.std.proofs.lemmas.List.Elements.{All-append, All-cons, All-head, All-nil, All-tail, filter_map-append}
use Rattle.qm_math.specs.Fraction.{Fraction, HasPositiveDen, IsSame, whole}
use Rattle.qm_math.specs.Arithmetic.{difference_of, product_of, sum_of}
use Rattle.qm_math.specs.Totals.{total_of}
use Rattle.qm_math.proofs.Polynomials.{number, ◌⊕◌, ◌⊗◌, minus}
use Rattle.qm_math.proofs.Ring.{x0, x1, x2, x3, x4, x5, x6, x7}
use Rattle.qm_math.proofs.FractionRing.{den_of, num_of, same_by_ring, same_from}
use Rattle.qm_math.proofs.FractionLinear.{same_given}
use Rattle.qm_math.proofs.FractionLaws.{product_of_den, same_refl, same_trans, sum_of-same, sum_of-zero, sum_of_den, whole_den}
use Rattle.qm_math.proofs.Totals.{total_of-append, total_of_den}
use Rattle.qm_model.specs.declared.row.Row.{Row}
use Rattle.qm_model.specs.declared.row_id.RowId.{RowId}
use Rattle.qm_model.specs.declared.row_id.RowId.TheVariants as id
use Rattle.qm_model.specs.declared.game.Problem.{Problem}
use Rattle.qm_model.specs.Linear.{coefficient}
use Rattle.qm_tableau.specs.Quantities.{slack_quantity}
use Rattle.qm_tableau.specs.Good.{quantity_value}
use Rattle.qm_tableau.proofs.Constants.{quantity_den}
use Rattle.qm_trees.specs.declared.combination.Entry.{Entry}
use Rattle.qm_trees.specs.Entries.{Weighted, row_named, weighted_rows, with_row}
use Rattle.qm_trees.specs.BoxPoints.{form_of}
use Rattle.qm_trees.proofs.CombinationSound.{combined_right, combined_right_den, combined_row_at, combined_row_at_den, form_of-nothing, row_form}
use Rattle.qm_trees.proofs.CombinationSound.{form_of-combined}
use Rattle.qm_simplex.specs.Multipliers.{entries_below, entry_for, slack_name, slack_rows}
use Rattle.qm_simplex.proofs.PointValues.{form_den, row_form_den, slack_value}

-- ---- the row that a slack's name names
get_left : {X : Type 0} (xs ys : List X) (n : ℕ) → nat_lt n (length xs) ≡ true → slice_get xs n ≡ slice_get (xs ++ ys) n
get_left [] ys n h = absurd (grind (arith, nat_tests))
get_left (x ∷ xs) ys zero h = refl
get_left (x ∷ xs) ys (suc n) h = get_left xs ys n (grind (arith, nat_tests))

get_right : {X : Type 0} (xs ys : List X) (n : ℕ) → nat_lt n (length xs) ≡ false → slice_get ys (n - length xs) ≡ slice_get (xs ++ ys) n
get_right [] ys n h = let at : n - 0 ≡ n = omega arith in ap (slice_get ys) at
get_right (x ∷ xs) ys zero h = absurd (grind (arith, nat_tests))
get_right (x ∷ xs) ys (suc n) h =
    let at : suc n - suc (length xs) ≡ n - length xs = omega arith in
    ap (slice_get ys) at ∙ get_right xs ys n (grind (arith, nat_tests))

named_row : (P : Problem) (cuts : List Row) (n : ℕ) → row_named P cuts (slack_name (length P.rows) (length P.urows) n) ≡ slice_get (slack_rows P cuts) n
named_row P cuts n = by_part (nat_lt n (length P.rows)) (nat_lt (n - length P.rows) (length P.urows)) refl refl
  where
    by_part : (a b : Bool) → nat_lt n (length P.rows) ≡ a → nat_lt (n - length P.rows) (length P.urows) ≡ b
        → row_named P cuts (if a then id.Row n else (if b then id.Uncertain (n - length P.rows) else id.Cut (n - length P.rows - length P.urows))) ≡ slice_get (slack_rows P cuts) n
    by_part true b e f = get_left P.rows (P.urows ++ cuts) n e
    by_part false true e f = get_left P.urows cuts (n - length P.rows) f ∙ get_right P.rows (P.urows ++ cuts) n e
    by_part false false e f = get_right P.urows cuts (n - length P.rows) f ∙ get_right P.rows (P.urows ++ cuts) n e

pub slack_row : (P : Problem) (cuts : List Row) (n : ℕ) (d : Row) → n < length (slack_rows P cuts)
    → row_named P cuts (slack_name (length P.rows) (length P.urows) n) ≡ Some (get_or (slack_rows P cuts) n d)
slack_row P cuts n d h = named_row P cuts n ∙ slice_get-get_or (slack_rows P cuts) n d h

-- ---- sums over the numbers below n
abbrev sum_below : (ℕ → Fraction) → ℕ → Fraction
sum_below g zero = whole (pos 0)
sum_below g (suc n) = sum_of (sum_below g n) (g n)

below_same : (g h : ℕ → Fraction) (n : ℕ) → ((i : ℕ) → g i ≡ h i) → sum_below g n ≡ sum_below h n
below_same g h zero e = refl
below_same g h (suc n) e = ap (λ (s : Fraction). sum_of s (g n)) (below_same g h n e) ∙ ap (sum_of (sum_below h n)) (e n)

first_step : (s a r b : Fraction) → IsSame s (sum_of a r) → IsSame (sum_of s b) (sum_of a (sum_of r b))
first_step s a r b e = same_from (s ∷ a ∷ r ∷ b ∷ []) (x0 ⊕ x3) (x1 ⊕ (x2 ⊕ x3)) ((den_of (x3 ⊗ x3), x0, x1 ⊕ x2) ∷ []) (e, tt) refl

-- the first first
first_first : (g : ℕ → Fraction) (n : ℕ) → IsSame (sum_below g (suc n)) (sum_of (g 0) (sum_below (λ i. g (suc i)) n))
first_first g zero = same_by_ring (g 0 ∷ []) (number (pos 0) ⊕ x0) (x0 ⊕ number (pos 0)) refl
first_first g (suc n) = first_step (sum_below g (suc n)) (g 0) (sum_below (λ i. g (suc i)) n) (g (suc n)) (first_first g n)

below_den : (g : ℕ → Fraction) (n : ℕ) → ((i : ℕ) → 0 < (g i).den) → 0 < (sum_below g n).den
below_den g zero h = whole_den (pos 0)
below_den g (suc n) h = sum_of_den (sum_below g n) (g n) (below_den g n h) (h n)

pub as_form : (k : ℕ → Fraction) (f : Row → Fraction) (s : ℕ) (rows : List Row) (d : Row) → ((n : ℕ) → 0 < (k n).den) → ((row : Row) → 0 < (f row).den)
    → IsSame (sum_below (λ i. product_of (k (s + i)) (f (get_or rows i d))) (length rows)) (form_of k s (map f rows))
as_form k f s [] d kd fd = refl
as_form k f s (r ∷ rows) d kd fd =
    let g : ℕ → Fraction = λ i. product_of (k (s + i)) (f (get_or (r ∷ rows) i d)) in
    let gd : (i : ℕ) → 0 < (g i).den = λ i. product_of_den (k (s + i)) (f (get_or (r ∷ rows) i d)) (kd (s + i)) (fd (get_or (r ∷ rows) i d)) in
    let n = length rows in
    let later = sum_below (λ i. g (suc i)) n in
    let next = sum_below (λ i. product_of (k (suc s + i)) (f (get_or rows i d))) n in
    let here : s + 0 ≡ s = omega arith in
    let moved : later ≡ next =
    below_same (λ i. g (suc i)) (λ i. product_of (k (suc s + i)) (f (get_or rows i d))) n
    (λ i. (let at : s + suc i ≡ suc s + i = omega arith in ap (λ (m : ℕ). product_of (k m) (f (get_or rows i d))) at)) in
    let rest : IsSame later (form_of k (suc s) (map f rows)) =
    subst (λ (z : Fraction). IsSame z (form_of k (suc s) (map f rows))) (sym moved) (as_form k f (suc s) rows d kd fd) in
    let head : g 0 ≡ product_of (k s) (f r) = ap (λ (m : ℕ). product_of (k m) (f r)) here in
    same_trans (sum_below g (suc n)) (sum_of (g 0) later) (sum_of (product_of (k s) (f r)) (form_of k (suc s) (map f rows)))
    (sum_of_den (g 0) later (gd 0) (below_den (λ i. g (suc i)) n (λ i. gd (suc i)))) (first_first g n)
    (subst (λ (z : Fraction). IsSame (sum_of (g 0) later) (sum_of z (form_of k (suc s) (map f rows)))) head
    (sum_of-same (g 0) later (g 0) (form_of k (suc s) (map f rows)) (same_refl (g 0)) rest))

-- ---- the rows that the entries name
no_product : (k x : Fraction) → int_eq k.num (pos 0) ≡ true → IsSame (whole (pos 0)) (product_of k x)
no_product k x e =
    let none : IsSame (whole (pos 0)) k = is_none k e in
    same_from (k ∷ x ∷ []) (number (pos 0)) (x0 ⊗ x1) ((num_of x1, number (pos 0), x0) ∷ []) (none, tt) refl
  where
    is_none : (k : Fraction) → int_eq k.num (pos 0) ≡ true → IsSame (whole (pos 0)) k
    is_none k e = let z : k.num ≡ pos 0 = grind (arith, ints) in omega (arith, ints, z)

module _ (P : Problem) (cuts : List Row) (by : ℕ → Fraction) (d : Row) where
  abbrev name : ℕ → RowId
  name = slack_name (length P.rows) (length P.urows)

  abbrev row_of : ℕ → Row
  row_of i = get_or (slack_rows P cuts) i d

  abbrev weighted_below : ℕ → List Weighted
  weighted_below n = weighted_rows P cuts (entries_below name by n)

  one_weighted : (n : ℕ) → n < length (slack_rows P cuts) → weighted_rows P cuts (record { row = name n; by = by n } ∷ []) ≡ with_row (by n) (row_of n) ∷ []
  one_weighted n h = ap (λ (r : Option Row). with_option (option_map (with_row (by n)) r)) (slack_row P cuts n d h)
    where
      with_option : Option Weighted → List Weighted
      with_option o = filter_map (λ (u : ℕ). o) (0 ∷ [])

  all_one : (R : Weighted → Type 0) (n : ℕ) → n < length (slack_rows P cuts) → R (with_row (by n) (row_of n)) → All R (weighted_rows P cuts (entry_for (name n) (by n)))
  all_one R n h holds = by_test (int_eq (by n).num (pos 0))
    where
      by_test : (b : Bool) → All R (weighted_rows P cuts (if b then [] else record { row = name n; by = by n } ∷ []))
      by_test true = All-nil R
      by_test false = subst (All R) (sym (one_weighted n h)) (All-cons R (with_row (by n) (row_of n)) [] holds (All-nil R))

  -- what holds of each row with its multiplier holds of all
  pub all_below : (R : Weighted → Type 0) (n : ℕ) → n ≤ length (slack_rows P cuts) → ((i : ℕ) → i < length (slack_rows P cuts) → R (with_row (by i) (row_of i)))
      → All R (weighted_below n)
  all_below R zero h holds = All-nil R
  all_below R (suc n) h holds =
      subst (All R) (sym (filter_map-append (λ (e : Entry). option_map (with_row e.by) (row_named P cuts e.row)) (entries_below name by n) (entry_for (name n) (by n))))
      (All-append R (weighted_below n) (weighted_rows P cuts (entry_for (name n) (by n))) (all_below R n (omega (arith, h)) holds)
      (all_one R n (omega (arith, h)) (holds n (omega (arith, h)))))

  module _ (f : Row → Fraction) (byd : (n : ℕ) → 0 < (by n).den) (fd : (row : Row) → 0 < (f row).den) where
    abbrev weighed : Weighted → Fraction
    weighed w = product_of w.by (f w.row)

    abbrev term : ℕ → Fraction
    term i = product_of (by i) (f (row_of i))

    term_den : (i : ℕ) → 0 < (term i).den
    term_den i = product_of_den (by i) (f (row_of i)) (byd i) (fd (row_of i))

    one_total : (n : ℕ) → n < length (slack_rows P cuts) → IsSame (total_of weighed (weighted_rows P cuts (entry_for (name n) (by n)))) (term n)
    one_total n h = by_test (int_eq (by n).num (pos 0)) refl
      where
        by_test : (b : Bool) → int_eq (by n).num (pos 0) ≡ b → IsSame (total_of weighed (weighted_rows P cuts (if b then [] else record { row = name n; by = by n } ∷ []))) (term n)
        by_test true e = no_product (by n) (f (row_of n)) e
        by_test false e = subst (λ (ws : List Weighted). IsSame (total_of weighed ws) (term n)) (sym (one_weighted n h)) (sum_of-zero (term n))

    total_below : (n : ℕ) → n ≤ length (slack_rows P cuts) → IsSame (total_of weighed (weighted_below n)) (sum_below term n)
    total_below zero h = refl
    total_below (suc n) h =
        let before = weighted_below n in
        let one = weighted_rows P cuts (entry_for (name n) (by n)) in
        let split = filter_map-append (λ (e : Entry). option_map (with_row e.by) (row_named P cuts e.row)) (entries_below name by n) (entry_for (name n) (by n)) in
        let dens : (i : ℕ) → i < length (slack_rows P cuts) → 0 < (weighed (with_row (by i) (row_of i))).den = λ i below. term_den i in
        let before_den = total_of_den weighed before (all_below (λ (w : Weighted). 0 < (weighed w).den) n (omega (arith, h)) dens) in
        let one_den = total_of_den weighed one (all_one (λ (w : Weighted). 0 < (weighed w).den) n (omega (arith, h)) (term_den n)) in
        subst (λ (ws : List Weighted). IsSame (total_of weighed ws) (sum_of (sum_below term n) (term n))) (sym split)
        (same_trans (total_of weighed (before ++ one)) (sum_of (total_of weighed before) (total_of weighed one)) (sum_of (sum_below term n) (term n))
        (sum_of_den (total_of weighed before) (total_of weighed one) before_den one_den) (total_of-append weighed before one)
        (sum_of-same (total_of weighed before) (total_of weighed one) (sum_below term n) (term n) (total_below n (omega (arith, h))) (one_total n (omega (arith, h)))))

-- the weighted rows come to what the slacks come to, each times its multiplier
pub total_is : (P : Problem) (cuts : List Row) (k : ℕ → Fraction) (s : ℕ) (f : Row → Fraction) (d : Row) → ((n : ℕ) → 0 < (k n).den) → ((row : Row) → 0 < (f row).den)
    → IsSame (total_of (λ (w : Weighted). product_of w.by (f w.row)) (weighted_rows P cuts
    (entries_below (slack_name (length P.rows) (length P.urows)) (λ n. k (s + n)) (length (slack_rows P cuts))))) (form_of k s (map f (slack_rows P cuts)))
total_is P cuts k s f d kd fd =
    let by : ℕ → Fraction = λ n. k (s + n) in
    let n = length (slack_rows P cuts) in
    let ws = weighted_rows P cuts (entries_below (slack_name (length P.rows) (length P.urows)) by n) in
    let terms = sum_below (λ i. product_of (by i) (f (get_or (slack_rows P cuts) i d))) n in
    same_trans (total_of (λ (w : Weighted). product_of w.by (f w.row)) ws) terms (form_of k s (map f (slack_rows P cuts)))
    (below_den (λ i. product_of (by i) (f (get_or (slack_rows P cuts) i d))) n
    (λ i. product_of_den (by i) (f (get_or (slack_rows P cuts) i d)) (kd (s + i)) (fd (get_or (slack_rows P cuts) i d))))
    (total_below P cuts by d f (λ i. kd (s + i)) fd n (omega arith)) (as_form k f s (slack_rows P cuts) d kd fd)

-- ---- the slacks of weighted rows together
slack_step : (k q right row rest cr fr all : Fraction) → 0 < k.den → 0 < q.den → 0 < right.den → 0 < row.den → 0 < rest.den → 0 < cr.den → 0 < fr.den → 0 < all.den
    → IsSame q (difference_of right row) → IsSame rest (difference_of cr fr) → IsSame all (sum_of (product_of k row) fr)
    → IsSame (sum_of (product_of k q) rest) (difference_of (sum_of (product_of k right) cr) all)
slack_step k q right row rest cr fr all kd qd rightd rowd restd crd frd alld e f g =
    same_given (k ∷ q ∷ right ∷ row ∷ rest ∷ cr ∷ fr ∷ all ∷ []) (x0 ⊗ x1 ⊕ x4) (x0 ⊗ x2 ⊕ x5 ⊕ minus x7)
    ((x0, x1, x2 ⊕ minus x3) ∷ (number (pos 1), x4, x5 ⊕ minus x6) ∷ (number (pos 1), x7, x0 ⊗ x3 ⊕ x6) ∷ [])
    (kd, (qd, (rightd, (rowd, (restd, (crd, (frd, (alld, tt)))))))) (e, (f, (g, tt))) refl

pub slack_total : (xs : List Fraction) (ws : List Weighted) → All HasPositiveDen xs → All (λ (w : Weighted). 0 < w.by.den) ws
    → IsSame (total_of (λ (w : Weighted). product_of w.by (quantity_value xs (slack_quantity w.row))) ws) (difference_of (combined_right ws) (form_of (combined_row_at ws) 0 xs))
slack_total xs [] d dens =
    let n = form_of (λ (var : ℕ). whole (pos 0)) 0 xs in
    same_given (n ∷ []) (number (pos 0)) (number (pos 0) ⊕ minus x0) ((number (pos 1), x0, number (pos 0)) ∷ [])
    (form_den (λ var. whole (pos 0)) 0 xs (λ var. whole_den (pos 0)) d, tt) (form_of-nothing 0 xs, tt) refl
slack_total xs (w ∷ ws) d dens =
    let here = All-head (λ (w : Weighted). 0 < w.by.den) w ws dens in
    let after = All-tail (λ (w : Weighted). 0 < w.by.den) w ws dens in
    let q = quantity_value xs (slack_quantity w.row) in
    let weighed : Weighted → Fraction = λ w. product_of w.by (quantity_value xs (slack_quantity w.row)) in
    let weighed_den : (v : Weighted) → 0 < v.by.den → 0 < (weighed v).den = λ v vd. product_of_den v.by (quantity_value xs (slack_quantity v.row)) vd (quantity_den xs (slack_quantity v.row) d) in
    slack_step w.by q (whole w.row.right) (row_form xs w.row) (total_of weighed ws) (combined_right ws) (form_of (combined_row_at ws) 0 xs) (form_of (combined_row_at (w ∷ ws)) 0 xs)
    here (quantity_den xs (slack_quantity w.row) d) (whole_den w.row.right) (row_form_den xs w.row d)
    (total_of_den weighed ws (λ i e below. weighed_den (get_or ws i e) (after i e below)))
    (combined_right_den ws after) (form_den (combined_row_at ws) 0 xs (λ n. combined_row_at_den ws n after) d)
    (form_den (combined_row_at (w ∷ ws)) 0 xs (λ n. combined_row_at_den (w ∷ ws) n dens) d)
    (slack_value xs w.row d) (slack_total xs ws d after) (form_of-combined w.by (λ n. whole (coefficient w.row.terms n)) (combined_row_at ws) 0 xs)
