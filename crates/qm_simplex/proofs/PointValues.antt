-- What quantities come to at a point: slacks are what a row leaves of its right side, and a point where no distance from an
-- end is negative is in the box.
use Rattle.std.proofs.Common.{◌≡◌, refl, sym, ap, subst, ℕ, zero, suc, ◌+◌, ◌<◌, true, false, List, [], ◌∷◌, length, get_or, map, arith, All, ℤ, pos, neg_ℤ}
use Rattle.std.specs.List.{AllZip}
use Rattle.std.proofs.lemmas.List.Elements.{All-cons, All-head, All-nil, All-tail}
use Rattle.qm_math.specs.Fraction.{Fraction, HasPositiveDen, IsAtMost, IsSame, whole}
use Rattle.qm_math.specs.Arithmetic.{difference_of, negated, product_of, sum_of}
use Rattle.qm_math.specs.Ends.{IsWithin}
use Rattle.qm_math.proofs.Polynomials.{number, ◌⊕◌, ◌⊗◌, minus}
use Rattle.qm_math.proofs.Ring.{x0, x1, x2, x3, x4}
use Rattle.qm_math.proofs.FractionRing.{same_by_ring}
use Rattle.qm_math.proofs.FractionLinear.{at_most_given, same_given}
use Rattle.qm_math.proofs.FractionLaws.{negated-whole, product_of-same, product_of_den, same_refl, sum_of-same, sum_of_comm, sum_of_den, whole_den}
use Rattle.qm_model.specs.declared.range.Range.{Range}
use Rattle.qm_model.specs.declared.row.Row.{Row}
use Rattle.qm_model.specs.declared.game.Problem.{Problem}
use Rattle.qm_model.specs.Linear.{coefficient}
use Rattle.qm_model.proofs.BoxForms.{no_range}
use Rattle.qm_tableau.specs.Tables.{entry_of}
use Rattle.qm_tableau.specs.Quantities.{Quantity, bound_quantities, coefficient_in, high_quantity, low_quantity, objective_quantity, slack_quantity}
use Rattle.qm_tableau.specs.Good.{linear_value, quantity_value}
use Rattle.qm_tableau.proofs.Constants.{linear_den, quantity_den}
use Rattle.qm_tableau.proofs.Exactness.{entry_den}
use Rattle.qm_tableau.proofs.Moving.{bound_quantity, bound_value, offset}
use Rattle.qm_trees.specs.BoxPoints.{HoldsAt, IsInBox, form_of}
use Rattle.qm_trees.proofs.CombinationSound.{row_form}

-- ---- forms
pub form_den : (k : ℕ → Fraction) (var : ℕ) (xs : List Fraction) → ((n : ℕ) → 0 < (k n).den) → All HasPositiveDen xs → 0 < (form_of k var xs).den
form_den k var [] h d = whole_den (pos 0)
form_den k var (x ∷ xs) h d =
    sum_of_den (product_of (k var) x) (form_of k (suc var) xs) (product_of_den (k var) x (h var) (All-head HasPositiveDen x xs d))
    (form_den k (suc var) xs h (All-tail HasPositiveDen x xs d))

pub row_form_den : (xs : List Fraction) (row : Row) → All HasPositiveDen xs → 0 < (row_form xs row).den
row_form_den xs row d = form_den (λ n. whole (coefficient row.terms n)) 0 xs (λ n. whole_den (coefficient row.terms n)) d

pub linear_form : (f : ℕ → ℤ) (var : ℕ) (xs : List Fraction) → linear_value f var xs ≡ form_of (λ n. whole (f n)) var xs
linear_form f var [] = refl
linear_form f var (x ∷ xs) = ap (λ (s : Fraction). sum_of (product_of (whole (f var)) x) s) (linear_form f (suc var) xs)

turned_step : (a : ℤ) (x l m : Fraction) → 0 < x.den → 0 < l.den → 0 < m.den → IsSame l (negated m)
    → IsSame (sum_of (product_of (whole (neg_ℤ a)) x) l) (negated (sum_of (product_of (whole a) x) m))
turned_step a x l m xd ld md e =
    let turned : IsSame (whole (neg_ℤ a)) (negated (whole a)) = sym (negated-whole a) in
    same_given (whole (neg_ℤ a) ∷ whole a ∷ x ∷ l ∷ m ∷ []) (x0 ⊗ x2 ⊕ x3) (minus (x1 ⊗ x2 ⊕ x4)) ((x2, x0, minus x1) ∷ (number (pos 1), x3, minus x4) ∷ [])
    (whole_den (neg_ℤ a), (whole_den a, (xd, (ld, (md, tt))))) (turned, (e, tt)) refl

pub turned_form : (f : ℕ → ℤ) (var : ℕ) (xs : List Fraction) → All HasPositiveDen xs
    → IsSame (linear_value (λ n. neg_ℤ (f n)) var xs) (negated (form_of (λ n. whole (f n)) var xs))
turned_form f var [] d = same_by_ring [] (number (pos 0)) (minus (number (pos 0))) refl
turned_form f var (x ∷ xs) d =
    let xsd = All-tail HasPositiveDen x xs d in
    turned_step (f var) x (linear_value (λ n. neg_ℤ (f n)) (suc var) xs) (form_of (λ n. whole (f n)) (suc var) xs) (All-head HasPositiveDen x xs d)
    (linear_den (λ n. neg_ℤ (f n)) (suc var) xs xsd) (form_den (λ n. whole (f n)) (suc var) xs (λ n. whole_den (f n)) xsd) (turned_form f (suc var) xs xsd)

-- ---- the quantities
pub slack_value : (xs : List Fraction) (row : Row) → All HasPositiveDen xs
    → IsSame (quantity_value xs (slack_quantity row)) (difference_of (whole row.right) (row_form xs row))
slack_value xs row d =
    sum_of-same (whole row.right) (linear_value (λ n. neg_ℤ (coefficient row.terms n)) 0 xs) (whole row.right) (negated (row_form xs row))
    (same_refl (whole row.right)) (turned_form (λ n. coefficient row.terms n) 0 xs d)

abbrev pub objective_sum : Problem → List Fraction → Fraction
objective_sum P xs = sum_of (form_of (λ var. whole (coefficient P.terms var)) 0 xs) (whole P.constant)

pub objective_sum_den : (P : Problem) (xs : List Fraction) → All HasPositiveDen xs → 0 < (objective_sum P xs).den
objective_sum_den P xs d =
    sum_of_den (form_of (λ var. whole (coefficient P.terms var)) 0 xs) (whole P.constant)
    (form_den (λ n. whole (coefficient P.terms n)) 0 xs (λ n. whole_den (coefficient P.terms n)) d) (whole_den P.constant)

pub objective_value : (P : Problem) (xs : List Fraction) → IsSame (quantity_value xs (objective_quantity P)) (objective_sum P xs)
objective_value P xs =
    subst (λ (l : Fraction). IsSame (sum_of (whole P.constant) l) (objective_sum P xs)) (sym (linear_form (λ n. coefficient P.terms n) 0 xs))
    (sum_of_comm (whole P.constant) (form_of (λ n. whole (coefficient P.terms n)) 0 xs))

-- the same points give the same
linear_same : (f : ℕ → ℤ) (var : ℕ) (xs ys : List Fraction) → AllZip IsSame xs ys → IsSame (linear_value f var xs) (linear_value f var ys)
linear_same f var [] [] e = refl
linear_same f var [] (y ∷ ys) e = absurd e
linear_same f var (x ∷ xs) [] e = absurd e
linear_same f var (x ∷ xs) (y ∷ ys) e =
    sum_of-same (product_of (whole (f var)) x) (linear_value f (suc var) xs) (product_of (whole (f var)) y) (linear_value f (suc var) ys)
    (product_of-same (whole (f var)) x (whole (f var)) y (same_refl (whole (f var))) e.0) (linear_same f (suc var) xs ys e.1)

pub quantity_same : (xs ys : List Fraction) (q : Quantity) → AllZip IsSame xs ys → IsSame (quantity_value xs q) (quantity_value ys q)
quantity_same xs ys q e =
    sum_of-same (whole q.constant) (linear_value (coefficient_in q) 0 xs) (whole q.constant) (linear_value (coefficient_in q) 0 ys) (same_refl (whole q.constant))
    (linear_same (coefficient_in q) 0 xs ys e)

pub quantities_same : (xs ys : List Fraction) (qs : List Quantity) → AllZip IsSame xs ys → AllZip IsSame (map (quantity_value xs) qs) (map (quantity_value ys) qs)
quantities_same xs ys [] e = tt
quantities_same xs ys (q ∷ qs) e = (quantity_same xs ys q e, quantities_same xs ys qs e)

-- ---- a row holds where its slack isn't negative
abbrev pub IsSomeAt : List Fraction → Quantity → Type 0
IsSomeAt xs q = IsAtMost (whole (pos 0)) (quantity_value xs q)

slack_holds : (xs : List Fraction) (row : Row) → All HasPositiveDen xs → IsSomeAt xs (slack_quantity row) → HoldsAt xs row
slack_holds xs row d h =
    at_most_given (whole row.right ∷ row_form xs row ∷ quantity_value xs (slack_quantity row) ∷ []) x1 x0
    ((number (pos 1), x2, x0 ⊕ minus x1) ∷ []) ((number (pos 0), x2) ∷ [])
    (whole_den row.right, (row_form_den xs row d, (quantity_den xs (slack_quantity row) d, tt))) (slack_value xs row d, tt) (h, tt) refl

pub rows_hold : (xs : List Fraction) (rows : List Row) → All HasPositiveDen xs → All (IsSomeAt xs) (map slack_quantity rows) → All (HoldsAt xs) rows
rows_hold xs [] d h = All-nil (HoldsAt xs)
rows_hold xs (row ∷ rows) d h =
    All-cons (HoldsAt xs) row rows (slack_holds xs row d (All-head (IsSomeAt xs) (slack_quantity row) (map slack_quantity rows) h))
    (rows_hold xs rows d (All-tail (IsSomeAt xs) (slack_quantity row) (map slack_quantity rows) h))

-- ---- the two distances from the ends of a range
pub high_value : (j : ℕ) (r : Range) (xs : List Fraction) → j < length xs → All HasPositiveDen xs
    → IsSame (quantity_value xs (high_quantity j r)) (difference_of (whole r.high) (entry_of xs j))
unfolding bound_quantity offset
high_value j r xs inside d = bound_value true j r xs inside d

pub low_value : (j : ℕ) (r : Range) (xs : List Fraction) → j < length xs → All HasPositiveDen xs
    → IsSame (quantity_value xs (low_quantity j r)) (difference_of (entry_of xs j) (whole r.low))
unfolding bound_quantity offset
low_value j r xs inside d = bound_value false j r xs inside d

below_high : (h x q : Fraction) → 0 < h.den → 0 < x.den → 0 < q.den → IsSame q (difference_of h x) → IsAtMost (whole (pos 0)) q → IsAtMost x h
below_high h x q hd xd qd e more =
    at_most_given (h ∷ x ∷ q ∷ []) x1 x0 ((number (pos 1), x2, x0 ⊕ minus x1) ∷ []) ((number (pos 0), x2) ∷ []) (hd, (xd, (qd, tt))) (e, tt) (more, tt) refl

some_left : (h x q : Fraction) → 0 < h.den → 0 < x.den → 0 < q.den → IsSame q (difference_of h x) → IsAtMost x h → IsAtMost (whole (pos 0)) q
some_left h x q hd xd qd e more =
    at_most_given (h ∷ x ∷ q ∷ []) (number (pos 0)) x2 ((number (pos 1), x0 ⊕ minus x1, x2) ∷ []) ((x1, x0) ∷ []) (hd, (xd, (qd, tt))) (sym e, tt) (more, tt) refl

-- each variable's value between the ends of its range
abbrev pub IsWithinAt : List Range → List Fraction → ℕ → Type 0
IsWithinAt bx xs j = IsWithin (whole (get_or bx j no_range).low) (whole (get_or bx j no_range).high) (entry_of xs j)

pub in_box : (bx : List Range) (xs : List Fraction) → length xs ≡ length bx → All HasPositiveDen xs → ((j : ℕ) → j < length bx → IsWithinAt bx xs j) → IsInBox bx xs
in_box [] [] e d h = tt
in_box [] (x ∷ xs) e d h = absurd (omega (arith, e))
in_box (r ∷ bx) [] e d h = absurd (omega (arith, e))
in_box (r ∷ bx) (x ∷ xs) e d h = (
  All-head HasPositiveDen x xs d,
  h 0 (omega arith),
  in_box bx xs (omega (arith, e)) (All-tail HasPositiveDen x xs d) (λ j inside. h (suc j) (omega (arith, inside))),
)

pub within_box : (bx : List Range) (xs : List Fraction) → IsInBox bx xs → (j : ℕ) → j < length bx → IsWithinAt bx xs j
within_box [] xs inside j h = absurd (omega (arith, h))
within_box (r ∷ bx) [] inside j h = absurd inside
within_box (r ∷ bx) (x ∷ xs) inside zero h = inside.1
within_box (r ∷ bx) (x ∷ xs) inside (suc j) h = within_box bx xs inside.2 j (omega (arith, h))

pub box_long : (bx : List Range) (xs : List Fraction) → IsInBox bx xs → length xs ≡ length bx
box_long [] [] inside = refl
box_long [] (x ∷ xs) inside = absurd inside
box_long (r ∷ bx) [] inside = absurd inside
box_long (r ∷ bx) (x ∷ xs) inside = ap suc (box_long bx xs inside.2)

pub box_den : (bx : List Range) (xs : List Fraction) → IsInBox bx xs → All HasPositiveDen xs
box_den [] [] inside = All-nil HasPositiveDen
box_den [] (x ∷ xs) inside = absurd inside
box_den (r ∷ bx) [] inside = absurd inside
box_den (r ∷ bx) (x ∷ xs) inside = All-cons HasPositiveDen x xs inside.0 (box_den bx xs inside.2)

-- what holds of all bounds' quantities holds of each variable's two
bounds_each : (R : Quantity → Type 0) (var : ℕ) (bx : List Range) → All R (bound_quantities var bx) → (j : ℕ) → j < length bx
    → R (high_quantity (var + j) (get_or bx j no_range)) × R (low_quantity (var + j) (get_or bx j no_range))
bounds_each R var [] h j inside = absurd (omega (arith, inside))
bounds_each R var (r ∷ bx) h j inside = by_place j inside (λ i g. bounds_each R (suc var) bx after i g)
  where
    first : R (high_quantity var r)
    first = All-head R (high_quantity var r) (low_quantity var r ∷ bound_quantities (suc var) bx) h

    rest : All R (low_quantity var r ∷ bound_quantities (suc var) bx)
    rest = All-tail R (high_quantity var r) (low_quantity var r ∷ bound_quantities (suc var) bx) h

    second : R (low_quantity var r)
    second = All-head R (low_quantity var r) (bound_quantities (suc var) bx) rest

    after : All R (bound_quantities (suc var) bx)
    after = All-tail R (low_quantity var r) (bound_quantities (suc var) bx) rest

    by_place : (j : ℕ) → j < length (r ∷ bx)
        → ((i : ℕ) → i < length bx → R (high_quantity (suc var + i) (get_or bx i no_range)) × R (low_quantity (suc var + i) (get_or bx i no_range)))
        → R (high_quantity (var + j) (get_or (r ∷ bx) j no_range)) × R (low_quantity (var + j) (get_or (r ∷ bx) j no_range))
    by_place zero inside later =
        let at : var ≡ var + 0 = omega arith in
        subst (λ (n : ℕ). R (high_quantity n r) × R (low_quantity n r)) at (first, second)
    by_place (suc j) inside later =
        let at : suc var + j ≡ var + suc j = omega arith in
        subst (λ (n : ℕ). R (high_quantity n (get_or bx j no_range)) × R (low_quantity n (get_or bx j no_range))) at (later j (omega (arith, inside)))

pub bounds_all : (R : Quantity → Type 0) (var : ℕ) (bx : List Range)
    → ((j : ℕ) → j < length bx → R (high_quantity (var + j) (get_or bx j no_range)) × R (low_quantity (var + j) (get_or bx j no_range))) → All R (bound_quantities var bx)
bounds_all R var [] h = All-nil R
bounds_all R var (r ∷ bx) h =
    let at : var + 0 ≡ var = omega arith in
    let here : R (high_quantity var r) × R (low_quantity var r) = subst (λ (n : ℕ). R (high_quantity n r) × R (low_quantity n r)) at (h 0 (omega arith)) in
    All-cons R (high_quantity var r) (low_quantity var r ∷ bound_quantities (suc var) bx) here.0
    (All-cons R (low_quantity var r) (bound_quantities (suc var) bx) here.1
    (bounds_all R (suc var) bx (λ j inside.
    (let next : var + suc j ≡ suc var + j = omega arith in
    subst (λ (n : ℕ). R (high_quantity n (get_or bx j no_range)) × R (low_quantity n (get_or bx j no_range))) next (h (suc j) (omega (arith, inside)))))))

-- the point is in the box exactly where no distance is negative
pub box_of_bounds : (bx : List Range) (xs : List Fraction) → length xs ≡ length bx → All HasPositiveDen xs → All (IsSomeAt xs) (bound_quantities 0 bx) → IsInBox bx xs
box_of_bounds bx xs e d h =
    in_box bx xs e d (λ j inside.
    (let at : 0 + j ≡ j = omega arith in
    let r = get_or bx j no_range in
    let x = entry_of xs j in
    let xd = entry_den xs j d in
    let within : j < length xs = omega (arith, inside, e) in
    let both : IsSomeAt xs (high_quantity j r) × IsSomeAt xs (low_quantity j r) =
    subst (λ (n : ℕ). IsSomeAt xs (high_quantity n r) × IsSomeAt xs (low_quantity n r)) at (bounds_each (IsSomeAt xs) 0 bx h j inside) in (
      below_high x (whole r.low) (quantity_value xs (low_quantity j r)) xd (whole_den r.low) (quantity_den xs (low_quantity j r) d) (low_value j r xs within d) both.1,
      below_high (whole r.high) x (quantity_value xs (high_quantity j r)) (whole_den r.high) xd (quantity_den xs (high_quantity j r) d) (high_value j r xs within d) both.0,
    )))

pub bounds_of_box : (bx : List Range) (xs : List Fraction) → IsInBox bx xs → All (IsSomeAt xs) (bound_quantities 0 bx)
bounds_of_box bx xs inside =
    let e = box_long bx xs inside in
    let d = box_den bx xs inside in
    bounds_all (IsSomeAt xs) 0 bx (λ j below.
    (let at : j ≡ 0 + j = omega arith in
    let r = get_or bx j no_range in
    let x = entry_of xs j in
    let xd = entry_den xs j d in
    let within : j < length xs = omega (arith, below, e) in
    let is = within_box bx xs inside j below in
    subst (λ (n : ℕ). IsSomeAt xs (high_quantity n r) × IsSomeAt xs (low_quantity n r)) at (
      some_left (whole r.high) x (quantity_value xs (high_quantity j r)) (whole_den r.high) xd (quantity_den xs (high_quantity j r) d) (high_value j r xs within d) is.1,
      some_left x (whole r.low) (quantity_value xs (low_quantity j r)) xd (whole_den r.low) (quantity_den xs (low_quantity j r) d) (low_value j r xs within d) is.0,
    )))
