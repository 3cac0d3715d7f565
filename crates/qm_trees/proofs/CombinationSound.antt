-- A combination with multipliers that are not negative says true things of each point of the box where its rows hold.
use Rattle.std.proofs.Common.{◌≡◌, refl, sym, ap, ℕ, zero, suc, length, get_or, ◌<◌, List, [], ◌∷◌, All, arith, ℤ, pos, negsuc, ◌≤ℤ◌, subst, Bool, true, false, inl, inr}
use Rattle.std.specs.Prelude.{Any as Some}
use Rattle.std.proofs.lemmas.List.Elements.{All-head, All-tail}
use Rattle.std.proofs.lemmas.Int.{ints}
use Rattle.qm_math.specs.Fraction.{Fraction, whole, IsSame, IsAtMost}
use Rattle.qm_math.specs.Arithmetic.{sum_of, difference_of, product_of, inverse_of, quotient_of}
use Rattle.qm_math.specs.Totals.{total_of}
use Rattle.qm_math.specs.Ends.{IsWithin, by_sign, least_multiple}
use Rattle.qm_math.proofs.Polynomials.{number, ◌⊕◌, ◌⊗◌, minus}
use Rattle.qm_math.proofs.Ring.{x0, x1, x2, x3, x4, x5, x6}
use Rattle.qm_math.proofs.FractionRing.{den_of, same_from}
use Rattle.qm_math.proofs.Compare.{at_most_trans, below_at_most}
use Rattle.qm_math.proofs.FractionLaws.{same_sym, whole_den, sum_of_den, difference_of_den, product_of_den, inverse_of_den, product_of_comm, whole_quotient_den}
use Rattle.qm_math.proofs.FractionOrder.{at_most_refl, at_most-same, at_most_congr, not_at_most_below, sum_of-at_most, difference_of-at_most, product_of-at_most, num_nonneg}
use Rattle.qm_math.proofs.FractionLinear.{at_most_given}
use Rattle.qm_math.proofs.Ends.{least_multiple-at_most}
use Rattle.qm_math.proofs.Magnitudes.{nonzero-one_le}
use Rattle.qm_model.specs.declared.range.Range.{Range}
use Rattle.qm_model.specs.declared.row.Row.{Row}
use Rattle.qm_model.specs.declared.game.Problem.{Problem}
use Rattle.qm_model.specs.Linear.{coefficient}
use Rattle.qm_model.specs.Boxes.{IsEmptyRange}
use Rattle.qm_model.specs.Goals.{Goal, Any, AtLeast, Above, Reaches, IsProper}
use Rattle.qm_trees.specs.Entries.{Weighted}
use Rattle.qm_trees.specs.Evaluation.{zero as zero_fraction, least_end_by, if_objective, right_side, combined_coefficient, least_form, least_combined, bound_of}
use Rattle.qm_trees.specs.Closing.{Excludes, Closes}
use Rattle.qm_trees.specs.BoxPoints.{IsInBox, form_of, HoldsAt, objective_of}

-- ---- a box with a point has no empty range

full_range : (r : Range) (x : Fraction) → 0 < x.den → IsWithin (whole r.low) (whole r.high) x → IsEmptyRange r → ⊥
full_range r x more within empty =
    let wide : IsAtMost (whole r.low) (whole r.high) = at_most_trans (whole r.low) x (whole r.high) more within.0 within.1 in
    omega (arith, ints, wide, empty)

no_empty_at : (bx : List Range) (xs : List Fraction) → IsInBox bx xs → (i : ℕ) (r : Range) → i < length bx → get_or bx i r ≡ r → IsEmptyRange r → ⊥
no_empty_at [] xs inside i r below at empty = absurd (omega (arith, below))
no_empty_at (s ∷ bx) [] inside i r below at empty = absurd inside
no_empty_at (s ∷ bx) (x ∷ xs) inside zero r below at empty = full_range s x inside.0 inside.1 (subst IsEmptyRange (sym at) empty)
no_empty_at (s ∷ bx) (x ∷ xs) inside (suc i) r below at empty = no_empty_at bx xs inside.2 i r (omega (arith, below)) at empty

pub no_empty : (bx : List Range) (xs : List Fraction) → IsInBox bx xs → Some IsEmptyRange bx → ⊥
no_empty bx xs inside h = no_empty_at bx xs inside h.0 h.1 h.2 h.3 h.4

-- ---- one step of a form, from what is known of the rest

combined_step : (k a b x t u v : Fraction) → IsSame t (sum_of (product_of k u) v)
    → IsSame (sum_of (product_of (sum_of (product_of k a) b) x) t) (sum_of (product_of k (sum_of (product_of a x) u)) (sum_of (product_of b x) v))
combined_step k a b x t u v e =
    same_from (k ∷ a ∷ b ∷ x ∷ t ∷ u ∷ v ∷ []) ((x0 ⊗ x1 ⊕ x2) ⊗ x3 ⊕ x4) (x0 ⊗ (x1 ⊗ x3 ⊕ x5) ⊕ (x2 ⊗ x3 ⊕ x6))
    ((den_of (x0 ⊗ x1 ⊗ x1 ⊗ x2 ⊗ x2 ⊗ x3 ⊗ x3 ⊗ x3), x4, x0 ⊗ x5 ⊕ x6) ∷ []) (e, tt) refl

difference_step : (a b x t u v : Fraction) → IsSame t (difference_of u v)
    → IsSame (sum_of (product_of (difference_of a b) x) t) (difference_of (sum_of (product_of a x) u) (sum_of (product_of b x) v))
difference_step a b x t u v e =
    same_from (a ∷ b ∷ x ∷ t ∷ u ∷ v ∷ []) ((x0 ⊕ minus x1) ⊗ x2 ⊕ x3) ((x0 ⊗ x2 ⊕ x4) ⊕ minus (x1 ⊗ x2 ⊕ x5))
    ((den_of (x0 ⊗ x0 ⊗ x1 ⊗ x1 ⊗ x2 ⊗ x2 ⊗ x2), x3, x4 ⊕ minus x5) ∷ []) (e, tt) refl

nothing_step : (x t : Fraction) → IsSame t (whole (pos 0)) → IsSame (sum_of (product_of (whole (pos 0)) x) t) (whole (pos 0))
nothing_step x t e =
    same_from (x ∷ t ∷ []) (number (pos 0) ⊗ x0 ⊕ x1) (number (pos 0)) ((den_of x0, x1, number (pos 0)) ∷ []) (e, tt) refl

-- ---- forms

pub form_of_den : (k : ℕ → Fraction) (var : ℕ) (bx : List Range) (xs : List Fraction) → ((n : ℕ) → 0 < (k n).den) → IsInBox bx xs → 0 < (form_of k var xs).den
form_of_den k var [] [] h inside = whole_den (pos 0)
form_of_den k var [] (x ∷ xs) h inside = absurd inside
form_of_den k var (r ∷ bx) [] h inside = absurd inside
form_of_den k var (r ∷ bx) (x ∷ xs) h inside =
    sum_of_den (product_of (k var) x) (form_of k (suc var) xs) (product_of_den (k var) x (h var) inside.0) (form_of_den k (suc var) bx xs h inside.2)

pub form_of-nothing : (var : ℕ) (xs : List Fraction) → IsSame (form_of (λ n. whole (pos 0)) var xs) (whole (pos 0))
form_of-nothing var [] = refl
form_of-nothing var (x ∷ xs) = nothing_step x (form_of (λ n. whole (pos 0)) (suc var) xs) (form_of-nothing (suc var) xs)

pub form_of-combined : (k : Fraction) (f g : ℕ → Fraction) (var : ℕ) (xs : List Fraction)
    → IsSame (form_of (λ n. sum_of (product_of k (f n)) (g n)) var xs) (sum_of (product_of k (form_of f var xs)) (form_of g var xs))
form_of-combined k f g var [] = same_from (k ∷ []) (number (pos 0)) (x0 ⊗ number (pos 0) ⊕ number (pos 0)) [] tt refl
form_of-combined k f g var (x ∷ xs) =
    combined_step k (f var) (g var) x (form_of (λ n. sum_of (product_of k (f n)) (g n)) (suc var) xs) (form_of f (suc var) xs) (form_of g (suc var) xs)
    (form_of-combined k f g (suc var) xs)

pub form_of-difference : (f g : ℕ → Fraction) (var : ℕ) (xs : List Fraction)
    → IsSame (form_of (λ n. difference_of (f n) (g n)) var xs) (difference_of (form_of f var xs) (form_of g var xs))
form_of-difference f g var [] = same_from [] (number (pos 0)) (number (pos 0) ⊕ minus (number (pos 0))) [] tt refl
form_of-difference f g var (x ∷ xs) =
    difference_step (f var) (g var) x (form_of (λ n. difference_of (f n) (g n)) (suc var) xs) (form_of f (suc var) xs) (form_of g (suc var) xs)
    (form_of-difference f g (suc var) xs)

-- ---- the least value over the box

pub end_by_sign : (z : ℤ) (r : Range) → by_sign z (whole r.low) (whole r.high) ≡ whole (least_end_by z r)
end_by_sign (pos n) r = refl
end_by_sign (negsuc n) r = refl

pub least_end_multiple : (k : Fraction) (r : Range) → least_multiple k (whole r.low) (whole r.high) ≡ product_of k (whole (least_end_by k.num r))
least_end_multiple k r = ap (product_of k) (end_by_sign k.num r)

pub least_form-at_most : (k : ℕ → Fraction) (var : ℕ) (bx : List Range) (xs : List Fraction) → IsInBox bx xs → IsAtMost (least_form k var bx) (form_of k var xs)
least_form-at_most k var [] [] inside = at_most_refl (whole (pos 0))
least_form-at_most k var [] (x ∷ xs) inside = absurd inside
least_form-at_most k var (r ∷ bx) [] inside = absurd inside
least_form-at_most k var (r ∷ bx) (x ∷ xs) inside =
    sum_of-at_most (product_of (k var) (whole (least_end_by (k var).num r))) (least_form k (suc var) bx) (product_of (k var) x) (form_of k (suc var) xs)
    (subst (λ (e : Fraction). IsAtMost e (product_of (k var) x)) (least_end_multiple (k var) r) (least_multiple-at_most (k var) (whole r.low) (whole r.high) x inside.1))
    (least_form-at_most k (suc var) bx xs inside.2)

-- ---- the rows

abbrev pub row_form : List Fraction → Row → Fraction
row_form xs row = form_of (λ var. whole (coefficient row.terms var)) 0 xs

abbrev pub combined_row_at : List Weighted → ℕ → Fraction
combined_row_at ws var = total_of (λ (w : Weighted). product_of w.by (whole (coefficient w.row.terms var))) ws

abbrev pub combined_right : List Weighted → Fraction
combined_right ws = total_of (λ (w : Weighted). product_of w.by (whole w.row.right)) ws

pub combined_row_at_den : (ws : List Weighted) (var : ℕ) → All (λ (w : Weighted). 0 < w.by.den) ws → 0 < (combined_row_at ws var).den
combined_row_at_den [] var h = whole_den (pos 0)
combined_row_at_den (w ∷ ws) var h =
    sum_of_den (product_of w.by (whole (coefficient w.row.terms var))) (combined_row_at ws var)
    (product_of_den w.by (whole (coefficient w.row.terms var)) (All-head (λ (w : Weighted). 0 < w.by.den) w ws h) (whole_den (coefficient w.row.terms var)))
    (combined_row_at_den ws var (All-tail (λ (w : Weighted). 0 < w.by.den) w ws h))

pub combined_right_den : (ws : List Weighted) → All (λ (w : Weighted). 0 < w.by.den) ws → 0 < (combined_right ws).den
combined_right_den [] h = whole_den (pos 0)
combined_right_den (w ∷ ws) h =
    sum_of_den (product_of w.by (whole w.row.right)) (combined_right ws)
    (product_of_den w.by (whole w.row.right) (All-head (λ (w : Weighted). 0 < w.by.den) w ws h) (whole_den w.row.right))
    (combined_right_den ws (All-tail (λ (w : Weighted). 0 < w.by.den) w ws h))

-- the rows that hold at a point, combined
pub rows_at_most : (bx : List Range) (xs : List Fraction) (ws : List Weighted) → IsInBox bx xs
    → All (λ (w : Weighted). 0 < w.by.den) ws → All (λ (w : Weighted). IsAtMost (whole (pos 0)) w.by) ws → All (λ (w : Weighted). HoldsAt xs w.row) ws
    → IsAtMost (form_of (combined_row_at ws) 0 xs) (combined_right ws)
rows_at_most bx xs [] inside dens more holds = at_most-same (form_of (λ n. whole (pos 0)) 0 xs) (whole (pos 0)) (form_of-nothing 0 xs)
rows_at_most bx xs (w ∷ ws) inside dens more holds =
    let dens_after = All-tail (λ (w : Weighted). 0 < w.by.den) w ws dens in
    let form = row_form xs w.row in
    let rest = form_of (combined_row_at ws) 0 xs in
    let coefficient_at : ℕ → Fraction = λ var. whole (coefficient w.row.terms var) in
    at_most_trans (form_of (combined_row_at (w ∷ ws)) 0 xs) (sum_of (product_of w.by form) rest) (combined_right (w ∷ ws))
    (sum_of_den (product_of w.by form) rest
    (product_of_den w.by form (All-head (λ (w : Weighted). 0 < w.by.den) w ws dens) (form_of_den coefficient_at 0 bx xs (λ n. whole_den (coefficient w.row.terms n)) inside))
    (form_of_den (combined_row_at ws) 0 bx xs (λ n. combined_row_at_den ws n dens_after) inside))
    (at_most-same (form_of (combined_row_at (w ∷ ws)) 0 xs) (sum_of (product_of w.by form) rest) (form_of-combined w.by coefficient_at (combined_row_at ws) 0 xs))
    (sum_of-at_most (product_of w.by form) rest (product_of w.by (whole w.row.right)) (combined_right ws)
    (product_of-at_most w.by form (whole w.row.right) (All-head (λ (w : Weighted). IsAtMost (whole (pos 0)) w.by) w ws more) (All-head (λ (w : Weighted). HoldsAt xs w.row) w ws holds))
    (rows_at_most bx xs ws inside dens_after (All-tail (λ (w : Weighted). IsAtMost (whole (pos 0)) w.by) w ws more) (All-tail (λ (w : Weighted). HoldsAt xs w.row) w ws holds)))

-- ---- the combination

pub if_objective_den : (objective : Bool) (k : ℤ) → 0 < (if_objective objective k).den
if_objective_den false k = whole_den (pos 0)
if_objective_den true k = whole_den k

pub combined_coefficient_den : (P : Problem) (objective : Bool) (ws : List Weighted) → All (λ (w : Weighted). 0 < w.by.den) ws → (n : ℕ) → 0 < (combined_coefficient P objective ws n).den
combined_coefficient_den P objective ws h n =
    difference_of_den (combined_row_at ws n) (if_objective objective (coefficient P.terms n)) (combined_row_at_den ws n h) (if_objective_den objective (coefficient P.terms n))

pub least_form_den : (k : ℕ → Fraction) (var : ℕ) (bx : List Range) → ((n : ℕ) → 0 < (k n).den) → 0 < (least_form k var bx).den
least_form_den k var [] h = whole_den (pos 0)
least_form_den k var (r ∷ bx) h =
    sum_of_den (product_of (k var) (whole (least_end_by (k var).num r))) (least_form k (suc var) bx)
    (product_of_den (k var) (whole (least_end_by (k var).num r)) (h var) (whole_den (least_end_by (k var).num r))) (least_form_den k (suc var) bx h)

pub least_combined_den : (P : Problem) (objective : Bool) (ws : List Weighted) (bx : List Range) → All (λ (w : Weighted). 0 < w.by.den) ws → 0 < (least_combined P objective ws bx).den
least_combined_den P objective ws bx h = least_form_den (combined_coefficient P objective ws) 0 bx (combined_coefficient_den P objective ws h)

abbrev pub objective_form : Problem → Bool → List Fraction → Fraction
objective_form P objective xs = form_of (λ var. if_objective objective (coefficient P.terms var)) 0 xs

module _ (P : Problem) (bx : List Range) (xs : List Fraction) (ws : List Weighted) (inside : IsInBox bx xs)
    (dens : All (λ (w : Weighted). 0 < w.by.den) ws) (more : All (λ (w : Weighted). IsAtMost (whole (pos 0)) w.by) ws) (holds : All (λ (w : Weighted). HoldsAt xs w.row) ws) where
  objective_form_den : (objective : Bool) → 0 < (objective_form P objective xs).den
  objective_form_den false = form_of_den (λ n. zero_fraction) 0 bx xs (λ n. whole_den (pos 0)) inside
  objective_form_den true = form_of_den (λ n. whole (coefficient P.terms n)) 0 bx xs (λ n. whole_den (coefficient P.terms n)) inside

  combined_at_most : (objective : Bool) → IsAtMost (least_combined P objective ws bx) (difference_of (combined_right ws) (objective_form P objective xs))
  combined_at_most objective =
      let left = form_of (combined_coefficient P objective ws) 0 xs in
      let rows = form_of (combined_row_at ws) 0 xs in
      let less = objective_form P objective xs in
      let rows_den = form_of_den (combined_row_at ws) 0 bx xs (λ n. combined_row_at_den ws n dens) inside in
      at_most_trans (least_combined P objective ws bx) left (difference_of (combined_right ws) less)
      (form_of_den (combined_coefficient P objective ws) 0 bx xs (combined_coefficient_den P objective ws dens) inside)
      (least_form-at_most (combined_coefficient P objective ws) 0 bx xs inside)
      (at_most_trans left (difference_of rows less) (difference_of (combined_right ws) less)
      (difference_of_den rows less rows_den (objective_form_den objective))
      (at_most-same left (difference_of rows less) (form_of-difference (combined_row_at ws) (λ var. if_objective objective (coefficient P.terms var)) 0 xs))
      (difference_of-at_most rows less (combined_right ws) less (rows_at_most bx xs ws inside dens more holds) (at_most_refl less)))

  -- the combined rows hold at the point, and so the least value is at most the right side
  pub least-at_most : IsAtMost (least_combined P false ws bx) (right_side P false ws)
  least-at_most =
      at_most_given (least_combined P false ws bx ∷ combined_right ws ∷ objective_form P false xs ∷ []) x0 (x1 ⊕ number (pos 0))
      ((number (pos 1), number (pos 0), x2) ∷ []) ((x0, x1 ⊕ minus x2) ∷ [])
      (least_combined_den P false ws bx dens, (combined_right_den ws dens, (objective_form_den false, tt)))
      (same_sym (objective_form P false xs) (whole (pos 0)) (form_of-nothing 0 xs), tt) (combined_at_most false, tt) refl

  numerator_at_most : IsAtMost (sum_of (objective_form P true xs) (whole P.constant)) (difference_of (right_side P true ws) (least_combined P true ws bx))
  numerator_at_most =
      at_most_given (least_combined P true ws bx ∷ combined_right ws ∷ whole P.constant ∷ objective_form P true xs ∷ []) (x3 ⊕ x2) (x1 ⊕ x2 ⊕ minus x0)
      [] ((x0, x1 ⊕ minus x3) ∷ [])
      (least_combined_den P true ws bx dens, (combined_right_den ws dens, (whole_den P.constant, (objective_form_den true, tt))))
      tt (combined_at_most true, tt) refl

-- ---- the bound

inverse_nonneg : (n : ℤ) → pos 1 ≤ℤ n → pos 0 ≤ℤ (inverse_of (whole n)).num
unfolding inverse_of
inverse_nonneg (pos n) h = omega (arith, ints)
inverse_nonneg (negsuc n) h = absurd (omega (arith, ints, h))

pub quotient_of-at_most : (a b : Fraction) (n : ℤ) → pos 1 ≤ℤ n → 0 < a.den → 0 < b.den → IsAtMost a b → IsAtMost (quotient_of a (whole n)) (quotient_of b (whole n))
quotient_of-at_most a b n scale ha hb h =
    let k = inverse_of (whole n) in
    let k_den = inverse_of_den (whole n) (nonzero-one_le n scale) in
    at_most_congr (product_of k a) (product_of k b) (product_of a k) (product_of b k)
    (product_of_den k a k_den ha) (product_of_den k b k_den hb) (product_of_comm k a) (product_of_comm k b)
    (product_of-at_most k a b (num_nonneg k (inverse_nonneg n scale)) h)

pub right_side_den : (P : Problem) (objective : Bool) (ws : List Weighted) → All (λ (w : Weighted). 0 < w.by.den) ws → 0 < (right_side P objective ws).den
right_side_den P false ws h = sum_of_den (combined_right ws) zero_fraction (combined_right_den ws h) (whole_den (pos 0))
right_side_den P true ws h = sum_of_den (combined_right ws) (whole P.constant) (combined_right_den ws h) (whole_den P.constant)

pub bound_of_den : (P : Problem) (ws : List Weighted) (bx : List Range) → pos 1 ≤ℤ P.scale → All (λ (w : Weighted). 0 < w.by.den) ws → 0 < (bound_of P ws bx).den
bound_of_den P ws bx scale h =
    whole_quotient_den (difference_of (right_side P true ws) (least_combined P true ws bx)) P.scale scale
    (difference_of_den (right_side P true ws) (least_combined P true ws bx) (right_side_den P true ws h) (least_combined_den P true ws bx h))

module _ (P : Problem) (bx : List Range) (xs : List Fraction) (ws : List Weighted) (scale : pos 1 ≤ℤ P.scale) (inside : IsInBox bx xs)
    (dens : All (λ (w : Weighted). 0 < w.by.den) ws) (more : All (λ (w : Weighted). IsAtMost (whole (pos 0)) w.by) ws) (holds : All (λ (w : Weighted). HoldsAt xs w.row) ws) where
  abbrev value : Fraction
  value = sum_of (objective_form P true xs) (whole P.constant)

  value_den : 0 < value.den
  value_den = sum_of_den (objective_form P true xs) (whole P.constant) (objective_form_den P bx xs ws inside dens more holds true) (whole_den P.constant)

  pub objective_den : 0 < (objective_of P xs).den
  objective_den = whole_quotient_den value P.scale scale value_den

  pub objective-at_most : IsAtMost (objective_of P xs) (bound_of P ws bx)
  objective-at_most =
      let gap = difference_of (right_side P true ws) (least_combined P true ws bx) in
      quotient_of-at_most value gap P.scale scale value_den
      (difference_of_den (right_side P true ws) (least_combined P true ws bx) (right_side_den P true ws dens) (least_combined_den P true ws bx dens))
      (numerator_at_most P bx xs ws inside dens more holds)

  excludes_refutes : (objective : Bool) (G : Goal) → IsProper G → Excludes P objective ws bx G → Reaches (objective_of P xs) G → ⊥
  excludes_refutes false G proper excludes reaches =
      not_at_most_below (least_combined P false ws bx) (right_side P false ws) (least-at_most P bx xs ws inside dens more holds) excludes
  excludes_refutes true Any proper excludes reaches = absurd excludes
  excludes_refutes true (AtLeast t) proper excludes reaches =
      not_at_most_below t (bound_of P ws bx) (at_most_trans t (objective_of P xs) (bound_of P ws bx) objective_den reaches objective-at_most) excludes
  excludes_refutes true (Above t) proper excludes reaches =
      not_at_most_below (bound_of P ws bx) t excludes (below_at_most t (objective_of P xs) (bound_of P ws bx) (bound_of_den P ws bx scale dens) reaches objective-at_most)

  pub closes_refutes : (objective : Bool) (G : Goal) → IsProper G → Closes P objective ws bx G → Reaches (objective_of P xs) G → ⊥
  closes_refutes objective G proper (inl empty) reaches = no_empty bx xs inside empty
  closes_refutes objective G proper (inr excludes) reaches = excludes_refutes objective G proper excludes reaches
