-- What the combinations at the end of a run say: they bound the objective by the value, or contradict the box.
use Rattle.std.proofs.Common.{◌≡◌, ◌∙◌, refl, sym, ap, subst, ℕ, suc, ◌+◌, ◌*◌, ◌<◌, true, false, List, [], ◌∷◌, ◌++◌, length, map, arith, All, Ok, ℤ, pos, negsuc, ◌<ℤ◌, ⊎_elim}
use Rattle.std.specs.Prelude.{Any}
use Rattle.std.proofs.lemmas.Int.{ints}
use Rattle.std.proofs.lemmas.List.{map-append}
use Rattle.std.proofs.lemmas.List.Elements.{All-append, All-cons, All-head, All-nil, All-tail}
use Rattle.qm_math.specs.Fraction.{Fraction, HasPositiveDen, IsAtMost, IsBelow, IsSame, whole}
use Rattle.qm_math.specs.Arithmetic.{difference_of, product_of, quotient_of, sum_of}
use Rattle.qm_math.specs.Ends.{IsWithin}
use Rattle.qm_math.specs.Totals.{total_of}
use Rattle.qm_math.proofs.Polynomials.{number, ◌⊕◌, ◌⊗◌, minus}
use Rattle.qm_math.proofs.Ring.{x0, x1, x2, x3, x4, x5, x6, x7}
use Rattle.qm_math.proofs.FractionRing.{same_by_ring}
use Rattle.qm_math.proofs.FractionLinear.{at_most_given, below_given, same_given}
use Rattle.qm_math.proofs.Compare.{at_most_both, at_most_or_below, at_most_trans}
use Rattle.qm_math.proofs.FractionOrder.{at_most-same, at_most_refl, product_of-at_most}
use Rattle.qm_math.proofs.FractionLaws.{difference_of_den, one-product_of, product_of_den, same_sym, same_trans, sum_of_den, whole_den, zero-sum_of, whole_quotient_den}
use Rattle.qm_math.proofs.Totals.{append_step}
use Rattle.qm_model.specs.declared.range.Range.{Range}
use Rattle.qm_model.specs.declared.row.Row.{Row}
use Rattle.qm_model.specs.declared.game.Problem.{Problem}
use Rattle.qm_model.specs.Linear.{coefficient}
use Rattle.qm_model.specs.Boxes.{IsEmptyRange}
use Rattle.qm_model.specs.Sound.{IsSound}
use Rattle.qm_tableau.specs.declared.choice.Choice.TheVariants as choice
use Rattle.qm_tableau.specs.Tables.{Table, entry_at, entry_of, row_at}
use Rattle.qm_tableau.specs.Quantities.{Quantity, bound_quantities, objective_quantity, slack_quantity}
use Rattle.qm_tableau.specs.Rule.{chosen}
use Rattle.qm_tableau.specs.Good.{IsGood, quantity_value}
use Rattle.qm_tableau.proofs.Constants.{quantity_den, values_den}
use Rattle.qm_tableau.proofs.Exactness.{entry_den}
use Rattle.qm_trees.specs.Entries.{Weighted, weighted_rows}
use Rattle.qm_trees.specs.Evaluation.{bound_of, combined_coefficient, least_combined, least_end_by, least_form, right_side}
use Rattle.qm_trees.specs.BoxPoints.{HoldsAt, IsInBox, form_of, objective_of}
use Rattle.qm_trees.proofs.CombinationSound.{combined_coefficient_den, combined_right, combined_right_den, combined_row_at, combined_row_at_den, form_of-difference, form_of-nothing, least_combined_den, objective-at_most, objective_den, quotient_of-at_most, right_side_den}
use Rattle.qm_simplex.specs.declared.answers.LpEnd.{LpEnd}
use Rattle.qm_simplex.specs.declared.answers.LpEnd.TheVariants.{Best}
use Rattle.qm_simplex.specs.Multipliers.{closing_combination, closing_entries, multiplier, slack_rows, slacks_start}
use Rattle.qm_simplex.specs.Stops.{best_at, point_at, then_at, value_at}
use Rattle.qm_simplex.specs.Ends.{IsBest, IsRightEnd, IsVoid}
use Rattle.qm_simplex.proofs.ClosingEntries.{IsSome, IsVoidRow, first_numbers, some_by, void_row}
use Rattle.qm_simplex.proofs.PointValues.{IsSomeAt, bounds_of_box, box_den, box_long, form_den, objective_value}
use Rattle.qm_simplex.proofs.SlackRows.{all_below, slack_total, total_is}
use Rattle.qm_simplex.proofs.ClosingSums.{IsApart, below_apart, closing_sum, first_apart, first_multiplier}
use Rattle.qm_simplex.proofs.BestPoint.{IsBestPoint, best_point, located_value, then_at-ok}

-- ---- parts of a form
form_append : (k : ℕ → Fraction) (s : ℕ) (xs ys : List Fraction) → IsSame (form_of k s (xs ++ ys)) (sum_of (form_of k s xs) (form_of k (s + length xs) ys))
form_append k s [] ys =
    let at : s ≡ s + 0 = omega arith in
    subst (λ (n : ℕ). IsSame (form_of k s ys) (sum_of (whole (pos 0)) (form_of k n ys))) at
    (same_sym (sum_of (whole (pos 0)) (form_of k s ys)) (form_of k s ys) (zero-sum_of (form_of k s ys)))
form_append k s (x ∷ xs) ys =
    let at : suc s + length xs ≡ s + suc (length xs) = omega arith in
    subst (λ (n : ℕ). IsSame (sum_of (product_of (k s) x) (form_of k (suc s) (xs ++ ys))) (sum_of (sum_of (product_of (k s) x) (form_of k (suc s) xs)) (form_of k n ys))) at
    (append_step (product_of (k s) x) (form_of k (suc s) (xs ++ ys)) (form_of k (suc s) xs) (form_of k (suc s + length xs) ys) (form_append k (suc s) xs ys))

abbrev IsMore : Fraction → Type 0
IsMore x = IsAtMost (whole (pos 0)) x

-- values and multipliers that are not negative
form_some : (k : ℕ → Fraction) (s : ℕ) (xs : List Fraction) → ((n : ℕ) → IsSome (k n)) → All HasPositiveDen xs → All IsMore xs → IsMore (form_of k s xs)
form_some k s [] some d h = at_most_refl (whole (pos 0))
form_some k s (x ∷ xs) some d h =
    let xsd = All-tail HasPositiveDen x xs d in
    at_most_given (k s ∷ x ∷ form_of k (suc s) xs ∷ []) (number (pos 0)) (x0 ⊗ x1 ⊕ x2) [] ((x0 ⊗ number (pos 0), x0 ⊗ x1) ∷ (number (pos 0), x2) ∷ [])
    ((some s).0, (All-head HasPositiveDen x xs d, (form_den k (suc s) xs (λ n. (some n).0) xsd, tt))) tt
    (product_of-at_most (k s) (whole (pos 0)) x (some s).1 (All-head IsMore x xs h), (form_some k (suc s) xs some xsd (All-tail IsMore x xs h), tt)) refl

more_values : (xs : List Fraction) (qs : List Quantity) → All (IsSomeAt xs) qs → All IsMore (map (quantity_value xs) qs)
more_values xs [] h = All-nil IsMore
more_values xs (q ∷ qs) h =
    All-cons IsMore (quantity_value xs q) (map (quantity_value xs) qs) (All-head (IsSomeAt xs) q qs h) (more_values xs qs (All-tail (IsSomeAt xs) q qs h))

-- ---- lists of quantities
mapped_twice : (V : Quantity → Fraction) (rows : List Row) → map V (map slack_quantity rows) ≡ map (λ row. V (slack_quantity row)) rows
mapped_twice V [] = refl
mapped_twice V (row ∷ rows) = ap (λ (vs : List Fraction). V (slack_quantity row) ∷ vs) (mapped_twice V rows)

all_slacks : (P : Problem) (cuts : List Row)
    → map slack_quantity P.rows ++ (map slack_quantity P.urows ++ map slack_quantity cuts) ≡ map slack_quantity (slack_rows P cuts)
all_slacks P cuts =
    sym (map-append slack_quantity P.rows (P.urows ++ cuts) ∙ ap (λ (qs : List Quantity). map slack_quantity P.rows ++ qs) (map-append slack_quantity P.urows cuts))

bounds_long : (V : Quantity → Fraction) (var : ℕ) (bx : List Range) → length (map V (bound_quantities var bx)) ≡ 2 * length bx
bounds_long V var [] = omega arith
bounds_long V var (r ∷ bx) = let e = bounds_long V (suc var) bx in omega (arith, e)

no_row : Row
no_row = record { terms = []; right = pos 0 }

split_value : (P : Problem) (cuts : List Row) (bx : List Range) (V : Quantity → Fraction)
    → map V (bound_quantities 0 bx ++ (map slack_quantity P.rows ++ (map slack_quantity P.urows ++ map slack_quantity cuts)))
    ≡ map V (bound_quantities 0 bx) ++ map (λ row. V (slack_quantity row)) (slack_rows P cuts)
split_value P cuts bx V =
    map-append V (bound_quantities 0 bx) (map slack_quantity P.rows ++ (map slack_quantity P.urows ++ map slack_quantity cuts))
    ∙ ap (λ (vs : List Fraction). map V (bound_quantities 0 bx) ++ vs) (ap (map V) (all_slacks P cuts) ∙ mapped_twice V (slack_rows P cuts))

-- ---- the point of the box where a form is least
least_ends : (ℕ → Fraction) → ℕ → List Range → List Fraction
least_ends k var [] = []
least_ends k var (r ∷ bx) = whole (least_end_by (k var).num r) ∷ least_ends k (suc var) bx

least_at_ends : (k : ℕ → Fraction) (var : ℕ) (bx : List Range) → least_form k var bx ≡ form_of k var (least_ends k var bx)
unfolding least_ends
least_at_ends k var [] = refl
least_at_ends k var (r ∷ bx) = ap (sum_of (product_of (k var) (whole (least_end_by (k var).num r)))) (least_at_ends k (suc var) bx)

full_range : (r : Range) → (IsEmptyRange r → ⊥) → IsAtMost (whole r.low) (whole r.high)
full_range r full = ⊎_elim (λ le. le) (λ below. absurd (full (empty r.high r.low below))) (at_most_or_below (whole r.low) (whole r.high))
  where
    empty : (a b : ℤ) → IsBelow (whole a) (whole b) → a <ℤ b
    empty a b h = omega (arith, ints, h)

end_within : (z : ℤ) (r : Range) → (IsEmptyRange r → ⊥) → IsWithin (whole r.low) (whole r.high) (whole (least_end_by z r))
end_within (pos n) r full = (at_most_refl (whole r.low), full_range r full)
end_within (negsuc n) r full = (full_range r full, at_most_refl (whole r.high))

ends_inside : (k : ℕ → Fraction) (var : ℕ) (bx : List Range) → (Any IsEmptyRange bx → ⊥) → IsInBox bx (least_ends k var bx)
unfolding least_ends
ends_inside k var [] full = tt
ends_inside k var (r ∷ bx) full = (
  whole_den (least_end_by (k var).num r),
  end_within (k var).num r (λ e. full (0, r, omega arith, refl, e)),
  ends_inside k (suc var) bx (λ a. full (suc a.0, a.1, (let inside = a.2 in omega (arith, inside)), a.3, a.4)),
)

-- ---- what closes at a row
gathered : (d z q b s t : Fraction) → 0 < d.den → 0 < z.den → 0 < q.den → 0 < b.den → 0 < s.den → 0 < t.den
    → IsSame (sum_of z q) d → IsSame q (sum_of b s) → IsSame s t → IsSame (sum_of z (sum_of b t)) d
gathered d z q b s t dd zd qd bd sd td e f g =
    same_given (d ∷ z ∷ q ∷ b ∷ s ∷ t ∷ []) (x1 ⊕ (x3 ⊕ x5)) x0 ((number (pos 1), x1 ⊕ x2, x0) ∷ (number (pos 1), x3 ⊕ x4, x2) ∷ (number (pos 1), x5, x4) ∷ [])
    (dd, (zd, (qd, (bd, (sd, (td, tt)))))) (e, (sym f, (sym g, tt))) refl

module _ (P : Problem) (cuts : List Row) (bx : List Range) (t : Table) (gt : IsGood P cuts bx t) (r : ℕ) (inside : r < length t.rows) (apart : IsApart t r)
    (some : (i : ℕ) → IsSome (multiplier t r i)) where
  abbrev Y : ℕ → Fraction
  Y = multiplier t r

  abbrev ws : List Weighted
  ws = weighted_rows P cuts (closing_entries P cuts bx t r)

  Y_den : (n : ℕ) → 0 < (multiplier t r n).den
  Y_den n = (some n).0

  pub dens : All (λ (w : Weighted). 0 < w.by.den) ws
  dens =
      all_below P cuts (λ n. multiplier t r (slacks_start bx + n)) no_row (λ (w : Weighted). 0 < w.by.den) (length (slack_rows P cuts)) (omega arith)
      (λ i below. Y_den (slacks_start bx + i))

  pub more : All (λ (w : Weighted). IsAtMost (whole (pos 0)) w.by) ws
  more =
      all_below P cuts (λ n. multiplier t r (slacks_start bx + n)) no_row (λ (w : Weighted). IsAtMost (whole (pos 0)) w.by) (length (slack_rows P cuts)) (omega arith)
      (λ i below. (some (slacks_start bx + i)).1)

  pub hold : (xs : List Fraction) → All (HoldsAt xs) (slack_rows P cuts) → All (λ (w : Weighted). HoldsAt xs w.row) ws
  hold xs h =
      all_below P cuts (λ n. multiplier t r (slacks_start bx + n)) no_row (λ (w : Weighted). HoldsAt xs w.row) (length (slack_rows P cuts)) (omega arith)
      (λ i below. h i no_row below)

  abbrev bounds_part : List Fraction → Fraction
  bounds_part xs = form_of (multiplier t r) 1 (map (quantity_value xs) (bound_quantities 0 bx))

  bounds_den : (xs : List Fraction) → IsInBox bx xs → 0 < (bounds_part xs).den
  bounds_den xs h = form_den (multiplier t r) 1 (map (quantity_value xs) (bound_quantities 0 bx)) Y_den (values_den xs (bound_quantities 0 bx) (box_den bx xs h))

  bounds_more : (xs : List Fraction) → IsInBox bx xs → IsMore (bounds_part xs)
  bounds_more xs h =
      form_some (multiplier t r) 1 (map (quantity_value xs) (bound_quantities 0 bx)) some (values_den xs (bound_quantities 0 bx) (box_den bx xs h))
      (more_values xs (bound_quantities 0 bx) (bounds_of_box bx xs h))

  -- the objective's part, that of the bounds and that of the rows come to the constant
  closed : (xs : List Fraction) → IsInBox bx xs
      → IsSame (sum_of (product_of (multiplier t r 0) (quantity_value xs (objective_quantity P))) (sum_of (bounds_part xs) (difference_of (combined_right ws) (form_of (combined_row_at ws) 0 xs))))
      (entry_of (row_at t.rows r) 0)
  closed xs h =
      let d = box_den bx xs h in
      let V : Quantity → Fraction = quantity_value xs in
      let slack : Row → Fraction = λ row. quantity_value xs (slack_quantity row) in
      let slack_den : (row : Row) → 0 < (slack row).den = λ row. quantity_den xs (slack_quantity row) d in
      let bounds = map V (bound_quantities 0 bx) in
      let others = map slack (slack_rows P cuts) in
      let rest = map V (bound_quantities 0 bx ++ (map slack_quantity P.rows ++ (map slack_quantity P.urows ++ map slack_quantity cuts))) in
      let long : length bounds ≡ 2 * length bx = bounds_long V 0 bx in
      let start : 1 + length bounds ≡ slacks_start bx = omega (arith, long) in
      let total = total_of (λ (w : Weighted). product_of w.by (slack w.row)) ws in
      let part = difference_of (combined_right ws) (form_of (combined_row_at ws) 0 xs) in
      let others_part = form_of Y (slacks_start bx) others in
      let part_den = difference_of_den (combined_right ws) (form_of (combined_row_at ws) 0 xs) (combined_right_den ws dens)
      (form_den (combined_row_at ws) 0 xs (λ n. combined_row_at_den ws n dens) d) in
      let total_same : IsSame total others_part = total_is P cuts Y (slacks_start bx) slack no_row Y_den slack_den in
      let part_same : IsSame total part = slack_total xs ws d dens in
      let total_den : 0 < total.den = total_den_of xs ws d dens in
      let rest_is : IsSame (form_of Y 1 rest) (sum_of (form_of Y 1 bounds) others_part) =
      subst (λ (vs : List Fraction). IsSame (form_of Y 1 vs) (sum_of (form_of Y 1 bounds) others_part)) (sym (split_value P cuts bx V))
      (subst (λ (n : ℕ). IsSame (form_of Y 1 (bounds ++ others)) (sum_of (form_of Y 1 bounds) (form_of Y n others))) start (form_append Y 1 bounds others)) in
      let rest_den = form_den Y 1 rest Y_den
      (values_den xs (bound_quantities 0 bx ++ (map slack_quantity P.rows ++ (map slack_quantity P.urows ++ map slack_quantity cuts))) d) in
      let q = V (objective_quantity P) in
      let qd = quantity_den xs (objective_quantity P) d in
      gathered (entry_of (row_at t.rows r) 0) (product_of (Y 0) q) (form_of Y 1 rest) (form_of Y 1 bounds) others_part part
      (entry_den (row_at t.rows r) 0 (gt.positive r [] inside)) (product_of_den (Y 0) q (Y_den 0) qd) rest_den (bounds_den xs h)
      (others_den xs d) part_den
      (closing_sum P cuts bx t gt r inside apart xs (record { count = box_long bx xs h; positive = d })) rest_is
      (same_trans others_part total part total_den (same_sym total others_part total_same) part_same)
    where
      total_den_of : (xs : List Fraction) (vs : List Weighted) → All HasPositiveDen xs → All (λ (w : Weighted). 0 < w.by.den) vs
          → 0 < (total_of (λ (w : Weighted). product_of w.by (quantity_value xs (slack_quantity w.row))) vs).den
      total_den_of xs [] d dens = whole_den (pos 0)
      total_den_of xs (w ∷ vs) d dens =
          let q = quantity_value xs (slack_quantity w.row) in
          sum_of_den (product_of w.by q) (total_of (λ (w : Weighted). product_of w.by (quantity_value xs (slack_quantity w.row))) vs)
          (product_of_den w.by q (All-head (λ (w : Weighted). 0 < w.by.den) w vs dens) (quantity_den xs (slack_quantity w.row) d))
          (total_den_of xs vs d (All-tail (λ (w : Weighted). 0 < w.by.den) w vs dens))

      others_den : (xs : List Fraction) → All HasPositiveDen xs → 0 < (form_of (multiplier t r) (slacks_start bx) (map (λ row. quantity_value xs (slack_quantity row)) (slack_rows P cuts))).den
      others_den xs d = form_den (multiplier t r) (slacks_start bx) (map (λ row. quantity_value xs (slack_quantity row)) (slack_rows P cuts)) Y_den (row_values_den xs (slack_rows P cuts) d)
        where
          row_values_den : (xs : List Fraction) (rows : List Row) → All HasPositiveDen xs → All HasPositiveDen (map (λ row. quantity_value xs (slack_quantity row)) rows)
          row_values_den xs [] d = All-nil HasPositiveDen
          row_values_den xs (row ∷ rows) d =
              All-cons HasPositiveDen (quantity_value xs (slack_quantity row)) (map (λ row. quantity_value xs (slack_quantity row)) rows) (quantity_den xs (slack_quantity row) d)
              (row_values_den xs rows d)

-- ---- the row that can't be raised
void_step : (cr f b d z least : Fraction) → 0 < cr.den → 0 < f.den → 0 < b.den → 0 < d.den → 0 < z.den → 0 < least.den
    → IsSame (sum_of z (sum_of b (difference_of cr f))) d → IsSame z (whole (pos 0)) → IsSame f least → IsMore b → IsBelow d (whole (pos 0))
    → IsBelow (sum_of cr (whole (pos 0))) least
void_step cr f b d z least crd fd bd dd zd leastd e none same more below =
    below_given (cr ∷ f ∷ b ∷ d ∷ z ∷ least ∷ []) (x0 ⊕ number (pos 0)) x5 x3 (number (pos 0))
    ((number (pos 1), x4 ⊕ (x2 ⊕ (x0 ⊕ minus x1)), x3) ∷ (number (pos 1), number (pos 0), x4) ∷ (number (pos 1), x1, x5) ∷ []) ((number (pos 0), x2) ∷ [])
    (crd, (fd, (bd, (dd, (zd, (leastd, tt)))))) below (e, (same_sym z (whole (pos 0)) none, (same, tt))) (more, tt) refl

nothing_less : (l f n : Fraction) → 0 < l.den → 0 < f.den → 0 < n.den → IsSame l (difference_of f n) → IsSame n (whole (pos 0)) → IsSame f l
nothing_less l f n ld fd nd e none =
    same_given (l ∷ f ∷ n ∷ []) x1 x0 ((number (pos 1), x1 ⊕ minus x2, x0) ∷ (number (pos 1), x2, number (pos 0)) ∷ [])
    (ld, (fd, (nd, tt))) (same_sym l (difference_of f n) e, (none, tt)) refl

pub void_end : (P : Problem) (cuts : List Row) (bx : List Range) (t : Table) (r : ℕ) → (Any IsEmptyRange bx → ⊥) → IsGood P cuts bx t
    → chosen t ≡ Ok (choice.VoidRow r) → IsVoid P cuts bx (closing_combination P cuts bx t false r)
void_end P cuts bx t r full gt chosen_void =
    let is : IsVoidRow t r = void_row t r chosen_void in
    let apart : IsApart t r = below_apart P cuts bx t gt r is.constant in
    let some : (i : ℕ) → IsSome (multiplier t r i) = some_by P cuts bx t gt r is.none in
    let vs = weighted_rows P cuts (closing_entries P cuts bx t r) in
    let vs_dens = dens P cuts bx t gt r is.row apart some in
    let k = combined_coefficient P false vs in
    let xs = least_ends k 0 bx in
    let within : IsInBox bx xs = ends_inside k 0 bx full in
    let d = box_den bx xs within in
    let f = form_of (combined_row_at vs) 0 xs in
    let fd = form_den (combined_row_at vs) 0 xs (λ n. combined_row_at_den vs n vs_dens) d in
    let n = form_of (λ (var : ℕ). whole (pos 0)) 0 xs in
    let nd = form_den (λ (var : ℕ). whole (pos 0)) 0 xs (λ var. whole_den (pos 0)) d in
    let l = form_of k 0 xs in
    let ld = form_den k 0 xs (combined_coefficient_den P false vs vs_dens) d in
    let f_same : IsSame f l = nothing_less l f n ld fd nd (form_of-difference (combined_row_at vs) (λ var. whole (pos 0)) 0 xs) (form_of-nothing 0 xs) in
    let q = quantity_value xs (objective_quantity P) in
    let z = product_of (multiplier t r 0) q in
    let zd = product_of_den (multiplier t r 0) q (some 0).0 (quantity_den xs (objective_quantity P) d) in
    let z_none : IsSame z (whole (pos 0)) =
    subst (λ (y : Fraction). IsSame (product_of y q) (whole (pos 0))) (sym (first_multiplier P cuts bx t gt r is.from))
    (same_by_ring (q ∷ []) (minus (number (pos 0)) ⊗ x0) (number (pos 0)) refl) in
    let contradicts : IsBelow (right_side P false vs) l =
    void_step (combined_right vs) f (bounds_part P cuts bx t gt r is.row apart some xs) (entry_of (row_at t.rows r) 0) z l (combined_right_den vs vs_dens) fd
    (bounds_den P cuts bx t gt r is.row apart some xs within) (entry_den (row_at t.rows r) 0 (gt.positive r [] is.row)) zd ld
    (closed P cuts bx t gt r is.row apart some xs within) z_none f_same (bounds_more P cuts bx t gt r is.row apart some xs within)
    (below_zero (entry_of (row_at t.rows r) 0) is.constant) in
    record {
      objective = refl;
      contradicts = subst (λ (y : Fraction). IsBelow (right_side P false vs) y) (sym (least_at_ends k 0 bx)) contradicts;
    }
  where
    below_zero : (x : Fraction) → x.num <ℤ pos 0 → IsBelow x (whole (pos 0))
    below_zero x h = omega (arith, ints, h)

-- ---- no row is left
best_step : (cr c f b d z o l : Fraction) → 0 < cr.den → 0 < c.den → 0 < f.den → 0 < b.den → 0 < d.den → 0 < z.den → 0 < o.den → 0 < l.den
    → IsSame (sum_of z (sum_of b (difference_of cr f))) d → IsSame z (sum_of o c) → IsSame l (difference_of f o) → IsMore b
    → IsAtMost (difference_of (sum_of cr c) l) d
best_step cr c f b d z o l crd cd fd bd dd zd od ld e g h more =
    at_most_given (cr ∷ c ∷ f ∷ b ∷ d ∷ z ∷ o ∷ l ∷ []) (x0 ⊕ x1 ⊕ minus x7) x4
    ((number (pos 1), x5 ⊕ (x3 ⊕ (x0 ⊕ minus x2)), x4) ∷ (number (pos 1), x6 ⊕ x1, x5) ∷ (number (pos 1), x2 ⊕ minus x6, x7) ∷ []) ((number (pos 0), x3) ∷ [])
    (crd, (cd, (fd, (bd, (dd, (zd, (od, (ld, tt)))))))) (e, (same_sym z (sum_of o c) g, (same_sym l (difference_of f o) h, tt))) (more, tt) refl

module _ (P : Problem) (cuts : List Row) (bx : List Range) (t : Table) (sound : IsSound P) (full : Any IsEmptyRange bx → ⊥) (gt : IsGood P cuts bx t)
    (done : chosen t ≡ Ok choice.Done) where
  height : 0 < length t.rows
  height = let e = gt.height in omega (arith, e)

  first_some : (i : ℕ) → IsSome (multiplier t 0 i)
  first_some = some_by P cuts bx t gt 0 (first_numbers P cuts bx t gt)

  abbrev us : List Weighted
  us = weighted_rows P cuts (closing_entries P cuts bx t 0)

  us_dens : All (λ (w : Weighted). 0 < w.by.den) us
  us_dens = dens P cuts bx t gt 0 height (first_apart P cuts bx t gt) first_some

  -- the bound is at most the value, by the point of the box where the combined form is least
  gap_at_most : IsAtMost (difference_of (right_side P true us) (least_combined P true us bx)) (entry_at t.rows 0 0)
  gap_at_most =
      let apart = first_apart P cuts bx t gt in
      let k = combined_coefficient P true us in
      let xs = least_ends k 0 bx in
      let within : IsInBox bx xs = ends_inside k 0 bx full in
      let d = box_den bx xs within in
      let f = form_of (combined_row_at us) 0 xs in
      let fd = form_den (combined_row_at us) 0 xs (λ n. combined_row_at_den us n us_dens) d in
      let o = form_of (λ var. whole (coefficient P.terms var)) 0 xs in
      let od = form_den (λ var. whole (coefficient P.terms var)) 0 xs (λ var. whole_den (coefficient P.terms var)) d in
      let l = form_of k 0 xs in
      let ld = form_den k 0 xs (combined_coefficient_den P true us us_dens) d in
      let q = quantity_value xs (objective_quantity P) in
      let qd = quantity_den xs (objective_quantity P) d in
      let z = product_of (whole (pos 1)) q in
      let zd = product_of_den (whole (pos 1)) q (whole_den (pos 1)) qd in
      let z_is : IsSame z (sum_of o (whole P.constant)) = same_trans z q (sum_of o (whole P.constant)) qd (one-product_of q) (objective_value P xs) in
      subst (λ (y : Fraction). IsAtMost (difference_of (right_side P true us) y) (entry_at t.rows 0 0)) (sym (least_at_ends k 0 bx))
      (best_step (combined_right us) (whole P.constant) f (bounds_part P cuts bx t gt 0 height apart first_some xs) (entry_at t.rows 0 0) z o l
      (combined_right_den us us_dens) (whole_den P.constant) fd (bounds_den P cuts bx t gt 0 height apart first_some xs within)
      (entry_den (row_at t.rows 0) 0 (gt.positive 0 [] height)) zd od ld (closed P cuts bx t gt 0 height apart first_some xs within) z_is
      (form_of-difference (combined_row_at us) (λ var. whole (coefficient P.terms var)) 0 xs) (bounds_more P cuts bx t gt 0 height apart first_some xs within))

  bound_same : (value : Fraction) (xs : List Fraction) → IsBestPoint P cuts bx t value xs → IsSame (bound_of P us bx) value
  bound_same value xs is =
      let apart = first_apart P cuts bx t gt in
      let scale = sound.scale_positive in
      let a = entry_at t.rows 0 0 in
      let ad = entry_den (row_at t.rows 0) 0 (gt.positive 0 [] height) in
      let gap = difference_of (right_side P true us) (least_combined P true us bx) in
      let gap_den = difference_of_den (right_side P true us) (least_combined P true us bx) (right_side_den P true us us_dens) (least_combined_den P true us bx us_dens) in
      let feasible = is.feasible in
      let slacks_hold : All (HoldsAt xs) (slack_rows P cuts) =
      All-append (HoldsAt xs) P.rows (P.urows ++ cuts) feasible.rows (All-append (HoldsAt xs) P.urows cuts feasible.urows feasible.extra) in
      let above : IsAtMost (objective_of P xs) (bound_of P us bx) =
      objective-at_most P bx xs us scale feasible.inside us_dens (more P cuts bx t gt 0 height apart first_some) (hold P cuts bx t gt 0 height apart first_some xs slacks_hold) in
      let o = objective_of P xs in
      let od = objective_den P bx xs us scale feasible.inside us_dens (more P cuts bx t gt 0 height apart first_some) (hold P cuts bx t gt 0 height apart first_some xs slacks_hold) in
      at_most_both (bound_of P us bx) value
      (at_most_trans (bound_of P us bx) (quotient_of a (whole P.scale)) value (whole_quotient_den a P.scale scale ad)
      (quotient_of-at_most gap a P.scale scale gap_den ad gap_at_most)
      (at_most-same (quotient_of a (whole P.scale)) value (same_sym value (quotient_of a (whole P.scale)) is.exact)))
      (at_most_trans value o (bound_of P us bx) od (at_most-same value o (same_sym o value is.reached)) above)

pub best_end : (P : Problem) (cuts : List Row) (bx : List Range) (t : Table) (pivots : ℕ) (end : LpEnd) → IsSound P
    → (Any IsEmptyRange bx → ⊥) → IsGood P cuts bx t → chosen t ≡ Ok choice.Done → best_at P cuts bx pivots t ≡ Ok end → IsRightEnd P cuts bx end
best_end P cuts bx t pivots end sound full gt done h =
    let combo = closing_combination P cuts bx t true 0 in
    let first = then_at-ok (value_at P t.rows) (λ value. then_at (point_at t.rows 0 bx) (λ point. Ok (Best point value combo pivots))) end h in
    let value = first.0 in
    let second = then_at-ok (point_at t.rows 0 bx) (λ point. Ok (Best point value combo pivots)) end first.2 in
    let xs = second.0 in
    let is : IsBestPoint P cuts bx t value xs = best_point P cuts bx t sound.scale_positive gt done value xs first.1 second.1 in
    let best : IsBest P cuts bx xs value combo = record {
      feasible = is.feasible;
      reached = is.reached;
      objective = refl;
      bound = bound_same P cuts bx t sound full gt done value xs is;
    } in
    subst (IsRightEnd P cuts bx) (located_value (Best xs value combo pivots) end second.2) best
