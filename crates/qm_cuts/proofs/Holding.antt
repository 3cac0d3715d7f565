-- A whole point that meets the rows meets the cuts that are made of them.
use Rattle.std.proofs.Common.{◌≡◌, ◌∙◌, ap, refl, ℕ, zero, suc, ◌+◌, ◌<◌, List, [], ◌∷◌, ◌++◌, length, get_or, map, drop, All, false, arith, ℤ, pos, ◌*ℤ◌, ◌≤ℤ◌}
use Rattle.std.specs.Prelude.{take}
use Rattle.std.proofs.lemmas.List.{length-map, length-append, get_or_append_left, get_or-map}
use Rattle.std.proofs.lemmas.List.Elements.{All-append, All-cons, All-nil}
use Rattle.qm_math.specs.Fraction.{Fraction, whole, IsSame, IsAtMost}
use Rattle.qm_math.specs.Arithmetic.{product_of}
use Rattle.qm_math.specs.Over.{over}
use Rattle.qm_math.proofs.Over.{whole-over}
use Rattle.qm_math.proofs.Compare.{at_most_trans}
use Rattle.qm_math.proofs.FractionLaws.{same_refl, same_sym, same_trans, sum_of-same, product_of-same, whole_den, difference_of_den, sum_of-zero}
use Rattle.qm_math.proofs.FractionOrder.{at_most-same, at_most_congr}
use Rattle.qm_math.proofs.Rounding.{IsFloor-greatest}
use Rattle.qm_math.proofs.Whole.{scaled_le}
use Rattle.qm_model.specs.declared.row.Row.{Row}
use Rattle.qm_model.specs.declared.variable.Var.{Var}
use Rattle.qm_model.specs.declared.game.Problem.{Problem}
use Rattle.qm_model.specs.Boxes.{whole_box_of}
use Rattle.qm_model.specs.Legal.{IsComplete, IsPrefix}
use Rattle.qm_model.specs.Linear.{coefficient, form}
use Rattle.qm_model.specs.Plays.{BeginWithin}
use Rattle.qm_model.specs.Points.{AreWithinOver, HoldsOver, Meets, Point, continuous_vars, values_over}
use Rattle.qm_model.specs.Sound.{IsRowOver, IsSound}
use Rattle.qm_model.proofs.UncertaintyRows.{form-times, length-complete}
use Rattle.qm_trees.specs.declared.cut_combo.CutEntry.{CutEntry}
use Rattle.qm_trees.specs.BoxPoints.{IsInBox, HoldsAt, form_of}
use Rattle.qm_trees.specs.CutEntries.{rows_on}
use Rattle.qm_trees.specs.CutRules.{AreCutsAfter, Derived, IsCut}
use Rattle.qm_trees.specs.Entries.{Weighted}
use Rattle.qm_trees.specs.Evaluation.{combined_coefficient, right_side}
use Rattle.qm_trees.proofs.ClosedGoals.{within_whole_box}
use Rattle.qm_trees.proofs.CombinationSound.{combined_right, combined_row_at, combined_right_den, combined_row_at_den, form_of_den, rows_at_most}
use Rattle.qm_trees.proofs.CombinationValues.{nothing_less}
use Rattle.qm_trees.proofs.RowsOver.{HoldsAt-over, form_of-over, form_of-over_den}
use Rattle.qm_cuts.specs.Pools.{rows_of}
use Rattle.qm_cuts.proofs.EntryRows.{on_dens, on_not_negative, on_hold}

-- ---- the values of all variables lie within the bounds

complete_within : (d : ℕ) (xs : List Var) (n : ℕ) (prefix : List ℤ) (ns : List ℤ) → BeginWithin (take n xs) prefix → length prefix ≡ length (take n xs) → AreWithinOver d (drop n xs) ns
    → AreWithinOver d xs (map (λ v. v *ℤ pos d) prefix ++ ns)
complete_within d xs zero [] ns begin long within = within
complete_within d xs zero (v ∷ vs) ns begin long within = absurd begin
complete_within d [] (suc n) [] ns begin long within = within
complete_within d [] (suc n) (v ∷ vs) ns begin long within = absurd begin
complete_within d (x ∷ xs) (suc n) [] ns begin long within = absurd (omega (arith, long))
complete_within d (x ∷ xs) (suc n) (v ∷ vs) ns begin long within =
    (scaled_le x.low v d begin.0.0, scaled_le v x.high d begin.0.1, complete_within d xs n vs ns begin.1 (omega (arith, long)) within)

within_length : (d : ℕ) (xs : List Var) (ns : List ℤ) → AreWithinOver d xs ns → length (map (over d) ns) ≡ length xs
within_length d [] [] within = refl
within_length d [] (n ∷ ns) within = absurd within
within_length d (x ∷ xs) [] within = absurd within
within_length d (x ∷ xs) (n ∷ ns) within = ap suc (within_length d xs ns within.2)

pub values_within : (P : Problem) (prefix : List ℤ) (y : Point) → IsPrefix P prefix → IsComplete P prefix → AreWithinOver y.den (continuous_vars P) y.nums → AreWithinOver y.den P.vars (values_over prefix y)
values_within P prefix y begin complete within = complete_within y.den P.vars P.wholes prefix y.nums begin complete within

-- ---- forms whose coefficients are the same

form_of-congr : (k j : ℕ → Fraction) (var n : ℕ) (xs : List Fraction) → ((i : ℕ) → i < n → IsSame (k i) (j i)) → var + length xs ≡ n
    → IsSame (form_of k var xs) (form_of j var xs)
form_of-congr k j var n [] same count = same_refl (whole (pos 0))
form_of-congr k j var n (x ∷ xs) same count =
    sum_of-same (product_of (k var) x) (form_of k (suc var) xs) (product_of (j var) x) (form_of j (suc var) xs)
    (product_of-same (k var) x (j var) x (same var (omega (arith, count))) (same_refl x))
    (form_of-congr k j (suc var) n xs same (omega (arith, count)))

-- ---- a whole point meets the cut

module _ (P : Problem) (earlier : List Row) (es : List CutEntry) (cut : Row) (prefix : List ℤ) (y : Point)
    (sound : IsSound P) (begin : IsPrefix P prefix) (complete : IsComplete P prefix) (meets : Meets P prefix y)
    (urows : All (HoldsOver y.den (values_over prefix y)) P.urows) (cuts : All (HoldsOver y.den (values_over prefix y)) earlier) (is_cut : IsCut P earlier es cut) where
  -- the values of all variables
  abbrev values : List ℤ
  values = values_over prefix y

  abbrev fractions : List Fraction
  fractions = map (over y.den) values

  abbrev weighted : List Weighted
  weighted = rows_on P earlier es

  within : AreWithinOver y.den P.vars values
  within = values_within P prefix y begin complete meets.within

  inside : IsInBox (whole_box_of P.vars) fractions
  inside = within_whole_box y.den P.vars values meets.positive within

  dens : All (λ (w : Weighted). 0 < w.by.den) weighted
  dens = on_dens P earlier es is_cut.entries.multipliers

  rows_hold : All (λ (w : Weighted). HoldsAt fractions w.row) weighted
  rows_hold = λ k e h. (HoldsAt-over y.den values (get_or weighted k e).row meets.positive).1 (on_hold P earlier y.den values within meets.rows urows cuts es k e h)

  -- the entries' rows, added up
  combined : IsAtMost (form_of (combined_row_at weighted) 0 fractions) (combined_right weighted)
  combined = rows_at_most (whole_box_of P.vars) fractions weighted inside dens (on_not_negative P earlier es is_cut.entries.multipliers) rows_hold

  coefficient_at : ℕ → Fraction
  coefficient_at var = whole (coefficient cut.terms var)

  coefficient_same : (var : ℕ) → var < length P.vars → IsSame (combined_row_at weighted var) (whole (coefficient cut.terms var))
  coefficient_same var below =
      same_trans (combined_row_at weighted var) (combined_coefficient P false weighted var) (whole (coefficient cut.terms var))
      (difference_of_den (combined_row_at weighted var) (whole (pos 0)) (combined_row_at_den weighted var dens) (whole_den (pos 0)))
      (nothing_less (combined_row_at weighted var)) (is_cut.coefficients var below)

  as_many : length fractions ≡ length P.vars
  as_many = within_length y.den P.vars values within

  -- the cut's form is at most what its right side is rounded from
  form_at_most : IsAtMost (over y.den (form cut.terms values)) (right_side P false weighted)
  form_at_most =
      let left = form_of (combined_row_at weighted) 0 fractions in
      let cut_form = form_of (λ var. whole (coefficient cut.terms var)) 0 fractions in
      let same : IsSame left cut_form = form_of-congr (combined_row_at weighted) (λ var. whole (coefficient cut.terms var)) 0 (length P.vars) fractions coefficient_same (omega (arith, as_many)) in
      let numerators = over y.den (form cut.terms values) in
      at_most_congr left (combined_right weighted) numerators (right_side P false weighted)
      (form_of_den (combined_row_at weighted) 0 (whole_box_of P.vars) fractions (λ n. combined_row_at_den weighted n dens) inside)
      (combined_right_den weighted dens)
      (same_trans left cut_form numerators (form_of-over_den y.den (λ var. coefficient cut.terms var) 0 values meets.positive) same (form_of-over y.den (λ var. coefficient cut.terms var) 0 values))
      (same_sym (right_side P false weighted) (combined_right weighted) (sum_of-zero (combined_right weighted)))
      combined

  -- the cut's form, of whole variables alone, is so many times what it is at the prefix
  form_times : form cut.terms values ≡ form cut.terms prefix *ℤ pos y.den
  form_times =
      let long = length-complete P prefix sound complete in
      let scaled = map (λ v. v *ℤ pos y.den) prefix in
      let ts = cut.terms in
      form-times y.den values prefix ts is_cut.over.ordered
      (λ k t h. omega (arith, is_cut.wholes k t h, long, length-map prefix (λ v. v *ℤ pos y.den), length-append scaled y.nums))
      (λ k t h. omega (arith, is_cut.wholes k t h, long))
      (λ k t h.
      get_or_append_left scaled y.nums (pos 0) (get_or ts k t).var (omega (arith, is_cut.wholes k t h, long, length-map prefix (λ v. v *ℤ pos y.den)))
      ∙ get_or-map (λ v. v *ℤ pos y.den) prefix (get_or ts k t).var (pos 0) (pos 0) (omega (arith, is_cut.wholes k t h, long)))

  pub cut_holds : HoldsOver y.den values cut
  cut_holds =
      let whole_form = form cut.terms prefix in
      let most : IsAtMost (over y.den (whole_form *ℤ pos y.den)) (right_side P false weighted) = rw form_times at form_at_most in
      let below : IsAtMost (whole whole_form) (right_side P false weighted) =
      at_most_trans (whole whole_form) (over y.den (whole_form *ℤ pos y.den)) (right_side P false weighted) meets.positive
      (at_most-same (whole whole_form) (over y.den (whole_form *ℤ pos y.den)) (whole-over y.den whole_form)) most in
      let rounded : whole_form ≤ℤ cut.right = (IsFloor-greatest cut.right (right_side P false weighted) whole_form is_cut.right).0 below in
      rw form_times (scaled_le whole_form cut.right y.den rounded)

-- ---- cuts in their order

module _ (P : Problem) (prefix : List ℤ) (y : Point)
    (sound : IsSound P) (begin : IsPrefix P prefix) (complete : IsComplete P prefix) (meets : Meets P prefix y)
    (urows : All (HoldsOver y.den (values_over prefix y)) P.urows) where
  pub hold_after : (earlier : List Row) (cuts : List Derived) → All (HoldsOver y.den (values_over prefix y)) earlier → AreCutsAfter P earlier cuts
      → All (HoldsOver y.den (values_over prefix y)) (rows_of cuts)
  hold_after earlier [] before are = All-nil (HoldsOver y.den (values_over prefix y))
  hold_after earlier (c ∷ cuts) before are =
      let Holds = HoldsOver y.den (values_over prefix y) in
      let here = cut_holds P earlier c.entries c.row prefix y sound begin complete meets urows before are.0 in
      All-cons Holds c.row (rows_of cuts) here
      (hold_after (earlier ++ c.row ∷ []) cuts (All-append Holds earlier (c.row ∷ []) before (All-cons Holds c.row [] here (All-nil Holds))) are.1)

pub are_over : (P : Problem) (earlier : List Row) (cuts : List Derived) → AreCutsAfter P earlier cuts → All (IsRowOver P.vars) (rows_of cuts)
are_over P earlier [] are = All-nil (IsRowOver P.vars)
are_over P earlier (c ∷ cuts) are = All-cons (IsRowOver P.vars) c.row (rows_of cuts) are.0.over (are_over P (earlier ++ c.row ∷ []) cuts are.1)
