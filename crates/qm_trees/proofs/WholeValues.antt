-- Over a box of a problem in order, no operation leaves in the value of the objective alone, nor in that of one row by 1.
use Rattle.std.proofs.Common.{◌≡◌, ℕ, suc, ◌+◌, ◌*◌, ◌<◌, ◌≤◌, ◌^◌, List, [], ◌∷◌, length, refl, sym, ap, ◌∙◌, arith, unsigned_abs, neg_ℤ, ℤ, pos, negsuc, ◌+ℤ◌, ◌-ℤ◌, ◌*ℤ◌, Bool, true, false, Ok}
use Rattle.std.specs.Prelude.{if◌then◌else◌}
use Rattle.std.specs.Ordering.{int_eq}
use Rattle.std.proofs.lemmas.Int.{ints}
use Rattle.std.specs.List.{list_any}
use Rattle.qm_math.specs.Fraction.{Fraction, whole, is_below, is_at_most}
use Rattle.qm_math.specs.Ranges.{reach, least_product}
use Rattle.qm_math.specs.Sums.{sum_from}
use Rattle.qm_math.proofs.Between.{least_product_size}
use Rattle.qm_math.proofs.WholeTests.{test_of_lt, test_of_le, eq_of_test}
use Rattle.qm_frac.specs.Arithmetic.{quotient}
use Rattle.qm_frac.specs.Checked.{Checked, and_then, added, subtracted, multiplied, divided}
use Rattle.qm_frac.proofs.CheckedLaws.{and_then_assoc}
use Rattle.qm_frac.proofs.SignLaws.{unsigned_abs-neg, zero_minus}
use Rattle.qm_frac.proofs.WholeSteps.{added-whole, subtracted-whole, multiplied-whole, divided-whole}
use Rattle.qm_model.specs.declared.range.Range.{Range}
use Rattle.qm_model.specs.declared.row.Row.{Row}
use Rattle.qm_model.specs.declared.game.Problem.{Problem}
use Rattle.qm_model.specs.Boxes.{IsBox, IsDead, least_value, greatest_value}
use Rattle.qm_model.specs.Goals.{Goal, Above}
use Rattle.qm_model.specs.Linear.{HasVarsBelow, coefficient}
use Rattle.qm_model.specs.Sizes.{reach_in_box, row_size, terms_size}
use Rattle.qm_model.specs.Sound.{IsRowOver, IsSound}
use Rattle.qm_model.proofs.BoxLaws.{IsBox-length}
use Rattle.qm_model.proofs.Sizes.{reach_in_box_le, row_size_le, objective_size_le}
use Rattle.qm_model.proofs.VariableSizes.{sizes_from, sizes-terms_size, coefficient_size, box_reach_some, least-negated}
use Rattle.qm_trees.specs.declared.combination.ComboValue.{ComboValue}
use Rattle.qm_trees.specs.declared.combination.ComboValue.TheVariants.{Nothing, Void, Bound}
use Rattle.qm_trees.specs.Entries.{Weighted, with_row}
use Rattle.qm_trees.specs.Evaluation.{zero, least_end_by, add_right_sides, add_coefficients, less_objective, add_least, add_variables, value_of}
use Rattle.qm_trees.specs.Closing.{closes_goal, is_empty_range, closing}

-- ---- one variable

least_end_product : (k : ℤ) (r : Range) → k *ℤ least_end_by k r ≡ least_product k r.low r.high
least_end_product (pos n) r = refl
least_end_product (negsuc n) r = refl

zero_part : (k : ℤ) (r : Range) (s : ℤ) → k ≡ pos 0 → s ≡ s +ℤ least_product k r.low r.high
zero_part k r s e = rw e (omega (arith, ints))

-- a whole coefficient times its better end, added to a whole sum
least_whole : (k : ℤ) (r : Range) (s : ℤ) → unsigned_abs s + unsigned_abs k * reach r.low r.high < 2 ^ 127
    → add_least (whole k) r (whole s) ≡ Ok (whole (s +ℤ least_product k r.low r.high))
least_whole k r s fits = by_test (int_eq k (pos 0)) refl
  where
    size : unsigned_abs (least_product k r.low r.high) ≤ unsigned_abs k * reach r.low r.high
    size = least_product_size k r.low r.high

    product : multiplied (whole k) (whole (least_end_by k r)) ≡ Ok (whole (least_product k r.low r.high))
    product =
        let e = least_end_product k r in
        multiplied-whole k (least_end_by k r) (rw e (omega (arith, size, fits))) ∙ ap (λ (n : ℤ). Ok (whole n)) e

    total : added (whole s) (whole (least_product k r.low r.high)) ≡ Ok (whole (s +ℤ least_product k r.low r.high))
    total = added-whole s (least_product k r.low r.high) (omega (arith, fits)) (omega (arith, size, fits)) (omega (arith, ints, size, fits))

    by_test : (b : Bool) → int_eq k (pos 0) ≡ b
        → (if b then Ok (whole s) else and_then (multiplied (whole k) (whole (least_end_by k r))) (λ p. added (whole s) p)) ≡ Ok (whole (s +ℤ least_product k r.low r.high))
    by_test true e = ap (λ (n : ℤ). Ok (whole n)) (zero_part k r s (eq_of_test k (pos 0) e))
    by_test false e = ap (λ (x : Checked Fraction). and_then x (λ p. added (whole s) p)) product ∙ total

-- ---- all variables

module _ (P : Problem) (objective : Bool) (ws : List Weighted) (k : ℕ → ℤ)
    (step : (var : ℕ) → and_then (add_coefficients var ws zero) (λ a. less_objective P objective var a) ≡ Ok (whole (k var))) where
  -- the least value of the form with these coefficients
  abbrev least_from : ℕ → List Range → ℤ
  least_from first bx = sum_from (λ var (r : Range). least_product (k var) r.low r.high) first bx

  variables_whole : (var : ℕ) (bx : List Range) (s : ℤ) → unsigned_abs s + sizes_from k var bx < 2 ^ 127
      → add_variables P objective ws var bx (whole s) ≡ Ok (whole (s +ℤ least_from var bx))
  variables_whole var [] s fits = ap (λ (n : ℤ). Ok (whole n)) (let e : s ≡ s +ℤ pos 0 = omega (arith, ints) in e)
  variables_whole var (r ∷ bx) s fits =
      let part = least_product (k var) r.low r.high in
      let size = least_product_size (k var) r.low r.high in
      let rest : Fraction → Checked Fraction = λ t. add_variables P objective ws (suc var) bx t in
      let next : Fraction → Checked Fraction = λ c. and_then (add_least c r (whole s)) rest in
      let here : unsigned_abs s + unsigned_abs (k var) * reach r.low r.high < 2 ^ 127 = omega (arith, fits) in
      let after : unsigned_abs (s +ℤ part) + sizes_from k (suc var) bx < 2 ^ 127 = omega (arith, ints, size, fits) in
      let moved : (s +ℤ part) +ℤ least_from (suc var) bx ≡ s +ℤ (part +ℤ least_from (suc var) bx) = omega (arith, ints) in
      sym (and_then_assoc (add_coefficients var ws zero) (λ a. less_objective P objective var a) next)
      ∙ ap (λ (x : Checked Fraction). and_then x next) (step var)
      ∙ ap (λ (x : Checked Fraction). and_then x rest) (least_whole (k var) r s here)
      ∙ variables_whole (suc var) bx (s +ℤ part) after
      ∙ ap (λ (n : ℤ). Ok (whole n)) moved

  from_zero : (bx : List Range) → sizes_from k 0 bx < 2 ^ 127 → add_variables P objective ws 0 bx zero ≡ Ok (whole (least_from 0 bx))
  from_zero bx fits =
      variables_whole 0 bx (pos 0) (omega (arith, fits)) ∙ ap (λ (n : ℤ). Ok (whole n)) (let e : pos 0 +ℤ least_from 0 bx ≡ least_from 0 bx = omega (arith, ints) in e)

-- no sum of least parts gets farther from 0 than their sizes
least_from_size : (k : ℕ → ℤ) (first : ℕ) (bx : List Range) → unsigned_abs (sum_from (λ var (r : Range). least_product (k var) r.low r.high) first bx) ≤ sizes_from k first bx
least_from_size k first [] = omega arith
least_from_size k first (r ∷ bx) =
    let here = least_product_size (k first) r.low r.high in
    let rest = least_from_size k (suc first) bx in
    omega (arith, ints, here, rest)

-- ---- the objective alone

negated_coefficient : (c : ℤ) → unsigned_abs c < 2 ^ 127 → (let x : Checked Fraction = if int_eq c (pos 0) then Ok zero else subtracted zero (whole c) in x) ≡ Ok (whole (neg_ℤ c))
negated_coefficient c fits = by_test (int_eq c (pos 0)) refl
  where
    by_test : (b : Bool) → int_eq c (pos 0) ≡ b → (let x : Checked Fraction = if b then Ok zero else subtracted zero (whole c) in x) ≡ Ok (whole (neg_ℤ c))
    by_test true e = ap (λ (n : ℤ). Ok (whole (neg_ℤ n))) (sym (eq_of_test c (pos 0) e))
    by_test false e =
        let z = zero_minus c in
        subtracted-whole (pos 0) c (omega arith) fits (rw (z, unsigned_abs-neg c) fits) ∙ ap (λ (n : ℤ). Ok (whole n)) z

-- the objective's greatest value over the box, not divided by the scale
abbrev pub greatest_objective : Problem → List Range → ℤ
greatest_objective P bx = P.constant +ℤ greatest_value P.terms bx

module _ (P : Problem) (bx : List Range) (sound : IsSound P) (box : IsBox P.vars bx) where
  pub objective_sizes : unsigned_abs P.constant + terms_size (reach_in_box bx) P.terms ≤ 2 ^ 126
  objective_sizes = objective_size_le P (reach_in_box bx) sound (reach_in_box_le P.vars bx box)

  pub objective_vars_below : HasVarsBelow (length bx) P.terms
  objective_vars_below = rw (IsBox-length P.vars bx box) sound.objective_vars

  -- the coefficients of the form with the objective alone
  abbrev opposite : ℕ → ℤ
  opposite var = neg_ℤ (coefficient P.terms var)

  opposite_sizes : sizes_from opposite 0 bx ≡ terms_size (reach_in_box bx) P.terms
  opposite_sizes = sizes-terms_size opposite P.terms bx (λ var. unsigned_abs-neg (coefficient P.terms var)) sound.objective_ordered objective_vars_below

  opposite_step : (var : ℕ) → and_then (add_coefficients var [] zero) (λ a. less_objective P true var a) ≡ Ok (whole (opposite var))
  opposite_step var = negated_coefficient (coefficient P.terms var) (let h = coefficient_size (reach_in_box bx) (box_reach_some bx) P.terms var in omega (arith, objective_sizes, h))

  least_is : add_variables P true [] 0 bx zero ≡ Ok (whole (neg_ℤ (greatest_value P.terms bx)))
  least_is =
      from_zero P true [] opposite opposite_step bx (omega (arith, opposite_sizes, objective_sizes))
      ∙ ap (λ (n : ℤ). Ok (whole n)) (least-negated P.terms bx)

  pub greatest_size : unsigned_abs (greatest_value P.terms bx) ≤ terms_size (reach_in_box bx) P.terms
  greatest_size =
      let h = least_from_size opposite 0 bx in
      let e : unsigned_abs (greatest_value P.terms bx) ≡ unsigned_abs (sum_from (λ var (r : Range). least_product (opposite var) r.low r.high) 0 bx) =
      sym (ap unsigned_abs (least-negated P.terms bx) ∙ unsigned_abs-neg (greatest_value P.terms bx)) in
      omega (arith, e, h, opposite_sizes)

  pub greatest_objective_size : unsigned_abs (greatest_objective P bx) ≤ 2 ^ 126
  greatest_objective_size = omega (arith, ints, greatest_size, objective_sizes)

  scale_size : unsigned_abs P.scale < 2 ^ 127
  scale_size = let h = sound.scale_positive in let k = sound.scale_size in omega (arith, ints)

  pub objective_by_scale : divided (whole (greatest_objective P bx)) (whole P.scale) ≡ Ok (quotient (whole (greatest_objective P bx)) (whole P.scale))
  objective_by_scale = divided-whole (greatest_objective P bx) P.scale sound.scale_positive (let h = greatest_objective_size in omega (arith, h)) scale_size

  -- the bound that the objective alone gives
  pub objective_value : value_of P true [] bx ≡ Ok (Bound (quotient (whole (greatest_objective P bx)) (whole P.scale)))
  unfolding value_of
  objective_value =
      let c = P.constant in
      let greatest = greatest_value P.terms bx in
      let last : Fraction → Checked ComboValue = λ d. and_then (divided d (whole P.scale)) (λ w. Ok (Bound w)) in
      let third : Fraction → Fraction → Checked ComboValue = λ q s. and_then (subtracted q s) last in
      let second : Fraction → Checked ComboValue = λ q. and_then (add_variables P true [] 0 bx zero) (third q) in
      let zero_and : pos 0 +ℤ c ≡ c = omega (arith, ints) in
      let first : added zero (whole c) ≡ Ok (whole c) =
      added-whole (pos 0) c (omega arith) (omega (arith, objective_sizes)) (rw zero_and (omega (arith, objective_sizes))) ∙ ap (λ (n : ℤ). Ok (whole n)) zero_and in
      let less : c -ℤ neg_ℤ greatest ≡ c +ℤ greatest = omega (arith, ints) in
      let gap : subtracted (whole c) (whole (neg_ℤ greatest)) ≡ Ok (whole (c +ℤ greatest)) =
      subtracted-whole c (neg_ℤ greatest) (omega (arith, objective_sizes)) (rw (unsigned_abs-neg greatest) (let h = greatest_size in omega (arith, objective_sizes, h))) (rw less (let h = greatest_objective_size in omega (arith, h)))
      ∙ ap (λ (n : ℤ). Ok (whole n)) less in
      ap (λ (x : Checked Fraction). and_then x second) first
      ∙ ap (λ (x : Checked Fraction). and_then x (third (whole c))) least_is
      ∙ ap (λ (x : Checked Fraction). and_then x last) gap
      ∙ ap (λ (x : Checked Fraction). and_then x (λ w. let z : Checked ComboValue = Ok (Bound w) in z)) objective_by_scale

-- ---- one row by 1

one_times : (c : ℤ) → pos 1 *ℤ c ≡ c
one_times c = omega (arith, ints)

multiplied_by_one : (c : ℤ) → unsigned_abs c < 2 ^ 127 → multiplied (whole (pos 1)) (whole c) ≡ Ok (whole c)
multiplied_by_one c fits =
    let e = one_times c in
    multiplied-whole (pos 1) c (rw e fits) ∙ ap (λ (n : ℤ). Ok (whole n)) e

added_to_zero : (c : ℤ) → unsigned_abs c < 2 ^ 127 → added zero (whole c) ≡ Ok (whole c)
added_to_zero c fits =
    let e : pos 0 +ℤ c ≡ c = omega (arith, ints) in
    added-whole (pos 0) c (omega arith) fits (rw e fits) ∙ ap (λ (n : ℤ). Ok (whole n)) e

single_coefficient : (c : ℤ) → unsigned_abs c < 2 ^ 127
    → (let x : Checked Fraction = if int_eq c (pos 0) then Ok zero else and_then (multiplied (whole (pos 1)) (whole c)) (λ p. and_then (added zero p) (λ d. Ok d)) in x) ≡ Ok (whole c)
single_coefficient c fits = by_test (int_eq c (pos 0)) refl
  where
    last : Fraction → Checked Fraction
    last d = Ok d

    by_test : (b : Bool) → int_eq c (pos 0) ≡ b
        → (let x : Checked Fraction = if b then Ok zero else and_then (multiplied (whole (pos 1)) (whole c)) (λ p. and_then (added zero p) (λ d. Ok d)) in x) ≡ Ok (whole c)
    by_test true e = ap (λ (n : ℤ). Ok (whole n)) (sym (eq_of_test c (pos 0) e))
    by_test false e =
        ap (λ (x : Checked Fraction). and_then x (λ p. and_then (added zero p) last)) (multiplied_by_one c fits)
        ∙ ap (λ (x : Checked Fraction). and_then x last) (added_to_zero c fits)

-- the row with the multiplier 1
abbrev pub by_one : Row → List Weighted
by_one row = with_row (whole (pos 1)) row ∷ []

module _ (P : Problem) (bx : List Range) (row : Row) (over : IsRowOver P.vars row) (box : IsBox P.vars bx) where
  pub row_sizes : row_size (reach_in_box bx) row ≤ 2 ^ 126
  row_sizes = row_size_le P.vars row (reach_in_box bx) over (reach_in_box_le P.vars bx box)

  pub row_vars_below : HasVarsBelow (length bx) row.terms
  row_vars_below = rw (IsBox-length P.vars bx box) over.vars

  abbrev coefficients : ℕ → ℤ
  coefficients var = coefficient row.terms var

  row_step : (var : ℕ) → and_then (add_coefficients var (by_one row) zero) (λ a. less_objective P false var a) ≡ Ok (whole (coefficients var))
  row_step var =
      let small : unsigned_abs (coefficient row.terms var) < 2 ^ 127 =
      (let h = coefficient_size (reach_in_box bx) (box_reach_some bx) row.terms var in omega (arith, row_sizes, h)) in
      ap (λ (x : Checked Fraction). and_then x (λ a. let z : Checked Fraction = Ok a in z)) (single_coefficient (coefficient row.terms var) small)

  row_least : add_variables P false (by_one row) 0 bx zero ≡ Ok (whole (least_value row.terms bx))
  row_least =
      from_zero P false (by_one row) coefficients row_step bx
      (let e = sizes-terms_size coefficients row.terms bx (λ var. refl) over.ordered row_vars_below in omega (arith, e, row_sizes))

  -- a dead row alone leaves no point
  pub dead_row_value : IsDead bx row → value_of P false (by_one row) bx ≡ Ok Void
  unfolding value_of
  dead_row_value dead =
      let right = row.right in
      let small : unsigned_abs right < 2 ^ 127 = omega (arith, row_sizes) in
      let compare : Fraction → Fraction → Checked ComboValue = λ r s. Ok (if is_below r s then Void else Nothing) in
      let second : Fraction → Checked ComboValue = λ r. and_then (add_variables P false (by_one row) 0 bx zero) (compare r) in
      let first : add_right_sides (by_one row) zero ≡ Ok (whole right) =
      ap (λ (x : Checked Fraction). and_then x (λ p. and_then (added zero p) (λ s. let z : Checked Fraction = Ok s in z))) (multiplied_by_one right small)
      ∙ ap (λ (x : Checked Fraction). and_then x (λ s. let z : Checked Fraction = Ok s in z)) (added_to_zero right small) in
      let below : is_below (whole right) (whole (least_value row.terms bx)) ≡ true =
      test_of_lt (right *ℤ pos 1) (least_value row.terms bx *ℤ pos 1) (omega (arith, ints, dead)) in
      ap (λ (x : Checked Fraction). and_then x second) first
      ∙ ap (λ (x : Checked Fraction). and_then x (compare (whole right))) row_least
      ∙ ap (λ (b : Bool). let z : Checked ComboValue = Ok (if b then Void else Nothing) in z) below

-- ---- closing

closing_of_value : (P : Problem) (objective : Bool) (ws : List Weighted) (bx : List Range) (G : Goal) (v : ComboValue)
    → value_of P objective ws bx ≡ Ok v → closes_goal G v ≡ true → closing P objective ws bx G ≡ Ok true
unfolding closing
closing_of_value P objective ws bx G v e closes = by_test (list_any is_empty_range bx)
  where
    by_test : (b : Bool) → (let x : Checked Bool = if b then Ok true else and_then (value_of P objective ws bx) (λ w. Ok (closes_goal G w)) in x) ≡ Ok true
    by_test true = refl
    by_test false = rw (e, closes) refl

-- a dead row alone closes every goal
pub dead_row_closes : (P : Problem) (bx : List Range) (row : Row) (G : Goal) → IsRowOver P.vars row → IsBox P.vars bx → IsDead bx row → closing P false (by_one row) bx G ≡ Ok true
dead_row_closes P bx row G over box dead = closing_of_value P false (by_one row) bx G Void (dead_row_value P bx row over box dead) refl

-- a value is at most itself
pub at_most_itself : (w : Fraction) → is_at_most w w ≡ true
at_most_itself w = test_of_le (w.num *ℤ pos w.den) (w.num *ℤ pos w.den) (omega (arith, ints))

-- the objective alone closes the goal above its bound
pub objective_closes : (P : Problem) (bx : List Range) (w : Fraction) → value_of P true [] bx ≡ Ok (Bound w) → closing P true [] bx (Above w) ≡ Ok true
objective_closes P bx w e = closing_of_value P true [] bx (Above w) (Bound w) e (at_most_itself w)
