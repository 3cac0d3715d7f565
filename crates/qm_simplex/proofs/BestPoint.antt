-- The point where no row is left: it is in the relaxation, and the objective comes to the value there.
use Rattle.std.proofs.Common.{◌≡◌, ◌∙◌, refl, sym, ap, subst, ℕ, zero, suc, ◌+◌, ◌*◌, ◌<◌, List, [], ◌∷◌, ◌++◌, length, get_or, map, drop, arith, All, Ok, Err, ℤ, pos, ◌≤ℤ◌}
use Rattle.std.specs.List.{AllZip}
use Rattle.std.proofs.lemmas.List.Elements.{All-cons, All-drop, All-head, All-nil, All-tail, length_all_zip}
use Rattle.qm_math.specs.Fraction.{Fraction, HasPositiveDen, IsAtMost, IsSame, whole}
use Rattle.qm_math.specs.Arithmetic.{difference_of, quotient_of, sum_of}
use Rattle.qm_math.proofs.Polynomials.{number, ◌⊕◌, minus}
use Rattle.qm_math.proofs.Ring.{x0, x1, x2, x3}
use Rattle.qm_math.proofs.FractionLinear.{same_given}
use Rattle.qm_math.proofs.Compare.{at_most_trans}
use Rattle.qm_math.proofs.FractionOrder.{at_most-same}
use Rattle.qm_math.proofs.FractionLaws.{quotient_of-same, quotient_of_den, same_refl, same_sym, same_trans, whole_den}
use Rattle.qm_math.proofs.Magnitudes.{unsigned_abs-one_le, nonzero-one_le}
use Rattle.qm_math.proofs.Lists.{all_left, all_right}
use Rattle.qm_frac.specs.Checked.{Checked, added, divided}
use Rattle.qm_frac.proofs.CheckedLaws.{IsFrac-added, IsFrac-divided, added-value, divided-value}
use Rattle.qm_model.specs.declared.range.Range.{Range}
use Rattle.qm_model.specs.declared.row.Row.{Row}
use Rattle.qm_model.specs.declared.game.Problem.{Problem}
use Rattle.qm_model.proofs.BoxForms.{no_range}
use Rattle.qm_tableau.specs.declared.choice.Choice.TheVariants as choice
use Rattle.qm_tableau.specs.Tables.{Table, entry_at, entry_of}
use Rattle.qm_tableau.specs.Quantities.{Quantity, bound_quantities, high_quantity, low_quantity, objective_quantity, quantities, slack_quantity}
use Rattle.qm_tableau.specs.Columns.{affine_value}
use Rattle.qm_tableau.specs.Rule.{chosen}
use Rattle.qm_tableau.specs.Good.{ComeTo, IsGood, IsPoint, quantity_value, values_at}
use Rattle.qm_tableau.proofs.Constants.{affine_den, constant_left, nothing, nothing_den, nothing_long, nothing_zero, quantity_den, values_den}
use Rattle.qm_tableau.proofs.Exactness.{entry_den}
use Rattle.qm_trees.specs.BoxPoints.{objective_of}
use Rattle.qm_simplex.specs.declared.answers.LeavePlace.{LeavePlace}
use Rattle.qm_simplex.specs.declared.answers.LeavePlace.TheVariants as place
use Rattle.qm_simplex.specs.Relaxation.{IsInRelaxation}
use Rattle.qm_simplex.specs.Stops.{Located, located, point_at, then_at, value_at}
use Rattle.qm_simplex.proofs.ClosingEntries.{IsNonnegative, done_rows}
use Rattle.qm_simplex.proofs.PointValues.{IsSomeAt, box_of_bounds, low_value, objective_sum, objective_value, quantities_same, rows_hold}

-- ---- steps that have a value
pub then_at-ok : {A B : Type 0} (first : Located A) (f : A → Located B) (r : B) → then_at first f ≡ Ok r → (x : A) × (first ≡ Ok x) × (f x ≡ Ok r)
then_at-ok (Ok x) f r h = (x, refl, h)
then_at-ok (Err e) f r h = absurd (cc)

pub located_value : {A : Type 0} (x y : A) → (let z : Located A = Ok x in z) ≡ Ok y → x ≡ y
located_value x y h = cc

pub located-ok : {A : Type 0} (at : LeavePlace) (x : Checked A) (r : A) → located at x ≡ Ok r → x ≡ Ok r
located-ok at (Ok x) r h = ap (λ y. Ok y) (located_value x r h)
located-ok at (Err e) r h = absurd (cc)

-- ---- where all inputs are 0, each row comes to its constant
-- the value is the row's constant
abbrev IsConstant : List Fraction → Fraction → Type 0
IsConstant row value = IsSame value (entry_of row 0)

constants : (rows : List (List Fraction)) (cols : List ℕ) (vs : List Fraction) → All (λ row. All HasPositiveDen row) rows → ComeTo rows (nothing cols) vs → AllZip IsConstant rows vs
constants [] cols [] d h = tt
constants [] cols (v ∷ vs) d h = absurd h
constants (row ∷ rows) cols [] d h = absurd h
constants (row ∷ rows) cols (v ∷ vs) d h =
    let rd = All-head (λ (row : List Fraction). All HasPositiveDen row) row rows d in
    let a = affine_value row (nothing cols) in (
      same_trans v a (entry_of row 0) (affine_den row (nothing cols) rd (nothing_den cols)) (same_sym a v h.0) (constant_left row (nothing cols) rd (nothing_zero cols)),
      constants rows cols vs (All-tail (λ (row : List Fraction). All HasPositiveDen row) row rows d) h.1,
    )

moved_constants : (rows : List (List Fraction)) (vs ws : List Fraction) → AllZip IsConstant rows vs → AllZip IsSame ws vs → All HasPositiveDen vs → AllZip IsConstant rows ws
moved_constants [] [] [] h e d = tt
moved_constants [] [] (w ∷ ws) h e d = absurd e
moved_constants [] (v ∷ vs) ws h e d = absurd h
moved_constants (row ∷ rows) [] ws h e d = absurd h
moved_constants (row ∷ rows) (v ∷ vs) [] h e d = absurd e
moved_constants (row ∷ rows) (v ∷ vs) (w ∷ ws) h e d = (
  same_trans w v (entry_of row 0) (All-head HasPositiveDen v vs d) e.0 h.0,
  moved_constants rows vs ws h.1 e.1 (All-tail HasPositiveDen v vs d),
)

first_and_rest : (rows : List (List Fraction)) (v : Fraction) (vs : List Fraction) → AllZip IsConstant rows (v ∷ vs)
    → IsSame v (entry_at rows 0 0) × AllZip IsConstant (drop 1 rows) vs
first_and_rest [] v vs h = absurd h
first_and_rest (row ∷ rows) v vs h = h

abbrev IsSome : Fraction → Type 0
IsSome v = IsAtMost (whole (pos 0)) v

some_values : (rows : List (List Fraction)) (vs : List Fraction) → All (λ row. All HasPositiveDen row) rows → AllZip IsConstant rows vs → All IsNonnegative rows → All IsSome vs
some_values [] [] d h more = All-nil IsSome
some_values [] (v ∷ vs) d h more = absurd h
some_values (row ∷ rows) [] d h more = absurd h
some_values (row ∷ rows) (v ∷ vs) d h more =
    let c = entry_of row 0 in
    let cd = entry_den row 0 (All-head (λ (row : List Fraction). All HasPositiveDen row) row rows d) in
    All-cons IsSome v vs (at_most_trans (whole (pos 0)) c v cd (All-head IsNonnegative row rows more) (at_most-same c v (same_sym v c h.0)))
    (some_values rows vs (All-tail (λ (row : List Fraction). All HasPositiveDen row) row rows d) h.1 (All-tail IsNonnegative row rows more))

-- ---- parts of lists
unmapped : {X Y : Type 0} (R : Y → Type 0) (f : X → Y) (xs : List X) → All R (map f xs) → All (λ x. R (f x)) xs
unmapped R f [] h = All-nil (λ x. R (f x))
unmapped R f (x ∷ xs) h = All-cons (λ x. R (f x)) x xs (All-head R (f x) (map f xs) h) (unmapped R f xs (All-tail R (f x) (map f xs) h))

-- ---- the row of x - low
lows_at : (V : Quantity → Fraction) (var j : ℕ) (bx : List Range) (more : List Quantity) (d : Fraction) → j < length bx
    → get_or (map V (bound_quantities var bx ++ more)) (2 * j + 1) d ≡ V (low_quantity (var + j) (get_or bx j no_range))
lows_at V var j [] more d h = absurd (omega (arith, h))
lows_at V var zero (s ∷ bx) more d h = let at : var ≡ var + 0 = omega arith in ap (λ (n : ℕ). V (low_quantity n s)) at
lows_at V var (suc j) (s ∷ bx) more d h =
    let rest = map V (bound_quantities (suc var) bx ++ more) in
    let index : 2 * suc j + 1 ≡ suc (suc (2 * j + 1)) = omega arith in
    let at : suc var + j ≡ var + suc j = omega arith in
    ap (λ (n : ℕ). get_or (V (high_quantity var s) ∷ V (low_quantity var s) ∷ rest) n d) index
    ∙ lows_at V (suc var) j bx more d (omega (arith, h)) ∙ ap (λ (n : ℕ). V (low_quantity n (get_or bx j no_range))) at

abbrev slacks : Problem → List Row → List Quantity
slacks P cuts = map slack_quantity P.rows ++ (map slack_quantity P.urows ++ map slack_quantity cuts)

low_at : (V : Quantity → Fraction) (P : Problem) (cuts : List Row) (bx : List Range) (j : ℕ) (d : Fraction) → j < length bx
    → get_or (map V (quantities P cuts bx)) (2 * j + 2) d ≡ V (low_quantity j (get_or bx j no_range))
low_at V P cuts bx j d h =
    let index : 2 * j + 2 ≡ suc (2 * j + 1) = omega arith in
    let at : 0 + j ≡ j = omega arith in
    ap (λ (n : ℕ). get_or (V (objective_quantity P) ∷ map V (bound_quantities 0 bx ++ slacks P cuts)) n d) index
    ∙ lows_at V 0 j bx (slacks P cuts) d h ∙ ap (λ (n : ℕ). V (low_quantity n (get_or bx j no_range))) at

-- an entry of rows that may be missing
entry_at_den : (rows : List (List Fraction)) (i k : ℕ) → All (λ row. All HasPositiveDen row) rows → 0 < (entry_at rows i k).den
entry_at_den [] i k d = whole_den (pos 0)
entry_at_den (row ∷ rows) zero k d = entry_den row k (All-head (λ (row : List Fraction). All HasPositiveDen row) row rows d)
entry_at_den (row ∷ rows) (suc i) k d = entry_at_den rows i k (All-tail (λ (row : List Fraction). All HasPositiveDen row) row rows d)

-- at a place behind the rows both are 0
constant_at : (rows : List (List Fraction)) (vs : List Fraction) (i : ℕ) → AllZip IsConstant rows vs → IsSame (entry_of vs i) (entry_at rows i 0)
constant_at [] [] i h = refl
constant_at [] (v ∷ vs) i h = absurd h
constant_at (row ∷ rows) [] i h = absurd h
constant_at (row ∷ rows) (v ∷ vs) zero h = h.0
constant_at (row ∷ rows) (v ∷ vs) (suc i) h = constant_at rows vs i h.1

-- ---- the answered point
back_again : (x low t p : Fraction) → 0 < x.den → 0 < low.den → 0 < t.den → 0 < p.den → IsSame x (sum_of low t) → IsSame (difference_of p low) t → IsSame x p
back_again x low t p xd ld td pd e f =
    same_given (x ∷ low ∷ t ∷ p ∷ []) x0 x3 ((number (pos 1), x0, x1 ⊕ x2) ∷ (number (pos 1), x2, x3 ⊕ minus x1) ∷ []) (xd, (ld, (td, (pd, tt)))) (e, (sym f, tt)) refl

module _ (rows : List (List Fraction)) (rd : All (λ row. All HasPositiveDen row) rows) where
  point_is : (var : ℕ) (bx : List Range) (xs ps : List Fraction) → point_at rows var bx ≡ Ok xs → length ps ≡ length bx → All HasPositiveDen ps
      → ((j : ℕ) → j < length bx → IsSame (difference_of (entry_of ps j) (whole (get_or bx j no_range).low)) (entry_at rows (2 * (var + j) + 2) 0))
      → All HasPositiveDen xs × AllZip IsSame xs ps
  point_is var [] xs [] h count d at =
      let e : [] ≡ xs = located_value [] xs h in
      subst (λ (xs : List Fraction). All HasPositiveDen xs × AllZip IsSame xs []) e (All-nil HasPositiveDen, tt)
  point_is var [] xs (p ∷ ps) h count d at = absurd (omega (arith, count))
  point_is var (r ∷ bx) xs [] h count d at = absurd (omega (arith, count))
  point_is var (r ∷ bx) xs (p ∷ ps) h count d at =
      let low = whole r.low in
      let t = entry_at rows (2 * var + 2) 0 in
      let td = entry_at_den rows (2 * var + 2) 0 rd in
      let first = then_at-ok (located (place.Point (suc var)) (added low t)) (λ x. then_at (point_at rows (suc var) bx) (λ xs. Ok (x ∷ xs))) xs h in
      let x = first.0 in
      let is : added low t ≡ Ok x = located-ok (place.Point (suc var)) (added low t) x first.1 in
      let xd = (IsFrac-added low t x (whole_den r.low) td is).positive in
      let rest = then_at-ok (point_at rows (suc var) bx) (λ ys. Ok (x ∷ ys)) xs first.2 in
      let ys = rest.0 in
      let here : var + 0 ≡ var = omega arith in
      let apart : IsSame (difference_of p low) t = subst (λ (n : ℕ). IsSame (difference_of p low) (entry_at rows (2 * n + 2) 0)) here (at 0 (omega arith)) in
      let same : IsSame x p = back_again x low t p xd (whole_den r.low) td (All-head HasPositiveDen p ps d) (added-value low t x is) apart in
      let later = point_is (suc var) bx ys ps rest.1 (omega (arith, count)) (All-tail HasPositiveDen p ps d) (λ j inside.
      (let next : var + suc j ≡ suc var + j = omega arith in
      subst (λ (n : ℕ). IsSame (difference_of (entry_of ps j) (whole (get_or bx j no_range).low)) (entry_at rows (2 * n + 2) 0)) next (at (suc j) (omega (arith, inside))))) in
      subst (λ (zs : List Fraction). All HasPositiveDen zs × AllZip IsSame zs (p ∷ ps)) (located_value (x ∷ ys) xs rest.2)
      (All-cons HasPositiveDen x ys xd later.0, (same, later.1))

-- ---- the point in the relaxation
-- the point is in the relaxation, and the objective there is the value, the constant of its row over the scale
pub record IsBestPoint (P : Problem) (cuts : List Row) (bx : List Range) (t : Table) (value : Fraction) (point : List Fraction) : Type 0 where
  pub feasible : IsInRelaxation P cuts bx point
  pub positive : 0 < value.den
  pub exact : IsSame value (quotient_of (entry_at t.rows 0 0) (whole P.scale))
  pub reached : IsSame (objective_of P point) value

module _ (P : Problem) (cuts : List Row) (bx : List Range) (t : Table) (scale : pos 1 ≤ℤ P.scale) (gt : IsGood P cuts bx t) (done : chosen t ≡ Ok choice.Done) where
  pub best_point : (value : Fraction) (xs : List Fraction) → value_at P t.rows ≡ Ok value → point_at t.rows 0 bx ≡ Ok xs → IsBestPoint P cuts bx t value xs
  best_point value xs is_value is_point =
      let at = gt.taken (nothing t.columns) (nothing_long t.columns) (nothing_den t.columns) in
      let p = at.0 in
      let p_is : IsPoint bx p = at.1 in
      let pd = p_is.positive in
      let vs = values_at P cuts bx p in
      let vd = values_den p (quantities P cuts bx) pd in
      let p_constants : AllZip IsConstant t.rows vs = constants t.rows t.columns vs gt.positive at.2 in
      let lows : (j : ℕ) → j < length bx → IsSame (difference_of (entry_of p j) (whole (get_or bx j no_range).low)) (entry_at t.rows (2 * (0 + j) + 2) 0) = λ j inside.
      (let r = get_or bx j no_range in
      let q = quantity_value p (low_quantity j r) in
      let count = p_is.count in
      let index : 2 * j + 2 ≡ 2 * (0 + j) + 2 = omega arith in
      let here : IsSame (entry_of vs (2 * j + 2)) (entry_at t.rows (2 * j + 2) 0) = constant_at t.rows vs (2 * j + 2) p_constants in
      let there : IsSame q (entry_at t.rows (2 * j + 2) 0) =
      subst (λ (v : Fraction). IsSame v (entry_at t.rows (2 * j + 2) 0)) (low_at (quantity_value p) P cuts bx j (whole (pos 0)) inside) here in
      subst (λ (n : ℕ). IsSame (difference_of (entry_of p j) (whole r.low)) (entry_at t.rows n 0)) index
      (same_trans (difference_of (entry_of p j) (whole r.low)) q (entry_at t.rows (2 * j + 2) 0) (quantity_den p (low_quantity j r) pd)
      (same_sym q (difference_of (entry_of p j) (whole r.low)) (low_value j r p (omega (arith, inside, count)) pd)) there)) in
      let is = point_is t.rows gt.positive 0 bx xs p is_point p_is.count pd lows in
      let d = is.0 in
      let count : length xs ≡ length bx = length_all_zip IsSame xs p is.1 ∙ p_is.count in
      let all_constants : AllZip IsConstant t.rows (values_at P cuts bx xs) =
      moved_constants t.rows vs (values_at P cuts bx xs) p_constants (quantities_same xs p (quantities P cuts bx) is.1) vd in
      let others = bound_quantities 0 bx ++ slacks P cuts in
      let parts = first_and_rest t.rows (quantity_value xs (objective_quantity P)) (map (quantity_value xs) others) all_constants in
      let some : All (IsSomeAt xs) others =
      unmapped IsSome (quantity_value xs) others
      (some_values (drop 1 t.rows) (map (quantity_value xs) others) (All-drop (λ (row : List Fraction). All HasPositiveDen row) 1 t.rows gt.positive) parts.1 (done_rows t done)) in
      let some_slacks : All (IsSomeAt xs) (slacks P cuts) = all_right (IsSomeAt xs) (bound_quantities 0 bx) (slacks P cuts) some in
      let later = map slack_quantity P.urows ++ map slack_quantity cuts in
      let some_later : All (IsSomeAt xs) later = all_right (IsSomeAt xs) (map slack_quantity P.rows) later some_slacks in
      let a = entry_at t.rows 0 0 in
      let ad = entry_at_den t.rows 0 0 gt.positive in
      let is_quotient : divided a (whole P.scale) ≡ Ok value = located-ok place.Value (divided a (whole P.scale)) value is_value in
      let exact : IsSame value (quotient_of a (whole P.scale)) = divided-value a (whole P.scale) value is_quotient in
      let s = objective_sum P xs in
      let q = quantity_value xs (objective_quantity P) in
      let sum_is : IsSame s a = same_trans s q a (quantity_den xs (objective_quantity P) d) (same_sym q s (objective_value P xs)) parts.0 in
      record {
        feasible = record {
          inside = box_of_bounds bx xs count d (all_left (IsSomeAt xs) (bound_quantities 0 bx) (slacks P cuts) some);
          rows = rows_hold xs P.rows d (all_left (IsSomeAt xs) (map slack_quantity P.rows) later some_slacks);
          urows = rows_hold xs P.urows d (all_left (IsSomeAt xs) (map slack_quantity P.urows) (map slack_quantity cuts) some_later);
          extra = rows_hold xs cuts d (all_right (IsSomeAt xs) (map slack_quantity P.urows) (map slack_quantity cuts) some_later);
        };
        positive = (IsFrac-divided a (whole P.scale) value ad (unsigned_abs-one_le P.scale scale) is_quotient).positive;
        exact = exact;
        reached = same_trans (quotient_of s (whole P.scale)) (quotient_of a (whole P.scale)) value (quotient_of_den a (whole P.scale) ad (nonzero-one_le P.scale scale))
            (quotient_of-same s (whole P.scale) a (whole P.scale) sum_is (same_refl (whole P.scale))) (same_sym value (quotient_of a (whole P.scale)) exact);
      }
