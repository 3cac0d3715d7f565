-- The rows of the first tableau: how many and how long they are, and that their numbers are small.
use Rattle.std.proofs.Common.{◌≡◌, ◌∙◌, refl, sym, ap, ap₂, ℕ, zero, suc, ◌+◌, ◌*◌, ◌<◌, ◌≤◌, ◌^◌, Bool, true, false, List, [], ◌∷◌, ◌++◌, length, get_or, map, ℤ, unsigned_abs, arith, All}
use Rattle.std.specs.List.{flat_map}
use Rattle.std.proofs.Math.Nat.{suc-mul}
use Rattle.std.proofs.lemmas.List.{length-append, take_at, drop_at}
use Rattle.qm_math.specs.Fraction.{Fraction}
use Rattle.qm_model.specs.declared.range.Range.{Range}
use Rattle.qm_model.specs.declared.row.Row.{Row}
use Rattle.qm_model.specs.declared.row.Term.{Term}
use Rattle.qm_model.specs.declared.variable.Var.{Var}
use Rattle.qm_model.specs.declared.game.Problem.{Problem}
use Rattle.qm_model.specs.Boxes.{IsBox}
use Rattle.qm_model.specs.Linear.{HasVarsBelow, IsOrdered, coefficient}
use Rattle.qm_model.specs.Sizes.{reach_in_box, reach_in_values, reach_in_vars, terms_size}
use Rattle.qm_model.specs.Sound.{IsRowOver, IsSound}
use Rattle.qm_model.proofs.BoxLaws.{IsBox-length}
use Rattle.qm_model.proofs.Sizes.{ReachesNoFarther, one_le_reach, reach_in_box_le, terms_size_le}
use Rattle.qm_model.proofs.VariableSizes.{box_reach_some, coefficient_size}
use Rattle.qm_tableau.specs.Tables.{Numbers, Table, rows_of}
use Rattle.qm_tableau.specs.Quantities.{Quantity, bound_quantities, quantities, slack_quantity}
use Rattle.qm_tableau.specs.FirstTable.{HasRoom, columns_from, corner, first_row, numbers_from, raises, table_at}

-- ---- how many and how long

pub length_raises : (objective : List Term) (var : ℕ) (bx : List Range) → length (raises objective var bx) ≡ length bx
length_raises objective var [] = refl
length_raises objective var (r ∷ bx) = ap suc (length_raises objective (suc var) bx)

pub length_corner : (highs : List Bool) (bx : List Range) → length highs ≡ length bx → length (corner highs bx) ≡ length bx
length_corner [] [] e = refl
length_corner [] (r ∷ bx) e = absurd (omega (arith, e))
length_corner (h ∷ highs) [] e = absurd (omega (arith, e))
length_corner (h ∷ highs) (r ∷ bx) e = ap suc (length_corner highs bx (omega (arith, e)))

pub length_columns : (var : ℕ) (highs : List Bool) → length (columns_from var highs) ≡ length highs
length_columns var [] = refl
length_columns var (h ∷ highs) = ap suc (length_columns (suc var) highs)

pub length_numbers : (f : ℕ → ℤ) (var : ℕ) (highs : List Bool) → length (numbers_from f var highs) ≡ length highs
length_numbers f var [] = refl
length_numbers f var (h ∷ highs) = ap suc (length_numbers f (suc var) highs)

count_bounds : (var : ℕ) (bx : List Range) → length (bound_quantities var bx) ≡ 2 * length bx
count_bounds var [] = refl
count_bounds var (r ∷ bx) = let e = count_bounds (suc var) bx in omega (arith, e)

count_slacks : (rows : List Row) → length (map slack_quantity rows) ≡ length rows
count_slacks [] = refl
count_slacks (row ∷ rows) = ap suc (count_slacks rows)

pub count_quantities : (P : Problem) (cuts : List Row) (bx : List Range)
    → length (quantities P cuts bx) ≡ 1 + 2 * length bx + length P.rows + length P.urows + length cuts
count_quantities P cuts bx =
    let b = count_bounds 0 bx in
    let all = length-append (bound_quantities 0 bx) (map slack_quantity P.rows ++ (map slack_quantity P.urows ++ map slack_quantity cuts)) in
    let slacks = length-append (map slack_quantity P.rows) (map slack_quantity P.urows ++ map slack_quantity cuts) in
    let others = length-append (map slack_quantity P.urows) (map slack_quantity cuts) in
    let r = count_slacks P.rows in
    let u = count_slacks P.urows in
    let c = count_slacks cuts in
    omega (arith, b, all, slacks, others, r, u, c)

-- lists of one length, one behind the other, are cut into these lists
pub rows-flat_map : {X A : Type 0} (f : X → List A) (w : ℕ) (xs : List X) → ((x : X) → length (f x) ≡ w) → rows_of w (length xs) (flat_map f xs) ≡ map f xs
rows-flat_map f w [] same = refl
rows-flat_map f w (x ∷ xs) same =
    ap₂ (λ row rest. row ∷ rows_of w (length xs) rest) (take_at (f x) (flat_map f xs) w (same x)) (drop_at (f x) (flat_map f xs) w (same x))
    ∙ ap (λ rows. f x ∷ rows) (rows-flat_map f w xs same)

pub length-flat_map : {X A : Type 0} (f : X → List A) (w : ℕ) (xs : List X) → ((x : X) → length (f x) ≡ w) → length (flat_map f xs) ≡ length xs * w
length-flat_map f w [] same = let z : 0 * w ≡ 0 = omega arith in sym z
length-flat_map f w (x ∷ xs) same =
    let rest = length-flat_map f w xs same in
    let here = same x in
    let both = length-append (f x) (flat_map f xs) in
    let more = suc-mul (length xs) w in
    omega (arith, rest, here, both, more)

-- ---- how large

corner_reach : (highs : List Bool) (bx : List Range) → ReachesNoFarther (reach_in_values (corner highs bx)) (reach_in_box bx)
corner_reach [] bx var = box_reach_some bx var
corner_reach (h ∷ highs) [] var = omega arith
corner_reach (true ∷ highs) (r ∷ bx) zero = omega arith
corner_reach (false ∷ highs) (r ∷ bx) zero = omega arith
corner_reach (h ∷ highs) (r ∷ bx) (suc var) = corner_reach highs bx var

module _ (xs : List Var) (bx : List Range) (highs : List Bool) (box : IsBox xs bx) (count : length highs ≡ length bx) where
  room_for : (constant : ℤ) (ts : List Term) → IsOrdered ts → HasVarsBelow (length xs) ts → unsigned_abs constant + terms_size (reach_in_vars xs) ts ≤ 2 ^ 126
      → HasRoom (corner highs bx) constant ts
  room_for constant ts order below fits =
      let near : ReachesNoFarther (reach_in_values (corner highs bx)) (reach_in_vars xs) = λ var. (let a = corner_reach highs bx var in let b = reach_in_box_le xs bx box var in omega (arith, a, b)) in
      let size = terms_size_le (reach_in_values (corner highs bx)) (reach_in_vars xs) ts near in
      let many : length (corner highs bx) ≡ length xs = length_corner highs bx count ∙ IsBox-length xs bx box in
      record {
        ordered = order;
        vars = rw many below;
        size = omega (arith, fits, size);
        coefficients = λ var. (let c = coefficient_size (reach_in_vars xs) (one_le_reach xs) ts var in omega (arith, fits, c));
      }

  pub room_for_rows : (rows : List Row) → All (IsRowOver xs) rows → All (λ row. HasRoom (corner highs bx) row.right row.terms) rows
  room_for_rows rows over k d h = let o = over k d h in room_for (get_or rows k d).right (get_or rows k d).terms o.ordered o.vars o.size

pub room_for_objective : (P : Problem) (bx : List Range) (highs : List Bool) → IsSound P → IsBox P.vars bx → length highs ≡ length bx → HasRoom (corner highs bx) P.constant P.terms
room_for_objective P bx highs sound box count = room_for P.vars bx highs box count P.constant P.terms sound.objective_ordered sound.objective_vars sound.objective_size

-- the coefficients of the objective are small
pub objective_narrow : (P : Problem) → IsSound P → (var : ℕ) → unsigned_abs (coefficient P.terms var) < 2 ^ 127
objective_narrow P sound var = let c = coefficient_size (reach_in_vars P.vars) (one_le_reach P.vars) P.terms var in omega (arith, sound.objective_size, c)

-- ---- what the first tableau is made of

pub few_ranges : (P Q : Problem) (bx ranges : List Range) → IsSound P → P ≡ Q → IsBox Q.vars bx → ranges ≡ bx → length ranges < 2 ^ 29
few_ranges P Q bx ranges sound is box same =
    let n = IsBox-length Q.vars bx box in
    let m : length P.vars ≡ length Q.vars = ap (λ (p : Problem). length p.vars) is in
    let l : length ranges ≡ length bx = ap (λ (rs : List Range). length rs) same in
    omega (arith, sound.few_vars, n, m, l)

module _ (P : Problem) (bx : List Range) (highs : List Bool) (sound : IsSound P) (box : IsBox P.vars bx) (count : length highs ≡ length bx) where
  pub few_values : (length (corner highs bx) < 2 ^ 29) × (length (corner highs bx) ≡ length bx)
  few_values = (let e = length_corner highs bx count in omega (arith, e, few_ranges P P bx bx sound refl box refl), length_corner highs bx count)

  pub room_of_objective : HasRoom (corner highs bx) P.constant P.terms
  room_of_objective = room_for_objective P bx highs sound box count

  pub room_of_rows : All (λ row. HasRoom (corner highs bx) row.right row.terms) P.rows
  room_of_rows = room_for_rows P.vars bx highs box count P.rows sound.rows

  pub room_of_urows : All (λ row. HasRoom (corner highs bx) row.right row.terms) P.urows
  room_of_urows = room_for_rows P.vars bx highs box count P.urows sound.urows

width_of : (highs : List Bool) (values : List ℤ) (q : Quantity) → length (first_row highs values q) ≡ suc (length highs)
width_of highs values q = ap suc (length_numbers _ 0 highs)

-- so many entries
pub count_entries : (highs : List Bool) (values : List ℤ) (qs : List Quantity) (width height : ℕ) (entries : List Fraction)
    → entries ≡ flat_map (first_row highs values) qs → width ≡ suc (length highs) → height ≡ length qs → length entries ≡ height * width
count_entries highs values qs width height entries is width_is height_is =
    ap (λ (xs : List Fraction). length xs) is
    ∙ length-flat_map (first_row highs values) (suc (length highs)) qs (width_of highs values)
    ∙ ap₂ (λ (m n : ℕ). m * n) (sym height_is) (sym width_is)

-- they are the rows
pub rows_of_entries : (highs : List Bool) (values : List ℤ) (qs : List Quantity) (width height : ℕ) (entries : List Fraction) (r : Numbers)
    → r ≡ (record { width = width; rows = rows_of width height entries }) → entries ≡ flat_map (first_row highs values) qs → width ≡ suc (length highs) → height ≡ length qs
    → r ≡ (record { width = suc (length highs); rows = map (first_row highs values) qs })
rows_of_entries highs values qs width height entries r r_is is width_is height_is =
    let pair : ℕ → List (List Fraction) → Numbers = λ w rows. record { width = w; rows = rows } in
    let rows : rows_of width height entries ≡ map (first_row highs values) qs =
    ap₂ (λ (w n : ℕ). rows_of w n entries) width_is height_is
    ∙ ap (rows_of (suc (length highs)) (length qs)) is
    ∙ rows-flat_map (first_row highs values) (suc (length highs)) qs (width_of highs values) in
    r_is ∙ ap₂ pair width_is rows

-- and the table's, with the corner's values
pub table_is : (P : Problem) (cuts : List Row) (bx : List Range) (highs : List Bool) (values : List ℤ) (columns : List ℕ) (r : Numbers) (t : Table)
    → t ≡ (record { columns = columns; rows = r.rows }) → r ≡ (record { width = suc (length highs); rows = map (first_row highs values) (quantities P cuts bx) })
    → values ≡ corner highs bx → columns ≡ columns_from 0 highs → t ≡ table_at P cuts bx highs
table_is P cuts bx highs values columns r t t_is is values_are columns_are =
    let pair : List ℕ → List (List Fraction) → Table = λ cs rows. record { columns = cs; rows = rows } in
    t_is ∙ ap₂ pair columns_are (ap (λ (n : Numbers). n.rows) is ∙ ap (λ (vs : List ℤ). map (first_row highs vs) (quantities P cuts bx)) values_are)
