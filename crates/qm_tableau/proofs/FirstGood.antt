-- The first tableau is good.
use Rattle.std.proofs.Common.{◌≡◌, ◌∙◌, refl, sym, ap, subst, ℕ, zero, suc, ◌+◌, ◌*◌, ◌<◌, ◌≢◌, Bool, true, false, List, [], ◌∷◌, ◌++◌, length, get_or, map, arith, All, ℤ, pos, neg_ℤ, if◌then◌else◌}
use Rattle.std.specs.List.{AllZip}
use Rattle.std.proofs.lemmas.List.{length-map}
use Rattle.std.proofs.lemmas.List.Elements.{All-cons, All-head, All-map, All-nil, All-tail}
use Rattle.qm_math.specs.Fraction.{Fraction, HasPositiveDen, IsSame, whole}
use Rattle.qm_math.specs.Arithmetic.{difference_of, sum_of}
use Rattle.qm_math.proofs.Polynomials.{◌⊕◌, minus}
use Rattle.qm_math.proofs.Ring.{x0, x1}
use Rattle.qm_math.proofs.FractionRing.{same_by_ring}
use Rattle.qm_math.proofs.FractionLaws.{difference_of_den, same_refl, same_trans, sum_of-negated, sum_of_den, whole_den}
use Rattle.qm_math.proofs.SameLists.{all_same_sym}
use Rattle.qm_model.specs.declared.range.Range.{Range}
use Rattle.qm_model.specs.declared.row.Row.{Row}
use Rattle.qm_model.specs.declared.game.Problem.{Problem}
use Rattle.qm_model.proofs.BoxForms.{no_range}
use Rattle.qm_tableau.specs.Tables.{entry_of, row_at}
use Rattle.qm_tableau.specs.Quantities.{Quantity, bound_quantities, coefficient_in, objective_quantity, quantities, slack_quantity, turned, whole_value}
use Rattle.qm_tableau.specs.FirstTable.{columns_from, corner, first_row, first_table, numbers_from, raises}
use Rattle.qm_tableau.specs.Columns.{affine_value}
use Rattle.qm_tableau.specs.Good.{ComeTo, IsGood, IsPoint, IsUnitRow, column_values, quantity_value, values_at}
use Rattle.qm_tableau.proofs.Constants.{affine_den, quantity_den}
use Rattle.qm_tableau.proofs.Falling.{first_falls, numbers_at}
use Rattle.qm_tableau.proofs.Moving.{affine_same, bound_quantity, bound_value, numbers_den, offset, offset_den, offsets, offsets_den, others, own, row_moved, whole_value_is, wholes, wholes_den}
use Rattle.qm_tableau.proofs.Rooms.{count_quantities, length_columns, length_corner, length_numbers, length_raises}

-- ---- where the columns' quantities stand
place : Bool → ℕ → ℕ
place true j = 2 * j + 1
place false j = 2 * j + 2

bounds_at : {X : Type 0} (V : Quantity → X) (b : Bool) (var j : ℕ) (bx : List Range) (more : List Quantity) (d : X) (r : Range) → j < length bx
    → get_or (map V (bound_quantities var bx ++ more)) (let i : ℕ = if b then 2 * j else 2 * j + 1 in i) d ≡ V (bound_quantity b (var + j) (get_or bx j r))
unfolding bound_quantity
bounds_at V b var j [] more d r h = absurd (omega (arith, h))
bounds_at V true var zero (s ∷ bx) more d r h = let at : var ≡ var + 0 = omega arith in ap (λ (n : ℕ). V (bound_quantity true n s)) at
bounds_at V false var zero (s ∷ bx) more d r h = let at : var ≡ var + 0 = omega arith in ap (λ (n : ℕ). V (bound_quantity false n s)) at
bounds_at V true var (suc j) (s ∷ bx) more d r h =
    let rest = map V (bound_quantities (suc var) bx ++ more) in
    let index : 2 * suc j ≡ suc (suc (2 * j)) = omega arith in
    let at : suc var + j ≡ var + suc j = omega arith in
    ap (λ (n : ℕ). get_or (V (bound_quantity true var s) ∷ V (bound_quantity false var s) ∷ rest) n d) index
    ∙ bounds_at V true (suc var) j bx more d r (omega (arith, h)) ∙ ap (λ (n : ℕ). V (bound_quantity true n (get_or bx j r))) at
bounds_at V false var (suc j) (s ∷ bx) more d r h =
    let rest = map V (bound_quantities (suc var) bx ++ more) in
    let index : 2 * suc j + 1 ≡ suc (suc (2 * j + 1)) = omega arith in
    let at : suc var + j ≡ var + suc j = omega arith in
    ap (λ (n : ℕ). get_or (V (bound_quantity true var s) ∷ V (bound_quantity false var s) ∷ rest) n d) index
    ∙ bounds_at V false (suc var) j bx more d r (omega (arith, h)) ∙ ap (λ (n : ℕ). V (bound_quantity false n (get_or bx j r))) at

-- what V gives for a bound's quantity, among what it gives for all
quantity_at : {X : Type 0} (V : Quantity → X) (P : Problem) (cuts : List Row) (bx : List Range) (b : Bool) (j : ℕ) (d : X) (r : Range) → j < length bx
    → get_or (map V (quantities P cuts bx)) (place b j) d ≡ V (bound_quantity b j (get_or bx j r))
unfolding place
quantity_at V P cuts bx true j d r h =
    let more = map slack_quantity P.rows ++ (map slack_quantity P.urows ++ map slack_quantity cuts) in
    let index : 2 * j + 1 ≡ suc (2 * j) = omega arith in
    let at : 0 + j ≡ j = omega arith in
    ap (λ (n : ℕ). get_or (V (objective_quantity P) ∷ map V (bound_quantities 0 bx ++ more)) n d) index
    ∙ bounds_at V true 0 j bx more d r h ∙ ap (λ (n : ℕ). V (bound_quantity true n (get_or bx j r))) at
quantity_at V P cuts bx false j d r h =
    let more = map slack_quantity P.rows ++ (map slack_quantity P.urows ++ map slack_quantity cuts) in
    let index : 2 * j + 2 ≡ suc (2 * j + 1) = omega arith in
    let at : 0 + j ≡ j = omega arith in
    ap (λ (n : ℕ). get_or (V (objective_quantity P) ∷ map V (bound_quantities 0 bx ++ more)) n d) index
    ∙ bounds_at V false 0 j bx more d r h ∙ ap (λ (n : ℕ). V (bound_quantity false n (get_or bx j r))) at

columns_at : (var : ℕ) (highs : List Bool) (j : ℕ) (d : ℕ) → j < length highs → get_or (columns_from var highs) j d ≡ place (get_or highs j false) (var + j)
unfolding place
columns_at var [] j d h = absurd (omega (arith, h))
columns_at var (true ∷ highs) zero d h = omega arith
columns_at var (false ∷ highs) zero d h = omega arith
columns_at var (high ∷ highs) (suc j) d h =
    let at : suc var + j ≡ var + suc j = omega arith in
    columns_at (suc var) highs j d (omega (arith, h)) ∙ ap (λ (n : ℕ). place (get_or highs j false) n) at

place_below : (b : Bool) (j n m : ℕ) → j < n → place b j < 1 + 2 * n + m
unfolding place
place_below true j n m h = omega (arith, h)
place_below false j n m h = omega (arith, h)

-- ---- the values of the columns' quantities are the distances from the corner
distances : (var : ℕ) (highs : List Bool) (bx : List Range) (xs vs : List Fraction) → length highs ≡ length bx → length xs ≡ length bx
    → ((j : ℕ) (b : Bool) → j < length bx → IsSame (entry_of vs (place b (var + j))) (offset b (get_or bx j no_range) (entry_of xs j)))
    → AllZip IsSame (column_values (columns_from var highs) vs) (offsets highs bx xs)
unfolding offsets place
distances var [] bx xs vs hs count h = tt
distances var (high ∷ highs) [] xs vs hs count h = absurd (omega (arith, hs))
distances var (high ∷ highs) (r ∷ bx) [] vs hs count h = absurd (omega (arith, count))
distances var (high ∷ highs) (r ∷ bx) (x ∷ xs) vs hs count h =
    let at : var + 0 ≡ var = omega arith in
    let here : IsSame (entry_of vs (place high var)) (offset high r x) =
    subst (λ (n : ℕ). IsSame (entry_of vs (place high n)) (offset high r x)) at (h 0 high (omega arith)) in
    let column : IsSame (entry_of vs (let row : ℕ = if high then 2 * var + 1 else 2 * var + 2 in row)) (offset high r x) = by_end high here in (
      column,
      distances (suc var) highs bx xs vs (omega (arith, hs)) (omega (arith, count)) (λ j b g.
          (let next : var + suc j ≡ suc var + j = omega arith in
          subst (λ (n : ℕ). IsSame (entry_of vs (place b n)) (offset b (get_or bx j no_range) (entry_of xs j))) next (h (suc j) b (omega (arith, g))))),
    )
  where
    by_end : (b : Bool) → IsSame (entry_of vs (place b var)) (offset b r x) → IsSame (entry_of vs (let row : ℕ = if b then 2 * var + 1 else 2 * var + 2 in row)) (offset b r x)
    by_end true e = e
    by_end false e = e

-- ---- the point where the columns' quantities have given values
value_back : Bool → Range → Fraction → Fraction
value_back true r y = difference_of (whole r.high) y
value_back false r y = sum_of y (whole r.low)

value_back_den : (high : Bool) (r : Range) (y : Fraction) → 0 < y.den → 0 < (value_back high r y).den
unfolding value_back
value_back_den true r y d = difference_of_den (whole r.high) y (whole_den r.high) d
value_back_den false r y d = sum_of_den y (whole r.low) d (whole_den r.low)

offset_back : (high : Bool) (r : Range) (y : Fraction) → IsSame (offset high r (value_back high r y)) y
unfolding value_back offset
offset_back true r y = same_by_ring (whole r.high ∷ y ∷ []) (x0 ⊕ minus (x0 ⊕ minus x1)) x1 refl
offset_back false r y = same_by_ring (whole r.low ∷ y ∷ []) (x1 ⊕ x0 ⊕ minus x0) x1 refl

point_of : List Bool → List Range → List Fraction → List Fraction
point_of [] rs ys = []
point_of (high ∷ highs) [] ys = []
point_of (high ∷ highs) (r ∷ rs) [] = []
point_of (high ∷ highs) (r ∷ rs) (y ∷ ys) = value_back high r y ∷ point_of highs rs ys

point_long : (highs : List Bool) (bx : List Range) (ys : List Fraction) → length highs ≡ length bx → length ys ≡ length bx → length (point_of highs bx ys) ≡ length bx
unfolding point_of
point_long [] [] ys hs count = refl
point_long [] (r ∷ bx) ys hs count = absurd (omega (arith, hs))
point_long (high ∷ highs) [] ys hs count = absurd (omega (arith, hs))
point_long (high ∷ highs) (r ∷ bx) [] hs count = absurd (omega (arith, count))
point_long (high ∷ highs) (r ∷ bx) (y ∷ ys) hs count = ap suc (point_long highs bx ys (omega (arith, hs)) (omega (arith, count)))

point_den : (highs : List Bool) (bx : List Range) (ys : List Fraction) → All HasPositiveDen ys → All HasPositiveDen (point_of highs bx ys)
unfolding point_of
point_den [] rs ys d = All-nil HasPositiveDen
point_den (high ∷ highs) [] ys d = All-nil HasPositiveDen
point_den (high ∷ highs) (r ∷ rs) [] d = All-nil HasPositiveDen
point_den (high ∷ highs) (r ∷ rs) (y ∷ ys) d =
    All-cons HasPositiveDen (value_back high r y) (point_of highs rs ys) (value_back_den high r y (All-head HasPositiveDen y ys d))
    (point_den highs rs ys (All-tail HasPositiveDen y ys d))

back : (highs : List Bool) (bx : List Range) (ys : List Fraction) → length highs ≡ length bx → length ys ≡ length bx → AllZip IsSame (offsets highs bx (point_of highs bx ys)) ys
unfolding point_of offsets
back [] bx [] hs count = tt
back [] bx (y ∷ ys) hs count = absurd (omega (arith, hs, count))
back (high ∷ highs) [] ys hs count = absurd (omega (arith, hs))
back (high ∷ highs) (r ∷ bx) [] hs count = absurd (omega (arith, count))
back (high ∷ highs) (r ∷ bx) (y ∷ ys) hs count = (offset_back high r y, back highs bx ys (omega (arith, hs)) (omega (arith, count)))

-- ---- the rows come to the quantities' values
come_to : (highs : List Bool) (ns : List ℤ) (qs : List Quantity) (inputs xs : List Fraction)
    → ((q : Quantity) → IsSame (affine_value (first_row highs ns q) inputs) (quantity_value xs q)) → ComeTo (map (first_row highs ns) qs) inputs (map (quantity_value xs) qs)
come_to highs ns [] inputs xs h = tt
come_to highs ns (q ∷ qs) inputs xs h = (h q, come_to highs ns qs inputs xs h)

row_den : (highs : List Bool) (ns : List ℤ) (q : Quantity) → All HasPositiveDen (first_row highs ns q)
row_den highs ns q =
    All-cons HasPositiveDen (whole (whole_value q ns)) (numbers_from (coefficient_in q) 0 highs) (whole_den (whole_value q ns)) (numbers_den (coefficient_in q) 0 highs)

module _ (P : Problem) (cuts : List Row) (bx : List Range) where
  highs : List Bool
  highs = raises P.terms 0 bx

  many : length highs ≡ length bx
  unfolding highs
  many = length_raises P.terms 0 bx

  -- where the inputs are the distances from the corner
  all_moved : (inputs xs : List Fraction) → length xs ≡ length bx → All HasPositiveDen xs → AllZip IsSame inputs (offsets highs bx xs)
      → ComeTo (first_table P cuts bx).rows inputs (values_at P cuts bx xs)
  unfolding highs
  all_moved inputs xs count d same =
      come_to highs (corner highs bx) (quantities P cuts bx) inputs xs (λ q.
      (let row = first_row highs (corner highs bx) q in
      same_trans (affine_value row inputs) (affine_value row (offsets highs bx xs)) (quantity_value xs q)
      (affine_den row (offsets highs bx xs) (row_den highs (corner highs bx) q) (offsets_den highs bx xs d)) (affine_same row inputs (offsets highs bx xs) same)
      (row_moved highs bx xs q many count d)))

  functions : (xs : List Fraction) → IsPoint bx xs → ComeTo (first_table P cuts bx).rows (column_values (first_table P cuts bx).columns (values_at P cuts bx xs)) (values_at P cuts bx xs)
  unfolding highs
  functions xs is =
      let vs = values_at P cuts bx xs in
      all_moved (column_values (columns_from 0 highs) vs) xs is.count is.positive
      (distances 0 highs bx xs vs many is.count (λ j b g.
      (let at : j ≡ 0 + j = omega arith in
      let value = bound_value b j (get_or bx j no_range) xs (let e = is.count in omega (arith, e, g)) is.positive in
      subst (λ (n : ℕ). IsSame (entry_of vs (place b n)) (offset b (get_or bx j no_range) (entry_of xs j))) at
      (subst (λ (y : Fraction). IsSame y (offset b (get_or bx j no_range) (entry_of xs j))) (sym (quantity_at (quantity_value xs) P cuts bx b j (whole (pos 0)) no_range g)) value))))

  taken : (ys : List Fraction) → length ys ≡ length bx → All HasPositiveDen ys → (xs : List Fraction) × IsPoint bx xs × ComeTo (first_table P cuts bx).rows ys (values_at P cuts bx xs)
  unfolding highs
  taken ys count d =
      let xs = point_of highs bx ys in
      let long = point_long highs bx ys many count in
      let xd = point_den highs bx ys d in (
        xs,
        record { count = long; positive = xd },
        all_moved ys xs long xd (all_same_sym (offsets highs bx xs) ys (back highs bx ys many count)),
      )

-- ---- unit rows
corner_at : (highs : List Bool) (bx : List Range) (j : ℕ) (r : Range) → length highs ≡ length bx → j < length bx
    → entry_of (wholes (corner highs bx)) j ≡ whole (let end : ℤ = if get_or highs j false then (get_or bx j r).high else (get_or bx j r).low in end)
unfolding wholes
corner_at [] [] j r hs h = absurd (omega (arith, h))
corner_at [] (s ∷ bx) j r hs h = absurd (omega (arith, hs))
corner_at (high ∷ highs) [] j r hs h = absurd (omega (arith, h))
corner_at (high ∷ highs) (s ∷ bx) zero r hs h = refl
corner_at (high ∷ highs) (s ∷ bx) (suc j) r hs h = corner_at highs bx j r (omega (arith, hs)) (omega (arith, h))

no_distance : (b : Bool) (r : Range) → IsSame (offset b r (whole (let end : ℤ = if b then r.high else r.low in end))) (whole (pos 0))
unfolding offset
no_distance true r = sum_of-negated (whole r.high)
no_distance false r = sum_of-negated (whole r.low)

twice : (b : Bool) (j : ℕ) (r : Range) → turned b (coefficient_in (bound_quantity b j r) j) ≡ pos 1
unfolding bound_quantity
twice true j r = ap (λ (z : ℤ). neg_ℤ (neg_ℤ z)) (own j)
twice false j r = own j

apart : (c b : Bool) (j v : ℕ) (r : Range) → v ≢ j → turned c (coefficient_in (bound_quantity b j r) v) ≡ pos 0
unfolding bound_quantity
apart true true j v r h = ap (λ (z : ℤ). neg_ℤ (neg_ℤ z)) (others j v h)
apart true false j v r h = ap (λ (z : ℤ). neg_ℤ z) (others j v h)
apart false true j v r h = ap (λ (z : ℤ). neg_ℤ z) (others j v h)
apart false false j v r h = others j v h

unit_row : (highs : List Bool) (bx : List Range) (k : ℕ) (r : Range) → length highs ≡ length bx → k < length bx
    → IsUnitRow (suc k) (first_row highs (corner highs bx) (bound_quantity (get_or highs k false) k (get_or bx k r)))
unfolding wholes
unit_row highs bx k r hs h =
    let b = get_or highs k false in
    let s = get_or bx k r in
    let q = bound_quantity b k s in
    let ns = corner highs bx in
    let end : ℤ = if b then s.high else s.low in
    let inside : k < length highs = omega (arith, hs, h) in
    let long : k < length (wholes ns) = (let e = long_corner in omega (arith, e, h)) in
    let at : 0 + k ≡ k = omega arith in
    let number_at : (j : ℕ) → j < length highs → entry_of (numbers_from (coefficient_in q) 0 highs) j ≡ whole (turned (get_or highs j false) (coefficient_in q j)) = λ j g.
    (let here : 0 + j ≡ j = omega arith in
    numbers_at (coefficient_in q) 0 highs j (whole (pos 0)) g ∙ ap (λ (n : ℕ). whole (turned (get_or highs j false) (coefficient_in q n))) here) in
    let one : IsSame (entry_of (numbers_from (coefficient_in q) 0 highs) k) (whole (pos 1)) =
    subst (λ (x : Fraction). IsSame x (whole (pos 1))) (sym (number_at k inside ∙ ap (λ (z : ℤ). whole z) (twice b k s))) (same_refl (whole (pos 1))) in
    let distance : IsSame (quantity_value (wholes ns) q) (whole (pos 0)) =
    same_trans (quantity_value (wholes ns) q) (offset b s (entry_of (wholes ns) k)) (whole (pos 0))
    (subst (λ (x : Fraction). 0 < (offset b s x).den) (sym (corner_at highs bx k r hs h)) (offset_den b s (whole end) (whole_den end)))
    (bound_value b k s (wholes ns) long (wholes_den ns))
    (subst (λ (x : Fraction). IsSame (offset b s x) (whole (pos 0))) (sym (corner_at highs bx k r hs h)) (no_distance b s)) in
    let constant : IsSame (whole (whole_value q ns)) (whole (pos 0)) =
    same_trans (whole (whole_value q ns)) (quantity_value (wholes ns) q) (whole (pos 0)) (quantity_den (wholes ns) q (wholes_den ns)) (whole_value_is q ns) distance in
    record { one = one; zeros = zeros_of b s number_at constant }
  where
    long_corner : length (wholes (corner highs bx)) ≡ length bx
    long_corner = length-map (corner highs bx) (λ (n : ℤ). whole n) ∙ length_corner highs bx hs

    zeros_of : (b : Bool) (s : Range)
        → ((j : ℕ) → j < length highs → entry_of (numbers_from (coefficient_in (bound_quantity b k s)) 0 highs) j ≡ whole (turned (get_or highs j false) (coefficient_in (bound_quantity b k s) j)))
        → IsSame (whole (whole_value (bound_quantity b k s) (corner highs bx))) (whole (pos 0))
        → (j : ℕ) → j < length (first_row highs (corner highs bx) (bound_quantity b k s)) → j ≢ suc k
        → IsSame (entry_of (first_row highs (corner highs bx) (bound_quantity b k s)) j) (whole (pos 0))
    zeros_of b s number_at constant zero g other = constant
    zeros_of b s number_at constant (suc i) g other =
        let long = length_numbers (coefficient_in (bound_quantity b k s)) 0 highs in
        let within : i < length highs = omega (arith, g, long) in
        let none = apart (get_or highs i false) b k i s (λ e. other (ap suc e)) in
        subst (λ (x : Fraction). IsSame x (whole (pos 0))) (sym (number_at i within ∙ ap (λ (z : ℤ). whole z) none)) (same_refl (whole (pos 0)))

pub first_good : (P : Problem) (cuts : List Row) (bx : List Range) → IsGood P cuts bx (first_table P cuts bx)
first_good P cuts bx =
    let hs : length (raises P.terms 0 bx) ≡ length bx = length_raises P.terms 0 bx in
    let cols = columns_from 0 (raises P.terms 0 bx) in
    let ns = corner (raises P.terms 0 bx) bx in
    let cols_long : length cols ≡ length (raises P.terms 0 bx) = length_columns 0 (raises P.terms 0 bx) in
    let many : length cols ≡ length bx = cols_long ∙ hs in
    let high : length (map (first_row (raises P.terms 0 bx) ns) (quantities P cuts bx)) ≡ length (quantities P cuts bx) = length-map (quantities P cuts bx) (first_row (raises P.terms 0 bx) ns) in
    let at : (k : ℕ) (d : ℕ) → k < length cols → get_or cols k d ≡ place (get_or (raises P.terms 0 bx) k false) k = λ k d g.
    (let here : 0 + k ≡ k = omega arith in
    columns_at 0 (raises P.terms 0 bx) k d (omega (arith, g, cols_long)) ∙ ap (λ (n : ℕ). place (get_or (raises P.terms 0 bx) k false) n) here) in
    record {
      count = many;
      height = high;
      width = All-map (λ (row : List Fraction). length row ≡ suc (length cols)) (first_row (raises P.terms 0 bx) ns) (quantities P cuts bx)
          (λ k d g. (let e = length_numbers (coefficient_in (get_or (quantities P cuts bx) k d)) 0 (raises P.terms 0 bx) in ap suc (e ∙ sym cols_long)));
      positive = All-map (λ (row : List Fraction). All HasPositiveDen row) (first_row (raises P.terms 0 bx) ns) (quantities P cuts bx)
          (λ k d g. row_den (raises P.terms 0 bx) ns (get_or (quantities P cuts bx) k d));
      named = λ k d g.
          (let below = place_below (get_or (raises P.terms 0 bx) k false) k (length bx) (length P.rows + length P.urows + length cuts) (omega (arith, g, many)) in
          let all = count_quantities P cuts bx in
          let is = at k d g in
          omega (arith, below, all, is, high));
      functions = functions P cuts bx;
      taken = λ ys count d. taken P cuts bx ys (count ∙ many) d;
      units = λ k g.
          (let inside : k < length bx = omega (arith, g, many) in
          let row_is = ap (λ (n : ℕ). row_at (map (first_row (raises P.terms 0 bx) ns) (quantities P cuts bx)) n) (at k 0 g)
          ∙ quantity_at (first_row (raises P.terms 0 bx) ns) P cuts bx (get_or (raises P.terms 0 bx) k false) k [] no_range inside in
          subst (IsUnitRow (suc k)) (sym row_is) (unit_row (raises P.terms 0 bx) bx k no_range hs inside));
      negative = λ k g. first_falls P cuts bx k (omega (arith, g, many));
    }
