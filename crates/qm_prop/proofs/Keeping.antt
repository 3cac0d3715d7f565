-- A range that a row narrows loses no point at which the row holds.
use Rattle.std.proofs.Common.{◌≡◌, ◌∙◌, ap, refl, ℕ, zero, suc, ◌+◌, ◌<◌, List, [], ◌∷◌, set, arith, ℤ, pos, ◌+ℤ◌, ◌-ℤ◌, ◌*ℤ◌, ◌≤ℤ◌}
use Rattle.std.specs.Prelude.{negsuc, Some, slice_get, false}
use Rattle.std.specs.Option.{option_map_or}
use Rattle.std.proofs.lemmas.Int.{ints}
use Rattle.std.proofs.lemmas.Option.{get_or_from_slice_get}
use Rattle.qm_math.specs.Ranges.{count_of, least_product}
use Rattle.qm_math.proofs.Whole.{add-*ℤ}
use Rattle.qm_model.specs.declared.range.Range.{Range}
use Rattle.qm_model.specs.declared.row.Row.{Row}
use Rattle.qm_model.specs.declared.row.Term.{Term}
use Rattle.qm_model.specs.declared.variable.Var.{Var}
use Rattle.qm_model.specs.Boxes.{least_value}
use Rattle.qm_model.specs.Linear.{form}
use Rattle.qm_model.specs.Points.{HoldsOver}
use Rattle.qm_model.specs.Ranges.{range_at}
use Rattle.qm_prop.specs.Courses.{is_whole_at}
use Rattle.qm_prop.specs.Narrower.{narrower, slack_of}
use Rattle.qm_prop.specs.Points.{AreIn, IsValueIn}
use Rattle.qm_prop.proofs.LeastValues.{IsTermOf, apart-le}
use Rattle.qm_prop.proofs.Narrowing.{narrower-is, value-kept}

AreIn-set : (den : ℕ) (xs : List Var) (bx : List Range) (values : List ℤ) (var : ℕ) (after : Range) → AreIn den xs bx values
    → ((x : Var) (r : Range) (v : ℤ) → slice_get xs var ≡ Some x → slice_get bx var ≡ Some r → slice_get values var ≡ Some v → IsValueIn den x r v → IsValueIn den x after v)
    → AreIn den xs (set bx var after) values
AreIn-set den [] [] [] var after within keep = tt
AreIn-set den (x ∷ xs) (r ∷ bx) (v ∷ values) zero after within keep = (keep x r v refl refl refl within.0, within.1)
AreIn-set den (x ∷ xs) (r ∷ bx) (v ∷ values) (suc var) after within keep = (within.0, AreIn-set den xs bx values var after within.1 keep)
AreIn-set den [] [] (v ∷ values) var after within keep = absurd within
AreIn-set den [] (r ∷ bx) values var after within keep = absurd within
AreIn-set den (x ∷ xs) [] values var after within keep = absurd within
AreIn-set den (x ∷ xs) (r ∷ bx) [] var after within keep = absurd within

pub count_is : (z : ℤ) → pos 0 ≤ℤ z → z ≡ pos (count_of z)
count_is (pos n) h = refl
count_is (negsuc n) h = absurd (omega (arith, ints, h))

-- what a row that holds leaves to one of its terms
allowed : (right lowest value own multiple : ℤ) (slack den : ℕ) → right ≡ lowest +ℤ pos slack → value ≤ℤ (right *ℤ pos den)
    → (multiple +ℤ (lowest *ℤ pos den)) ≤ℤ (value +ℤ (own *ℤ pos den)) → multiple ≤ℤ ((own +ℤ pos slack) *ℤ pos den)
allowed right lowest value own multiple slack den is holds apart =
    let split : right *ℤ pos den ≡ (lowest *ℤ pos den) +ℤ (pos slack *ℤ pos den) = ap (λ z. z *ℤ pos den) is ∙ add-*ℤ lowest (pos slack) (pos den) in
    let sum : (own +ℤ pos slack) *ℤ pos den ≡ (own *ℤ pos den) +ℤ (pos slack *ℤ pos den) = add-*ℤ own (pos slack) (pos den) in
    rw sum (omega (arith, ints, split, holds, apart))

pub slack_is : (row : Row) (bx : List Range) → least_value row.terms bx ≤ℤ row.right → row.right ≡ least_value row.terms bx +ℤ pos (slack_of row bx)
slack_is row bx alive =
    let e = count_is (row.right -ℤ least_value row.terms bx) (omega (arith, ints, alive)) in
    omega (arith, ints, e)

pub term-keeps : (xs : List Var) (bx : List Range) (row : Row) (t : Term) (after : Range) → IsTermOf row.terms t → least_value row.terms bx ≤ℤ row.right
    → narrower (is_whole_at xs t.var) t.coef (slack_of row bx) (range_at bx t.var) ≡ Some after
    → (den : ℕ) (values : List ℤ) → 0 < den → AreIn den xs bx values → HoldsOver den values row → AreIn den xs (set bx t.var after) values
term-keeps xs bx row t after is alive e den values positive within holds =
    AreIn-set den xs bx values t.var after within
    (λ x r v at_x at_r at_v inside.
    let whole : is_whole_at xs t.var ≡ x.whole = ap (λ o. option_map_or (λ (y : Var). y.whole) o false) at_x in
    let range : range_at bx t.var ≡ r = get_or_from_slice_get bx t.var r (record { low = pos 0; high = pos 0 }) at_r in
    let narrow = narrower-is x.whole t.coef (slack_of row bx) r after (rw (whole, range) at e) in
    let same : 0 + t.var ≡ t.var = omega arith in
    let apart = rw (same, is.coefficient) at (apart-le row.terms 0 den xs bx values t.var r v within at_r at_v) in
    value-kept x den (slack_of row bx) t.coef r after v positive is.some narrow inside
    (allowed row.right (least_value row.terms bx) (form row.terms values) (least_product t.coef r.low r.high) (t.coef *ℤ v) (slack_of row bx) den (slack_is row bx alive) holds apart))
