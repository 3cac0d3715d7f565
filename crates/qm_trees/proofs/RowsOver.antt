-- A row holds at numerators over one denominator exactly where it holds at the fractions.
use Rattle.std.proofs.Common.{◌↔◌, ℕ, suc, ◌<◌, List, [], ◌∷◌, map, arith, ℤ, pos, ◌*ℤ◌}
use Rattle.std.proofs.lemmas.Int.{ints}
use Rattle.qm_math.specs.Fraction.{whole, IsSame}
use Rattle.qm_math.specs.Arithmetic.{product_of}
use Rattle.qm_math.specs.Sums.{sum_from}
use Rattle.qm_math.specs.Over.{over}
use Rattle.qm_math.proofs.FractionLaws.{same_refl, same_sym, whole_den, sum_of_den, product_of_den}
use Rattle.qm_math.proofs.FractionOrder.{at_most_congr}
use Rattle.qm_math.proofs.Over.{over-at_most-whole, value_step}
use Rattle.qm_model.specs.declared.row.Row.{Row}
use Rattle.qm_model.specs.Linear.{coefficient, form}
use Rattle.qm_model.specs.Points.{HoldsOver}
use Rattle.qm_trees.specs.BoxPoints.{form_of, HoldsAt}

pub form_of-over : (d : ℕ) (k : ℕ → ℤ) (var : ℕ) (ns : List ℤ)
    → IsSame (form_of (λ n. whole (k n)) var (map (over d) ns)) (over d (sum_from (λ n v. k n *ℤ v) var ns))
form_of-over d k var [] = omega (arith, ints)
form_of-over d k var (v ∷ ns) =
    value_step d (k var) v (sum_from (λ n v. k n *ℤ v) (suc var) ns) (form_of (λ n. whole (k n)) (suc var) (map (over d) ns)) (form_of-over d k (suc var) ns)

pub form_of-over_den : (d : ℕ) (k : ℕ → ℤ) (var : ℕ) (ns : List ℤ) → 0 < d → 0 < (form_of (λ n. whole (k n)) var (map (over d) ns)).den
form_of-over_den d k var [] h = whole_den (pos 0)
form_of-over_den d k var (v ∷ ns) h =
    sum_of_den (product_of (whole (k var)) (over d v)) (form_of (λ n. whole (k n)) (suc var) (map (over d) ns))
    (product_of_den (whole (k var)) (over d v) (whole_den (k var)) h) (form_of-over_den d k (suc var) ns h)

pub HoldsAt-over : (d : ℕ) (ns : List ℤ) (row : Row) → 0 < d → HoldsAt (map (over d) ns) row ↔ HoldsOver d ns row
HoldsAt-over d ns row h =
    let k : ℕ → ℤ = λ var. coefficient row.terms var in
    let fractions = form_of (λ n. whole (k n)) 0 (map (over d) ns) in
    let numerators = over d (form row.terms ns) in
    let same = form_of-over d k 0 ns in
    let right = whole row.right in (
      λ holds. (over-at_most-whole d (form row.terms ns) row.right).0 (at_most_congr fractions right numerators right (form_of-over_den d k 0 ns h) (whole_den row.right) same (same_refl right) holds),
      λ holds. at_most_congr numerators right fractions right h (whole_den row.right) (same_sym fractions numerators same) (same_refl right) ((over-at_most-whole d (form row.terms ns) row.right).1 holds),
    )
