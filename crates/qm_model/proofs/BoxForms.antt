-- A form is at most its greatest value over a box that the values lie in.
use Rattle.std.proofs.Common.{List, length, get_or, All, ℤ, pos, ◌*ℤ◌, ◌≤ℤ◌}
use Rattle.std.proofs.Math.IntN.{zero-*ℤ}
use Rattle.qm_math.specs.Ranges.{IsBetween, greatest_product}
use Rattle.qm_math.proofs.Ends.{sum_of_each-greatest_product}
use Rattle.qm_model.specs.declared.range.Range.{Range}
use Rattle.qm_model.specs.declared.row.Term.{Term}
use Rattle.qm_model.specs.Boxes.{greatest_value}
use Rattle.qm_model.specs.Linear.{HasVarsBelow, IsOrdered, form}
use Rattle.qm_model.proofs.Forms.{sum_over-each}

-- a range that stands where a box has none
pub no_range : Range
no_range = record { low = pos 0; high = pos 0 }

-- the value of the term's variable lies in its range
abbrev pub IsTermIn : List Range → List ℤ → Range → Term → Type 0
IsTermIn bx values r t = IsBetween (get_or bx t.var r).low (get_or bx t.var r).high (get_or values t.var (pos 0))

pub form-le-greatest_value : (ts : List Term) (values : List ℤ) (bx : List Range) (r : Range) → IsOrdered ts → HasVarsBelow (length values) ts → HasVarsBelow (length bx) ts
    → All (IsTermIn bx values r) ts → form ts values ≤ℤ greatest_value ts bx
form-le-greatest_value ts values bx r order below_values below_box inside =
    let left = sum_over-each ◌*ℤ◌ (pos 0) (λ a. zero-*ℤ a) ts values order below_values in
    let right = sum_over-each (λ k (q : Range). greatest_product k q.low q.high) r (λ q. zero-*ℤ q.high) ts bx order below_box in
    rw (left, right)
    (sum_of_each-greatest_product ts (λ t. t.coef) (λ t. (get_or bx t.var r).low) (λ t. (get_or bx t.var r).high) (λ t. get_or values t.var (pos 0)) inside)
