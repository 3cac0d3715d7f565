-- When a row is too wide, and the numbers of one that isn't.
use Rattle.std.proofs.Common.{◌≡◌, ◌<◌, ◌≤◌, ◌^◌, false, List, ◌∷◌, Some, None, sym, leb, arith, unsigned_abs}
use Rattle.std.specs.Prelude.{All}
use Rattle.std.proofs.lemmas.Bool.{leb-true, and_left, and_right, cond-false, false_from_ne_true}
use Rattle.qm_math.specs.Fraction.{Fraction}
use Rattle.qm_model.specs.declared.variable.Var.{Var}
use Rattle.qm_model.specs.Sizes.{reach_in_vars, row_size}
use Rattle.qm_model.proofs.Sizes.{one_le_reach}
use Rattle.qm_normal.specs.Rows.{common_denominator, is_narrow, narrow_row, row_times, times}
use Rattle.qm_normal.proofs.RowSizes.{within_size}

refused : (vars : List Var) (sums : List Fraction) (right : Fraction) → is_narrow vars (common_denominator (right ∷ sums)) (row_times (common_denominator (right ∷ sums)) sums right) ≡ false → None ≡ narrow_row vars sums right
refused vars sums right wide =
    let d = common_denominator (right ∷ sums) in
    sym (cond-false (is_narrow vars d (row_times d sums right)) (Some (row_times d sums right)) None wide)

pub wide_by_den : (vars : List Var) (sums : List Fraction) (right : Fraction) → ¬ (common_denominator (right ∷ sums) ≤ 2 ^ 126) → None ≡ narrow_row vars sums right
wide_by_den vars sums right great =
    let d = common_denominator (right ∷ sums) in
    let test : leb d (2 ^ 126) ≡ false = false_from_ne_true (leb d (2 ^ 126)) (λ e. great (leb-true d (2 ^ 126) e)) in
    refused vars sums right (and_left (leb d (2 ^ 126)) (leb (row_size (reach_in_vars vars) (row_times d sums right)) (2 ^ 126)) test)

pub wide_by_size : (vars : List Var) (sums : List Fraction) (right : Fraction) → ¬ (row_size (reach_in_vars vars) (row_times (common_denominator (right ∷ sums)) sums right) ≤ 2 ^ 126) → None ≡ narrow_row vars sums right
wide_by_size vars sums right great =
    let d = common_denominator (right ∷ sums) in
    let size = row_size (reach_in_vars vars) (row_times d sums right) in
    let test : leb size (2 ^ 126) ≡ false = false_from_ne_true (leb size (2 ^ 126)) (λ e. great (leb-true size (2 ^ 126) e)) in
    refused vars sums right (and_right (leb d (2 ^ 126)) (leb size (2 ^ 126)) test)

pub wide_by_terms : (vars : List Var) (sums : List Fraction) (right : Fraction) → ¬ All (λ sum. unsigned_abs (times (common_denominator (right ∷ sums)) sum) < 2 ^ 127) sums → None ≡ narrow_row vars sums right
wide_by_terms vars sums right great =
    let d = common_denominator (right ∷ sums) in
    let size = row_size (reach_in_vars vars) (row_times d sums right) in
    wide_by_size vars sums right
    (λ le. great (λ k e inside. let here = within_size (reach_in_vars vars) (one_le_reach vars) d 0 sums k e inside in omega (arith, le, here)))
