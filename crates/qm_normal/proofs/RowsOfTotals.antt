-- Rows and objectives, by what their terms come to.
use Rattle.std.proofs.Common.{◌≡◌, ℕ, ◌≤◌, ◌^◌, List, ◌∷◌, Option, Some, None, Result, Ok, Err, refl, sym, ap, ◌∙◌}
use Rattle.std.specs.Result.{result_ok}
use Rattle.std.proofs.lemmas.Option.{cond_some, none-some, same_Some}
use Rattle.qm_math.specs.Fraction.{Fraction}
use Rattle.qm_frac.specs.declared.leaves.Leaves.{Leaves}
use Rattle.qm_model.specs.declared.row.Row.{Row}
use Rattle.qm_model.specs.declared.variable.Var.{Var}
use Rattle.qm_parse.specs.declared.ast.AstTerm.{AstTerm}
use Rattle.qm_parse.specs.declared.ast.Named.{Named}
use Rattle.qm_normal.specs.Normal.{Objective, objective_from, objective_times, scaled_objective}
use Rattle.qm_normal.specs.Rows.{common_denominator, is_constant, is_narrow, narrow_row, normal_row, row_times, total, totals}
use Rattle.qm_normal.proofs.NarrowRows.{wide_by_den}

-- ---- rows

abbrev row_by : List Var → Fraction → Result (List Fraction) Leaves → Option Row
row_by vars right found = elim found [ Err leaves ↦ None | Ok sums ↦ narrow_row vars sums right ]

row_left : (vars : List Var) (right : Fraction) (found : Result (List Fraction) Leaves) → result_ok found ≡ None → None ≡ row_by vars right found
row_left vars right (Err leaves) none = refl
row_left vars right (Ok sums) none = absurd (none-some sums (sym none))

row_summed : (vars : List Var) (right : Fraction) (found : Result (List Fraction) Leaves) (sums : List Fraction) → result_ok found ≡ Some sums → narrow_row vars sums right ≡ row_by vars right found
row_summed vars right (Err leaves) sums some = absurd (none-some sums some)
row_summed vars right (Ok others) sums some = ap (λ (list : List Fraction). narrow_row vars list right) (sym (same_Some others sums some))

pub normal_row-left : (vars : List Var) (order : List Named) (terms : List AstTerm) (right : Fraction) → result_ok (totals order terms) ≡ None → None ≡ normal_row vars order terms right
unfolding normal_row
normal_row-left vars order terms right none = row_left vars right (totals order terms) none

pub normal_row-summed : (vars : List Var) (order : List Named) (terms : List AstTerm) (right : Fraction) (sums : List Fraction) → result_ok (totals order terms) ≡ Some sums → narrow_row vars sums right ≡ normal_row vars order terms right
unfolding normal_row
normal_row-summed vars order terms right sums some = row_summed vars right (totals order terms) sums some

-- ---- the objective

abbrev times_den : List Fraction → Fraction → Option Row → Option Objective
times_den sums constant found = elim found [ None ↦ None | Some row ↦ Some (objective_times (common_denominator (constant ∷ sums)) sums constant) ]

pub scaled-wide : (vars : List Var) (sums : List Fraction) (constant : Fraction) → None ≡ narrow_row vars sums constant → None ≡ scaled_objective vars sums constant
unfolding scaled_objective
scaled-wide vars sums constant none = ap (times_den sums constant) none

pub scaled-wide_den : (vars : List Var) (sums : List Fraction) (constant : Fraction) → ¬ (common_denominator (constant ∷ sums) ≤ 2 ^ 126) → None ≡ scaled_objective vars sums constant
scaled-wide_den vars sums constant great = scaled-wide vars sums constant (wide_by_den vars sums constant great)

pub scaled-narrow : (vars : List Var) (sums : List Fraction) (constant : Fraction) (row : Row) (scale : ℕ) → Some row ≡ narrow_row vars sums constant → scale ≡ common_denominator (constant ∷ sums)
    → Some (record { terms = row.terms; constant = row.right; scale = scale }) ≡ scaled_objective vars sums constant
unfolding scaled_objective
scaled-narrow vars sums constant row scale some is =
    let d = common_denominator (constant ∷ sums) in
    let same : row_times d sums constant ≡ row = (cond_some (is_narrow vars d (row_times d sums constant)) (row_times d sums constant) row (sym some)).1 in
    let with_scale : ℕ → Option Objective = λ n. Some (record { terms = row.terms; constant = row.right; scale = n }) in
    let with_row : Row → Option Objective = λ r. Some (record { terms = r.terms; constant = r.right; scale = d }) in
    ap with_scale is ∙ sym (ap with_row same) ∙ ap (times_den sums constant) some

abbrev objective_by : List Var → Result (List Fraction) Leaves → Result Fraction Leaves → Option Objective
objective_by vars found constants =
    elim found [ Err leaves ↦ None | Ok sums ↦ elim constants [ Err leaves ↦ None | Ok constant ↦ scaled_objective vars sums constant ] ]

left_by : (vars : List Var) (found : Result (List Fraction) Leaves) (constants : Result Fraction Leaves) → result_ok found ≡ None → None ≡ objective_by vars found constants
left_by vars (Err leaves) constants none = refl
left_by vars (Ok sums) constants none = absurd (none-some sums (sym none))

left_constant : (vars : List Var) (found : Result (List Fraction) Leaves) (constants : Result Fraction Leaves) → None ≡ result_ok constants → None ≡ objective_by vars found constants
left_constant vars (Err leaves) constants none = refl
left_constant vars (Ok sums) (Err leaves) none = refl
left_constant vars (Ok sums) (Ok constant) none = absurd (none-some constant none)

summed_by : (vars : List Var) (found : Result (List Fraction) Leaves) (constants : Result Fraction Leaves) (sums : List Fraction) (constant : Fraction) → result_ok found ≡ Some sums → Some constant ≡ result_ok constants
    → scaled_objective vars sums constant ≡ objective_by vars found constants
summed_by vars (Err leaves) constants sums constant some one = absurd (none-some sums some)
summed_by vars (Ok others) (Err leaves) sums constant some one = absurd (none-some constant (sym one))
summed_by vars (Ok others) (Ok other) sums constant some one =
    ap (λ (list : List Fraction). scaled_objective vars list constant) (sym (same_Some others sums some)) ∙ ap (scaled_objective vars others) (same_Some constant other one)

pub objective-left : (vars : List Var) (order : List Named) (terms : List AstTerm) → result_ok (totals order terms) ≡ None → None ≡ objective_from vars order terms
unfolding objective_from
objective-left vars order terms none = left_by vars (totals order terms) (total is_constant terms) none

pub objective-constant_left : (vars : List Var) (order : List Named) (terms : List AstTerm) → None ≡ result_ok (total is_constant terms) → None ≡ objective_from vars order terms
unfolding objective_from
objective-constant_left vars order terms none = left_constant vars (totals order terms) (total is_constant terms) none

pub objective-summed : (vars : List Var) (order : List Named) (terms : List AstTerm) (sums : List Fraction) (constant : Fraction) → result_ok (totals order terms) ≡ Some sums → Some constant ≡ result_ok (total is_constant terms)
    → scaled_objective vars sums constant ≡ objective_from vars order terms
unfolding objective_from
objective-summed vars order terms sums constant some one = summed_by vars (totals order terms) (total is_constant terms) sums constant some one
