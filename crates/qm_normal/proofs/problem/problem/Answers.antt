use Rattle.std.proofs.Common.{◌≡◌, ◌<◌, ◌^◌, None, Some, Ok, Err, ap, ap₂, rules, sym, arith, ◌∙◌}
use Rattle.std.proofs.lemmas.Result.{err_from_is_err_and}
use Rattle.qm_model.specs.declared.game.Problem.{Problem}
use Rattle.qm_normal.specs.Limits.{rows_fault}
use Rattle.qm_normal.specs.RowSteps.{part_of, rows_in}
use Rattle.qm_normal.proofs.OrderSizes.{few_names, order_apart}
use Rattle.qm_normal.proofs.ProblemParts.{narrow_scale, objective_wrong, problem_made, rows_wrong, too_many, urows_wrong}
use Rattle.qm_normal.proofs.TableLaws.{wholes_inside}
use Rattle.qm_normal.proofs.problem.problem.Goals as goal

pub of-requires-2 : goal.of-requires-2
of-requires-2 c =
    let few = few_names c.args.ast.now c.names-names.result.now c.requires.variables (c.names-names.ensures ∙ c.in_ok-order.ensures.names) in
    omega arith

pub rows-requires-clause-few : goal.rows-requires-clause-few
rows-requires-clause-few c =
    let few = few_names c.args.ast.now c.in_ok-order.order.names c.requires.variables c.in_ok-order.ensures.names in
    omega arith

pub rows-requires-clause-apart : goal.rows-requires-clause-apart
rows-requires-clause-apart c = order_apart c.args.ast.now c.in_ok-order.order.names c.requires.names c.in_ok-order.ensures.names

pub returns-in_err-rows : goal.returns-in_err-rows
returns-in_err-rows c =
    let told = err_from_is_err_and c.from_residual-in_err-rows.result c.from_residual-in_err-rows.ensures.1 in
    let same : c.from_residual-in_err-rows.result ≡ Err c.in_err-rows.field-0.0 = cc in
    rows_wrong c.args.ast.now c.in_err-rows.field-0.0 c.from_residual-in_err-rows.result same c.in_err-rows.ensures

pub rows_of_section-requires-clause-apart : goal.rows_of_section-requires-clause-apart
rows_of_section-requires-clause-apart c = order_apart c.args.ast.now c.names-names.result.now c.requires.names (c.names-names.ensures ∙ c.in_ok-order.ensures.names)

pub rows_of_section-requires-clause-few : goal.rows_of_section-requires-clause-few
rows_of_section-requires-clause-few c =
    let few = few_names c.args.ast.now c.names-names.result.now c.requires.variables (c.names-names.ensures ∙ c.in_ok-order.ensures.names) in
    omega arith

pub rows_of_section-requires-clause-numbers : goal.rows_of_section-requires-clause-numbers
unfolding rows_in
rows_of_section-requires-clause-numbers c = let few = c.requires.uncertain in omega arith

pub returns-in_err-urows : goal.returns-in_err-urows
unfolding rows_in part_of
returns-in_err-urows c =
    let told = err_from_is_err_and c.from_residual-in_err-urows.result c.from_residual-in_err-urows.ensures.1 in
    let same : c.from_residual-in_err-urows.result ≡ Err c.in_err-urows.field-0.0 = cc in
    urows_wrong c.args.ast.now c.in_ok-rows.rows c.in_err-urows.field-0.0 c.from_residual-in_err-urows.result c.in_ok-rows.ensures same c.in_err-urows.ensures

pub objective-requires-clause-apart : goal.objective-requires-clause-apart
objective-requires-clause-apart c = order_apart c.args.ast.now c.names-names.result.now c.requires.names (c.names-names.ensures ∙ c.in_ok-order.ensures.names)

pub objective-requires-clause-few : goal.objective-requires-clause-few
objective-requires-clause-few c =
    let few = few_names c.args.ast.now c.names-names.result.now c.requires.variables (c.names-names.ensures ∙ c.in_ok-order.ensures.names) in
    omega arith

pub returns-in_err-objective : goal.returns-in_err-objective
unfolding rows_in part_of
returns-in_err-objective c =
    let told = err_from_is_err_and c.from_residual-in_err-objective.result c.from_residual-in_err-objective.ensures.1 in
    let same : c.from_residual-in_err-objective.result ≡ Err c.in_err-objective.field-0.0 = cc in
    objective_wrong c.args.ast.now c.in_ok-rows.rows c.in_ok-urows.urows c.in_err-objective.field-0.0 c.from_residual-in_err-objective.result c.in_ok-rows.ensures c.in_ok-urows.ensures same c.in_err-objective.ensures

pub returns-in-Some : goal.returns-in-Some
unfolding rows_in part_of
returns-in-Some c =
    let found : rows_fault c.in_ok-rows.rows c.in_ok-urows.urows ≡ Some c.in-Some.fault =
    ap₂ rows_fault (sym c.as_slice.ensures) (sym c.as_slice-2.ensures) ∙ sym c.rows_fault.ensures ∙ c.in-Some.is in
    too_many c.args.ast.now c.in_ok-rows.rows c.in_ok-urows.urows c.in_ok-objective.objective c.in-Some.fault c.in_ok-rows.ensures c.in_ok-urows.ensures c.in_ok-objective.ensures found

pub overflow_cast-wholes : goal.overflow_cast-wholes
overflow_cast-wholes c =
    let few = few_names c.args.ast.now c.in_ok-order.order.names c.requires.variables c.in_ok-order.ensures.names in
    let parts = wholes_inside c.args.ast.now c.in_ok-order.order c.in_ok-order.ensures in
    let small : c.wholes-wholes.result < 2 ^ 32 = omega (arith, c.wholes-wholes.ensures) in
    search (rules, small)

pub problem_with-requires-clause-narrow : goal.problem_with-requires-clause-narrow
problem_with-requires-clause-narrow c = narrow_scale c.args.ast.now c.in_ok-objective.objective c.in_ok-objective.ensures

pub returns : goal.returns
unfolding rows_in part_of
returns c =
    let none : rows_fault c.in_ok-rows.rows c.in_ok-urows.urows ≡ None =
    ap₂ rows_fault (sym c.as_slice.ensures) (sym c.as_slice-2.ensures) ∙ sym c.rows_fault.ensures ∙ c.in_default.is in
    problem_made c.args.ast.now c.in_ok-rows.rows c.in_ok-urows.urows c.in_ok-objective.objective c.in_ok-rows.ensures c.in_ok-urows.ensures c.in_ok-objective.ensures none
    ∙ ap (λ (p : Problem). Ok p) (sym c.problem_with.ensures)
