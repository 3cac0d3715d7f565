use Rattle.std.proofs.Common.{◌≡◌, ℕ, List, Err, length, subst, ◌∙◌}
use Rattle.std.proofs.lemmas.Result.{err_from_is_err_and}
use Rattle.qm_parse.specs.declared.ast.Named.{Named}
use Rattle.qm_normal.specs.declared.fault.Which.TheVariants as which
use Rattle.qm_normal.specs.Answers.{Gives}
use Rattle.qm_normal.specs.Normal.{bound_rows_from, rows_from, with_front}
use Rattle.qm_normal.specs.RowSteps.{part_of, rows_in}
use Rattle.qm_normal.specs.Variables.{continuous_names, whole_names}
use Rattle.qm_normal.proofs.ProblemParts.{gives-first, gives-returned}
use Rattle.qm_normal.proofs.TableLaws.{continuous_behind, wholes_inside}
use Rattle.qm_normal.proofs.problem.rows.Goals as goal

pub returns-in_err-front : goal.returns-in_err-front
unfolding rows_in part_of
returns-in_err-front c =
    let ast = c.args.ast.now in
    let told = err_from_is_err_and c.from_residual.result c.from_residual.ensures.1 in
    let same : c.from_residual.result ≡ Err c.in_err-front.field-0.0 = cc in
    let wrong : Gives (Err c.in_err-front.field-0.0) (rows_from which.Row ast 0 ast.rows) = c.in_err-front.ensures in
    gives-returned c.in_err-front.field-0.0 c.from_residual.result (rows_from which.Row ast 0 ast.rows) _ same wrong

pub continuous-requires : goal.continuous-requires
continuous-requires c = wholes_inside c.args.ast.now c.args.order.now c.requires.order

pub returns : goal.returns
unfolding rows_in part_of
returns c =
    let ast = c.args.ast.now in
    let list : c.continuous.result.now ≡ continuous_names ast = c.continuous.ensures ∙ continuous_behind ast c.args.order.now c.requires.order in
    let behind : Gives c.bound_rows.result (with_front c.in_ok-front.front (bound_rows_from ast (length (whole_names ast)) (continuous_names ast))) =
    subst (λ (names : List Named). Gives c.bound_rows.result (with_front c.in_ok-front.front (bound_rows_from ast (length (whole_names ast)) names))) list
    (subst (λ (n : ℕ). Gives c.bound_rows.result (with_front c.in_ok-front.front (bound_rows_from ast n c.continuous.result.now))) (c.wholes-first.ensures ∙ c.requires.order.wholes) c.bound_rows.ensures) in
    gives-first (rows_from which.Row ast 0 ast.rows) c.in_ok-front.front _ c.bound_rows.result c.in_ok-front.ensures behind
