use Rattle.std.proofs.Common.{◌≡◌, None, Ok, Err, ap, sym, ◌∙◌}
use Rattle.std.proofs.lemmas.Result.{err_from_is_err_and}
use Rattle.qm_model.specs.declared.game.Problem.{Problem}
use Rattle.qm_normal.specs.Limits.{variables_fault}
use Rattle.qm_normal.specs.Scopes.{scope_fault}
use Rattle.qm_normal.proofs.ProblemParts.{form_wrong, in_limits, out_of_limits, out_of_scope}
use Rattle.qm_normal.proofs.form.normal.Goals as goal

pub returns-in-Some : goal.returns-in-Some
returns-in-Some c = out_of_scope c.args.ast.now c.in-Some.fault (sym c.in_ok-fault.ensures ∙ c.in-Some.is)

pub returns-in-Some-2 : goal.returns-in-Some-2
returns-in-Some-2 c =
    let none : scope_fault c.args.ast.now ≡ None = sym c.in_ok-fault.ensures ∙ c.in_default.is in
    out_of_limits c.args.ast.now c.in-Some-2.fault none (sym c.in_ok-fault-2.ensures ∙ c.in-Some-2.is)

pub returns-in_err-problem : goal.returns-in_err-problem
returns-in_err-problem c =
    let none : scope_fault c.args.ast.now ≡ None = sym c.in_ok-fault.ensures ∙ c.in_default.is in
    let few : variables_fault c.args.ast.now ≡ None = sym c.in_ok-fault-2.ensures ∙ c.in_default-2.is in
    let told = err_from_is_err_and c.from_residual-in_err-problem.result c.from_residual-in_err-problem.ensures.1 in
    let same : c.from_residual-in_err-problem.result ≡ Err c.in_err-problem.field-0.0 = cc in
    form_wrong c.args.ast.now c.in_err-problem.field-0.0 c.from_residual-in_err-problem.result none few same c.in_err-problem.ensures

pub new-requires : goal.new-requires
new-requires c =
    let none : scope_fault c.args.ast.now ≡ None = sym c.in_ok-fault.ensures ∙ c.in_default.is in
    let few : variables_fault c.args.ast.now ≡ None = sym c.in_ok-fault-2.ensures ∙ c.in_default-2.is in
    c.normal_forms_are_sound.ensures c.args.ast.now c.in_ok-problem.problem c.requires.in_order.proper (in_limits c.args.ast.now none few ∙ c.in_ok-problem.ensures)

pub returns : goal.returns
returns c =
    let none : scope_fault c.args.ast.now ≡ None = sym c.in_ok-fault.ensures ∙ c.in_default.is in
    let few : variables_fault c.args.ast.now ≡ None = sym c.in_ok-fault-2.ensures ∙ c.in_default-2.is in
    in_limits c.args.ast.now none few ∙ c.in_ok-problem.ensures ∙ ap (λ (p : Problem). Ok p) (sym c.new.ensures)
