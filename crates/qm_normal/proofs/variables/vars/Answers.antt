use Rattle.std.proofs.Common.{◌≡◌, List, subst}
use Rattle.std.specs.Prelude.{IfOk}
use Rattle.qm_model.specs.declared.variable.Var.{Var}
use Rattle.qm_normal.proofs.Domains.{domains_fit-by, vars_same}
use Rattle.qm_normal.proofs.variables.vars.Goals as goal

pub vars_in-requires : goal.vars_in-requires
vars_in-requires c =
    domains_fit-by c.args.ast.now c.args.roles.now c.args.ends.now c.args.order.now c.requires.roles c.requires.ends c.requires.domains c.requires.order

pub returns : goal.returns
returns c =
    subst (λ (answer : List Var). IfOk c.vars_in.result (λ vars. vars ≡ answer))
    (vars_same c.args.ast.now c.args.roles.now c.args.ends.now c.args.order.now c.requires.roles c.requires.ends c.requires.order) c.vars_in.ensures
