use Rattle.std.proofs.Common.{sym, ◌∙◌}
use Rattle.qm_search.proofs.leaf.objective_bound.Goals as goal
use Rattle.qm_search.proofs.WholeBound.{value_is_bound, value_never_leaves}

pub returns-in-Ok : goal.returns-in-Ok
returns-in-Ok c =
    let sound = rw c.problem-problem.ensures.value at c.problem-problem.ensures.sound in
    let is = rw c.requires.combo at (sym c.in-Ok.is ∙ c.value.ensures) in
    value_is_bound c.args.game.now c.args.bx.now sound c.requires.bx c.in-Ok.value c.bound_in.result is c.bound_in.ensures

pub returns-in-Err : goal.returns-in-Err
returns-in-Err c =
    let sound = rw c.problem-problem.ensures.value at c.problem-problem.ensures.sound in
    let is = rw c.requires.combo at (sym c.in-Err.is ∙ c.value.ensures) in
    value_never_leaves c.args.game.now c.args.bx.now sound c.requires.bx _ c.in-Err.field-0 is
