use Rattle.std.proofs.Common.{sym, ◌∙◌}
use Rattle.std.proofs.lemmas.Result.{err_from_is_err_and}
use Rattle.qm_game.specs.Goals.{goal_of}
use Rattle.qm_trees.specs.Entries.{weighted_rows}
use Rattle.qm_combo.proofs.EmptyRanges.{closing_empty, closing_ok, closing_err}
use Rattle.qm_combo.proofs.closing.closes.Goals as goal

pub returns-then-has_empty : goal.returns-then-has_empty
returns-then-has_empty c =
    let ws = weighted_rows c.args.game.now c.args.cuts.now c.args.combo.now.entries in
    closing_empty c.args.game.now c.args.combo.now.objective ws c.args.bx.now (goal_of c.args.goal.now) (c.has_empty.ensures.0 c.if-has_empty.true)

pub returns-in_err-value : goal.returns-in_err-value
returns-in_err-value c =
    let ws = weighted_rows c.args.game.now c.args.cuts.now c.args.combo.now.entries in
    let p = err_from_is_err_and c.from_residual.result c.from_residual.ensures.1 in
    rw (p.1, p.2)
    (closing_err c.args.game.now c.args.combo.now.objective ws c.args.bx.now (goal_of c.args.goal.now)
    (λ some. let e = c.has_empty.ensures.1 some in let f = c.if-has_empty.false in cc) _ (sym c.value.ensures ∙ c.in_err-value.was))

pub returns : goal.returns
returns c =
    let ws = weighted_rows c.args.game.now c.args.cuts.now c.args.combo.now.entries in
    let full = closing_ok c.args.game.now c.args.combo.now.objective ws c.args.bx.now (goal_of c.args.goal.now)
    (λ some. let e = c.has_empty.ensures.1 some in let f = c.if-has_empty.false in cc) c.in_ok-value.value (sym c.value.ensures ∙ c.in_ok-value.was) in
    rw c.closes_goal.ensures full
