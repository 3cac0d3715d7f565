use Rattle.std.proofs.Common.{sym, ◌∙◌}
use Rattle.std.proofs.lemmas.Result.{err_from_is_err_and}
use Rattle.qm_trees.specs.CutRules.{derivation}
use Rattle.qm_cuts.proofs.Derivations.{fit_leaves_all, fit_verdict, missing_verdict, not_there, right_leaves}
use Rattle.qm_cuts.proofs.EachEntry.{there_are_usable}
use Rattle.qm_cuts.proofs.tested.test_cut.Goals as goal

pub returns-then-not-all_there : goal.returns-then-not-all_there
returns-then-not-all_there c =
    let there = rw (c.problem-problem.ensures.value, c.entries-entries.ensures.value) at c.all_there.ensures in
    missing_verdict (derivation c.args.game.now c.args.earlier.now c.args.combo.now) c.args.row.now (not_there c.args.game.now c.args.earlier.now c.args.combo.now (sym there ∙ c.if-not-all_there.true))

pub add_right_sides-requires : goal.add_right_sides-requires
add_right_sides-requires c =
    let there = rw (c.problem-problem.ensures.value, c.entries-entries.ensures.value) at c.all_there.ensures in
    let sound = rw c.problem-problem.ensures.value at c.problem-problem.ensures.sound in
    rw (c.problem-problem.ensures.value, c.entries-entries.ensures.value)
    (there_are_usable c.args.game.now c.args.earlier.now c.args.combo.now sound c.requires (sym there ∙ c.if-not-all_there.false))

pub returns-in_err-right : goal.returns-in_err-right
returns-in_err-right c =
    let there = rw (c.problem-problem.ensures.value, c.entries-entries.ensures.value) at c.all_there.ensures in
    let adds = rw (c.problem-problem.ensures.value, c.entries-entries.ensures.value) at c.add_right_sides.ensures in
    let p = err_from_is_err_and c.from_residual.result c.from_residual.ensures.1 in
    rw (p.1, p.2) (right_leaves c.args.game.now c.args.earlier.now c.args.combo.now (sym there ∙ c.if-not-all_there.false) _ (sym adds ∙ c.in_err-right.was))

pub fit_each-requires-clause-usable : goal.fit_each-requires-clause-usable
fit_each-requires-clause-usable c =
    let there = rw (c.problem-problem.ensures.value, c.entries-entries.ensures.value) at c.all_there.ensures in
    let sound = rw c.problem-problem.ensures.value at c.problem-problem.ensures.sound in
    rw (c.problem-problem.ensures.value, c.entries-entries.ensures.value)
    (there_are_usable c.args.game.now c.args.earlier.now c.args.combo.now sound c.requires (sym there ∙ c.if-not-all_there.false))

pub returns-in_err-fit : goal.returns-in_err-fit
returns-in_err-fit c =
    let there = rw (c.problem-problem.ensures.value, c.entries-entries.ensures.value) at c.all_there.ensures in
    let adds = rw (c.problem-problem.ensures.value, c.entries-entries.ensures.value) at c.add_right_sides.ensures in
    let fits = rw (c.problem-problem.ensures.value, c.entries-entries.ensures.value, c.as_slice.ensures.items) at c.fit_each.ensures in
    let p = err_from_is_err_and c.from_residual-in_err-fit.result c.from_residual-in_err-fit.ensures.1 in
    rw (p.1, p.2)
    (fit_leaves_all c.args.game.now c.args.earlier.now c.args.combo.now (sym there ∙ c.if-not-all_there.false) c.in_ok-right.right (sym adds ∙ c.in_ok-right.was) c.args.row.now.terms _
    (sym fits ∙ c.in_err-fit.was))

pub returns : goal.returns
returns c =
    let there = rw (c.problem-problem.ensures.value, c.entries-entries.ensures.value) at c.all_there.ensures in
    let adds = rw (c.problem-problem.ensures.value, c.entries-entries.ensures.value) at c.add_right_sides.ensures in
    let fits = rw (c.problem-problem.ensures.value, c.entries-entries.ensures.value, c.as_slice.ensures.items) at c.fit_each.ensures in
    let ordered = rw c.as_slice.ensures.items at c.as_slice.ensures.ordered in
    let found = rw (c.as_slice-2.ensures, c.problem-problem.ensures.value) at c.is_found.ensures in
    fit_verdict c.args.game.now c.args.earlier.now c.args.combo.now (sym there ∙ c.if-not-all_there.false) c.in_ok-right.right (sym adds ∙ c.in_ok-right.was) c.args.row.now c.in_ok-fit.fit ordered
    (sym fits ∙ c.in_ok-fit.was) c.is_found.result found
