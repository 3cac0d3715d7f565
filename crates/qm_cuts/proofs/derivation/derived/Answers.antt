use Rattle.std.proofs.Common.{sym, subst, ◌∙◌}
use Rattle.std.proofs.lemmas.Result.{err_from_is_err_and}
use Rattle.qm_trees.specs.CutRules.{Derivation}
use Rattle.qm_cuts.specs.Answers.{IsAnswer}
use Rattle.qm_cuts.proofs.Derivations.{not_there, right_leaves, seen_all, sight_answer}
use Rattle.qm_cuts.proofs.EachEntry.{there_are_usable}
use Rattle.qm_cuts.proofs.derivation.derived.Goals as goal

pub returns-then-not-all_there : goal.returns-then-not-all_there
returns-then-not-all_there c = not_there c.args.problem.now c.args.earlier.now c.args.entries.now (sym c.all_there.ensures ∙ c.if-not-all_there.true)

pub add_right_sides-requires : goal.add_right_sides-requires
add_right_sides-requires c =
    there_are_usable c.args.problem.now c.args.earlier.now c.args.entries.now c.requires.sound c.requires.over (sym c.all_there.ensures ∙ c.if-not-all_there.false)

pub returns-in_err-right : goal.returns-in_err-right
returns-in_err-right c =
    let p = err_from_is_err_and c.from_residual.result c.from_residual.ensures.1 in
    rw (p.1, p.2)
    (right_leaves c.args.problem.now c.args.earlier.now c.args.entries.now (sym c.all_there.ensures ∙ c.if-not-all_there.false) _ (sym c.add_right_sides.ensures ∙ c.in_err-right.was))

pub see_each-requires-clause-usable : goal.see_each-requires-clause-usable
see_each-requires-clause-usable c =
    there_are_usable c.args.problem.now c.args.earlier.now c.args.entries.now c.requires.sound c.requires.over (sym c.all_there.ensures ∙ c.if-not-all_there.false)

pub returns-in_err-seen : goal.returns-in_err-seen
returns-in_err-seen c =
    let p = err_from_is_err_and c.from_residual-in_err-seen.result c.from_residual-in_err-seen.ensures.1 in
    rw (p.1, p.2)
    (sight_answer c.args.problem.now c.args.earlier.now c.args.entries.now (sym c.all_there.ensures ∙ c.if-not-all_there.false) c.in_ok-right.right (sym c.add_right_sides.ensures ∙ c.in_ok-right.was) _
    c.in_err-seen.ensures)

pub rounded-requires : goal.rounded-requires
rounded-requires c =
    (seen_all c.args.problem.now c.args.earlier.now c.args.entries.now (sym c.all_there.ensures ∙ c.if-not-all_there.false) c.in_ok-right.right (sym c.add_right_sides.ensures ∙ c.in_ok-right.was) _
    c.in_ok-seen.ensures).0

pub returns : goal.returns
returns c =
    let all = (seen_all c.args.problem.now c.args.earlier.now c.args.entries.now (sym c.all_there.ensures ∙ c.if-not-all_there.false) c.in_ok-right.right
    (sym c.add_right_sides.ensures ∙ c.in_ok-right.was) _ c.in_ok-seen.ensures).1 in
    subst (λ (d : Derivation). IsAnswer d c.rounded.result) (sym all) (rw c.as_slice.ensures at c.rounded.ensures)
