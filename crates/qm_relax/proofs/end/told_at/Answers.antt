use Rattle.std.proofs.Common.{◌≡◌, ◌∙◌, sym, subst, Ok, Err}
use Rattle.qm_game.specs.Goals.{goal_of}
use Rattle.qm_trees.specs.Entries.{AreEntries, Combination}
use Rattle.qm_trees.specs.RefuteRight.{AreNamed}
use Rattle.qm_relax.specs.declared.answers.WhyNot.TheVariants as why
use Rattle.qm_relax.specs.AnswerSteps.{IsOwed}
use Rattle.qm_relax.specs.Failing.{value_at_end}
use Rattle.qm_relax.proofs.EndsOfRuns.{end_of_run}
use Rattle.qm_relax.proofs.Told.{failed_owed, told_owed}
use Rattle.qm_relax.proofs.end.told_at.Goals as goal

pub value-requires-clause-named : goal.value-requires-clause-named
value-requires-clause-named c =
    let P = c.args.game.now in
    let cuts = c.args.cuts.now in
    let sound = rw c.problem-problem.ensures.value at c.problem-problem.ensures.sound in
    subst (λ (combo : Combination). AreNamed P cuts combo.entries) (sym c.combination_at.ensures.combo)
    (end_of_run P cuts c.args.bx.now sound.scale_positive c.args.end c.requires.end.run).named

pub returns-in-Ok : goal.returns-in-Ok
returns-in-Ok c =
    let P = c.args.game.now in
    let cuts = c.args.cuts.now in
    let bx = c.args.bx.now in
    let G = goal_of c.args.goal.now in
    let sound = rw c.problem-problem.ensures.value at c.problem-problem.ensures.sound in
    let entries = subst (λ (combo : Combination). AreEntries combo.entries) c.combination_at.ensures.combo c.combination_at.ensures.entries in
    let valued : value_at_end P cuts bx c.args.end ≡ Ok c.in-Ok.field-0 = rw c.combination_at.ensures.combo at (sym c.value.ensures ∙ c.in-Ok.is) in
    subst (IsOwed P cuts bx G) (sym c.told.ensures) (told_owed P cuts bx G c.args.end c.in-Ok.field-0 sound c.goal_is_proper.ensures c.requires.end entries valued)

pub returns-in-Err : goal.returns-in-Err
returns-in-Err c =
    let P = c.args.game.now in
    let cuts = c.args.cuts.now in
    let bx = c.args.bx.now in
    let left : value_at_end P cuts bx c.args.end ≡ Err c.in-Err.leaves = rw c.combination_at.ensures.combo at (sym c.value.ensures ∙ c.in-Err.is) in
    failed_owed P cuts bx (goal_of c.args.goal.now) (why.Combination c.in-Err.leaves)
    (record { full = c.requires.end.full; leaves = (c.args.end, c.requires.end.run, left) })
