use Rattle.std.proofs.Common.{sym, subst}
use Rattle.qm_game.specs.Goals.{goal_of}
use Rattle.qm_trees.specs.Entries.{Combination}
use Rattle.qm_relax.specs.declared.answers.RelaxedPoint.TheVariants as pointed
use Rattle.qm_relax.specs.declared.answers.WhyNot.TheVariants as why
use Rattle.qm_relax.specs.AnswerSteps.{IsOwed}
use Rattle.qm_relax.proofs.Told.{empty_owed, failed_owed}
use Rattle.qm_relax.proofs.relaxation.relax_with.Goals as goal

pub returns-then-has_empty : goal.returns-then-has_empty
returns-then-has_empty c =
    let P = c.args.game.now in
    let cuts = c.args.cuts.now in
    let bx = c.args.bx.now in
    let G = goal_of c.args.goal.now in
    subst (λ (combo : Combination). IsOwed P cuts bx G (pointed.Closed combo)) (sym c.new.ensures)
    (empty_owed P cuts bx G (c.has_empty.ensures.0 c.if-has_empty.true))

pub returns-in-Err-Leaves : goal.returns-in-Err-Leaves
returns-in-Err-Leaves c =
    failed_owed c.args.game.now c.args.cuts.now c.args.bx.now (goal_of c.args.goal.now) (why.Run c.in-Err-Leaves.leaves)
    (record { full = λ some. (let e = c.has_empty.ensures.1 some in let f = c.if-has_empty.false in cc); leaves = rw c.in-Err-Leaves.field-0-is at c.in-Err-Leaves.ensures.run })
