use Rattle.std.proofs.Common.{set}
use Rattle.qm_model.specs.Boxes.{IsDead}
use Rattle.qm_legal.specs.SearchSteps.{IsDeadRun}
use Rattle.qm_legal.proofs.Parts.{there}
use Rattle.qm_legal.proofs.part.dead_range.Goals as goal

pub returns-clause-run : goal.returns-clause-run
returns-clause-run c =
    let P = c.args.here.game.now in
    let depth = c.args.here.depth in
    let bx = c.args.bx.now in
    let row = c.index-as_slice-number.result in
    let place = rw (c.as_slice.ensures, c.problem.ensures.value) at c.index-as_slice-number.is in
    there (IsDead (set bx depth c.args.run)) (λ row. IsDeadRun row bx depth c.args.run c.args.within.high c.dead_run.result) P.urows c.args.number row c.requires.dead place c.dead_run.ensures.run

pub returns-clause-some : goal.returns-clause-some
returns-clause-some c = c.dead_run.ensures.run.some

pub returns-clause-high : goal.returns-clause-high
returns-clause-high c = c.dead_run.ensures.run.high
