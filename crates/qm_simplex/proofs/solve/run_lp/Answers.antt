use Rattle.std.proofs.Common.{subst}
use Rattle.qm_model.specs.Sound.{IsSound}
use Rattle.qm_simplex.specs.Listed.{ListsRun}
use Rattle.qm_simplex.proofs.NamedEntries.{named_told}
use Rattle.qm_simplex.proofs.RightEnds.{right_told, run_told, short_told}
use Rattle.qm_simplex.proofs.solve.run_lp.Goals as goal

-- what is told is the run
told : (c : goal.After-drop-tableau-inside-6) → ListsRun c.args.game.now c.args.cuts.now c.args.bx.now c.end_of.result
told c =
    let leads = rw c.in_ok-tableau.ensures at c.in_ok-run.ensures.0 in
    let stops = rw (c.problem.ensures.value, c.as_slice.ensures) at c.end_of.ensures in
    run_told c.args.game.now c.args.cuts.now c.args.bx.now c.run.new.tableau c.in_ok-run.run'.pivots c.end_of.result leads stops

pub returns-clause-right : goal.returns-clause-right
returns-clause-right c =
    let sound : IsSound c.args.game.now = subst IsSound c.problem.ensures.value c.problem.ensures.sound in
    right_told c.args.game.now c.args.cuts.now c.args.bx.now c.end_of.result sound c.requires.full (told c)

pub returns-clause-pivots : goal.returns-clause-pivots
returns-clause-pivots c = short_told c.args.game.now c.args.cuts.now c.args.bx.now c.end_of.result (told c)

pub returns-clause-named : goal.returns-clause-named
returns-clause-named c = named_told c.args.game.now c.args.cuts.now c.args.bx.now c.end_of.result (told c)
