use Rattle.std.proofs.Common.{subst}
use Rattle.qm_search.specs.Entering.{IsEnterable}
use Rattle.qm_search.specs.LeafSteps.{IsRunFault}
use Rattle.qm_search.proofs.EndBoxes.{right_leave}
use Rattle.qm_search.proofs.LeafEnds.{end_short}
use Rattle.qm_search.proofs.mixed.run_stop.Goals as goal

pub prefix_of-requires : goal.prefix_of-requires
prefix_of-requires c = end_short c.args.game.now c.args.bx.now c.requires.place

pub returns-in-Ok : goal.returns-in-Ok
returns-in-Ok c =
    let P = c.args.game.now in
    let bx = c.args.bx.now in
    let run = subst (IsRunFault P bx) c.in-Leaves.is c.requires.run in
    let prefix = rw c.in-Ok.is at c.prefix_of.ensures in
    right_leave P bx (IsEnterable P) c.in-Ok.prefix c.in-Leaves.run' c.requires.place c.requires.mixed c.requires.full c.requires.alive c.requires.entered run prefix
