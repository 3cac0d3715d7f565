use Rattle.std.proofs.Common.{[], sym, subst}
use Rattle.qm_model.specs.Boxes.{IsBox}
use Rattle.qm_relax.proofs.FixedBoxes.{fixed_is_box, lent_point}
use Rattle.qm_relax.proofs.scenarios.scenario_point.Goals as goal

pub relax_point-requires : goal.relax_point-requires
relax_point-requires c =
    subst (IsBox c.args.game.now.vars) (sym c.in_ok-fixed.ensures)
    (fixed_is_box c.args.game.now c.args.bx.now c.args.completion.now c.requires.completion c.requires.bx)

pub returns-clause-lent : goal.returns-clause-lent
returns-clause-lent c =
    lent_point c.args.game.now c.args.bx.now c.args.completion.now c.requires.completion [] c.relax_point.result
    (rw c.in_ok-fixed.ensures at c.relax_point.ensures.best)
