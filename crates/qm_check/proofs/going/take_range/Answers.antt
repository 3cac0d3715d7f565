use Rattle.std.proofs.Common.{◌-◌}
use Rattle.std.specs.Prelude.{◌==◌}
use Rattle.std.proofs.lemmas.Int.{to_z-of_z}
use mir.Syntax.{w128}
use mir.Val.{SFits}
use Rattle.qm_check.proofs.Boxes.{following}
use Rattle.qm_check.proofs.going.take_range.Goals as goal

pub enter-requires-clause-next : goal.enter-requires-clause-next
enter-requires-clause-next c =
    let next : SFits w128 c.behind.result = record { sfits = c.behind.type_inv } in
    rw (to_z-of_z w128 c.behind.result next, c.behind.ensures) (following c.args.node.next c.args.node.covered (c.args.node.left - 1 == 0) c.args.range c.requires.node.next c.requires.range).goes_on

pub enter-requires-clause-range : goal.enter-requires-clause-range
enter-requires-clause-range c = (following c.args.node.next c.args.node.covered (c.args.node.left - 1 == 0) c.args.range c.requires.node.next c.requires.range).inside
