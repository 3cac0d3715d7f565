use Rattle.std.proofs.Common.{◌-◌, ap, arith, ◌∙◌}
use Rattle.qm_normal.specs.Scopes.{followed_by_universal}
use Rattle.qm_normal.proofs.Followed.{known_at_end, known_at_start, known_before}
use Rattle.qm_normal.proofs.scope.continuous_early.Goals as goal

pub loop-at-init : goal.loop-at-init
loop-at-init c = record { inside = omega arith; known = known_at_end c.args.ast.now c.as_slice-order.result.now }

pub loop-at-preserved : goal.loop-at-preserved
loop-at-preserved c = record {
  inside = omega arith;
  known =
      known_before c.args.ast.now c.args.roles.now c.as_slice-order.result.now (c.loop-at.at - 1) c.loop-at.at _ c.loop-at.early c.earlier-early.result c.loop-at.is_followed c.is_universal_from-is_followed.result
      (omega arith) (omega arith) c.requires c.earlier-early.ensures c.is_universal_from-is_followed.ensures c.loop-at.invariant.known;
}

pub returns : goal.returns
returns c =
    known_at_start c.args.ast.now c.as_slice-order.result.now c.loop-at.at c.loop-at.early c.loop-at.is_followed (omega arith) c.loop-at.invariant.known
    ∙ ap (followed_by_universal c.args.ast.now) c.as_slice-order.ensures
