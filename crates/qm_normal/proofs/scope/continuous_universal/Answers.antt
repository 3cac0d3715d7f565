use Rattle.std.proofs.Common.{not, ◌&&◌, ap, arith}
use Rattle.qm_parse.specs.Checks.{first_such}
use Rattle.qm_normal.specs.Variables.{is_universal, is_whole}
use Rattle.qm_normal.proofs.Searches.{unset_here, unset_later, unset_nowhere}
use Rattle.qm_normal.proofs.scope.continuous_universal.Goals as goal

pub loop-named-init : goal.loop-named-init
loop-named-init c =
    ap (first_such (λ named. not (is_whole c.args.ast.now named.name) && is_universal c.args.ast.now named.name)) c.as_slice-order.ensures

pub returns-then-is_continuous_universal : goal.returns-then-is_continuous_universal
returns-then-is_continuous_universal c =
    unset_here c.args.ast.now c.args.roles.now c.as_slice-order.result.now c.loop-named.named-index _ c.requires (omega arith) c.if-is_continuous_universal.ensures c.loop-named.invariant

pub loop-named-preserved : goal.loop-named-preserved
loop-named-preserved c =
    unset_later c.args.ast.now c.args.roles.now c.as_slice-order.result.now c.loop-named.named-index _ c.requires (omega arith) c.if-is_continuous_universal.ensures c.loop-named.invariant

pub returns : goal.returns
returns c = unset_nowhere c.args.ast.now c.as_slice-order.result.now c.loop-named.named-index (omega arith) c.loop-named.invariant
