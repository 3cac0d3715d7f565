use Rattle.std.proofs.Common.{not, ap, arith}
use Rattle.qm_parse.specs.Checks.{first_such}
use Rattle.qm_normal.specs.Limits.{fits_domain}
use Rattle.qm_normal.specs.Variables.{var_of}
use Rattle.qm_normal.proofs.Searches.{large_here, large_later, large_nowhere}
use Rattle.qm_normal.proofs.limits.large_domain.Goals as goal

pub loop-named-init : goal.loop-named-init
loop-named-init c = ap (first_such (λ named. not (fits_domain (var_of c.args.ast.now named)))) c.as_slice-order.ensures

pub returns-then-not-fits_domain : goal.returns-then-not-fits_domain
returns-then-not-fits_domain c =
    large_here c.args.ast.now c.args.roles.now c.args.ends.now c.as_slice-order.result.now c.loop-named.named-index _ c.requires.roles c.requires.ends (omega arith) c.if-not-fits_domain.ensures c.loop-named.invariant

pub loop-named-preserved : goal.loop-named-preserved
loop-named-preserved c =
    large_later c.args.ast.now c.args.roles.now c.args.ends.now c.as_slice-order.result.now c.loop-named.named-index _ c.requires.roles c.requires.ends (omega arith) c.if-not-fits_domain.ensures c.loop-named.invariant

pub returns : goal.returns
returns c = large_nowhere c.args.ast.now c.as_slice-order.result.now c.loop-named.named-index (omega arith) c.loop-named.invariant
