use Rattle.std.proofs.Common.{◌≡◌, ◌++◌, not, rules, arith}
use Rattle.std.specs.List.{filter}
use Rattle.std.proofs.lemmas.Grind.{common_steps}
use Rattle.qm_normal.specs.TableSteps.{whole_by}
use Rattle.qm_normal.proofs.TableLaws.{game_order_made}
use Rattle.qm_normal.proofs.order.GameOrder.of.Goals as goal

pub returns : goal.returns
returns c =
    let roles = c.args.roles.now in
    let first : c.add_names.new.names ≡ filter (λ named. whole_by roles named.name) c.as_slice-order.result.now = first_of (search rules, grind (arith, common_steps)) in
    let all : c.add_names-2.new.names ≡ c.add_names.new.names ++ filter (λ named. not (whole_by roles named.name)) c.as_slice-order.result.now = first_of (search rules, grind (arith, common_steps)) in
    game_order_made c.args.ast.now roles c.as_slice-order.result.now c.add_names.new.names c.add_names-2.new.names c.len-wholes.result c.requires c.as_slice-order.ensures first all c.len-wholes.ensures
