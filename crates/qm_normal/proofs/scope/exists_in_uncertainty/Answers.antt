use Rattle.std.proofs.Common.{not, sym, arith, ◌∙◌}
use Rattle.qm_parse.specs.Checks.{term_uses}
use Rattle.qm_normal.specs.TableSteps.{universal_by}
use Rattle.qm_normal.proofs.FirstInParts.{in_later_part, in_no_part, in_part}
use Rattle.qm_normal.proofs.Searches.{existential_same}
use Rattle.qm_normal.proofs.scope.exists_in_uncertainty.Goals as goal

pub returns-in-Some : goal.returns-in-Some
returns-in-Some c =
    let found = rw c.as_slice.ensures at c.in-Some.ensures in
    in_part (λ named. not (universal_by c.args.roles.now named.name)) (λ row. term_uses row.terms) c.as_slice-rows.result.now c.loop-row.row-index c.row-item.result _ _
    (omega arith) c.row-item.is (sym found) c.loop-row.invariant
    ∙ existential_same c.args.ast.now c.args.roles.now c.as_slice-rows.result.now c.requires c.as_slice-rows.ensures

pub loop-row-preserved : goal.loop-row-preserved
loop-row-preserved c =
    let nothing = rw c.as_slice.ensures at c.in_default.ensures in
    in_later_part (λ named. not (universal_by c.args.roles.now named.name)) (λ row. term_uses row.terms) c.as_slice-rows.result.now c.loop-row.row-index c.row-item.result _
    (omega arith) c.row-item.is (sym nothing) c.loop-row.invariant

pub returns : goal.returns
returns c =
    in_no_part (λ named. not (universal_by c.args.roles.now named.name)) (λ row. term_uses row.terms) c.as_slice-rows.result.now c.loop-row.row-index _ (omega arith) c.loop-row.invariant
    ∙ existential_same c.args.ast.now c.args.roles.now c.as_slice-rows.result.now c.requires c.as_slice-rows.ensures
