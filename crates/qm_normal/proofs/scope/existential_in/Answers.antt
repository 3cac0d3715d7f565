use Rattle.std.proofs.Common.{not, sym, arith}
use Rattle.qm_parse.specs.Checks.{term_use}
use Rattle.qm_normal.specs.TableSteps.{universal_by}
use Rattle.qm_normal.proofs.FirstInParts.{in_later_part, in_no_part, in_part}
use Rattle.qm_normal.proofs.scope.existential_in.Goals as goal

pub returns-in-Some : goal.returns-in-Some
returns-in-Some c =
    in_part (λ named. not (universal_by c.args.roles.now named.name)) term_use c.args.terms.now c.loop-term.term-index c.term-item.result _ _
    (omega arith) c.term-item.is (sym c.in-Some.ensures) c.loop-term.invariant

pub loop-term-preserved : goal.loop-term-preserved
loop-term-preserved c =
    in_later_part (λ named. not (universal_by c.args.roles.now named.name)) term_use c.args.terms.now c.loop-term.term-index c.term-item.result _
    (omega arith) c.term-item.is (sym c.in_default.ensures) c.loop-term.invariant

pub returns : goal.returns
returns c =
    in_no_part (λ named. not (universal_by c.args.roles.now named.name)) term_use c.args.terms.now c.loop-term.term-index _ (omega arith) c.loop-term.invariant
