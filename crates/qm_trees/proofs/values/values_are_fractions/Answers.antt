use Rattle.std.proofs.lemmas.List.{take_all}
use Rattle.std.proofs.lemmas.List.Elements.{All-more}
use Rattle.std.proofs.Common.{All, arith, subst}
use Rattle.qm_frac.specs.Lowest.{IsFrac}
use Rattle.qm_trees.proofs.values.values_are_fractions.Goals as goal

pub loop-value-preserved : goal.loop-value-preserved
loop-value-preserved c =
    All-more IsFrac c.args.values.now c.loop-value.value-index c.value-item.result c.loop-value-test.true c.loop-value.invariant (subst IsFrac c.value-item.is c.den-terms.ensures.terms)

pub returns : goal.returns
returns c = subst (All IsFrac) (take_all c.loop-value.value-index c.args.values.now (omega (arith, c.loop-value-test.false))) c.loop-value.invariant
