use Rattle.std.proofs.Common.{◌≡◌, ◌∙◌, All, arith, length, subst}
use Rattle.std.proofs.lemmas.List.{length-drop}
use Rattle.qm_frac.specs.Lowest.{IsFrac}
use Rattle.qm_model.specs.Points.{continuous_vars}
use Rattle.qm_policy.proofs.Steps.{leaf_judged}
use Rattle.qm_policy.proofs.walk.test_end.Goals as goal

pub returns-else-len-problem : goal.returns-else-len-problem
returns-else-len-problem c =
    let P = c.args.game.now in
    let fracs = subst (All IsFrac) c.as_slice.ensures c.values_are_fractions.ensures in
    let sizes = rw c.problem-problem.ensures.value at c.len-in-Leaf.ensures in
    let test = rw c.problem-problem.ensures.value at c.if-len-problem.false in
    let count : length c.in-Leaf.point ≡ length (continuous_vars P) = omega (arith, test, c.len.ensures, sizes, length-drop P.wholes P.vars) in
    (rw (c.problem-problem.ensures.value, c.as_slice-in-Leaf.ensures, c.as_slice-in-Leaf-2.ensures) at c.passes.ensures)
    ∙ leaf_judged P c.args.value c.args.bx.now c.args.policy.now c.in-Leaf.point c.in-Leaf.is count fracs
