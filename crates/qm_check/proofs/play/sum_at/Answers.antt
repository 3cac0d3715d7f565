use Rattle.std.proofs.Common.{arith, unsigned_abs, pos, ◌*ℤ◌}
use Rattle.std.proofs.lemmas.Int.{ints, to_z-of_z}
use Rattle.std.proofs.lemmas.List.{drop_all}
use mir.Syntax.{w128}
use mir.Val.{SFits, to_z}
use Rattle.qm_math.proofs.Between.{product_size}
use Rattle.qm_model.proofs.TermSums.{Turn, turn, terms_size_more, sum_over-sum_at}
use Rattle.qm_check.proofs.play.sum_at.Goals as goal

pub value_part-sum-requires-clause-size : goal.value_part-sum-requires-clause-size
value_part-sum-requires-clause-size c =
    omega (arith, terms_size_more ◌*ℤ◌ (pos 0) unsigned_abs c.args.terms.now c.args.values.now c.loop-term.term-index c.loop-term-test.true c.requires.vars)

this_turn : (c : goal.After-value_part-sum) → Turn ◌*ℤ◌ (pos 0) unsigned_abs c.args.terms.now c.args.values.now c.loop-term.term-index (to_z w128 c.loop-term.sum-bits) c.value_part-sum.result
this_turn c =
    turn ◌*ℤ◌ (pos 0) unsigned_abs product_size c.args.terms.now c.args.values.now c.loop-term.term-index (to_z w128 c.loop-term.sum-bits) c.value_part-sum.result
    c.loop-term-test.true c.requires.vars c.requires.size c.loop-term.invariant.value c.loop-term.invariant.size c.value_part-sum.ensures

pub overflow_add-sum : goal.overflow_add-sum
overflow_add-sum c =
    let part : SFits w128 c.value_part-sum.result = record { sfits = c.value_part-sum.type_inv } in
    simp (to_z-of_z w128 c.value_part-sum.result part) (this_turn c).fits

pub loop-term-preserved : goal.loop-term-preserved
loop-term-preserved c =
    let part : SFits w128 c.value_part-sum.result = record { sfits = c.value_part-sum.type_inv } in
    let t = this_turn c in
    simp (to_z-of_z w128 c.value_part-sum.result part, to_z-of_z w128 _ t.fits) (record { value = t.value; size = t.size })

pub returns : goal.returns
returns c =
    let end = drop_all c.loop-term.term-index c.args.terms.now (omega arith) in
    let value = rw end at c.loop-term.invariant.value in
    omega (arith, ints, value, sum_over-sum_at ◌*ℤ◌ (pos 0) unsigned_abs (λ v. omega (arith, ints)) c.args.terms.now c.args.values.now c.requires.ordered c.requires.vars)
