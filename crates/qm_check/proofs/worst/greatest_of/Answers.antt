use Rattle.std.proofs.Common.{arith}
use Rattle.std.proofs.lemmas.Int.{ints, to_z-of_z}
use Rattle.std.proofs.lemmas.List.{drop_all}
use mir.Syntax.{w128}
use mir.Val.{SFits, to_z}
use Rattle.qm_math.proofs.Between.{greatest_product_size}
use Rattle.qm_model.proofs.TermSums.{Turn, turn, terms_size_more, sum_over-sum_at}
use Rattle.qm_game.proofs.Parts.{greatest_at, greatest_at-zero, reach_of, some_range}
use Rattle.qm_check.proofs.worst.greatest_of.Goals as goal

pub greatest_part-sum-requires : goal.greatest_part-sum-requires
greatest_part-sum-requires c =
    omega (arith, terms_size_more greatest_at some_range reach_of c.args.terms.now c.args.bx.now c.loop-term.term-index c.loop-term-test.true c.requires.vars)

this_turn : (c : goal.After-greatest_part-sum) → Turn greatest_at some_range reach_of c.args.terms.now c.args.bx.now c.loop-term.term-index (to_z w128 c.loop-term.sum-bits) c.greatest_part-sum.result
this_turn c =
    turn greatest_at some_range reach_of (λ k r. greatest_product_size k r.low r.high) c.args.terms.now c.args.bx.now c.loop-term.term-index (to_z w128 c.loop-term.sum-bits) c.greatest_part-sum.result
    c.loop-term-test.true c.requires.vars c.requires.size c.loop-term.invariant.value c.loop-term.invariant.size c.greatest_part-sum.ensures

pub overflow_add-sum : goal.overflow_add-sum
overflow_add-sum c =
    let part : SFits w128 c.greatest_part-sum.result = record { sfits = c.greatest_part-sum.type_inv } in
    simp (to_z-of_z w128 c.greatest_part-sum.result part) (this_turn c).fits

pub loop-term-preserved : goal.loop-term-preserved
loop-term-preserved c =
    let part : SFits w128 c.greatest_part-sum.result = record { sfits = c.greatest_part-sum.type_inv } in
    let t = this_turn c in
    simp (to_z-of_z w128 c.greatest_part-sum.result part, to_z-of_z w128 _ t.fits) (record { value = t.value; size = t.size })

pub returns : goal.returns
returns c =
    let end = drop_all c.loop-term.term-index c.args.terms.now (omega arith) in
    let value = rw end at c.loop-term.invariant.value in
    omega (arith, ints, value, sum_over-sum_at greatest_at some_range reach_of greatest_at-zero c.args.terms.now c.args.bx.now c.requires.ordered c.requires.vars)
