use Rattle.std.proofs.Common.{◌∙◌, ◌<◌, length, arith}
use Rattle.std.proofs.lemmas.List.{length-set}
use Rattle.qm_tableau.specs.UpdateSteps.{number_at}
use Rattle.qm_tableau.proofs.SmallNumbers.{passed_128, passed_64}
use Rattle.qm_tableau.proofs.Parts.{parts_more}
use Rattle.qm_tableau.proofs.updating.write.Goals as goal

pub part-requires-clause-divides : goal.part-requires-clause-divides
part-requires-clause-divides c =
    rw (passed_128 c.number_at.result c.number_at.ensures.size, c.number_at.ensures.value) (c.requires.divides c.loop-k.k c.loop-k-test.true)

pub loop-k-preserved : goal.loop-k-preserved
loop-k-preserved c =
    let p = c.in-Some.ensures in
    let k = c.loop-k.k in
    let x = c.in-Some.number in
    let as_passed = passed_64 x p.small in
    let inside : k < length c.loop-k.out = omega (arith, c.loop-k-test.true, c.loop-k.invariant.count, c.requires.room) in
    let is = p.part ∙ passed_128 c.number_at.result c.number_at.ensures.size ∙ c.number_at.ensures.value in
    rw as_passed (record {
      parts = parts_more (number_at c.args.step.place c.args.step.by c.args.step.factor c.args.row.now c.args.leaving.now) c.args.divisor k c.loop-k.out x inside c.loop-k.invariant.parts is p.small;
      count = length-set c.loop-k.out k x ∙ c.loop-k.invariant.count;
    })
