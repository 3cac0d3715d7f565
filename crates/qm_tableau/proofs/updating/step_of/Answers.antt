use Rattle.std.proofs.Common.{◌≡◌, ◌∙◌, ◌<◌, refl, pos, ◌*ℤ◌, arith, to_z, of_z, length}
use Rattle.std.specs.Int.{w128}
use Rattle.qm_tableau.specs.Wholes.{at_place}
use Rattle.qm_tableau.proofs.SmallNumbers.{passed_64, widened}
use Rattle.qm_tableau.proofs.Parts.{common_divides, common_some}
use Rattle.qm_tableau.proofs.UpdatedRows.{positive_part}
use Rattle.qm_tableau.proofs.updating.step_of.Goals as goal

pub part-requires-clause-some : goal.part-requires-clause-some
part-requires-clause-some c =
    let in_leaving : c.args.place < length c.args.leaving.now = omega (arith, c.requires.inside, c.requires.same) in
    let pivot = widened (at_place c.args.leaving.now c.args.place) c.from-pivot.result (c.requires.leaving c.args.place (pos 0) in_leaving) c.from-pivot.ensures in
    common_some (to_z w128 (of_z w128 c.from-entry.result)) (to_z w128 (of_z w128 c.from-pivot.result)) c.gcd-common.result c.gcd-common.ensures (rw pivot c.requires.pivot)

pub part-requires-clause-divides : goal.part-requires-clause-divides
part-requires-clause-divides c = (common_divides (to_z w128 (of_z w128 c.from-entry.result)) (to_z w128 (of_z w128 c.from-pivot.result)) c.gcd-common.result c.gcd-common.ensures).1

pub part-requires-2-clause-divides : goal.part-requires-2-clause-divides
part-requires-2-clause-divides c = (common_divides (to_z w128 (of_z w128 c.from-entry.result)) (to_z w128 (of_z w128 c.from-pivot.result)) c.gcd-common.result c.gcd-common.ensures).0

pub returns : goal.returns
returns c =
    let in_leaving : c.args.place < length c.args.leaving.now = omega (arith, c.requires.inside, c.requires.same) in
    let pivot = widened (at_place c.args.leaving.now c.args.place) c.from-pivot.result (c.requires.leaving c.args.place (pos 0) in_leaving) c.from-pivot.ensures in
    let entry = widened (at_place c.args.row.now c.args.place) c.from-entry.result (c.requires.row c.args.place (pos 0) c.requires.inside) c.from-entry.ensures in
    let some : 0 < c.gcd-common.result = common_some (to_z w128 (of_z w128 c.from-entry.result)) (to_z w128 (of_z w128 c.from-pivot.result)) c.gcd-common.result c.gcd-common.ensures (rw pivot c.requires.pivot) in
    let by_is : c.in_ok-by.by *ℤ pos c.gcd-common.result ≡ at_place c.args.leaving.now c.args.place = c.in_ok-by.ensures.part ∙ pivot in
    let factor_is : c.in_ok-factor.factor *ℤ pos c.gcd-common.result ≡ at_place c.args.row.now c.args.place = c.in_ok-factor.ensures.part ∙ entry in
    rw (passed_64 c.in_ok-by.by c.in_ok-by.ensures.small, passed_64 c.in_ok-factor.factor c.in_ok-factor.ensures.small) (record {
      place = refl;
      shared = c.gcd-common.result;
      by_is = by_is;
      factor_is = factor_is;
      some = some;
      positive = positive_part c.in_ok-by.by (at_place c.args.leaving.now c.args.place) c.gcd-common.result some by_is c.requires.pivot;
      by_small = c.in_ok-by.ensures.small;
      factor_small = c.in_ok-factor.ensures.small;
    })
