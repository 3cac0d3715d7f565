use Rattle.std.proofs.Common.{subst}
use Rattle.std.specs.Int.{w128}
use Rattle.std.specs.Option.{SomeIff}
use Rattle.std.proofs.lemmas.Int.{to_z-of_z}
use Rattle.qm_frac.specs.Lowest.{IsInRange}
use Rattle.qm_math.specs.Fraction.{Fraction}
use Rattle.qm_frac.proofs.Terms.{lowest_by_signs}
use Rattle.qm_frac.proofs.frac.Frac.of.Goals as goal

pub returns : goal.returns
returns c =
    let num = to_z-of_z w128 c.args.num c.ranges.num in
    let den = to_z-of_z w128 c.args.den c.ranges.den in
    let n = c.unsigned_abs.ensures.value in
    let d = c.unsigned_abs-2.ensures.value in
    subst (λ (r : Fraction). SomeIff c.lowest_of.result (IsInRange r) r) (lowest_by_signs c.args.num c.args.den) (rw (n, d, num, den) at c.lowest_of.ensures)
