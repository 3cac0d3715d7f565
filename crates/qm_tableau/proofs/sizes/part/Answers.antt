use Rattle.std.proofs.Common.{◌∙◌, ap, pos, ◌*ℤ◌, ℤ}
use Rattle.std.specs.Int.{w128}
use Rattle.std.proofs.lemmas.Int.{to_z-of_z}
use Rattle.qm_tableau.proofs.Parts.{part_is, part_small}
use Rattle.qm_tableau.proofs.SmallNumbers.{passed_64}
use Rattle.qm_tableau.proofs.sizes.part.Goals as goal

pub returns-clause-part : goal.returns-clause-part
returns-clause-part c =
    let n = to_z-of_z w128 c.args.n c.ranges.n in
    let signs = rw n at c.with_sign.ensures in
    let size = rw (c.unsigned_abs.ensures.value, n) at c.quotient-size.ensures in
    ap (λ (x : ℤ). x *ℤ pos c.args.divisor) (passed_64 c.with_sign.result (part_small c.with_sign.result _ c.quotient-size.result c.with_sign.ensures c.if-size-gt-MOST.false))
    ∙ part_is c.args.n c.with_sign.result c.args.divisor c.quotient-size.result signs size c.requires.divides
