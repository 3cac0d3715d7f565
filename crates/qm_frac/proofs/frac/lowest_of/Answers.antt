use Rattle.std.proofs.Common.{◌∙◌, arith}
use Rattle.qm_frac.proofs.Terms.{parts_are, lowest_is, in_range_is, in_range_from}
use Rattle.qm_frac.proofs.frac.lowest_of.Goals as goal

pub returns-then-n-gt-MOST : goal.returns-then-n-gt-MOST
returns-then-n-gt-MOST c fits =
    let f = in_range_is c.args.minus c.args.n c.args.d fits in
    omega (arith, c.then-n-gt-MOST.either, c.reduced-n.ensures.num, c.reduced-n.ensures.den)

pub made-requires : goal.made-requires
made-requires c = lowest_is c.args.minus c.args.n c.args.d _ _ c.requires c.reduced-n.ensures.num c.reduced-n.ensures.den (omega arith) (omega arith)

pub returns : goal.returns
returns c =
    let n = c.reduced-n.ensures.num in
    let d = c.reduced-n.ensures.den in (
      in_range_from c.args.minus c.args.n c.args.d (omega arith) (omega arith),
      c.made.ensures ∙ parts_are c.args.minus c.args.n c.args.d _ _ n d,
    )
