use Rattle.std.proofs.Common.{◌*◌, ◌^◌, ◌≤◌, refl, arith}
use Rattle.qm_text.proofs.Powers.{many_above, whole_too_large, small_power}
use Rattle.qm_text.proofs.tens.multiplied.Goals as goal

pub returns-then-tens-gt38 : goal.returns-then-tens-gt38
returns-then-tens-gt38 c = (refl, many_above c.args.n c.args.tens c.requires c.if-tens-gt38.true)

pub pow-requires : goal.pow-requires
pow-requires c = let small = small_power c.args.tens c.if-tens-gt38.false in omega arith

pub returns-then-product : goal.returns-then-product
returns-then-product c =
    let product = rw c.pow.ensures at c.saturating_mul-product.ensures in
    let test = c.if-product.true in
    let large : 2 ^ 127 ≤ c.args.n * 10 ^ c.args.tens = omega arith in
    (refl, whole_too_large (c.args.n * 10 ^ c.args.tens) large)
