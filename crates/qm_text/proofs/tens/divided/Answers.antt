use Rattle.std.proofs.Common.{ℕ, ◌-◌, pos, refl, sym, ap, ◌∙◌, subst, arith}
use Rattle.qm_frac.specs.Lowest.{IsInRange, lowest}
use Rattle.qm_text.proofs.Powers.{many_below, small_power, ten_some, whole_lowest, divided_twice}
use Rattle.qm_text.proofs.tens.divided.Goals as goal

pub returns-then-tens-gt76 : goal.returns-then-tens-gt76
returns-then-tens-gt76 c = (refl, many_below c.args.n c.args.tens c.requires.some c.requires.few c.if-tens-gt76.true)

pub pow-requires : goal.pow-requires
pow-requires c = let small = small_power c.args.tens c.if-tens-le38.true in omega arith

pub over-requires-clause-some : goal.over-requires-clause-some
over-requires-clause-some c = rw c.pow.ensures (ten_some c.args.tens)

pub over-requires-clause-den : goal.over-requires-clause-den
over-requires-clause-den c = rw c.pow.ensures (small_power c.args.tens c.if-tens-le38.true)

pub pow-requires-2 : goal.pow-requires-2
pow-requires-2 c =
    let high = c.if-tens-gt76.false in
    let small = small_power (c.args.tens - 38) (omega arith) in
    omega arith

pub over-requires-3-clause-num : goal.over-requires-3-clause-num
over-requires-3-clause-num c =
    let high = c.if-tens-gt76.false in
    rw c.pow-2.ensures (small_power (c.args.tens - 38) (omega arith))

pub div-requires : goal.div-requires
div-requires c =
    let over = c.over-3.ensures ∙ whole_lowest c.pow-2.result in
    rw over (rw c.pow-2.ensures (ten_some (c.args.tens - 38)))

pub returns-in-Ok : goal.returns-in-Ok
returns-in-Ok c =
    let over = c.over-3.ensures ∙ ap (λ (x : ℕ). lowest (pos x) 1) c.pow-2.ensures in
    let same = divided_twice c.args.n c.args.tens c.over-2.result c.over-3.result c.if-tens-le38.false c.over-2.ensures over in
    let exact = rw c.in-Ok.is at c.div.ensures.exact in
    let fits = rw c.in-Ok.is at c.div.ensures.fits in
    (exact ∙ same, subst IsInRange same (fits.0 refl))

pub returns-in-Err : goal.returns-in-Err
returns-in-Err c =
    let over = c.over-3.ensures ∙ ap (λ (x : ℕ). lowest (pos x) 1) c.pow-2.ensures in
    let same = divided_twice c.args.n c.args.tens c.over-2.result c.over-3.result c.if-tens-le38.false c.over-2.ensures over in
    let fits = rw c.in-Err.is at c.div.ensures.fits in
    (refl, λ h. cc (fits.1 (subst IsInRange (sym same) h)))
