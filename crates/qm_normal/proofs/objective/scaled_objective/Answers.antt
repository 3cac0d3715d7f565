use Rattle.std.proofs.Common.{◌≡◌, sym, ◌∙◌, arith}
use Rattle.std.specs.Int.{w128, cast_signed, cast_unsigned}
use Rattle.std.proofs.lemmas.Int.{ints}
use Rattle.qm_normal.specs.RowSteps.{IsNarrowRow}
use Rattle.qm_normal.proofs.RowsOfTotals.{scaled-narrow, scaled-wide, scaled-wide_den}
use Rattle.qm_normal.proofs.objective.scaled_objective.Goals as goal

pub returns-in_default : goal.returns-in_default
returns-in_default c = scaled-wide_den c.args.vars.now c.args.sums.now c.args.constant c.in_default.ensures

pub returns-in_default-2 : goal.returns-in_default-2
returns-in_default-2 c = scaled-wide c.args.vars.now c.args.sums.now c.args.constant (sym c.in_default-2.is ∙ c.in_ok-row.ensures.row)

pub returns : goal.returns
returns c =
    let narrow : IsNarrowRow c.in-Some-2.row = rw c.in-Some-2.is at c.in_ok-row.ensures.narrow in
    let fits : cast_signed w128 (cast_unsigned w128 c.in-Some-2.row.right) ≡ c.in-Some-2.row.right = omega (arith, ints, narrow.right) in
    rw fits (scaled-narrow c.args.vars.now c.args.sums.now c.args.constant c.in-Some-2.row c.in-Some.scale (sym c.in-Some-2.is ∙ c.in_ok-row.ensures.row) c.in-Some.ensures.1)
