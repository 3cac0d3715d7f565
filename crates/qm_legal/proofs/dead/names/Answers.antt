use Rattle.std.proofs.Common.{◌+◌, ◌-◌, ◌/◌, sym, pos}
use Rattle.qm_model.specs.declared.row.Term.{Term}
use Rattle.qm_legal.proofs.OtherRows.{lower_half, middle_below, not_found, upper_half}
use Rattle.qm_legal.proofs.dead.names.Goals as goal

abbrev no_term : Term
no_term = record { var = 0; coef = pos 0 }

pub loop-low-preserved-then-found-var-2 : goal.loop-low-preserved-then-found-var-2
loop-low-preserved-then-found-var-2 c =
    let low = c.loop-low.low in
    let high = c.loop-low.high in
    upper_half c.args.terms.now c.args.var low high (low + (high - low) / 2) no_term c.requires c.loop-low.invariant (middle_below low high c.loop-low-test.true) c.if-found-var-2.true

pub loop-low-preserved : goal.loop-low-preserved
loop-low-preserved c =
    let low = c.loop-low.low in
    let high = c.loop-low.high in
    lower_half c.args.terms.now c.args.var low high (low + (high - low) / 2) no_term c.requires c.loop-low.invariant (middle_below low high c.loop-low-test.true) c.if-found-var.false c.if-found-var-2.false

pub returns : goal.returns
returns c = sym (not_found c.args.terms.now c.args.var c.loop-low.low c.loop-low.high c.loop-low-test.false c.loop-low.invariant)
