use Rattle.std.proofs.Common.{arith}
use Rattle.qm_normal.proofs.PlaceTables.{placed-all, placed-more, placed-none}
use Rattle.qm_normal.proofs.places.Places.of.Goals as goal

pub loop-place-init : goal.loop-place-init
loop-place-init c = placed-none (record { places = c.new.result }) c.new.ensures

pub loop-place-preserved : goal.loop-place-preserved
loop-place-preserved c =
    placed-more c.args.order.now c.loop-place.place _ c.loop-place.places c.put.new.self (omega arith) c.in_ok-put.ensures c.loop-place.invariant

pub returns : goal.returns
returns c = placed-all c.args.order.now c.loop-place.place c.loop-place.places (omega arith) c.loop-place.invariant
