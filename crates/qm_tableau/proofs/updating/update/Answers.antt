use Rattle.std.proofs.Common.{◌≡◌, ◌∙◌, ◌<◌, ◌+◌, ap, sym, add-one, arith, pos, suc, length}
use Rattle.qm_tableau.specs.Wholes.{at_place}
use Rattle.qm_tableau.proofs.SmallNumbers.{zero_is}
use Rattle.qm_tableau.proofs.UpdatedRows.{copied, written}
use Rattle.qm_tableau.proofs.updating.update.Goals as goal

pub returns-then-row-place-eq0-clause-updated : goal.returns-then-row-place-eq0-clause-updated
returns-then-row-place-eq0-clause-updated c _ =
    let row = c.args.row.now in
    let r = c.requires in
    let inside : c.args.col + 1 < length row = omega (arith, r.col) in
    let none : at_place row (suc c.args.col) ≡ pos 0 =
    ap (at_place row) (sym (add-one c.args.col)) ∙ zero_is (at_place row (c.args.col + 1)) (r.row.small (c.args.col + 1) (pos 0) inside) c.if-row-place-eq0.true in
    rw c.copy_from_slice.ensures.after (copied c.args.col c.args.leaving.now row r.same r.col r.leaving r.row r.pivot none)

pub returns-in-Some-clause-updated : goal.returns-in-Some-clause-updated
returns-in-Some-clause-updated c h =
    let r = c.requires in
    written c.args.col c.args.leaving.now c.args.row.now r.same r.col r.leaving r.row r.pivot (c.args.col + 1) c.in-Some.step c.divisor-divisor.result c.write.new.out
    (add-one c.args.col) c.in-Some.ensures c.divisor-divisor.ensures.some (c.write.ensures.count ∙ r.room) (c.write.ensures.parts h)
