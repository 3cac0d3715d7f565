use Rattle.std.proofs.Common.{◌≡◌, ◌<◌, length, get_or, set, sym, ◌∙◌, List, [], arith, ap, ap₂, Ok}
use Rattle.std.proofs.lemmas.List.{length-set}
use Rattle.qm_math.specs.Fraction.{Fraction}
use Rattle.qm_tableau.specs.Pivoting.{new_entry}
use Rattle.qm_tableau.proofs.Steps.{entry_done, others_stay, row_finished, width_stays}
use Rattle.qm_tableau.proofs.pivoting.write_row.Goals as goal

pub loop-k-preserved : goal.loop-k-preserved
loop-k-preserved c =
    let rows = c.loop-k.out.rows in
    let at = c.args.i in
    let k = c.loop-k.k in
    let x = c.in_ok-number.number in
    let new : c.set.new.self.rows ≡ set rows at (set (get_or rows at []) k x) = c.set.ensures.rows in
    let many : length rows ≡ length c.args.out.now.rows = ap (λ (m : List (List Fraction)). length m) c.loop-k.invariant.others ∙ length-set _ at _ in
    let first : at < length c.args.out.now.rows = c.requires.i in
    let inside : at < length rows = omega (arith, many, first) in
    let in_row : k < length c.args.row.now = c.loop-k-test.true in
    let room : k < length (get_or rows at []) = omega (arith, in_row, c.loop-k.invariant.here, c.requires.row) in
    let in_leaving : k < length c.args.leaving.now = omega (arith, in_row, c.requires.row, c.requires.leaving) in
    let t = c.index-row-k.result in
    let o = c.index-leaving-k.result in
    let t_is : get_or c.args.row.now k t ≡ t = sym c.index-row-k.is in
    let o_is : get_or c.args.leaving.now k o ≡ o = sym c.index-leaving-k.is in
    let is : new_entry at c.args.col c.args.factor k (get_or c.args.row.now k t) (get_or c.args.leaving.now k o) ≡ Ok x =
    ap₂ (λ (a b : Fraction). new_entry at c.args.col c.args.factor k a b) t_is o_is ∙ sym c.new_entry.ensures ∙ c.in_ok-number.was in
    record {
      row = entry_done at c.args.col c.args.factor k t o c.args.row.now c.args.leaving.now _ rows _ at x in_row in_leaving inside room is new c.loop-k.invariant.row;
      others = others_stay c.args.out.now.rows rows _ at _ first c.loop-k.invariant.others new;
      here = width_stays rows _ at k _ x inside c.loop-k.invariant.here new;
      width = c.set.ensures.width ∙ c.loop-k.invariant.width;
    }

pub returns-clause-row : goal.returns-clause-row
returns-clause-row c =
    row_finished c.args.i c.args.col c.args.factor c.loop-k.k c.args.row.now c.args.leaving.now _ _ c.loop-k-test.false
    (let seen = c.loop-k-test.false in omega (arith, seen, c.loop-k.invariant.here, c.requires.row)) c.loop-k.invariant.row
