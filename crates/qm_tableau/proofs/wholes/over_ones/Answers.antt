use Rattle.std.proofs.Common.{◌≡◌, ◌∙◌, ap, ap₂, ℕ, ◌∷◌, ◌≤◌, List, ℤ, pos, length, map, arith, add-one}
use Rattle.std.proofs.lemmas.List.{take_all}
use Rattle.qm_tableau.specs.StoredSteps.{WholeRows}
use Rattle.qm_tableau.specs.Tables.{rows_of}
use Rattle.qm_tableau.proofs.Cuts.{length_rows_of}
use Rattle.qm_tableau.proofs.RowLists.{count_more, rows_more}
use Rattle.qm_tableau.proofs.wholes.over_ones.Goals as goal

pub loop-i-preserved : goal.loop-i-preserved
loop-i-preserved c =
    let w = c.args.width in
    let n = c.args.height in
    let i = c.loop-i.i in
    let row = c.row_of.result.now in
    let r = c.row_of.ensures in
    record {
      rows = rows_more w n i c.args.numbers.now c.loop-i.out.items c.push_row.new.out.items row c.loop-i-test.true r.row r.width c.in_ok-push_row.ensures c.loop-i.invariant.count c.loop-i.invariant.rows;
      count = count_more w n i c.args.numbers.now c.loop-i.out.items c.push_row.new.out.items row c.loop-i-test.true r.row r.width c.in_ok-push_row.ensures c.loop-i.invariant.count;
    }

pub returns : goal.returns
returns c =
    let w = c.args.width in
    let n = c.args.height in
    let all = rows_of w n c.args.numbers.now in
    let pair : ℕ → List (List ℤ) → WholeRows = λ k rs. record { width = k; rows = rs } in
    let at_end : n ≡ c.loop-i.i = omega (arith, c.loop-i-test.false, c.loop-i.auto.i-end) in
    let many : length all ≤ c.loop-i.i = let m = length_rows_of w n c.args.numbers.now in omega (arith, m, c.loop-i-test.false) in
    c.new.ensures
    ∙ ap₂ pair (add-one w) (ap₂ (λ (k m : ℕ). rows_of k m c.loop-i.out.items) (add-one w) at_end ∙ c.loop-i.invariant.rows ∙ ap (map (λ row. pos 1 ∷ row)) (take_all c.loop-i.i all many))
