use Rattle.std.proofs.Common.{◌≡◌, ◌∙◌, ◌<◌, ◌+◌, sym, ap, length, List, ℕ}
use Rattle.qm_tableau.specs.Tables.{row_at}
use Rattle.qm_simplex.proofs.NumbersFor.{found_here, found_later}
use Rattle.qm_simplex.proofs.combination.number_for.Goals as goal

pub loop-k-preserved : goal.loop-k-preserved
loop-k-preserved c =
    let t = c.args.tableau.now in
    let columns = c.rows_of_columns-column-items.ensures in
    let inside : c.loop-k.k < length t.columns = rw columns at c.loop-k-test.true in
    sym (found_later c.args.i c.loop-k.k t.columns (row_at t.rows c.args.row) 0 inside (rw columns at c.if-column-i.false)) ∙ c.loop-k.invariant

pub returns-then-column-i : goal.returns-then-column-i
returns-then-column-i c =
    let t = c.args.tableau.now in
    let columns = c.rows_of_columns-column-items.ensures in
    let inside : c.loop-k.k < length t.columns = rw columns at c.loop-k-test.true in
    let here = found_here c.args.i c.loop-k.k t.columns (row_at t.rows c.args.row) 0 inside (rw columns at c.if-column-i.true) in
    c.entry.ensures ∙ sym here ∙ c.loop-k.invariant
