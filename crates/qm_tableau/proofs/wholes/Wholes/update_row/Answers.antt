use Rattle.std.proofs.Common.{◌≡◌, ap, arith, length}
use Rattle.qm_tableau.specs.StoredSteps.{WholeRows}
use Rattle.qm_tableau.specs.Tables.{rows_of}
use Rattle.qm_tableau.proofs.Cuts.{length_rows_of}
use Rattle.qm_tableau.proofs.wholes.Wholes.update_row.Goals as goal

pub update_at-requires-clause-i : goal.update_at-requires-clause-i
update_at-requires-clause-i c =
    let g = c.self.inside in
    let many = length_rows_of g.width g.height g.numbers.items in
    let seen : length (rows_of g.width g.height g.numbers.items) ≡ length c.args.self.now.rows = ap (λ (f : WholeRows). length f.rows) c.self.view_is in
    omega (arith, many, seen, c.requires.i)
