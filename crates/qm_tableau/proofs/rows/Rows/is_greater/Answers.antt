use Rattle.std.proofs.Common.{subst, pos, List}
use Rattle.qm_math.specs.Fraction.{Fraction}
use Rattle.qm_tableau.specs.Tables.{entry_at}
use Rattle.std.proofs.Common.{◌<ℤ◌}
use Rattle.qm_tableau.proofs.KeptRows.{entry_positive, rows_inside}
use Rattle.qm_tableau.proofs.rows.Rows.is_greater.Goals as goal

pub is_greater_in_wholes-requires-clause-by : goal.is_greater_in_wholes-requires-clause-by
is_greater_in_wholes-requires-clause-by c =
    let r = c.self.inside in
    let i = c.args.row in
    let k = c.args.k in
    let s = rows_inside r.is_whole r.wholes r.others r.fractions r.spare c.args.self.now i k c.if-self.true c.self.invariant c.self.view_is c.requires.row c.requires.k c.row.result.now c.row.ensures.row c.row.ensures.width in
    rw c.row.ensures.row (entry_positive r.wholes.rows i k s.row s.small s.column
    (subst (λ (rs : List (List Fraction)). pos 0 <ℤ (entry_at rs i k).num) s.rows c.requires.by))

pub is_greater_in_wholes-requires-clause-best_by : goal.is_greater_in_wholes-requires-clause-best_by
is_greater_in_wholes-requires-clause-best_by c =
    let r = c.self.inside in
    let i = c.args.row in
    let k = c.args.best in
    let s = rows_inside r.is_whole r.wholes r.others r.fractions r.spare c.args.self.now i k c.if-self.true c.self.invariant c.self.view_is c.requires.row c.requires.best c.row.result.now c.row.ensures.row c.row.ensures.width in
    rw c.row.ensures.row (entry_positive r.wholes.rows i k s.row s.small s.column
    (subst (λ (rs : List (List Fraction)). pos 0 <ℤ (entry_at rs i k).num) s.rows c.requires.best_by))
