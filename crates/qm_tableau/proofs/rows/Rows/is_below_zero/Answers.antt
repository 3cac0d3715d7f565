use Rattle.std.proofs.Common.{◌∙◌, ◌<◌, ◌+◌, sym, ap, add-one, arith, ℕ, pos, List, [], length, get_or}
use Rattle.std.specs.Prelude.{int_lt}
use Rattle.qm_math.specs.Fraction.{Fraction}
use Rattle.qm_tableau.specs.Tables.{entry_at}
use Rattle.qm_tableau.specs.Wholes.{at_place}
use Rattle.qm_tableau.proofs.SmallNumbers.{passed_64}
use Rattle.qm_tableau.proofs.KeptRows.{below_entry, rows_inside}
use Rattle.qm_tableau.proofs.rows.Rows.is_below_zero.Goals as goal

pub returns-then-self : goal.returns-then-self
returns-then-self c =
    let r = c.self.inside in
    let k = c.args.k in
    let row = get_or r.wholes.rows c.args.i [] in
    let s = rows_inside r.is_whole r.wholes r.others r.fractions r.spare c.args.self.now c.args.i k c.if-self.true c.self.invariant c.self.view_is c.requires.row c.requires.column c.row.result.now c.row.ensures.row c.row.ensures.width in
    let in_row : k + 1 < length row = omega (arith, s.column) in
    rw (c.row.ensures.row, passed_64 (at_place row (k + 1)) ((s.small c.args.i [] s.row).small (k + 1) (pos 0) in_row))
    (ap (λ (n : ℕ). int_lt (at_place row n) (pos 0)) (add-one k)
    ∙ sym (below_entry r.wholes.rows c.args.i k s.row s.small s.column)
    ∙ ap (λ (rs : List (List Fraction)). int_lt (entry_at rs c.args.i k).num (pos 0)) (sym s.rows))
