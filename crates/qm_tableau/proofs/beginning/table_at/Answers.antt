use Rattle.std.proofs.Common.{◌≡◌, ◌∙◌, length, ℕ, List, ap, arith, refl, suc, sym}
use Rattle.qm_tableau.specs.Tables.{Numbers}
use Rattle.qm_tableau.proofs.Rooms.{few_ranges, length_columns, room_for_rows}
use Rattle.qm_tableau.proofs.beginning.table_at.Goals as goal

pub new-requires-clause-columns : goal.new-requires-clause-columns
new-requires-clause-columns c =
    let many : length c.in_ok-columns.columns ≡ length c.args.highs.now =
    ap (λ (cs : List ℕ). length cs) c.in_ok-columns.ensures ∙ length_columns 0 c.args.highs.now in
    let few = few_ranges c.args.problem.now c.args.problem.now c.args.bx.now c.args.bx.now c.requires.sound refl c.requires.ranges refl in
    omega (arith, many, few, c.requires.highs)

pub new-requires-clause-width : goal.new-requires-clause-width
new-requires-clause-width c =
    let many : length c.in_ok-columns.columns ≡ length c.args.highs.now =
    ap (λ (cs : List ℕ). length cs) c.in_ok-columns.ensures ∙ length_columns 0 c.args.highs.now in
    ap (λ (n : Numbers). n.width) c.in_ok-numbers.ensures.rows ∙ ap suc (sym many)

pub first_numbers-requires-clause-cuts : goal.first_numbers-requires-clause-cuts
first_numbers-requires-clause-cuts c =
    rw (c.as_slice.ensures, c.in_ok-values.ensures)
    (room_for_rows c.args.problem.now.vars c.args.bx.now c.args.highs.now c.requires.ranges c.requires.highs c.args.cuts.now c.requires.cuts)
