use Rattle.std.proofs.Common.{arith}
use Rattle.qm_model.proofs.Sizes.{reach_in_values_le, row_size_le}
use Rattle.qm_model.specs.Sizes.{reach_in_values}
use Rattle.probe_games.proofs.rows.value_word.Goals as goal

pub form_at-value-requires-clause-size : goal.form_at-value-requires-clause-size
form_at-value-requires-clause-size c =
    let size = row_size_le c.args.vars.now c.args.row.now (reach_in_values c.args.values.now) c.requires.row (reach_in_values_le c.args.vars.now c.args.values.now c.requires.within) in
    rw c.as_slice.ensures.items (omega (arith, size))

pub row_holds-requires-clause-size : goal.row_holds-requires-clause-size
row_holds-requires-clause-size c =
    row_size_le c.args.vars.now c.args.row.now (reach_in_values c.args.values.now) c.requires.row (reach_in_values_le c.args.vars.now c.args.values.now c.requires.within)
