use Rattle.qm_math.proofs.Pivots.{row_value-shifted}
use Rattle.qm_math.proofs.tables.a_shift_keeps_every_row.Goals as goal

pub returns : goal.returns
returns c = row_value-shifted
