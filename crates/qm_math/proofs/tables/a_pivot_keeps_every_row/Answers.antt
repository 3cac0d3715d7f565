use Rattle.qm_math.proofs.Pivots.{row_value-pivoted_row}
use Rattle.qm_math.proofs.tables.a_pivot_keeps_every_row.Goals as goal

pub returns : goal.returns
returns c = row_value-pivoted_row
