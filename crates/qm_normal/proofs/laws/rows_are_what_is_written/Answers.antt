use Rattle.qm_normal.proofs.RowsWritten.{row_means}
use Rattle.qm_normal.proofs.laws.rows_are_what_is_written.Goals as goal

pub returns : goal.returns
returns c = row_means
