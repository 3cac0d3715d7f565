use Rattle.qm_math.proofs.WholeRows.{dot_product-floor}
use Rattle.qm_math.proofs.tables.a_whole_row_is_rounded_down.Goals as goal

pub returns : goal.returns
returns c = dot_product-floor
