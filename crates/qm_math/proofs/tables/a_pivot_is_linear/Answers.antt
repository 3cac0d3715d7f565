use Rattle.qm_math.proofs.Pivots.{pivoted_number-dot_product}
use Rattle.qm_math.proofs.tables.a_pivot_is_linear.Goals as goal

pub returns : goal.returns
returns c = pivoted_number-dot_product
