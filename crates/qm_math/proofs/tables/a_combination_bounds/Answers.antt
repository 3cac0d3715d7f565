use Rattle.qm_math.proofs.Combinations.{dot_product-combined_row-at_most}
use Rattle.qm_math.proofs.tables.a_combination_bounds.Goals as goal

pub returns : goal.returns
returns c = dot_product-combined_row-at_most
