use Rattle.qm_math.proofs.Combinations.{dot_product-combined_row}
use Rattle.qm_math.proofs.tables.a_combination_has_the_rows_values.Goals as goal

pub returns : goal.returns
returns c = dot_product-combined_row
