use Rattle.qm_math.proofs.Products.{*ℤ-nonneg, *ℤ-le, *ℤ-le_turned, zero_product}
use Rattle.qm_math.proofs.signs.products_of_whole_numbers_keep_orders.Goals as goal

pub returns-clause-nonneg : goal.returns-clause-nonneg
returns-clause-nonneg c = *ℤ-nonneg

pub returns-clause-kept : goal.returns-clause-kept
returns-clause-kept c = *ℤ-le

pub returns-clause-turned : goal.returns-clause-turned
returns-clause-turned c = *ℤ-le_turned

pub returns-clause-zero : goal.returns-clause-zero
returns-clause-zero c = zero_product
