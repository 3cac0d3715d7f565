-- What a coefficient comes to at the ends of a range: at coefficient 0 it is 0.
use Rattle.std.proofs.Common.{◌≡◌, ℕ, arith, ℤ, pos}
use Rattle.std.proofs.lemmas.Int.{ints}
use Rattle.qm_math.specs.Ranges.{greatest_product, least_product, reach}
use Rattle.qm_model.specs.declared.range.Range.{Range}

abbrev pub some_range : Range
some_range = record { low = pos 0; high = pos 0 }

abbrev pub reach_of : Range → ℕ
reach_of r = reach r.low r.high

abbrev pub least_at : ℤ → Range → ℤ
least_at k r = least_product k r.low r.high

abbrev pub greatest_at : ℤ → Range → ℤ
greatest_at k r = greatest_product k r.low r.high

pub least_at-zero : (r : Range) → least_at (pos 0) r ≡ pos 0
least_at-zero r = omega (arith, ints)

pub greatest_at-zero : (r : Range) → greatest_at (pos 0) r ≡ pos 0
greatest_at-zero r = omega (arith, ints)
