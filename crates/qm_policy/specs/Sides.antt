-- The least and the greatest value of a term over a range.
use Rattle.std.specs.Prelude.{ℤ}
use Rattle.qm_model.specs.declared.range.Range.{Range}
use Rattle.qm_trees.specs.Evaluation.{least_end_by, greatest_end_by}
use Rattle.qm_policy.specs.declared.sides.Side.{Side}
use Rattle.qm_policy.specs.declared.sides.Side.TheVariants.{Least, Greatest}

-- the end of a range that makes a multiple of a coefficient least or greatest
abbrev pub end_by : Side → ℤ → Range → ℤ
end_by Least k r = least_end_by k r
end_by Greatest k r = greatest_end_by k r
