-- The worked example, evaluated.
use Rattle.std.proofs.Common.{refl}
use Rattle.qm_math.specs.Arithmetic.{inverse_of, negated, product_of, sum_of}
use Rattle.qm_frac.specs.Gcd.{gcd_of, gcd_within}
use Rattle.qm_frac.specs.Checked.{added, divided, multiplied, subtracted}
use Rattle.qm_frac.specs.Lowest.{lowest_parts}
use Rattle.qm_text.specs.Digits.{numeral_value}
use Rattle.qm_trees.specs.Leaves.{leaf_passes}
use Rattle.qm_trees.specs.Closing.{closing}
use Rattle.qm_trees.specs.Evaluation.{value_of}
use Rattle.qm_certread.specs.Examples.{AreJudgedSo}
use Rattle.qm_certread.specs.FirstFault.{first_fault}

pub worked : AreJudgedSo
unfolding first_fault leaf_passes closing value_of numeral_value gcd_within gcd_of added subtracted multiplied divided lowest_parts sum_of negated product_of inverse_of
worked = record {
  right = refl;
  value = refl;
  play = refl;
  count = refl;
  range = refl;
  choice = refl;
  leaf = refl;
  pick = refl;
  bound = refl;
  row = refl;
  number = refl;
  word = refl;
  line = refl;
}
