-- The greatest number that a certificate spells, signs aside.
use Rattle.std.specs.Prelude.{ℕ, ◌+◌, max, List, [], ◌∷◌, length, map, unsigned_abs}
use Rattle.qm_math.specs.Fraction.{Fraction}
use Rattle.qm_model.specs.declared.range.Range.{Range}
use Rattle.qm_model.specs.declared.row_id.RowId.{RowId}
use Rattle.qm_model.specs.declared.row_id.RowId.TheVariants as id
use Rattle.qm_trees.specs.declared.combination.Entry.{Entry}
use Rattle.qm_trees.specs.declared.empty.Empty.{Empty}
use Rattle.qm_trees.specs.declared.empty.Empty.TheOpen as none
use Rattle.qm_trees.specs.declared.empty.Empty.TheFolds.{fold-Empty, fold-EmptyPart}
use Rattle.qm_trees.specs.declared.empty.EmptyPart.{EmptyPart}
use Rattle.qm_trees.specs.declared.policy.Policy.{Policy}
use Rattle.qm_trees.specs.declared.policy.Below.{Below}
use Rattle.qm_trees.specs.declared.policy.Below.TheOpen as answer
use Rattle.qm_trees.specs.declared.policy.Below.TheFolds.{fold-Below, fold-Policy, fold-PolicyPart}
use Rattle.qm_trees.specs.declared.policy.PolicyPart.{PolicyPart}
use Rattle.qm_trees.specs.declared.refutation.Refute.{Refute}
use Rattle.qm_trees.specs.declared.refutation.Refute.TheOpen as why
use Rattle.qm_trees.specs.declared.refutation.Refute.TheFolds.{fold-Refute, fold-RefutePart}
use Rattle.qm_trees.specs.declared.refutation.RefutePart.{RefutePart}
use Rattle.qm_certfile.specs.declared.certificate.Certificate.{Certificate}
use Rattle.qm_certfile.specs.declared.certificate.Certificate.TheVariants as ending

abbrev pub greatest : List ℕ → ℕ
greatest [] = 0
greatest (n ∷ ns) = max n (greatest ns)

abbrev pub greatest_of_fraction : Fraction → ℕ
greatest_of_fraction a = max (unsigned_abs a.num) a.den

-- a row's number among its kind, counted from 1
abbrev pub number_of_row : RowId → ℕ
number_of_row (id.Row n) = n + 1
number_of_row (id.Uncertain n) = n + 1
number_of_row (id.Cut n) = n + 1

abbrev pub greatest_of_entry : Entry → ℕ
greatest_of_entry e = max (number_of_row e.row) (greatest_of_fraction e.by)

-- that of a part's range, and of what stands below
abbrev pub greatest_of_part : Range → ℕ → ℕ
greatest_of_part r below = max (max (unsigned_abs r.low) (unsigned_abs r.high)) below

-- ---- empty trees

abbrev pub empty_number_step : none.Empty-F ℕ ℕ → ℕ
empty_number_step (none.Split var parts) = max (var + 1) (max (length parts) (greatest parts))
empty_number_step (none.Close combo) = greatest (map greatest_of_entry combo.entries)

abbrev pub empty_part_number_step : none.EmptyPart-F ℕ ℕ → ℕ
empty_part_number_step part = greatest_of_part part.range part.below

abbrev pub greatest_in_empty : Empty → ℕ
greatest_in_empty = fold-Empty ℕ ℕ empty_number_step empty_part_number_step

abbrev pub greatest_in_empty_part : EmptyPart → ℕ
greatest_in_empty_part = fold-EmptyPart ℕ ℕ empty_number_step empty_part_number_step

-- ---- policies

abbrev pub policy_number_step : answer.Policy-F ℕ ℕ ℕ → ℕ
policy_number_step (answer.Choose value below) = max (unsigned_abs value) below
policy_number_step (answer.Answer parts) = max (length parts) (greatest parts)
policy_number_step (answer.Leaf point) = greatest (map greatest_of_fraction point)

abbrev pub policy_part_number_step : answer.PolicyPart-F ℕ ℕ ℕ → ℕ
policy_part_number_step part = greatest_of_part part.range part.below

abbrev pub below_number_step : answer.Below-F ℕ ℕ ℕ → ℕ
below_number_step (answer.On policy) = policy
below_number_step (answer.Illegal tree) = greatest_in_empty tree

abbrev pub greatest_in_policy : Policy → ℕ
greatest_in_policy = fold-Policy ℕ ℕ ℕ below_number_step policy_number_step policy_part_number_step

abbrev pub greatest_in_policy_part : PolicyPart → ℕ
greatest_in_policy_part = fold-PolicyPart ℕ ℕ ℕ below_number_step policy_number_step policy_part_number_step

abbrev pub greatest_in_below : Below → ℕ
greatest_in_below = fold-Below ℕ ℕ ℕ below_number_step policy_number_step policy_part_number_step

-- ---- refutations

abbrev pub refute_number_step : why.Refute-F ℕ ℕ → ℕ
refute_number_step (why.Over parts) = max (length parts) (greatest parts)
refute_number_step (why.Pick value completion below) = max (unsigned_abs value) (max (greatest (map unsigned_abs completion)) below)
refute_number_step (why.Close combo) = greatest (map greatest_of_entry combo.entries)

abbrev pub refute_part_number_step : why.RefutePart-F ℕ ℕ → ℕ
refute_part_number_step part = greatest_of_part part.range part.below

abbrev pub greatest_in_refute : Refute → ℕ
greatest_in_refute = fold-Refute ℕ ℕ refute_number_step refute_part_number_step

abbrev pub greatest_in_refute_part : RefutePart → ℕ
greatest_in_refute_part = fold-RefutePart ℕ ℕ refute_number_step refute_part_number_step

-- ---- certificates

abbrev pub greatest_number : Certificate → ℕ
greatest_number (ending.Optimal value legal policy refute) =
    max (greatest_of_fraction value) (max (greatest (map unsigned_abs legal)) (max (greatest_in_policy policy) (greatest_in_refute refute)))
greatest_number (ending.Infeasible legal refute) = max (greatest (map unsigned_abs legal)) (greatest_in_refute refute)
greatest_number (ending.Empty tree) = greatest_in_empty tree
