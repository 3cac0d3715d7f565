-- What the search finds, from its pieces.
use Rattle.std.proofs.Common.{◌≡◌, ap, ℕ, ◌+◌, List, set, arith, ℤ, ◌≤ℤ◌, Some}
use Rattle.std.proofs.lemmas.Int.{ints}
use Rattle.qm_model.specs.declared.range.Range.{Range}
use Rattle.qm_model.specs.declared.variable.Var.{Var}
use Rattle.qm_model.specs.declared.game.Problem.{Problem}
use Rattle.qm_trees.specs.declared.empty.Empty.{Empty}
use Rattle.qm_trees.specs.declared.empty.EmptyPart.{EmptyPart}
use Rattle.qm_trees.specs.EmptyJudgement.{range_of, below_of}
use Rattle.qm_legal.specs.Queries.{Shows}
use Rattle.qm_legal.specs.SearchSteps.{IsFoundPart}

module _ (P : Problem) (later : List Var) (depth : ℕ) (bx : List Range) where
  -- the part of a value below which a tree was found
  pub part_found : (run : Range) (below : Empty) (part : EmptyPart) (after : List Range) (last : ℤ) → run.low ≡ run.high → run.high ≤ℤ last → Shows P later (depth + 1) (set bx depth run) below
      → range_of part ≡ run → below_of part ≡ below → after ≡ bx → IsFoundPart P later depth bx after run.low last (Some part)
  part_found run below part after last single within shows range_is below_is same = (
    record {
      low = ap (λ (r : Range). r.low) range_is;
      some = rw range_is (omega (arith, ints, single));
      high = rw range_is within;
      below = rw (range_is, below_is) shows;
    },
    same,
  )
