use Rattle.std.proofs.Common.{◌≡◌, ◌++◌, ◌≤◌, ℕ, drop}
use Rattle.qm_model.specs.Linear.{IsOrderedFrom, coefficient}
use Rattle.qm_tableau.specs.Quantities.{turned}
use Rattle.qm_tableau.specs.FirstTable.{numbers_from}
use Rattle.qm_tableau.proofs.first_rows.push_numbers.Given as goal

abbrev pub invariant-loop-var : goal.invariant-loop-var
invariant-loop-var l = record {
  done : l.entries ++ numbers_from (λ v. turned l.less (coefficient l.terms v)) l.var (drop l.var l.highs)
      ≡ l.fn.entries ++ numbers_from (λ v. turned l.less (coefficient l.terms v)) 0 l.highs;
  ordered : IsOrderedFrom l.var l.rest;
  same : (v : ℕ) → l.var ≤ v → coefficient l.rest v ≡ coefficient l.terms v;
}
