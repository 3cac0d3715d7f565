use Rattle.std.proofs.Common.{◌≡◌, ◌++◌, ◌≤◌, ℕ, drop}
use Rattle.qm_model.specs.Linear.{IsOrderedFrom, coefficient}
use Rattle.qm_tableau.specs.FirstTable.{raises}
use Rattle.qm_tableau.proofs.beginning.raises.Given as goal

abbrev pub invariant-loop-var : goal.invariant-loop-var
invariant-loop-var l = record {
  done : l.highs ++ raises l.objective l.var (drop l.var l.bx) ≡ raises l.objective 0 l.bx;
  ordered : IsOrderedFrom l.var l.rest;
  same : (v : ℕ) → l.var ≤ v → coefficient l.rest v ≡ coefficient l.objective v;
}
