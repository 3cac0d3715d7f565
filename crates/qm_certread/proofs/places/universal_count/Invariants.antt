use Rattle.std.proofs.Common.{◌≡◌, ◌+◌, ◌≤◌, drop}
use Rattle.qm_trees.specs.Picks.{universal_count}
use Rattle.qm_certread.proofs.places.universal_count.Given as goal

abbrev pub invariant-loop-var : goal.invariant-loop-var
invariant-loop-var l = record {
  few : l.count ≤ l.var-index;
  rest : l.count + universal_count (drop l.var-index l.vars) ≡ universal_count l.vars;
}
