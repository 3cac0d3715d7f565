use Rattle.std.proofs.Common.{◌≡◌, ◌++◌, drop, map}
use Rattle.qm_model.specs.Legal.{universal_part}
use Rattle.qm_legal.specs.Queries.{low_of}
use Rattle.qm_legal.proofs.completion.universal_lows.Given as goal

abbrev pub invariant-loop-at : goal.invariant-loop-at
invariant-loop-at l = l.values ++ universal_part (drop l.at l.vars) (map low_of (drop l.at l.bx)) ≡ universal_part l.vars (map low_of l.bx)
