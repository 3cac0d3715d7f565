use Rattle.std.proofs.Common.{◌≡◌, take, map}
use Rattle.qm_legal.specs.Queries.{low_of}
use Rattle.qm_search.proofs.mixed.prefix_of.Given as goal

abbrev pub invariant-loop-range : goal.invariant-loop-range
invariant-loop-range l = l.prefix ≡ map low_of (take l.range-index l.set)
