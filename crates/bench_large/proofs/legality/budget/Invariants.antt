use Rattle.std.proofs.Common.{◌+◌}
use Rattle.bench_large.proofs.PlainGames.{AreTerms}
use Rattle.bench_large.proofs.legality.budget.Given as goal

abbrev pub invariant-loop-number : goal.invariant-loop-number
invariant-loop-number l = AreTerms (l.first + l.number) l.number l.terms.items
