use Rattle.std.proofs.Common.{◌≡◌, length, All}
use Rattle.bench_large.specs.Games.{AreUniversal, IsPlain}
use Rattle.bench_large.proofs.games.variables.Given as goal

abbrev pub invariant-loop-number : goal.invariant-loop-number
invariant-loop-number l = record {
  many : length l.vars ≡ l.number;
  plain : All IsPlain l.vars;
  universal : AreUniversal l.universals l.vars;
}
