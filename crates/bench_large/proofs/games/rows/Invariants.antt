use Rattle.std.proofs.Common.{◌≡◌, length, All}
use Rattle.bench_large.specs.Games.{IsPlainRow}
use Rattle.bench_large.proofs.games.rows.Given as goal

abbrev pub invariant-loop : goal.invariant-loop
invariant-loop l = record { many : length l.rows ≡ l.counter; plain : All IsPlainRow l.rows }
