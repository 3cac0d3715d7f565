use Rattle.std.proofs.Common.{arith}
use Rattle.std.specs.Int.{w128}
use Rattle.std.proofs.lemmas.Nat.Bits.{bit_at-trailing_zeros}
use Rattle.qm_frac.proofs.Halving.{low_zeros}
use Rattle.qm_frac.proofs.gcds.odd_wide_part.Goals as goal

pub returns-clause-odd : goal.returns-clause-odd
returns-clause-odd c = (bit_at-trailing_zeros w128 c.args.n c.requires (omega arith)).1

pub returns-clause-part : goal.returns-clause-part
returns-clause-part c = low_zeros _ c.args.n (bit_at-trailing_zeros w128 c.args.n c.requires (omega arith)).2
