use Rattle.std.proofs.Common.{◌≡◌, ◌++◌, map, take}
use Rattle.qm_math.specs.Fraction.{whole}
use Rattle.qm_tableau.proofs.entries.push_wholes.Given as goal

abbrev pub invariant-loop-number : goal.invariant-loop-number
invariant-loop-number l = l.out.items ≡ l.fn.out.items ++ map whole (take l.number-index l.numbers)
