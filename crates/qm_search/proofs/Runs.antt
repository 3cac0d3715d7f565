-- Runs through the values of a variable, from a start on and then those before it.
use Rattle.std.proofs.Common.{◌≡◌, arith, ℤ, pos, ◌-ℤ◌, ◌≤ℤ◌, ◌<ℤ◌}
use Rattle.std.proofs.lemmas.Int.{ints}
use Rattle.qm_model.specs.declared.range.Range.{Range}
use Rattle.qm_search.specs.PartSteps.{IsPast, IsStart}

-- the start is in the range where anything is past it
start_before : (r : Range) (start next : ℤ) → IsStart r start → r.high <ℤ next → r.low <ℤ next → start <ℤ next
start_before r start next is above some = grind (arith, ints, is.from, is.within, above, some)

-- the number past the values from the start on is past the range's
pub past_all : (r : Range) (start next : ℤ) → IsStart r start → IsPast (record { low = start; high = r.high }) next → IsPast r next
past_all r start next is past = record {
  above = past.above;
  near = λ some. past.near (start_before r start next is past.above some);
}

-- the number past the values before the start is the start
pub past_before : (low start next : ℤ) → low <ℤ start → IsPast (record { low = low; high = start -ℤ pos 1 }) next → next ≡ start
past_before low start next less past =
    let above : start ≤ℤ next = omega (arith, ints, past.above) in
    omega (arith, ints, above, past.near (omega (arith, ints, above, less)))
