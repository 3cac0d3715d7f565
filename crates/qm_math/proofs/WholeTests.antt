-- Tests of the order of whole numbers, as facts and back.
use Rattle.std.proofs.Common.{◌≡◌, true, false, arith, ℤ, ◌≤ℤ◌, ◌<ℤ◌}
use Rattle.std.specs.Prelude.{int_le, int_lt}
use Rattle.std.specs.Ordering.{int_eq}
use Rattle.std.proofs.lemmas.Int.{ints}

pub eq_of_test : (a b : ℤ) → int_eq a b ≡ true → a ≡ b
eq_of_test a b e = grind (arith, ints)

pub le_of_test : (a b : ℤ) → int_le a b ≡ true → a ≤ℤ b
le_of_test a b e = grind (arith, ints)

pub test_of_le : (a b : ℤ) → a ≤ℤ b → int_le a b ≡ true
test_of_le a b h = grind (arith, ints)

pub lt_of_test : (a b : ℤ) → int_lt a b ≡ true → a <ℤ b
lt_of_test a b e = grind (arith, ints)

pub test_of_lt : (a b : ℤ) → a <ℤ b → int_lt a b ≡ true
test_of_lt a b h = grind (arith, ints)

pub le_of_false : (a b : ℤ) → int_lt a b ≡ false → b ≤ℤ a
le_of_false a b e = grind (arith, ints)

pub false_of_le : (a b : ℤ) → a ≤ℤ b → int_lt b a ≡ false
false_of_le a b h = grind (arith, ints)
