-- The whole numbers from a low end to a high end; there are none where the low end is the greater.
use Rattle.std.specs.Prelude.{ℕ, zero, suc, max, Bool, false, ◌||◌, ℤ, pos, negsuc, ◌+ℤ◌, ◌-ℤ◌, ◌*ℤ◌, ◌≤ℤ◌, unsigned_abs}

abbrev pub IsBetween : ℤ → ℤ → ℤ → Type 0
IsBetween low high v = (low ≤ℤ v) × (v ≤ℤ high)

-- a number, or 0 where it is negative
abbrev pub count_of : ℤ → ℕ
count_of (pos n) = n
count_of (negsuc n) = 0

-- how many numbers there are from low to high
abbrev pub size_of : ℤ → ℤ → ℕ
size_of low high = count_of ((high +ℤ pos 1) -ℤ low)

-- one of the n numbers from low on passes the test
abbrev pub some_of : (ℤ → Bool) → ℤ → ℕ → Bool
some_of test low zero = false
some_of test low (suc n) = test low || some_of test (low +ℤ pos 1) n

-- one of the numbers from low to high passes the test
abbrev pub some_between : (ℤ → Bool) → ℤ → ℤ → Bool
some_between test low high = some_of test low (size_of low high)

-- how far from 0 the numbers of a range can get: the largest of 1 and the magnitudes of the ends
abbrev pub reach : ℤ → ℤ → ℕ
reach low high = max 1 (max (unsigned_abs low) (unsigned_abs high))

-- k times the end that makes it least: the low end unless k is negative, also where the range is empty
abbrev pub least_product : ℤ → ℤ → ℤ → ℤ
least_product (pos n) low high = pos n *ℤ low
least_product (negsuc n) low high = negsuc n *ℤ high

-- k times the end that makes it greatest
abbrev pub greatest_product : ℤ → ℤ → ℤ → ℤ
greatest_product (pos n) low high = pos n *ℤ high
greatest_product (negsuc n) low high = negsuc n *ℤ low
