-- What the operations answer: the exact fraction, or which operation leaves the range and with which operands.
use Rattle.std.specs.Prelude.{Bool, nat_lt, ◌&&◌, ◌^◌, Result, Ok, Err, if◌then◌else◌, unsigned_abs, ◌+ℤ◌}
use Rattle.qm_math.specs.Fraction.{Fraction}
use Rattle.qm_frac.specs.Arithmetic.{sum, product, difference, quotient, negated, common_den, left_num, right_num}
use Rattle.qm_frac.specs.declared.leaves.Leaves.{Leaves}
use Rattle.qm_frac.specs.declared.leaves.Op.TheVariants as op

-- the test of SumFits
abbrev pub sum_fits : Fraction → Fraction → Bool
sum_fits a b =
    nat_lt (common_den a b) (2 ^ 127) && nat_lt (unsigned_abs (left_num a b)) (2 ^ 127)
    && nat_lt (unsigned_abs (right_num a b)) (2 ^ 127) && nat_lt (unsigned_abs (left_num a b +ℤ right_num a b)) (2 ^ 127)

-- the test of IsInRange
abbrev pub is_in_range : Fraction → Bool
is_in_range r = nat_lt (unsigned_abs r.num) (2 ^ 127) && nat_lt r.den (2 ^ 127)

-- a value, or the first operation on the way to it that leaves
abbrev pub Checked : Type 0 → Type 0
Checked A = Result A Leaves

-- the next step, where the one before didn't leave
abbrev pub and_then : {A B : Type 0} → Result A Leaves → (A → Result B Leaves) → Result B Leaves
and_then (Ok x) next = next x
and_then (Err leaves) next = Err leaves

unfoldable pub added : Fraction → Fraction → Checked Fraction
added a b = if sum_fits a b then Ok (sum a b) else Err (record { op = op.Add; left = a; right = b })

-- leaves where adding the negated b leaves
unfoldable pub subtracted : Fraction → Fraction → Checked Fraction
subtracted a b = if sum_fits a (negated b) then Ok (difference a b) else Err (record { op = op.Sub; left = a; right = b })

unfoldable pub multiplied : Fraction → Fraction → Checked Fraction
multiplied a b = if is_in_range (product a b) then Ok (product a b) else Err (record { op = op.Mul; left = a; right = b })

-- for a b that isn't 0
unfoldable pub divided : Fraction → Fraction → Checked Fraction
divided a b = if is_in_range (quotient a b) then Ok (quotient a b) else Err (record { op = op.Div; left = a; right = b })
