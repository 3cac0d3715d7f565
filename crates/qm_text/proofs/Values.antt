-- The number that digits spell, digit by digit.
use Rattle.std.proofs.Common.{◌≡◌, ℕ, suc, ◌+◌, ◌-◌, ◌*◌, ◌^◌, ◌<◌, List, [], ◌∷◌, ◌++◌, length, take, get_or, min, ap, ◌∙◌, arith}
use Rattle.std.proofs.lemmas.List.{length-append, take_more}
use Rattle.std.proofs.Math.Nat.{pow-succ'}
use Rattle.qm_text.specs.Digits.{numeral_value}

-- one digit more
pub numeral_value-push : (digits : List ℕ) (digit : ℕ) → numeral_value (digits ++ digit ∷ []) ≡ numeral_value digits * 10 + (digit - 48)
unfolding numeral_value
numeral_value-push [] digit = omega arith
numeral_value-push (first ∷ digits) digit =
    let more : length (digits ++ digit ∷ []) ≡ suc (length digits) = omega (arith, length-append digits (digit ∷ [])) in
    let power : 10 ^ length (digits ++ digit ∷ []) ≡ 10 * 10 ^ length digits = ap (λ n. 10 ^ n) more ∙ pow-succ' 10 (length digits) in
    let others = numeral_value-push digits digit in
    let spread : (first - 48) * 10 ^ length (digits ++ digit ∷ []) ≡ (first - 48) * (10 * 10 ^ length digits) = ap (λ n. (first - 48) * n) power in
    omega (arith, spread, others)

-- one digit more, as far as a bound goes
pub capped_more : (digits : List ℕ) (i cap n : ℕ) → 0 < cap → n ≡ min (numeral_value (take i digits)) cap → i < length digits
    → min (n * 10 + (get_or digits i 0 - 48)) cap ≡ min (numeral_value (take (i + 1) digits)) cap
capped_more digits i cap n some so_far h =
    let more = ap numeral_value (take_more digits i 0 h) ∙ numeral_value-push (take i digits) (get_or digits i 0) in
    omega (arith, more)
