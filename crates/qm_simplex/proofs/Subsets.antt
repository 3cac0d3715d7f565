-- Sets of numbers below a bound as lists of 0 and 1, of which there are 2 to the bound.
use Rattle.std.proofs.Common.{◌≡◌, ◌∙◌, refl, sym, ap, ℕ, zero, suc, ◌*◌, ◌^◌, ◌<◌, ⊎_elim, Bool, true, false, nat_eq, eqb-true, List, [], ◌∷◌, get_or, All, Contains, arith, ℤ, pos}
use Rattle.std.specs.List.{list_any}
use Rattle.std.proofs.Math.Nat.{pow-succ'}
use Rattle.std.proofs.lemmas.Int.{ints}
use Rattle.std.proofs.lemmas.Bool.{cases_eq}
use Rattle.std.proofs.lemmas.List.Elements.{Contains-get_or}
use Rattle.std.proofs.lemmas.Map.Views.{Contains-from_any, list_any-from_Contains}
use Rattle.std.proofs.lemmas.Cmp.{nat_eq_equiv}
use Rattle.qm_math.specs.Ranges.{IsBetween}
use Rattle.qm_math.specs.Counts.{AreWithin, count_within}

-- whether the list has the number
abbrev pub has : List ℕ → ℕ → Bool
has xs n = list_any (nat_eq n) xs

-- 1 where it does
abbrev pub digit : Bool → ℤ
digit true = pos 1
digit false = pos 0

-- for each number below n, the greatest first, whether the list has it
abbrev pub digits_below : List ℕ → ℕ → List ℤ
digits_below xs zero = []
digits_below xs (suc n) = digit (has xs n) ∷ digits_below xs n

-- the ranges of n such digits
abbrev pub digit_ranges : ℕ → List (ℤ × ℤ)
digit_ranges zero = []
digit_ranges (suc n) = (pos 0, pos 1) ∷ digit_ranges n

digit_between : (b : Bool) → IsBetween (pos 0) (pos 1) (digit b)
digit_between true = (omega (arith, ints), omega (arith, ints))
digit_between false = (omega (arith, ints), omega (arith, ints))

digit_one : (a b : Bool) → digit a ≡ digit b → a ≡ b
digit_one true true e = refl
digit_one true false e = absurd (omega (arith, ints, e))
digit_one false true e = absurd (omega (arith, ints, e))
digit_one false false e = refl

pub digits_within : (xs : List ℕ) (n : ℕ) → AreWithin (digit_ranges n) (digits_below xs n)
digits_within xs zero = tt
digits_within xs (suc n) = (digit_between (has xs n), digits_within xs n)

pub count_digits : (n : ℕ) → count_within (digit_ranges n) ≡ 2 ^ n
count_digits zero = refl
count_digits (suc n) = ap (λ (m : ℕ). 2 * m) (count_digits n) ∙ sym (pow-succ' 2 n)

heads_one : (v w : ℤ) (vs ws : List ℤ) → v ∷ vs ≡ w ∷ ws → v ≡ w
heads_one v w vs ws e = cc

tails_one : (v w : ℤ) (vs ws : List ℤ) → v ∷ vs ≡ w ∷ ws → vs ≡ ws
tails_one v w vs ws e = cc

-- lists with the same digits have the same numbers below n
same_below : (xs ys : List ℕ) (n k : ℕ) → k < n → digits_below xs n ≡ digits_below ys n → has xs k ≡ has ys k
same_below xs ys zero k less e = absurd (omega (arith, less))
same_below xs ys (suc n) k less e =
    let first : digit (has xs n) ≡ digit (has ys n) = heads_one (digit (has xs n)) (digit (has ys n)) (digits_below xs n) (digits_below ys n) e in
    let rest : digits_below xs n ≡ digits_below ys n = tails_one (digit (has xs n)) (digit (has ys n)) (digits_below xs n) (digits_below ys n) e in
    ⊎_elim
    (λ (at : k ≡ n). ap (has xs) at ∙ digit_one (has xs n) (has ys n) first ∙ ap (has ys) (sym at))
    (λ (other : k ≡ n → ⊥). same_below xs ys n k (omega (arith, less, other)) rest) (cases_eq k n)

-- a list has all numbers of another list, all below n, with the same digits
pub contained_by_digits : (xs ys : List ℕ) (n : ℕ) → All (λ y. y < n) ys → digits_below xs n ≡ digits_below ys n → All (Contains xs) ys
contained_by_digits xs ys n below e k d inside =
    let y = get_or ys k d in
    let there : has ys y ≡ true = list_any-from_Contains nat_eq_equiv y ys (Contains-get_or ys k d inside) in
    Contains-from_any eqb-true y xs (same_below xs ys n y (below k d inside) e ∙ there)
