-- The number in the column of a quantity, found column by column.
use Rattle.std.proofs.Common.{◌≡◌, ◌∙◌, refl, sym, ℕ, zero, suc, ◌+◌, ◌<◌, add-one, arith, List, [], ◌∷◌, length, get_or, drop, ap}
use Rattle.std.specs.Prelude.{if◌then◌else◌, ◌==◌, Bool, true, false, pos}
use Rattle.std.proofs.lemmas.Bool.{eq-eqb, ne_eqb}
use Rattle.qm_math.specs.Fraction.{Fraction, whole}
use Rattle.qm_simplex.specs.Multipliers.{number_for}

no_numbers : (i : ℕ) (columns : List ℕ) → number_for i columns [] ≡ whole (pos 0)
no_numbers i [] = refl
no_numbers i (c ∷ columns) = refl

either_way : (b : Bool) (x y : Fraction) → y ≡ x → x ≡ (if b then x else y)
either_way true x y same = refl
either_way false x y same = sym same

-- in column k, or in a later one
from : (i k : ℕ) (columns : List ℕ) (numbers : List Fraction) (d : ℕ) → k < length columns
    → number_for i (drop k columns) (drop k numbers)
    ≡ (let it : Fraction = if get_or columns k d == i then get_or numbers k (whole (pos 0)) else number_for i (drop (suc k) columns) (drop (suc k) numbers) in it)
from i k [] numbers d h = absurd (omega (arith, h))
from i zero (c ∷ columns) [] d h = either_way (c == i) (whole (pos 0)) (number_for i columns []) (no_numbers i columns)
from i (suc k) (c ∷ columns) [] d h =
    no_numbers i (drop k columns) ∙ either_way (get_or columns k d == i) (whole (pos 0)) (number_for i (drop (suc k) columns) []) (no_numbers i (drop (suc k) columns))
from i zero (c ∷ columns) (t ∷ numbers) d h = refl
from i (suc k) (c ∷ columns) (t ∷ numbers) d h = from i k columns numbers d (omega (arith, h))

pub found_here : (i k : ℕ) (columns : List ℕ) (row : List Fraction) (d : ℕ) → k < length columns
    → get_or columns k d ≡ i → number_for i (drop k columns) (drop k (drop 1 row)) ≡ get_or row (k + 1) (whole (pos 0))
found_here i k columns row d h is =
    let test : (get_or columns k d == i) ≡ true = eq-eqb (get_or columns k d) i is in
    let all = from i k columns (drop 1 row) d h in
    rw test at all ∙ behind row
  where
    behind : (xs : List Fraction) → get_or (drop 1 xs) k (whole (pos 0)) ≡ get_or xs (k + 1) (whole (pos 0))
    behind [] = refl
    behind (x ∷ xs) = ap (λ (n : ℕ). get_or (x ∷ xs) n (whole (pos 0))) (let e : suc k ≡ k + 1 = omega arith in e)

pub found_later : (i k : ℕ) (columns : List ℕ) (row : List Fraction) (d : ℕ) → k < length columns
    → (get_or columns k d ≡ i → ⊥) → number_for i (drop k columns) (drop k (drop 1 row)) ≡ number_for i (drop (k + 1) columns) (drop (k + 1) (drop 1 row))
found_later i k columns row d h other =
    let test : (get_or columns k d == i) ≡ false = ne_eqb (get_or columns k d) i other in
    let all = from i k columns (drop 1 row) d h in
    rw add-one (rw test at all)
