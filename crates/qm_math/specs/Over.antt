-- Fractions over one denominator.
use Rattle.std.specs.Prelude.{ℕ, ◌*◌, ℤ, pos, ◌*ℤ◌, List, [], ◌∷◌, map}
use Rattle.qm_math.specs.Fraction.{Fraction}

-- n / d
abbrev pub over : ℕ → ℤ → Fraction
over d n = record { num = n; den = d }

-- the product of the denominators
abbrev pub common_den : List Fraction → ℕ
common_den [] = 1
common_den (x ∷ xs) = x.den * common_den xs

-- the numerators over that product
abbrev pub common_nums : List Fraction → List ℤ
common_nums [] = []
common_nums (x ∷ xs) = (x.num *ℤ pos (common_den xs)) ∷ map (λ n. n *ℤ pos x.den) (common_nums xs)
