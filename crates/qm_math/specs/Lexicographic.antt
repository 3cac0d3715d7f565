-- Lists of fractions in lexicographic order.
use Rattle.std.specs.Prelude.{pos, ◌⊎◌, List, [], ◌∷◌}
use Rattle.qm_math.specs.Fraction.{Fraction, whole, IsBelow, IsSame}

-- the first number that is not 0 is negative, and there is one
abbrev pub IsLexNegative : List Fraction → Type 0
IsLexNegative [] = ⊥
IsLexNegative (x ∷ xs) = IsBelow x (whole (pos 0)) ⊎ (IsSame x (whole (pos 0)) × IsLexNegative xs)

-- in the first place where the lists differ the first has the lesser number, and there is such a place
abbrev pub IsLexBelow : List Fraction → List Fraction → Type 0
IsLexBelow [] ys = ⊥
IsLexBelow (x ∷ xs) [] = ⊥
IsLexBelow (x ∷ xs) (y ∷ ys) = IsBelow x y ⊎ (IsSame x y × IsLexBelow xs ys)
