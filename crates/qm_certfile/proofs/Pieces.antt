-- Pieces of their types, and the numbers that they spell.
use Rattle.std.proofs.Common.{◌≡◌, ℕ, suc, ◌<◌, ℤ, pos, negsuc, List, [], ◌∷◌, ◌++◌, map, sym, subst, arith, unsigned_abs}
use Rattle.std.specs.Prelude.{All, ◌^◌, max}
use Rattle.qm_math.specs.Fraction.{Fraction}
use Rattle.qm_frac.specs.Lowest.{IsFrac}
use Rattle.qm_model.specs.declared.row_id.RowId.{RowId}
use Rattle.qm_model.specs.declared.row_id.RowId.TheVariants as id
use Rattle.qm_trees.specs.declared.combination.Entry.{Entry}
use Rattle.qm_certfile.specs.Numbers.{greatest, greatest_of_entry, greatest_of_fraction, number_of_row}
use Rattle.qm_certfile.specs.WellFormed.{AreOfType, IsEntry, IsOfType, IsWhole, Number, Piece, Whole, position_of, together}

pub both_of_type : (xs ys : List Piece) → AreOfType (xs ++ ys) → AreOfType xs × AreOfType ys
both_of_type [] ys h = (tt, h)
both_of_type (x ∷ xs) ys h =
    let rest = both_of_type xs ys h.1 in
    ((h.0, rest.0), rest.1)

pub joined_of_type : (xs ys : List Piece) → AreOfType xs → AreOfType ys → AreOfType (xs ++ ys)
joined_of_type [] ys h k = k
joined_of_type (x ∷ xs) ys h k = (h.0, joined_of_type xs ys h.1 k)

pub together_of_type : {A : Type 0} (f : A → List Piece) (xs : List A) → All (λ x. AreOfType (f x)) xs → AreOfType (together (map f xs))
together_of_type f [] h = tt
together_of_type f (x ∷ xs) h = joined_of_type (f x) (together (map f xs)) (h 0 x (omega arith)) (together_of_type f xs (λ k d l. h (suc k) d (omega (arith, l))))

pub numbers_of_type : (xs : List Fraction) → All IsFrac xs → AreOfType (map Number xs)
numbers_of_type [] h = tt
numbers_of_type (x ∷ xs) h = (h 0 x (omega arith), numbers_of_type xs (λ k d l. h (suc k) d (omega (arith, l))))

pub wholes_of_type : (xs : List ℤ) → All IsWhole xs → AreOfType (map Whole xs)
wholes_of_type [] h = tt
wholes_of_type (x ∷ xs) h = (h 0 x (omega arith), wholes_of_type xs (λ k d l. h (suc k) d (omega (arith, l))))

-- ---- the numbers that are spelled

pub whole_bound : (z : ℤ) → IsWhole z → unsigned_abs z < 10 ^ 64
whole_bound (pos n) h = omega arith
whole_bound (negsuc n) h = omega arith

pub fraction_bound : (a : Fraction) → IsFrac a → greatest_of_fraction a < 10 ^ 64
fraction_bound a h = let num = h.num_fits in let den = h.den_fits in omega arith

row_bound : (r : RowId) → position_of r < 2 ^ 32 → number_of_row r < 10 ^ 64
row_bound (id.Row n) h = omega arith
row_bound (id.Uncertain n) h = omega arith
row_bound (id.Cut n) h = omega arith

pub entries_bound : (es : List Entry) → All IsEntry es → greatest (map greatest_of_entry es) < 10 ^ 64
entries_bound [] h = omega arith
entries_bound (e ∷ es) h =
    let row = row_bound e.row (h 0 e (omega arith)).0 in
    let by = fraction_bound e.by (h 0 e (omega arith)).1 in
    let rest = entries_bound es (λ k d l. h (suc k) d (omega (arith, l))) in
    omega arith

pub wholes_bound : (xs : List ℤ) → AreOfType (map Whole xs) → greatest (map unsigned_abs xs) < 10 ^ 64
wholes_bound [] h = omega arith
wholes_bound (x ∷ xs) h = let first = whole_bound x h.0 in let rest = wholes_bound xs h.1 in omega arith

pub numbers_bound : (xs : List Fraction) → AreOfType (map Number xs) → greatest (map greatest_of_fraction xs) < 10 ^ 64
numbers_bound [] h = omega arith
numbers_bound (x ∷ xs) h = let first = fraction_bound x h.0 in let rest = numbers_bound xs h.1 in omega arith

-- ---- trees

-- of a tree that is of its types no number has more than 64 digits
abbrev pub IsBounded : (A : Type 0) → (A → List Piece) → (A → ℕ) → A → Type 0
IsBounded A pieces size a = AreOfType (pieces a) → size a < 10 ^ 64

pub parts_bound : (A : Type 0) (pieces : A → List Piece) (size : A → ℕ) (ps : List ((a : A) × IsBounded A pieces size a))
    → AreOfType (together (map pieces (map (λ e. e.0) ps))) → greatest (map size (map (λ e. e.0) ps)) < 10 ^ 64
parts_bound A pieces size [] h = omega arith
parts_bound A pieces size (p ∷ ps) h =
    let both = both_of_type (pieces p.0) (together (map pieces (map (λ e. e.0) ps))) h in
    let first = p.1 both.0 in
    let rest = parts_bound A pieces size ps both.1 in
    omega arith

-- what holds of a layer, holds of a tree
pub bound_by_layer : (A L : Type 0) (pieces : A → List Piece) (size : A → ℕ) (roll : L → A) (layer_pieces : L → List Piece) (layer_size : L → ℕ)
    → ((z : L) → pieces (roll z) ≡ layer_pieces z) → ((z : L) → size (roll z) ≡ layer_size z) → (z : L)
    → (AreOfType (layer_pieces z) → layer_size z < 10 ^ 64) → IsBounded A pieces size (roll z)
bound_by_layer A L pieces size roll layer_pieces layer_size pieces_are size_is z bound = λ h.
    subst (λ n. n < 10 ^ 64) (sym (size_is z)) (bound (subst AreOfType (pieces_are z) h))
