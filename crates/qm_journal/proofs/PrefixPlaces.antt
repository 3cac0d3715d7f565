-- The place of a list of values among all that the first variables have: 0 for the empty list.
use Rattle.std.proofs.Common.{◌≡◌, ◌∙◌, sym, refl, ap, ap₂, ℕ, suc, ◌+◌, ◌*◌, ◌/◌, ◌<◌, ◌≤◌, arith, mul-le-mul_right, List, [], ◌∷◌, ◌++◌, ℤ, ◌-ℤ◌}
use Rattle.std.proofs.lemmas.Nat.{div-mul-add}
use Rattle.qm_math.specs.Ranges.{IsBetween, count_of, size_of}
use Rattle.qm_math.proofs.Counts.{place_within-below, place_within-one}
use Rattle.qm_math.proofs.Lists.{cons-first}
use Rattle.qm_model.specs.declared.variable.Var.{Var}
use Rattle.qm_model.specs.Plays.{BeginWithin}
use Rattle.qm_journal.specs.Enough.{prefix_count}

abbrev pub place : List Var → List ℤ → ℕ
place xs [] = 0
place [] (v ∷ vs) = 0
place (x ∷ xs) (v ∷ vs) = 1 + (count_of (v -ℤ x.low) * prefix_count xs + place xs vs)

-- a row of a table and a place in it
pub row-one : (q p r s m : ℕ) → p < m → s < m → q * m + p ≡ r * m + s → (q ≡ r) × (p ≡ s)
row-one q p r s m h k e =
    let rows : q ≡ r = sym (div-mul-add q m p h) ∙ ap (λ n. n / m) e ∙ div-mul-add r m s k in
    (rows, omega (arith, e, ap (λ n. n * m) rows))

pub prefix_count-some : (xs : List Var) → 0 < prefix_count xs
prefix_count-some [] = omega arith
prefix_count-some (x ∷ xs) = omega arith

pub place-below : (xs : List Var) (vs : List ℤ) → BeginWithin xs vs → place xs vs < prefix_count xs
place-below xs [] h = prefix_count-some xs
place-below [] (v ∷ vs) h = absurd h
place-below (x ∷ xs) (v ∷ vs) h =
    let first : count_of (v -ℤ x.low) < size_of x.low x.high = omega (arith, place_within-below ((x.low, x.high) ∷ []) (v ∷ []) (h.0, tt)) in
    let rows : suc (count_of (v -ℤ x.low)) * prefix_count xs ≤ size_of x.low x.high * prefix_count xs = mul-le-mul_right (prefix_count xs) first in
    omega (arith, rows, place-below xs vs h.1)

-- a place is that of one list
pub place-one : (xs : List Var) (vs ws : List ℤ) → BeginWithin xs vs → BeginWithin xs ws → place xs vs ≡ place xs ws → vs ≡ ws
place-one xs [] [] h k e = refl
place-one [] [] (w ∷ ws) h k e = absurd k
place-one (x ∷ xs) [] (w ∷ ws) h k e = absurd (omega (arith, e))
place-one [] (v ∷ vs) ws h k e = absurd h
place-one (x ∷ xs) (v ∷ vs) [] h k e = absurd (omega (arith, e))
place-one (x ∷ xs) (v ∷ vs) (w ∷ ws) h k e =
    let both = row-one (count_of (v -ℤ x.low)) (place xs vs) (count_of (w -ℤ x.low)) (place xs ws) (prefix_count xs)
    (place-below xs vs h.1) (place-below xs ws k.1) (omega (arith, e)) in
    let first = cons-first v w [] [] (place_within-one ((x.low, x.high) ∷ []) (v ∷ []) (w ∷ []) (h.0, tt) (k.0, tt) (ap (λ n. n * 1 + 0) both.0)) in
    ap₂ (λ (z : ℤ) (zs : List ℤ). z ∷ zs) first (place-one xs vs ws h.1 k.1 both.1)

-- only the empty list has the place 0
pub place-snoc : (xs : List Var) (vs : List ℤ) (v : ℤ) → BeginWithin xs (vs ++ v ∷ []) → 0 < place xs (vs ++ v ∷ [])
place-snoc [] [] v h = absurd h
place-snoc (x ∷ xs) [] v h = omega arith
place-snoc [] (w ∷ vs) v h = absurd h
place-snoc (x ∷ xs) (w ∷ vs) v h = omega arith
