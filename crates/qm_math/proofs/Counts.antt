-- Different lists of values of ranges are at most as many as the sizes of the ranges multiplied.
use Rattle.std.proofs.Common.{◌≡◌, ◌∙◌, sym, refl, ap, ap₂, ℕ, suc, ◌+◌, ◌*◌, ◌/◌, ◌<◌, ◌≤◌, ◌≢◌, arith, mul-le-mul_right, List, [], ◌∷◌, length, map, get_or, All, AllPairs, ℤ, pos, ◌+ℤ◌, ◌-ℤ◌}
use Rattle.std.proofs.lemmas.List.{get_or-map, length-map}
use Rattle.std.proofs.lemmas.List.Elements.{All-map}
use Rattle.std.proofs.lemmas.Nat.{div-mul-add}
use Rattle.std.proofs.lemmas.Int.{ints}
use Rattle.qm_math.specs.Ranges.{IsBetween, count_of, size_of}
use Rattle.qm_math.specs.Counts.{AreWithin, count_within, place_within}
use Rattle.qm_math.proofs.Searches.{count_pos}
use Rattle.qm_math.proofs.Distinct.{length-le_distinct_below}

digits_below : (q p n m : ℕ) → q < n → p < m → q * m + p < n * m
digits_below q p n m h k =
    let rows : suc q * m ≤ n * m = mul-le-mul_right m h in
    omega (arith, rows)

-- the place in one range
offset_below : (low high v : ℤ) → IsBetween low high v → count_of (v -ℤ low) < size_of low high
offset_below low high v h =
    let here = count_pos (v -ℤ low) (omega (arith, ints, h.0)) in
    let all = count_pos ((high +ℤ pos 1) -ℤ low) (omega (arith, ints, h.0, h.1)) in
    omega (arith, ints, here, all, h.1)

offset_one : (low high v w : ℤ) → IsBetween low high v → IsBetween low high w → count_of (v -ℤ low) ≡ count_of (w -ℤ low) → v ≡ w
offset_one low high v w h k e =
    let first = count_pos (v -ℤ low) (omega (arith, ints, h.0)) in
    let second = count_pos (w -ℤ low) (omega (arith, ints, k.0)) in
    omega (arith, ints, first, second, e)

pub place_within-below : (ranges : List (ℤ × ℤ)) (vs : List ℤ) → AreWithin ranges vs → place_within ranges vs < count_within ranges
place_within-below [] [] h = omega arith
place_within-below [] (v ∷ vs) h = absurd h
place_within-below (r ∷ ranges) [] h = absurd h
place_within-below (r ∷ ranges) (v ∷ vs) h =
    digits_below (count_of (v -ℤ r.0)) (place_within ranges vs) (size_of r.0 r.1) (count_within ranges)
    (offset_below r.0 r.1 v h.0) (place_within-below ranges vs h.1)

-- a place is that of one list
pub place_within-one : (ranges : List (ℤ × ℤ)) (vs ws : List ℤ) → AreWithin ranges vs → AreWithin ranges ws → place_within ranges vs ≡ place_within ranges ws → vs ≡ ws
place_within-one [] [] [] h k e = refl
place_within-one [] [] (w ∷ ws) h k e = absurd k
place_within-one [] (v ∷ vs) ws h k e = absurd h
place_within-one (r ∷ ranges) [] ws h k e = absurd h
place_within-one (r ∷ ranges) (v ∷ vs) [] h k e = absurd k
place_within-one (r ∷ ranges) (v ∷ vs) (w ∷ ws) h k e =
    let first = div-mul-add (count_of (v -ℤ r.0)) (count_within ranges) (place_within ranges vs) (place_within-below ranges vs h.1) in
    let second = div-mul-add (count_of (w -ℤ r.0)) (count_within ranges) (place_within ranges ws) (place_within-below ranges ws k.1) in
    let same : count_of (v -ℤ r.0) ≡ count_of (w -ℤ r.0) = sym first ∙ ap (λ n. n / count_within ranges) e ∙ second in
    let rest : place_within ranges vs ≡ place_within ranges ws = omega (arith, e, ap (λ n. n * count_within ranges) same) in
    ap₂ (λ (x : ℤ) (xs : List ℤ). x ∷ xs) (offset_one r.0 r.1 v w h.0 k.0 same) (place_within-one ranges vs ws h.1 k.1 rest)

pub length-le_count_within : (ranges : List (ℤ × ℤ)) (lists : List (List ℤ)) → AllPairs (λ x y. x ≢ y) lists → All (AreWithin ranges) lists
    → length lists ≤ count_within ranges
length-le_count_within ranges lists apart within =
    let places = map (place_within ranges) lists in
    let as_many : length places ≡ length lists = length-map lists (place_within ranges) in
    let places_apart : AllPairs (λ x y. x ≢ y) places =
    λ i j d less below e.
    (let in_i : i < length lists = omega arith in
    let in_j : j < length lists = omega arith in
    apart i j [] less in_j
    (place_within-one ranges (get_or lists i []) (get_or lists j []) (within i [] in_i) (within j [] in_j)
    (sym (get_or-map (place_within ranges) lists i [] d in_i) ∙ e ∙ get_or-map (place_within ranges) lists j [] d in_j))) in
    let below : All (λ x. x < count_within ranges) places =
    All-map (λ x. x < count_within ranges) (place_within ranges) lists (λ k d low. place_within-below ranges (get_or lists k d) (within k d low)) in
    omega (arith, length-le_distinct_below places (count_within ranges) places_apart below)
