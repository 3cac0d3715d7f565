-- Rows put behind rows, one row put in the place of another, and rows of whole entries.
use Rattle.std.proofs.Common.{◌≡◌, ◌∙◌, refl, sym, ap, ap₂, ℕ, zero, suc, ◌+◌, ◌-◌, ◌*◌, ◌/◌, ◌<◌, ◌≤◌, ℤ, pos, negsuc, neg_ℤ, add-one, List, [], ◌∷◌, ◌++◌, length, get_or, set, take, drop, map, arith, All}
use borrow.Rule.Slice.PartMut.{put_mid}
use native.Mathlib.Nat.{zero-mul}
use Rattle.std.specs.List.{drop-map, take-map}
use Rattle.std.proofs.Math.Nat.{div-one, suc-mul}
use Rattle.std.proofs.Math.Seq.{take-add}
use Rattle.std.proofs.lemmas.List.{append_assoc, length-append, map-append, take_all, take_more, take_at, take-append-le, drop_at, drop-append-le, drop-drop, get_or-set_same, length-drop}
use Rattle.std.proofs.lemmas.List.Elements.{All-cons, All-drop, All-nil, All-take}
use lib.Seq.{length-take-le}
use Rattle.qm_math.specs.Fraction.{Fraction, whole}
use Rattle.qm_frac.specs.Lowest.{lowest, lowest_parts}
use Rattle.qm_frac.proofs.Divisors.{gcd_of-one}
use Rattle.qm_tableau.specs.Tables.{rows_of}
use Rattle.qm_tableau.specs.Wholes.{IsSmall, IsSmallRow, fractions_of, over}
use Rattle.qm_tableau.proofs.Cuts.{length_rows_of}

module _ {A : Type 0} where
  none_of : (xs : List A) → length xs ≡ 0 → xs ≡ []
  none_of [] h = refl
  none_of (x ∷ xs) h = absurd (omega (arith, h))

  -- a row behind n rows
  pub rows_behind : (w n : ℕ) (xs row : List A) → length xs ≡ n * w → length row ≡ w → rows_of w (suc n) (xs ++ row) ≡ rows_of w n xs ++ row ∷ []
  rows_behind w zero xs row count wide =
      let none : xs ≡ [] = none_of xs (let z = zero-mul w in omega (arith, count, z)) in
      let all : take w row ≡ row = take_all w row (omega (arith, wide)) in
      ap (λ (ys : List A). rows_of w 1 (ys ++ row)) none ∙ ap (λ (r : List A). r ∷ []) all
  rows_behind w (suc n) xs row count wide =
      let many : w ≤ length xs = let s = suc-mul n w in omega (arith, count, s) in
      let rest : length (drop w xs) ≡ n * w = let s = suc-mul n w in length-drop w xs ∙ (omega (arith, count, s)) in
      ap₂ (λ (r : List A) (ys : List A). r ∷ rows_of w (suc n) ys) (take-append-le w xs row many) (drop-append-le w xs row many)
      ∙ ap (λ (rows : List (List A)). take w xs ∷ rows) (rows_behind w n (drop w xs) row rest wide)

  -- a row in the place of row i
  pub row_put : (w n i : ℕ) (xs new : List A) → i < n → length xs ≡ n * w → length new ≡ w
      → rows_of w n (take (i * w) xs ++ (new ++ drop w (drop (i * w) xs))) ≡ set (rows_of w n xs) i new
  row_put w zero i xs new h count wide = absurd (omega arith)
  row_put w (suc n) zero xs new h count wide =
      ap (λ (k : ℕ). rows_of w (suc n) (take k xs ++ (new ++ drop w (drop k xs)))) (zero-mul w)
      ∙ ap₂ (λ (r : List A) (ys : List A). r ∷ rows_of w n ys) (take_at new (drop w xs) w wide) (drop_at new (drop w xs) w wide)
  row_put w (suc n) (suc i) xs new h count wide =
      let at : suc i * w ≡ w + i * w = let a = suc-mul i w in omega arith in
      let many : w ≤ length xs = let s = suc-mul n w in omega (arith, count, s) in
      let rest : length (drop w xs) ≡ n * w = let s = suc-mul n w in length-drop w xs ∙ (omega (arith, count, s)) in
      let later = take (i * w) (drop w xs) ++ (new ++ drop w (drop (i * w) (drop w xs))) in
      let first : length (take w xs) ≡ w = length-take-le w xs many in
      ap (λ (k : ℕ). rows_of w (suc n) (take k xs ++ (new ++ drop w (drop k xs)))) at
      ∙ ap₂ (λ (a b : List A). rows_of w (suc n) (a ++ (new ++ drop w b))) (take-add w (i * w) xs) (sym (drop-drop (i * w) w xs))
      ∙ ap (rows_of w (suc n)) (append_assoc (take w xs) (take (i * w) (drop w xs)) (new ++ drop w (drop (i * w) (drop w xs))))
      ∙ ap₂ (λ (r : List A) (ys : List A). r ∷ rows_of w n ys) (take_at (take w xs) later w first) (drop_at (take w xs) later w first)
      ∙ ap (λ (rows : List (List A)). take w xs ∷ rows) (row_put w n i (drop w xs) new (omega arith) rest wide)

-- ---- whole entries

pub lowest_one : (a : ℤ) → lowest a 1 ≡ whole a
unfolding lowest_parts
lowest_one (pos n) =
    let g = gcd_of-one n in
    let pair : ℕ → ℕ → Fraction = λ x y. record { num = pos x; den = y } in
    ap₂ pair (ap (λ (k : ℕ). n / k) g ∙ div-one n) (ap (λ (k : ℕ). 1 / k) g)
lowest_one (negsuc n) =
    let g = gcd_of-one (suc n) in
    let pair : ℕ → ℕ → Fraction = λ x y. record { num = neg_ℤ (pos x); den = y } in
    ap₂ pair (ap (λ (k : ℕ). suc n / k) g ∙ div-one (suc n)) (ap (λ (k : ℕ). 1 / k) g)

pub over_one_are : (xs : List ℤ) → over 1 xs ≡ map whole xs
over_one_are [] = refl
over_one_are (x ∷ xs) = ap₂ (λ (y : Fraction) (ys : List Fraction). y ∷ ys) (lowest_one x) (over_one_are xs)

-- rows behind the denominator 1
pub rows_over_one : (w n : ℕ) (xs : List ℤ) → map fractions_of (map (λ row. pos 1 ∷ row) (rows_of w n xs)) ≡ rows_of w n (map whole xs)
rows_over_one w zero xs = refl
rows_over_one w (suc n) xs =
    ap₂ (λ (row : List Fraction) (rows : List (List Fraction)). row ∷ rows) (over_one_are (take w xs) ∙ sym (take-map whole w xs))
    (rows_over_one w n (drop w xs) ∙ ap (rows_of w n) (sym (drop-map whole w xs)))

pub small_over_one : (w n : ℕ) (xs : List ℤ) → All IsSmall xs → All IsSmallRow (map (λ row. pos 1 ∷ row) (rows_of w n xs))
small_over_one w zero xs small = All-nil IsSmallRow
small_over_one w (suc n) xs small =
    All-cons IsSmallRow (pos 1 ∷ take w xs) (map (λ row. pos 1 ∷ row) (rows_of w n (drop w xs)))
    (record { positive = omega arith; small = All-cons IsSmall (pos 1) (take w xs) (omega arith) (All-take IsSmall w xs small) })
    (small_over_one w n (drop w xs) (All-drop IsSmall w xs small))

-- one more row is put behind the denominator 1
module _ (w n i : ℕ) (numbers out new row : List ℤ) (inside : i < n) (row_is : row ≡ get_or (rows_of w n numbers) i []) (wide : length row ≡ w)
    (is : new ≡ out ++ pos 1 ∷ row) (count : length out ≡ i * suc w) where
  pub count_more : length new ≡ (i + 1) * suc w
  count_more =
      let s = suc-mul i (suc w) in
      let both = length-append out (pos 1 ∷ row) in
      let one : (i + 1) * suc w ≡ suc i * suc w = ap (λ (k : ℕ). k * suc w) (add-one i) in
      ap (λ (xs : List ℤ). length xs) is ∙ (omega (arith, s, both, one, count, wide))

  pub rows_more : rows_of (suc w) i out ≡ map (λ r. pos 1 ∷ r) (take i (rows_of w n numbers))
      → rows_of (suc w) (i + 1) new ≡ map (λ r. pos 1 ∷ r) (take (i + 1) (rows_of w n numbers))
  rows_more before =
      let all = rows_of w n numbers in
      let at : i < length all = let m = length_rows_of w n numbers in omega (arith, inside, m) in
      ap₂ (λ (k : ℕ) (xs : List ℤ). rows_of (suc w) k xs) (add-one i) is
      ∙ rows_behind (suc w) i out (pos 1 ∷ row) count (ap suc wide)
      ∙ ap₂ (λ (rs : List (List ℤ)) (r : List ℤ). rs ++ (pos 1 ∷ r) ∷ []) before row_is
      ∙ sym (map-append (λ (r : List ℤ). pos 1 ∷ r) (take i all) (get_or all i [] ∷ []))
      ∙ ap (map (λ (r : List ℤ). pos 1 ∷ r)) (sym (take_more all i [] at))

-- a part of a list that is written
pub part_put : {A : Type 0} (a w : ℕ) (xs new : List A) → put_mid a (a + w - a) xs new ≡ take a xs ++ (new ++ drop w (drop a xs))
part_put a w xs new = ap (λ (k : ℕ). take a xs ++ (new ++ drop k (drop a xs))) (let e : a + w - a ≡ w = omega arith in e)

-- a row that is written over row i of a list of rows
module _ {A : Type 0} (w n i : ℕ) (xs new out : List A) (h : i < n) (count : length xs ≡ n * w) (wide : length new ≡ w)
    (is : out ≡ take (i * w) xs ++ (new ++ drop w (drop (i * w) xs))) where
  rows_put : rows_of w n out ≡ set (rows_of w n xs) i new
  rows_put = ap (rows_of w n) is ∙ row_put w n i xs new h count wide

  pub put_here : get_or (rows_of w n out) i [] ≡ new
  put_here =
      ap (λ (rs : List (List A)). get_or rs i []) rows_put
      ∙ get_or-set_same (rows_of w n xs) i new [] (let m = length_rows_of w n xs in omega (arith, h, m))

  pub put_others : rows_of w n out ≡ set (rows_of w n xs) i (get_or (rows_of w n out) i [])
  put_others = rows_put ∙ ap (set (rows_of w n xs) i) (sym put_here)
