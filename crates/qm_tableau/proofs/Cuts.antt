-- A list cut into rows of one width: its rows, and one item put in the place of another.
use Rattle.std.proofs.Common.{◌≡◌, ◌∙◌, refl, sym, ap, ap₂, ℕ, zero, suc, ◌+◌, ◌*◌, ◌<◌, ◌≤◌, List, [], ◌∷◌, length, get_or, set, take, drop, arith, All}
use Rattle.std.proofs.Math.Nat.{suc-mul}
use native.Mathlib.Nat.{zero-mul}
use Rattle.std.proofs.lemmas.List.{take-set-le, drop-set-lt, drop-set-add, drop-drop, length-drop}
use lib.Seq.{take-set-lt, length-take-le}
use Rattle.qm_tableau.specs.Tables.{rows_of}

-- the place of an item of a row lies in the list
pub place_below : (n w i k : ℕ) → i < n → k < w → i * w + k < n * w
place_below zero w i k h g = absurd (omega arith)
place_below (suc n) w zero k h g = let a = zero-mul w in let b = suc-mul n w in omega arith
place_below (suc n) w (suc i) k h g =
    let a = suc-mul i w in
    let b = suc-mul n w in
    let c = place_below n w i k (omega arith) g in
    omega arith

-- a whole row lies in the list
pub row_below : (n w i : ℕ) → i < n → i * w + w ≤ n * w
row_below zero w i h = absurd (omega arith)
row_below (suc n) w zero h = let a = zero-mul w in let b = suc-mul n w in omega arith
row_below (suc n) w (suc i) h =
    let a = suc-mul i w in
    let b = suc-mul n w in
    let c = row_below n w i (omega arith) in
    omega arith

module _ {A : Type 0} where
  pub length_rows_of : (w n : ℕ) (xs : List A) → length (rows_of w n xs) ≡ n
  length_rows_of w zero xs = refl
  length_rows_of w (suc n) xs = ap suc (length_rows_of w n (drop w xs))

  -- the row i begins i times the width from the start
  pub row_rows_of : (w n i : ℕ) (xs : List A) → i < n → get_or (rows_of w n xs) i [] ≡ take w (drop (i * w) xs)
  row_rows_of w zero i xs h = absurd (omega arith)
  row_rows_of w (suc n) zero xs h = sym (ap (λ (k : ℕ). take w (drop k xs)) (zero-mul w))
  row_rows_of w (suc n) (suc i) xs h =
      let at : w + i * w ≡ suc i * w = let a = suc-mul i w in omega arith in
      row_rows_of w n i (drop w xs) (omega arith) ∙ ap (take w) (drop-drop (i * w) w xs) ∙ ap (λ (k : ℕ). take w (drop k xs)) at

  rest_length : (w n : ℕ) (xs : List A) → length xs ≡ suc n * w → length (drop w xs) ≡ n * w
  rest_length w n xs e = let a = suc-mul n w in length-drop w xs ∙ (omega arith)

  -- each row has the width
  pub width_rows_of : (w n : ℕ) (xs : List A) → length xs ≡ n * w → All (λ row. length row ≡ w) (rows_of w n xs)
  width_rows_of w zero xs e k d h = absurd (omega arith)
  width_rows_of w (suc n) xs e zero d h = let a = suc-mul n w in length-take-le w xs (omega arith)
  width_rows_of w (suc n) xs e (suc k) d h = width_rows_of w n (drop w xs) (rest_length w n xs e) k d (omega arith)

  -- an item in the place of the item k of row i
  pub set_rows_of : (w n i k : ℕ) (xs : List A) (x : A) → i < n → k < w
      → rows_of w n (set xs (i * w + k) x) ≡ set (rows_of w n xs) i (set (get_or (rows_of w n xs) i []) k x)
  set_rows_of w zero i k xs x h g = absurd (omega arith)
  set_rows_of w (suc n) zero k xs x h g =
      let at : zero * w + k ≡ k = let a = zero-mul w in omega arith in
      ap (λ (m : ℕ). rows_of w (suc n) (set xs m x)) at
      ∙ ap₂ (λ (row : List A) (rest : List A). row ∷ rows_of w n rest) (take-set-lt w xs k x g) (drop-set-lt w xs k x g)
  set_rows_of w (suc n) (suc i) k xs x h g =
      let at : suc i * w + k ≡ w + (i * w + k) = let a = suc-mul i w in omega arith in
      ap (λ (m : ℕ). rows_of w (suc n) (set xs m x)) at
      ∙ ap₂ (λ (row : List A) (rest : List A). row ∷ rows_of w n rest) (take-set-le w xs (w + (i * w + k)) x (omega arith)) (drop-set-add w xs (i * w + k) x)
      ∙ ap (λ (rows : List (List A)). take w xs ∷ rows) (set_rows_of w n i k (drop w xs) x (omega arith) g)
