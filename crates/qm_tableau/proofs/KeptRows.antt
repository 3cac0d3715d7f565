-- Rows that are kept in one of two forms, seen as rows of fractions.
use Rattle.std.proofs.Common.{◌≡◌, ◌∙◌, refl, sym, ap, ap₂, ℕ, suc, ◌*◌, ◌<◌, ◌≤◌, ℤ, pos, ◌<ℤ◌, unsigned_abs, Bool, true, false, List, [], ◌∷◌, length, get_or, map, arith, All}
use Rattle.std.specs.Prelude.{int_lt}
use Rattle.std.proofs.lemmas.Int.{ints}
use Rattle.std.proofs.lemmas.List.{get_or-map, length-map}
use Rattle.qm_math.specs.Fraction.{Fraction, whole}
use Rattle.qm_math.proofs.WholeTests.{lt_of_test, test_of_lt}
use Rattle.qm_tableau.specs.Tables.{Numbers, entry_at, rows_of}
use Rattle.qm_tableau.specs.Wholes.{IsSmall, IsSmallRow, at_place, fractions_of}
use Rattle.qm_tableau.specs.StoredSteps.{AreFractions, AreKept, AreWhole, FractionRows, IsRoom, WholeRows, kept_rows}
use Rattle.qm_tableau.proofs.Cuts.{length_rows_of}
use Rattle.qm_tableau.proofs.RowLists.{rows_over_one, small_over_one}
use Rattle.qm_tableau.proofs.WholeEntries.{above_lowest, below_lowest, entry_in_rows, length_fractions}

-- ---- which form it is

pub are_whole : (b : Bool) (wholes others : WholeRows) (fractions spare : FractionRows) → b ≡ true → AreKept b wholes others fractions spare → AreWhole wholes others fractions spare
are_whole true wholes others fractions spare h k = k
are_whole false wholes others fractions spare h k = absurd (cc)

pub are_fractions : (b : Bool) (wholes others : WholeRows) (fractions spare : FractionRows) → b ≡ false → AreKept b wholes others fractions spare → AreFractions fractions spare
are_fractions false wholes others fractions spare h k = k
are_fractions true wholes others fractions spare h k = absurd (cc)

pub kept_whole : (b : Bool) (wholes : List (List ℤ)) (fractions : List (List Fraction)) → b ≡ true → map fractions_of wholes ≡ kept_rows b wholes fractions
kept_whole true wholes fractions h = refl
kept_whole false wholes fractions h = absurd (cc)

pub kept_fractions : (b : Bool) (wholes : List (List ℤ)) (fractions : List (List Fraction)) → b ≡ false → fractions ≡ kept_rows b wholes fractions
kept_fractions false wholes fractions h = refl
kept_fractions true wholes fractions h = absurd (cc)

-- ---- rows of whole numbers as rows of fractions

pub fraction_widths : (rows : List (List ℤ)) (w : ℕ) → All (λ row. length row ≡ suc w) rows → All (λ row. length row ≡ w) (map fractions_of rows)
fraction_widths rows w wide k d h =
    let inside : k < length rows = let n = length-map rows fractions_of in omega (arith, h, n) in
    rw (get_or-map fractions_of rows k [] d inside) (length_fractions (get_or rows k []) w (wide k [] inside))

module _ (rows : List (List ℤ)) (i k : ℕ) (h : i < length rows) (small : All IsSmallRow rows) (w : suc k < length (get_or rows i [])) where
  den_some : 0 < unsigned_abs (at_place (get_or rows i []) 0)
  den_some = let p = (small i [] h).positive in omega (arith, ints, p)

  pub below_entry : int_lt (entry_at (map fractions_of rows) i k).num (pos 0) ≡ int_lt (at_place (get_or rows i []) (suc k)) (pos 0)
  below_entry =
      ap (λ (x : Fraction). int_lt x.num (pos 0)) (entry_in_rows rows i k h w)
      ∙ below_lowest (at_place (get_or rows i []) (suc k)) (unsigned_abs (at_place (get_or rows i []) 0)) den_some

  pub above_entry : int_lt (pos 0) (entry_at (map fractions_of rows) i k).num ≡ int_lt (pos 0) (at_place (get_or rows i []) (suc k))
  above_entry =
      ap (λ (x : Fraction). int_lt (pos 0) x.num) (entry_in_rows rows i k h w)
      ∙ above_lowest (at_place (get_or rows i []) (suc k)) (unsigned_abs (at_place (get_or rows i []) 0)) den_some

  -- a positive entry stands for a positive number
  pub entry_positive : pos 0 <ℤ (entry_at (map fractions_of rows) i k).num → pos 0 <ℤ at_place (get_or rows i []) (suc k)
  entry_positive some = lt_of_test (pos 0) (at_place (get_or rows i []) (suc k)) (sym above_entry ∙ test_of_lt (pos 0) (entry_at (map fractions_of rows) i k).num some)

-- a place in the rows, where they are kept as whole numbers
pub record IsInside (wholes : WholeRows) (seen : Numbers) (i k : ℕ) : Type 0 where
  pub rows : seen.rows ≡ map fractions_of wholes.rows
  pub small : All IsSmallRow wholes.rows
  pub row : i < length wholes.rows
  pub column : suc k < length (get_or wholes.rows i [])

pub rows_inside : (b : Bool) (wholes others : WholeRows) (fractions spare : FractionRows) (seen : Numbers) (i k : ℕ) → b ≡ true → AreKept b wholes others fractions spare
    → (let kept : Numbers = record { width = fractions.width; rows = kept_rows b wholes.rows fractions.rows } in kept) ≡ seen → i < length seen.rows → k < seen.width
    → (row : List ℤ) → row ≡ get_or wholes.rows i [] → length row ≡ wholes.width → IsInside wholes seen i k
rows_inside b wholes others fractions spare seen i k is kept view i_in k_in row row_is wide =
    let a = are_whole b wholes others fractions spare is kept in
    let rows : seen.rows ≡ map fractions_of wholes.rows = sym (ap (λ (n : Numbers). n.rows) view) ∙ sym (kept_whole b wholes.rows fractions.rows is) in
    let many : length seen.rows ≡ length wholes.rows = ap (λ (rs : List (List Fraction)). length rs) rows ∙ length-map wholes.rows fractions_of in
    let width : fractions.width ≡ seen.width = ap (λ (n : Numbers). n.width) view in
    let row_width : length (get_or wholes.rows i []) ≡ wholes.width = ap (λ (r : List ℤ). length r) (sym row_is) ∙ wide in
    record { rows = rows; small = a.small; row = omega (arith, i_in, many); column = omega (arith, row_width, a.width, width, k_in) }

-- ---- rows as they are kept at first

module _ (w n : ℕ) (numbers : List ℤ) (wholes others : WholeRows) (fractions spare : FractionRows)
    (is : wholes ≡ record { width = suc w; rows = map (λ row. pos 1 ∷ row) (rows_of w n numbers) }) (wide : fractions.width ≡ w) where
  rows_are : wholes.rows ≡ map (λ row. pos 1 ∷ row) (rows_of w n numbers)
  rows_are = ap (λ (r : WholeRows). r.rows) is

  many : length wholes.rows ≡ n
  many = ap (λ (rs : List (List ℤ)). length rs) rows_are ∙ length-map (rows_of w n numbers) (λ row. pos 1 ∷ row) ∙ length_rows_of w n numbers

  room_is : (f : FractionRows) → f.rows ≡ [] → f.width ≡ w → n * w ≤ f.spare → IsRoom fractions.width (length wholes.rows) f
  room_is f none same room = record { width = same ∙ sym wide; rows = none; spare = rw (many, wide) room }

  pub first_kept : All IsSmall numbers → others ≡ wholes → fractions.rows ≡ [] → n * w ≤ fractions.spare → spare.rows ≡ [] → spare.width ≡ w → n * w ≤ spare.spare
      → AreWhole wholes others fractions spare
  first_kept small same none room spare_none spare_wide spare_room = record {
    width = ap (λ (r : WholeRows). r.width) is ∙ ap suc (sym wide);
    small = rw rows_are (small_over_one w n numbers small);
    other_width = ap (λ (r : WholeRows). r.width) same;
    other_count = ap (λ (r : WholeRows). length r.rows) same;
    room = room_is fractions none wide room;
    more_room = room_is spare spare_none spare_wide spare_room;
  }

  pub first_seen : (let seen : Numbers = record { width = fractions.width; rows = map fractions_of wholes.rows } in seen) ≡ record { width = w; rows = rows_of w n (map whole numbers) }
  first_seen =
      let pair : ℕ → List (List Fraction) → Numbers = λ k rs. record { width = k; rows = rs } in
      ap₂ pair wide (ap (map fractions_of) rows_are ∙ rows_over_one w n numbers)
