-- A row without a common divisor of its numbers has the fractions of the updated row.
use Rattle.std.proofs.Common.{◌≡◌, ◌∙◌, refl, sym, ap, ap₂, ℕ, zero, suc, ◌+◌, ◌*◌, ◌<◌, ℤ, pos, negsuc, ◌-ℤ◌, ◌*ℤ◌, ◌<ℤ◌, unsigned_abs, List, [], ◌∷◌, length, get_or, map, All, arith, mul-pos, Bool, true, false}
use Rattle.std.specs.Prelude.{◌==◌, if◌then◌else◌}
use Rattle.std.proofs.lemmas.Bool.Decides.{nat_tests}
use Rattle.std.proofs.lemmas.Int.{ints}
use Rattle.std.proofs.lemmas.List.{get_or_default}
use Rattle.qm_math.specs.Fraction.{Fraction}
use Rattle.qm_math.proofs.Polynomials.{◌⊕◌, ◌⊗◌, minus, number}
use Rattle.qm_math.proofs.Ring.{x0, x1, x2, x3, x4, x5, x6, ring, ring_from}
use Rattle.qm_frac.specs.Lowest.{lowest}
use Rattle.qm_frac.proofs.SameLowest.{lowest_scaled}
use Rattle.qm_tableau.specs.declared.updating.Step.{Step}
use Rattle.qm_tableau.specs.Wholes.{IsSmallRow, at_place, fractions_of, over, updated_numbers, updated_row}
use Rattle.qm_tableau.specs.UpdateSteps.{HasParts, IsStep, IsUpdated, number_at}

-- ---- a common factor of a row

over_scaled : (os us : List ℤ) (o h : ℕ) → 0 < o → 0 < h → length os ≡ length us → ((j : ℕ) → j < length us → at_place os j *ℤ pos h ≡ at_place us j) → over o os ≡ over (o * h) us
over_scaled [] [] o h ho hh count same = refl
over_scaled [] (u ∷ us) o h ho hh count same = absurd (omega (arith, count))
over_scaled (x ∷ os) [] o h ho hh count same = absurd (omega (arith, count))
over_scaled (x ∷ os) (u ∷ us) o h ho hh count same =
    let here : lowest x o ≡ lowest u (o * h) = sym (lowest_scaled x o h ho hh) ∙ ap (λ (z : ℤ). lowest z (o * h)) (same 0 (omega arith)) in
    ap₂ (λ (a : Fraction) (rest : List Fraction). a ∷ rest) here (over_scaled os us o h ho hh (omega (arith, count)) (λ j g. same (suc j) (omega (arith, g))))

-- it isn't seen
pub same_fractions : (out us : List ℤ) (h : ℕ) → 0 < h → pos 0 <ℤ at_place out 0 → length out ≡ length us → ((k : ℕ) → k < length us → at_place out k *ℤ pos h ≡ at_place us k)
    → fractions_of out ≡ fractions_of us
same_fractions [] us h hh some count same = absurd (omega (arith, ints, some))
same_fractions (o ∷ os) [] h hh some count same = absurd (omega (arith, count))
same_fractions (negsuc o ∷ os) (u ∷ us) h hh some count same = absurd (omega (arith, ints, some))
same_fractions (pos o ∷ os) (u ∷ us) h hh some count same =
    let den : o * h ≡ unsigned_abs u = ap unsigned_abs (same 0 (omega arith)) in
    over_scaled os us o h (omega (arith, ints, some)) hh (omega (arith, count)) (λ j g. same (suc j) (omega (arith, g)))
    ∙ ap (λ (n : ℕ). over n us) den

-- ---- the updated row, place by place

module _ (c : ℕ) (p f e : ℤ) where
  length_updated : (k : ℕ) (xs ys : List ℤ) → length xs ≡ length ys → length (updated_numbers c p f e k xs ys) ≡ length xs
  length_updated k [] ys count = refl
  length_updated k (a ∷ xs) [] count = absurd (omega (arith, count))
  length_updated k (a ∷ xs) (b ∷ ys) count = ap suc (length_updated (suc k) xs ys (omega (arith, count)))

  updated_at : (k j : ℕ) (xs ys : List ℤ) → length xs ≡ length ys → j < length xs
      → at_place (updated_numbers c p f e k xs ys) j ≡ (if k + j == c then f *ℤ e else (at_place xs j *ℤ p) -ℤ (f *ℤ at_place ys j))
  updated_at k j [] ys count h = absurd (omega (arith, h))
  updated_at k j (a ∷ xs) [] count h = absurd (omega (arith, count))
  updated_at k zero (a ∷ xs) (b ∷ ys) count h =
      ap (λ (n : ℕ). (let z : ℤ = if n == c then f *ℤ e else (a *ℤ p) -ℤ (f *ℤ b) in z)) (let n : k ≡ k + 0 = omega arith in n)
  updated_at k (suc j) (a ∷ xs) (b ∷ ys) count h =
      updated_at (suc k) j xs ys (omega (arith, count)) (omega (arith, h))
      ∙ ap (λ (n : ℕ). (let z : ℤ = if n == c then f *ℤ e else (at_place xs j *ℤ p) -ℤ (f *ℤ at_place ys j) in z)) (let n : suc k + j ≡ k + suc j = omega arith in n)

same_test : (k c : ℕ) → (suc k == suc c) ≡ (0 + k == c)
same_test k c = grind (arith, nat_tests)

module _ (c : ℕ) (leaving row : List ℤ) (count : length leaving ≡ length row) (filled : suc c < length row) where
  pub length_row : length (updated_row c leaving row) ≡ length row
  length_row = by_rows leaving row count filled
    where
      by_rows : (ls rs : List ℤ) → length ls ≡ length rs → suc c < length rs → length (updated_row c ls rs) ≡ length rs
      by_rows ls [] n h = absurd (omega (arith, h))
      by_rows [] (d ∷ xs) n h = absurd (omega (arith, n))
      by_rows (e ∷ ys) (d ∷ xs) n h = ap suc (length_updated c (get_or ys c (pos 0)) (get_or xs c (pos 0)) e 0 xs ys (omega (arith, n)))

  pub row_at_place : (k : ℕ) → k < length row → at_place (updated_row c leaving row) k ≡ number_at (suc c) (at_place leaving (suc c)) (at_place row (suc c)) row leaving k
  row_at_place k h = by_rows leaving row count k h
    where
      by_rows : (ls rs : List ℤ) → length ls ≡ length rs → (j : ℕ) → j < length rs
          → at_place (updated_row c ls rs) j ≡ number_at (suc c) (at_place ls (suc c)) (at_place rs (suc c)) rs ls j
      by_rows ls [] n j g = absurd (omega (arith, g))
      by_rows [] (d ∷ xs) n j g = absurd (omega (arith, n))
      by_rows (e ∷ ys) (d ∷ xs) n zero g = refl
      by_rows (e ∷ ys) (d ∷ xs) n (suc j) g =
          let p = get_or ys c (pos 0) in
          let f = get_or xs c (pos 0) in
          updated_at c p f e 0 j xs ys (omega (arith, n)) (omega (arith, g))
          ∙ ap (λ (b : Bool). (let z : ℤ = if b then f *ℤ e else (at_place xs j *ℤ p) -ℤ (f *ℤ at_place ys j) in z)) (sym (same_test j c))
          ∙ ap (λ (b : Bool). (let z : ℤ = if b then d *ℤ p else if suc j == suc c then f *ℤ e else (at_place xs j *ℤ p) -ℤ (f *ℤ at_place ys j) in z)) (let first : false ≡ (suc j == 0) = grind (arith, nat_tests) in first)

-- ---- the row that is written

-- a number of which a positive number is a multiple is positive
pub positive_part : (q z : ℤ) (d : ℕ) → 0 < d → q *ℤ pos d ≡ z → pos 0 <ℤ z → pos 0 <ℤ q
positive_part (pos zero) z d hd is some = absurd (let e : 0 * d ≡ 0 = omega arith in omega (arith, ints, is, e, some))
positive_part (pos (suc n)) z d hd is some = omega (arith, ints)
positive_part (negsuc n) z d hd is some = absurd (let m : 0 < suc n * d = mul-pos (omega arith) hd in omega (arith, ints, is, m, some))

product_positive : (a b : ℤ) → pos 0 <ℤ a → pos 0 <ℤ b → pos 0 <ℤ (a *ℤ b)
product_positive (pos m) (pos n) h k = let p : 0 < m * n = mul-pos (omega (arith, ints, h)) (omega (arith, ints, k)) in omega (arith, ints, p)
product_positive (pos m) (negsuc n) h k = absurd (omega (arith, ints, k))
product_positive (negsuc m) b h k = absurd (omega (arith, ints, h))

-- one of three, times a number
times : (b t : Bool) (x y z u v w : ℤ) (g : ℤ) → x *ℤ g ≡ u → y *ℤ g ≡ v → z *ℤ g ≡ w
    → (let r : ℤ = if b then x else if t then y else z in r) *ℤ g ≡ (if b then u else if t then v else w)
times true t x y z u v w g p q r = p
times false true x y z u v w g p q r = q
times false false x y z u v w g p q r = r

-- a number that is the chosen one of three
chosen : (b t : Bool) (w x y z : ℤ) → (b ≡ true → w ≡ x) → (t ≡ true → w ≡ y) → w ≡ z → w ≡ (if b then x else if t then y else z)
chosen true t w x y z p q r = p refl
chosen false true w x y z p q r = q refl
chosen false false w x y z p q r = r

-- the numbers of a step times what it has in common
number_scaled : (at k g : ℕ) (by f p a : ℤ) (row leaving : List ℤ) → by *ℤ pos g ≡ p → f *ℤ pos g ≡ a
    → number_at at by f row leaving k *ℤ pos g ≡ number_at at p a row leaving k
number_scaled at k g by f p a row leaving p_is a_is =
    let d = at_place row 0 in
    let e = at_place leaving 0 in
    let x = at_place row k in
    let y = at_place leaving k in
    times (k == 0) (k == at) (d *ℤ by) (f *ℤ e) ((x *ℤ by) -ℤ (f *ℤ y)) (d *ℤ p) (a *ℤ e) ((x *ℤ p) -ℤ (a *ℤ y)) (pos g)
    (ring_from (d ∷ by ∷ pos g ∷ p ∷ []) (x0 ⊗ x1 ⊗ x2) (x0 ⊗ x3) ((x0, x1 ⊗ x2, x3) ∷ []) (p_is, tt) refl)
    (ring_from (e ∷ f ∷ pos g ∷ a ∷ []) (x1 ⊗ x0 ⊗ x2) (x3 ⊗ x0) ((x0, x1 ⊗ x2, x3) ∷ []) (a_is, tt) refl)
    (ring_from (x ∷ by ∷ f ∷ y ∷ pos g ∷ p ∷ a ∷ []) ((x0 ⊗ x1 ⊕ minus (x2 ⊗ x3)) ⊗ x4) (x0 ⊗ x5 ⊕ minus (x6 ⊗ x3)) ((x0, x1 ⊗ x4, x5) ∷ (minus x3, x2 ⊗ x4, x6) ∷ []) (p_is, (a_is, tt)) refl)

module _ (c : ℕ) (leaving row : List ℤ) (count : length leaving ≡ length row) (inside : suc c < length row) (l : IsSmallRow leaving) (r : IsSmallRow row)
    (pivot : pos 0 <ℤ at_place leaving (suc c)) where
  -- numbers without a divisor of all
  pub written : (at : ℕ) (step : Step) (divisor : ℕ) (out : List ℤ) → at ≡ suc c → IsStep at row leaving step → 0 < divisor → length out ≡ length row
      → HasParts divisor (number_at step.place step.by step.factor row leaving) (length row) out → IsUpdated c leaving row out
  written at step divisor out at_is s some wide parts =
      let first = parts 0 (omega (arith, inside)) in
      let top : pos 0 <ℤ at_place out 0 = positive_part (at_place out 0) _ divisor some first.0 (product_positive (at_place row 0) step.by r.positive s.positive) in
      record {
        count = wide;
        small = record { positive = top; small = λ k d h. rw (get_or_default out k d (pos 0) h) ((parts k (omega (arith, wide, h))).1) };
        fractions = same_fractions out (updated_row c leaving row) (divisor * s.shared) (mul-pos some s.some) top (wide ∙ sym (length_row c leaving row count inside))
            (λ k h. (let here : k < length row = omega (arith, h, length_row c leaving row count inside) in
            ring (at_place out k ∷ pos divisor ∷ pos s.shared ∷ []) (x0 ⊗ (x1 ⊗ x2)) (x0 ⊗ x1 ⊗ x2) refl
            ∙ ap (λ (z : ℤ). z *ℤ pos s.shared) ((parts k here).0)
            ∙ ap (λ (n : ℕ). number_at n step.by step.factor row leaving k *ℤ pos s.shared) (s.place ∙ at_is)
            ∙ number_scaled (suc c) k s.shared step.by step.factor _ _ row leaving (s.by_is ∙ ap (at_place leaving) at_is) (s.factor_is ∙ ap (at_place row) at_is)
            ∙ sym (row_at_place c leaving row count inside k here)));
      }

  -- a row that has 0 in the column stays
  stays_in : (q : ℤ) (k : ℕ) → at_place row (suc c) ≡ pos 0 → at_place row k *ℤ q ≡ number_at (suc c) q (at_place row (suc c)) row leaving k
  stays_in q k none =
      let x = at_place row k in
      let e = at_place leaving 0 in
      let y = at_place leaving k in
      chosen (k == 0) (k == suc c) (x *ℤ q) (at_place row 0 *ℤ q) (at_place row (suc c) *ℤ e) ((x *ℤ q) -ℤ (at_place row (suc c) *ℤ y))
      (λ h. (let z : k ≡ 0 = grind (arith, nat_tests, h) in ap (λ (n : ℕ). at_place row n *ℤ q) z))
      (λ h. (let z : k ≡ suc c = grind (arith, nat_tests, h) in
      ap (λ (n : ℕ). at_place row n *ℤ q) z ∙ ap (λ (n : ℤ). n *ℤ q) none
      ∙ ring (q ∷ e ∷ []) (number (pos 0) ⊗ x0) (number (pos 0) ⊗ x1) refl ∙ sym (ap (λ (n : ℤ). n *ℤ e) none)))
      (ring (x ∷ q ∷ y ∷ []) (x0 ⊗ x1) (x0 ⊗ x1 ⊕ minus (number (pos 0) ⊗ x2)) refl ∙ sym (ap (λ (n : ℤ). (x *ℤ q) -ℤ (n *ℤ y)) none))

  copied_by : (q : ℤ) → at_place leaving (suc c) ≡ q → pos 0 <ℤ q → at_place row (suc c) ≡ pos 0 → IsUpdated c leaving row row
  copied_by (negsuc n) is some none = absurd (omega (arith, ints, some))
  copied_by (pos p) is some none = record {
    count = refl;
    small = r;
    fractions = same_fractions row (updated_row c leaving row) p (let h : 0 < p = omega (arith, ints, some) in h) r.positive (sym (length_row c leaving row count inside))
        (λ k h. (let here : k < length row = omega (arith, h, length_row c leaving row count inside) in
        ap (λ (q : ℤ). at_place row k *ℤ q) (sym is) ∙ stays_in (at_place leaving (suc c)) k none ∙ sym (row_at_place c leaving row count inside k here)));
  }

  pub copied : at_place row (suc c) ≡ pos 0 → IsUpdated c leaving row row
  copied none = copied_by (at_place leaving (suc c)) refl pivot none

-- ---- all rows

pub all_updated : (c : ℕ) (leaving : List ℤ) (rows outs : List (List ℤ)) → length outs ≡ length rows
    → ((j : ℕ) → j < length rows → IsUpdated c leaving (get_or rows j []) (get_or outs j []))
    → map fractions_of outs ≡ map (λ row. fractions_of (updated_row c leaving row)) rows
all_updated c leaving [] [] count each = refl
all_updated c leaving [] (out ∷ outs) count each = absurd (omega (arith, count))
all_updated c leaving (row ∷ rows) [] count each = absurd (omega (arith, count))
all_updated c leaving (row ∷ rows) (out ∷ outs) count each =
    ap₂ (λ (x : List Fraction) (xs : List (List Fraction)). x ∷ xs) ((each 0 (omega arith)).fractions)
    (all_updated c leaving rows outs (omega (arith, count)) (λ j h. each (suc j) (omega (arith, h))))

pub all_small : (c : ℕ) (leaving : List ℤ) (rows outs : List (List ℤ)) → length outs ≡ length rows
    → ((j : ℕ) → j < length rows → IsUpdated c leaving (get_or rows j []) (get_or outs j [])) → All IsSmallRow outs
all_small c leaving rows outs count each k d h = rw (get_or_default outs k d [] h) ((each k (omega (arith, count, h))).small)
