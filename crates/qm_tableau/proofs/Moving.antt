-- Quantities at a point, counted from a corner of the box.
use Rattle.std.proofs.Common.{◌≡◌, ◌∙◌, refl, sym, ap, subst, ℕ, zero, suc, ◌+◌, ◌<◌, ◌≤◌, ◌≢◌, Bool, true, false, List, [], ◌∷◌, length, map, arith, All, ℤ, pos, negsuc, neg_ℤ, ◌+ℤ◌, ◌*ℤ◌, if◌then◌else◌, ◌==◌}
use Rattle.std.specs.List.{AllZip}
use Rattle.std.proofs.lemmas.Bool.Decides.{nat_tests}
use Rattle.std.proofs.lemmas.List.Elements.{All-cons, All-head, All-nil, All-tail}
use Rattle.qm_math.specs.Fraction.{Fraction, HasPositiveDen, IsSame, whole}
use Rattle.qm_math.specs.Arithmetic.{difference_of, negated, product_of, sum_of}
use Rattle.qm_math.specs.Sums.{sum_from}
use Rattle.qm_math.specs.Totals.{sum_of_products}
use Rattle.qm_math.proofs.Polynomials.{number, ◌⊕◌, ◌⊗◌, minus}
use Rattle.qm_math.proofs.Ring.{ring, x0, x1, x2, x3, x4, x5, x6}
use Rattle.qm_math.proofs.FractionRing.{same_by_ring}
use Rattle.qm_math.proofs.FractionLinear.{same_given}
use Rattle.qm_math.proofs.FractionLaws.{difference_of_den, negated-whole, one-product_of, product_of-whole, product_of_den, same_refl, same_sym, same_trans, sum_of-same, sum_of-whole, sum_of-zero, sum_of_comm, sum_of_den, whole_den}
use Rattle.qm_math.proofs.Rows.{sum_of_products-same, sum_of_products_den}
use Rattle.qm_math.proofs.SameLists.{all_same_refl}
use Rattle.qm_model.specs.declared.range.Range.{Range}
use Rattle.qm_model.specs.Linear.{coefficient, form}
use Rattle.qm_tableau.specs.Tables.{entry_of}
use Rattle.qm_tableau.specs.Quantities.{Quantity, coefficient_in, high_quantity, low_quantity, turned, whole_value}
use Rattle.qm_tableau.specs.FirstTable.{corner, first_row, numbers_from}
use Rattle.qm_tableau.specs.Columns.{affine_value}
use Rattle.qm_tableau.specs.Good.{linear_value, quantity_value}
use Rattle.qm_tableau.proofs.Constants.{linear_den}
use Rattle.qm_tableau.proofs.Exactness.{entry_den}

-- ---- at whole values
unfoldable pub wholes : List ℤ → List Fraction
wholes ns = map (λ n. whole n) ns

pub wholes_den : (ns : List ℤ) → All HasPositiveDen (wholes ns)
unfolding wholes
wholes_den [] = All-nil HasPositiveDen
wholes_den (n ∷ ns) = All-cons HasPositiveDen (whole n) (map (λ n. whole n) ns) (whole_den n) (wholes_den ns)

turned_step : (less : Bool) (a n s : ℤ) → turned less (a *ℤ n +ℤ s) ≡ turned less a *ℤ n +ℤ turned less s
turned_step false a n s = refl
turned_step true a n s = ring (a ∷ n ∷ s ∷ []) (minus (x0 ⊗ x1 ⊕ x2)) (minus x0 ⊗ x1 ⊕ minus x2) refl

whole_linear : (less : Bool) (c : ℕ → ℤ) (var : ℕ) (ns : List ℤ)
    → IsSame (whole (turned less (sum_from (λ v n. c v *ℤ n) var ns))) (linear_value (λ v. turned less (c v)) var (wholes ns))
unfolding wholes
whole_linear false c var [] = refl
whole_linear true c var [] = refl
whole_linear less c var (n ∷ ns) =
    let a = turned less (c var) in
    let s = turned less (sum_from (λ v n. c v *ℤ n) (suc var) ns) in
    let l = linear_value (λ v. turned less (c v)) (suc var) (wholes ns) in
    let all : IsSame (whole (a *ℤ n +ℤ s)) (sum_of (product_of (whole a) (whole n)) l) =
    same_trans (whole (a *ℤ n +ℤ s)) (sum_of (whole (a *ℤ n)) (whole s)) (sum_of (product_of (whole a) (whole n)) l)
    (sum_of_den (whole (a *ℤ n)) (whole s) (whole_den (a *ℤ n)) (whole_den s))
    (same_sym (sum_of (whole (a *ℤ n)) (whole s)) (whole (a *ℤ n +ℤ s)) (sum_of-whole (a *ℤ n) s))
    (sum_of-same (whole (a *ℤ n)) (whole s) (product_of (whole a) (whole n)) l
    (same_sym (product_of (whole a) (whole n)) (whole (a *ℤ n)) (product_of-whole a n)) (whole_linear less c (suc var) ns)) in
    subst (λ (z : ℤ). IsSame (whole z) (sum_of (product_of (whole a) (whole n)) l)) (sym (turned_step less (c var) n (sum_from (λ v n. c v *ℤ n) (suc var) ns))) all

pub whole_value_is : (q : Quantity) (ns : List ℤ) → IsSame (whole (whole_value q ns)) (quantity_value (wholes ns) q)
whole_value_is q ns =
    let s = turned q.less (form q.terms ns) in
    let l = linear_value (coefficient_in q) 0 (wholes ns) in
    same_trans (whole (q.constant +ℤ s)) (sum_of (whole q.constant) (whole s)) (sum_of (whole q.constant) l)
    (sum_of_den (whole q.constant) (whole s) (whole_den q.constant) (whole_den s))
    (same_sym (sum_of (whole q.constant) (whole s)) (whole (q.constant +ℤ s)) (sum_of-whole q.constant s))
    (sum_of-same (whole q.constant) (whole s) (whole q.constant) l (same_refl (whole q.constant)) (whole_linear q.less (coefficient q.terms) 0 ns))

-- ---- how far a value is from its end of the range
unfoldable pub offset : Bool → Range → Fraction → Fraction
offset true r x = difference_of (whole r.high) x
offset false r x = difference_of x (whole r.low)

pub offset_den : (high : Bool) (r : Range) (x : Fraction) → 0 < x.den → 0 < (offset high r x).den
unfolding offset
offset_den true r x d = difference_of_den (whole r.high) x (whole_den r.high) d
offset_den false r x d = difference_of_den x (whole r.low) d (whole_den r.low)

unfoldable pub offsets : List Bool → List Range → List Fraction → List Fraction
offsets [] rs xs = []
offsets (high ∷ highs) [] xs = []
offsets (high ∷ highs) (r ∷ rs) [] = []
offsets (high ∷ highs) (r ∷ rs) (x ∷ xs) = offset high r x ∷ offsets highs rs xs

pub offsets_den : (highs : List Bool) (rs : List Range) (xs : List Fraction) → All HasPositiveDen xs → All HasPositiveDen (offsets highs rs xs)
unfolding offsets
offsets_den [] rs xs d = All-nil HasPositiveDen
offsets_den (high ∷ highs) [] xs d = All-nil HasPositiveDen
offsets_den (high ∷ highs) (r ∷ rs) [] d = All-nil HasPositiveDen
offsets_den (high ∷ highs) (r ∷ rs) (x ∷ xs) d =
    All-cons HasPositiveDen (offset high r x) (offsets highs rs xs) (offset_den high r x (All-head HasPositiveDen x xs d)) (offsets_den highs rs xs (All-tail HasPositiveDen x xs d))

pub numbers_den : (f : ℕ → ℤ) (var : ℕ) (highs : List Bool) → All HasPositiveDen (numbers_from f var highs)
numbers_den f var [] = All-nil HasPositiveDen
numbers_den f var (high ∷ highs) = All-cons HasPositiveDen (whole (turned high (f var))) (numbers_from f (suc var) highs) (whole_den (turned high (f var))) (numbers_den f (suc var) highs)

-- one variable: its multiple of the end, and its number times the distance
moved_high : (k h : ℤ) (x l s m : Fraction) → 0 < x.den → 0 < l.den → 0 < s.den → 0 < m.den → IsSame (sum_of l s) m
    → IsSame (sum_of (sum_of (product_of (whole k) (whole h)) l) (sum_of (product_of (whole (neg_ℤ k)) (difference_of (whole h) x)) s)) (sum_of (product_of (whole k) x) m)
moved_high k h x l s m xd ld sd md e =
    same_given (whole k ∷ whole h ∷ x ∷ l ∷ s ∷ m ∷ whole (neg_ℤ k) ∷ [])
    (x0 ⊗ x1 ⊕ x3 ⊕ (x6 ⊗ (x1 ⊕ minus x2) ⊕ x4)) (x0 ⊗ x2 ⊕ x5)
    ((number (pos 1), x3 ⊕ x4, x5) ∷ (x1 ⊕ minus x2, x6, minus x0) ∷ [])
    (whole_den k, (whole_den h, (xd, (ld, (sd, (md, (whole_den (neg_ℤ k), tt)))))))
    (e, (same_sym (negated (whole k)) (whole (neg_ℤ k)) (negated-whole k), tt)) refl

moved_low : (k h : ℤ) (x l s m : Fraction) → 0 < x.den → 0 < l.den → 0 < s.den → 0 < m.den → IsSame (sum_of l s) m
    → IsSame (sum_of (sum_of (product_of (whole k) (whole h)) l) (sum_of (product_of (whole k) (difference_of x (whole h))) s)) (sum_of (product_of (whole k) x) m)
moved_low k h x l s m xd ld sd md e =
    same_given (whole k ∷ whole h ∷ x ∷ l ∷ s ∷ m ∷ [])
    (x0 ⊗ x1 ⊕ x3 ⊕ (x0 ⊗ (x2 ⊕ minus x1) ⊕ x4)) (x0 ⊗ x2 ⊕ x5)
    ((number (pos 1), x3 ⊕ x4, x5) ∷ [])
    (whole_den k, (whole_den h, (xd, (ld, (sd, (md, tt)))))) (e, tt) refl

moved : (f : ℕ → ℤ) (var : ℕ) (highs : List Bool) (bx : List Range) (xs : List Fraction) → length highs ≡ length bx → length xs ≡ length bx → All HasPositiveDen xs
    → IsSame (sum_of (linear_value f var (wholes (corner highs bx))) (sum_of_products (numbers_from f var highs) (offsets highs bx xs))) (linear_value f var xs)
unfolding wholes offsets offset
moved f var [] [] [] hs count d = sum_of-zero (whole (pos 0))
moved f var [] [] (x ∷ xs) hs count d = absurd (omega (arith, count))
moved f var [] (r ∷ bx) xs hs count d = absurd (omega (arith, hs))
moved f var (high ∷ highs) [] xs hs count d = absurd (omega (arith, hs))
moved f var (high ∷ highs) (r ∷ bx) [] hs count d = absurd (omega (arith, count))
moved f var (high ∷ highs) (r ∷ bx) (x ∷ xs) hs count d =
    let xd = All-head HasPositiveDen x xs d in
    let xsd = All-tail HasPositiveDen x xs d in
    let l = linear_value f (suc var) (wholes (corner highs bx)) in
    let s = sum_of_products (numbers_from f (suc var) highs) (offsets highs bx xs) in
    let m = linear_value f (suc var) xs in
    by_end high l s m xd (linear_den f (suc var) (wholes (corner highs bx)) (wholes_den (corner highs bx)))
    (sum_of_products_den (numbers_from f (suc var) highs) (offsets highs bx xs) (numbers_den f (suc var) highs) (offsets_den highs bx xs xsd))
    (linear_den f (suc var) xs xsd) (moved f (suc var) highs bx xs (omega (arith, hs)) (omega (arith, count)) xsd)
  where
    by_end : (b : Bool) (l s m : Fraction) → 0 < x.den → 0 < l.den → 0 < s.den → 0 < m.den → IsSame (sum_of l s) m
        → IsSame (sum_of (sum_of (product_of (whole (f var)) (whole (let end : ℤ = if b then r.high else r.low in end))) l) (sum_of (product_of (whole (turned b (f var))) (offset b r x)) s))
        (sum_of (product_of (whole (f var)) x) m)
    by_end true l s m xd ld sd md e = moved_high (f var) r.high x l s m xd ld sd md e
    by_end false l s m xd ld sd md e = moved_low (f var) r.low x l s m xd ld sd md e

-- ---- a row of the first tableau
gathered : (w c l s m : Fraction) → 0 < w.den → 0 < c.den → 0 < l.den → 0 < s.den → 0 < m.den → IsSame w (sum_of c l) → IsSame (sum_of l s) m
    → IsSame (sum_of w s) (sum_of c m)
gathered w c l s m wd cd ld sd md e k =
    same_given (w ∷ c ∷ l ∷ s ∷ m ∷ []) (x0 ⊕ x3) (x1 ⊕ x4) ((number (pos 1), x0, x1 ⊕ x2) ∷ (number (pos 1), x2 ⊕ x3, x4) ∷ [])
    (wd, (cd, (ld, (sd, (md, tt))))) (e, (k, tt)) refl

pub row_moved : (highs : List Bool) (bx : List Range) (xs : List Fraction) (q : Quantity) → length highs ≡ length bx → length xs ≡ length bx → All HasPositiveDen xs
    → IsSame (affine_value (first_row highs (corner highs bx) q) (offsets highs bx xs)) (quantity_value xs q)
row_moved highs bx xs q hs count d =
    let ns = corner highs bx in
    let f = coefficient_in q in
    gathered (whole (whole_value q ns)) (whole q.constant) (linear_value f 0 (wholes ns)) (sum_of_products (numbers_from f 0 highs) (offsets highs bx xs)) (linear_value f 0 xs)
    (whole_den (whole_value q ns)) (whole_den q.constant) (linear_den f 0 (wholes ns) (wholes_den ns))
    (sum_of_products_den (numbers_from f 0 highs) (offsets highs bx xs) (numbers_den f 0 highs) (offsets_den highs bx xs d)) (linear_den f 0 xs d)
    (whole_value_is q ns) (moved f 0 highs bx xs hs count d)

pub affine_same : (row vs ws : List Fraction) → AllZip IsSame vs ws → IsSame (affine_value row vs) (affine_value row ws)
affine_same [] vs ws e = refl
affine_same (t ∷ ts) vs ws e = sum_of-same t (sum_of_products ts vs) t (sum_of_products ts ws) (same_refl t) (sum_of_products-same ts ts vs ws (all_same_refl ts) e)

-- ---- a quantity with one term
nothing_step : (k : ℤ) (x l : Fraction) → 0 < x.den → 0 < l.den → k ≡ pos 0 → IsSame (sum_of (product_of (whole k) x) l) l
nothing_step k x l xd ld e =
    let none : IsSame (whole k) (whole (pos 0)) = ap (λ (z : ℤ). z *ℤ pos 1) e in
    same_given (whole k ∷ x ∷ l ∷ []) (x0 ⊗ x1 ⊕ x2) x2 ((x1, x0, number (pos 0)) ∷ []) (whole_den k, (xd, (ld, tt))) (none, tt) refl

none_from : (f : ℕ → ℤ) (var : ℕ) (xs : List Fraction) → ((v : ℕ) → var ≤ v → f v ≡ pos 0) → All HasPositiveDen xs → IsSame (linear_value f var xs) (whole (pos 0))
none_from f var [] h d = refl
none_from f var (x ∷ xs) h d =
    let xsd = All-tail HasPositiveDen x xs d in
    let l = linear_value f (suc var) xs in
    let ld = linear_den f (suc var) xs xsd in
    same_trans (sum_of (product_of (whole (f var)) x) l) l (whole (pos 0)) ld
    (nothing_step (f var) x l (All-head HasPositiveDen x xs d) ld (h var (omega arith))) (none_from f (suc var) xs (λ v g. h v (omega (arith, g))) xsd)

single : (f : ℕ → ℤ) (var k : ℕ) (xs : List Fraction) → k < length xs → ((v : ℕ) → v ≢ var + k → f v ≡ pos 0) → All HasPositiveDen xs
    → IsSame (linear_value f var xs) (product_of (whole (f (var + k))) (entry_of xs k))
single f var k [] inside h d = absurd (omega (arith, inside))
single f var zero (x ∷ xs) inside h d =
    let at : var ≡ var + 0 = omega arith in
    let l = linear_value f (suc var) xs in
    let p = product_of (whole (f var)) x in
    let pd = product_of_den (whole (f var)) x (whole_den (f var)) (All-head HasPositiveDen x xs d) in
    let none = none_from f (suc var) xs (λ v g. h v (λ e. omega (arith, g, e))) (All-tail HasPositiveDen x xs d) in
    subst (λ (n : ℕ). IsSame (sum_of p l) (product_of (whole (f n)) x)) at
    (same_trans (sum_of p l) (sum_of p (whole (pos 0))) p (sum_of_den p (whole (pos 0)) pd (whole_den (pos 0))) (sum_of-same p l p (whole (pos 0)) (same_refl p) none) (sum_of-zero p))
single f var (suc k) (x ∷ xs) inside h d =
    let at : suc var + k ≡ var + suc k = omega arith in
    let l = linear_value f (suc var) xs in
    let xsd = All-tail HasPositiveDen x xs d in
    let ld = linear_den f (suc var) xs xsd in
    let rest = single f (suc var) k xs (omega (arith, inside)) (λ v g. h v (λ e. g (omega (arith, e)))) xsd in
    let step = nothing_step (f var) x l (All-head HasPositiveDen x xs d) ld (h var (λ e. omega (arith, e))) in
    subst (λ (n : ℕ). IsSame (sum_of (product_of (whole (f var)) x) l) (product_of (whole (f n)) (entry_of xs k))) at
    (same_trans (sum_of (product_of (whole (f var)) x) l) l (product_of (whole (f (suc var + k))) (entry_of xs k)) ld step rest)

pub own : (j : ℕ) → coefficient (record { var = j; coef = pos 1 } ∷ []) j ≡ pos 1
own j = by_test (j == j) (grind (arith, nat_tests))
  where
    by_test : (b : Bool) → b ≡ true → (let z : ℤ = if b then pos 1 +ℤ pos 0 else pos 0 in z) ≡ pos 1
    by_test true h = refl
    by_test false h = absurd (cc)

pub others : (j v : ℕ) → v ≢ j → coefficient (record { var = j; coef = pos 1 } ∷ []) v ≡ pos 0
others j v h = by_test (j == v) (grind (arith, nat_tests))
  where
    by_test : (b : Bool) → b ≡ false → (let z : ℤ = if b then pos 1 +ℤ pos 0 else pos 0 in z) ≡ pos 0
    by_test true h = absurd (cc)
    by_test false h = refl

-- the distances from the two ends of a range
unfoldable pub bound_quantity : Bool → ℕ → Range → Quantity
bound_quantity true j r = high_quantity j r
bound_quantity false j r = low_quantity j r

minus_one : (k : ℤ) (x : Fraction) → k ≡ negsuc 0 → IsSame (product_of (whole k) x) (negated x)
minus_one k x e =
    subst (λ (z : ℤ). IsSame (product_of (whole z) x) (negated x)) (sym e) (same_by_ring (x ∷ []) (number (negsuc 0) ⊗ x0) (minus x0) refl)

plus_one : (k : ℤ) (x : Fraction) → k ≡ pos 1 → IsSame (product_of (whole k) x) x
plus_one k x e = subst (λ (z : ℤ). IsSame (product_of (whole z) x) x) (sym e) (one-product_of x)

pub bound_value : (b : Bool) (j : ℕ) (r : Range) (xs : List Fraction) → j < length xs → All HasPositiveDen xs
    → IsSame (quantity_value xs (bound_quantity b j r)) (offset b r (entry_of xs j))
unfolding bound_quantity offset
bound_value true j r xs inside d =
    let q = high_quantity j r in
    let f = coefficient_in q in
    let x = entry_of xs j in
    let l = linear_value f 0 xs in
    let here : 0 + j ≡ j = omega arith in
    let value = single f 0 j xs inside (λ v g. ap (λ (z : ℤ). neg_ℤ z) (others j v (λ e. g (omega (arith, e))))) d in
    let one : f (0 + j) ≡ negsuc 0 = ap f here ∙ ap (λ (z : ℤ). neg_ℤ z) (own j) in
    sum_of-same (whole r.high) l (whole r.high) (negated x) (same_refl (whole r.high))
    (same_trans l (product_of (whole (f (0 + j))) x) (negated x) (product_of_den (whole (f (0 + j))) x (whole_den (f (0 + j))) (entry_den xs j d)) value (minus_one (f (0 + j)) x one))
bound_value false j r xs inside d =
    let q = low_quantity j r in
    let f = coefficient_in q in
    let x = entry_of xs j in
    let xd = entry_den xs j d in
    let l = linear_value f 0 xs in
    let low = whole (neg_ℤ r.low) in
    let here : 0 + j ≡ j = omega arith in
    let value = single f 0 j xs inside (λ v g. others j v (λ e. g (omega (arith, e)))) d in
    let one : f (0 + j) ≡ pos 1 = ap f here ∙ own j in
    let is_x = same_trans l (product_of (whole (f (0 + j))) x) x (product_of_den (whole (f (0 + j))) x (whole_den (f (0 + j))) xd) value (plus_one (f (0 + j)) x one) in
    same_trans (sum_of low l) (sum_of l low) (difference_of x (whole r.low)) (sum_of_den l low (linear_den f 0 xs d) (whole_den (neg_ℤ r.low))) (sum_of_comm low l)
    (sum_of-same l low x (negated (whole r.low)) is_x (same_sym (negated (whole r.low)) low (negated-whole r.low)))
