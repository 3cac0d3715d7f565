-- The multipliers of a row: each quantity times its multiplier comes, all together, to the row's constant at each point.
use Rattle.std.proofs.Common.{◌≡◌, ◌≢◌, refl, sym, ap, subst, ℕ, zero, suc, ◌+◌, ◌<◌, ◌≤◌, Bool, true, false, List, [], ◌∷◌, length, get_or, drop, arith, All, pos, ◌<ℤ◌, if◌then◌else◌}
use Rattle.std.specs.Prelude.{◌==◌}
use Rattle.std.proofs.lemmas.Int.{ints}
use Rattle.std.proofs.lemmas.Bool.Decides.{nat_tests}
use Rattle.std.proofs.lemmas.List.Elements.{All-drop, All-head, All-tail}
use Rattle.qm_math.specs.Fraction.{Fraction, HasPositiveDen, IsAtMost, IsSame, whole}
use Rattle.qm_math.specs.Arithmetic.{difference_of, negated, product_of, sum_of}
use Rattle.qm_math.specs.Totals.{sum_of_products}
use Rattle.qm_math.proofs.Polynomials.{number, ◌⊕◌, ◌⊗◌, minus}
use Rattle.qm_math.proofs.Ring.{x0, x1, x2, x3, x4, x5}
use Rattle.qm_math.proofs.FractionRing.{same_by_ring}
use Rattle.qm_math.proofs.FractionLinear.{same_given}
use Rattle.qm_math.proofs.Compare.{at_most_trans}
use Rattle.qm_math.proofs.FractionOrder.{at_most-same}
use Rattle.qm_math.proofs.FractionLaws.{difference_of_den, one-product_of, product_of-same, product_of-zero, product_of_den, same_refl, same_sym, same_trans, sum_of-same, sum_of_den, whole_den}
use Rattle.qm_math.proofs.Rows.{sum_of_products_den}
use Rattle.qm_model.specs.declared.range.Range.{Range}
use Rattle.qm_model.specs.declared.row.Row.{Row}
use Rattle.qm_model.specs.declared.game.Problem.{Problem}
use Rattle.qm_tableau.specs.Tables.{Table, entry_of, row_at}
use Rattle.qm_tableau.specs.Quantities.{quantities}
use Rattle.qm_tableau.specs.Columns.{affine_value}
use Rattle.qm_tableau.specs.Good.{IsGood, IsPoint, IsUnitRow, column_values, values_at}
use Rattle.qm_tableau.proofs.Constants.{column_values_den, values_den, zip_at}
use Rattle.qm_tableau.proofs.Exactness.{entry_den}
use Rattle.qm_trees.specs.BoxPoints.{form_of}
use Rattle.qm_trees.proofs.CombinationSound.{form_of-difference, form_of-nothing}
use Rattle.qm_simplex.specs.Multipliers.{multiplier, number_for}
use Rattle.qm_simplex.proofs.ClosingEntries.{first_none, number_den}
use Rattle.qm_simplex.proofs.PointValues.{form_den}
use Rattle.qm_trees.proofs.CombinationSound.{form_of-combined}

-- ---- forms that have one place
pub form_same : (f g : ℕ → Fraction) (var : ℕ) (xs : List Fraction) → ((n : ℕ) → IsSame (f n) (g n)) → IsSame (form_of f var xs) (form_of g var xs)
form_same f g var [] e = refl
form_same f g var (x ∷ xs) e =
    sum_of-same (product_of (f var) x) (form_of f (suc var) xs) (product_of (g var) x) (form_of g (suc var) xs)
    (product_of-same (f var) x (g var) x (e var) (same_refl x)) (form_same f g (suc var) xs e)

nothing_form : (f : ℕ → Fraction) (var : ℕ) (xs : List Fraction) → ((n : ℕ) → 0 < (f n).den) → All HasPositiveDen xs
    → ((n : ℕ) → var ≤ n → IsSame (f n) (whole (pos 0))) → IsSame (form_of f var xs) (whole (pos 0))
nothing_form f var [] fd d h = refl
nothing_form f var (x ∷ xs) fd d h =
    let xsd = All-tail HasPositiveDen x xs d in
    same_given (f var ∷ x ∷ form_of f (suc var) xs ∷ []) (x0 ⊗ x1 ⊕ x2) (number (pos 0)) ((x1, x0, number (pos 0)) ∷ (number (pos 1), x2, number (pos 0)) ∷ [])
    (fd var, (All-head HasPositiveDen x xs d, (form_den f (suc var) xs fd xsd, tt)))
    (h var (omega arith), (nothing_form f (suc var) xs fd xsd (λ n g. h n (omega (arith, g))), tt)) refl

single_form : (f : ℕ → Fraction) (k : Fraction) (var j : ℕ) (xs : List Fraction) → ((n : ℕ) → 0 < (f n).den) → 0 < k.den → All HasPositiveDen xs
    → IsSame (f (var + j)) k → ((n : ℕ) → n ≢ var + j → IsSame (f n) (whole (pos 0))) → IsSame (form_of f var xs) (product_of k (entry_of xs j))
single_form f k var j [] fd kd d here others = same_sym (product_of k (whole (pos 0))) (whole (pos 0)) (product_of-zero k)
single_form f k var zero (x ∷ xs) fd kd d here others =
    let xsd = All-tail HasPositiveDen x xs d in
    let at : var + 0 ≡ var = omega arith in
    let one : IsSame (f var) k = subst (λ (n : ℕ). IsSame (f n) k) at here in
    same_given (f var ∷ k ∷ x ∷ form_of f (suc var) xs ∷ []) (x0 ⊗ x2 ⊕ x3) (x1 ⊗ x2) ((x2, x0, x1) ∷ (number (pos 1), x3, number (pos 0)) ∷ [])
    (fd var, (kd, (All-head HasPositiveDen x xs d, (form_den f (suc var) xs fd xsd, tt))))
    (one, (nothing_form f (suc var) xs fd xsd (λ n g. others n (λ e. omega (arith, g, e))), tt)) refl
single_form f k var (suc j) (x ∷ xs) fd kd d here others =
    let xsd = All-tail HasPositiveDen x xs d in
    let at : var + suc j ≡ suc var + j = omega arith in
    let rest = single_form f k (suc var) j xs fd kd xsd (subst (λ (n : ℕ). IsSame (f n) k) at here) (λ n g. others n (λ e. g (omega (arith, e)))) in
    same_given (f var ∷ x ∷ form_of f (suc var) xs ∷ k ∷ entry_of xs j ∷ []) (x0 ⊗ x1 ⊕ x2) (x3 ⊗ x4) ((x1, x0, number (pos 0)) ∷ (number (pos 1), x2, x3 ⊗ x4) ∷ [])
    (fd var, (All-head HasPositiveDen x xs d, (form_den f (suc var) xs fd xsd, (kd, (entry_den xs j xsd, tt)))))
    (others var (λ e. omega (arith, e)), (rest, tt)) refl

abbrev pub one_at : ℕ → ℕ → Fraction
one_at c i = if c == i then whole (pos 1) else whole (pos 0)

pub one_den : (c i : ℕ) → 0 < (one_at c i).den
one_den c i = by_test (c == i)
  where
    by_test : (b : Bool) → 0 < (let z : Fraction = if b then whole (pos 1) else whole (pos 0) in z).den
    by_test true = whole_den (pos 1)
    by_test false = whole_den (pos 0)

one_here : (c : ℕ) → IsSame (one_at c c) (whole (pos 1))
one_here c = by_test (c == c) refl
  where
    by_test : (b : Bool) → (c == c) ≡ b → IsSame (if b then whole (pos 1) else whole (pos 0)) (whole (pos 1))
    by_test true e = refl
    by_test false e = absurd (grind (arith, nat_tests))

none_there : (c n : ℕ) → n ≢ c → IsSame (one_at c n) (whole (pos 0))
none_there c n other = by_test (c == n) refl
  where
    by_test : (b : Bool) → (c == n) ≡ b → IsSame (if b then whole (pos 1) else whole (pos 0)) (whole (pos 0))
    by_test true e = let same : n ≡ c = grind (arith, nat_tests) in absurd (other same)
    by_test false e = refl

pub picked : (c : ℕ) (vs : List Fraction) → All HasPositiveDen vs → IsSame (form_of (one_at c) 0 vs) (entry_of vs c)
picked c vs d =
    let at : c ≡ 0 + c = omega arith in
    let v = entry_of vs c in
    same_trans (form_of (one_at c) 0 vs) (product_of (whole (pos 1)) v) v (product_of_den (whole (pos 1)) v (whole_den (pos 1)) (entry_den vs c d))
    (single_form (one_at c) (whole (pos 1)) 0 c vs (one_den c) (whole_den (pos 1)) d (subst (λ (n : ℕ). IsSame (one_at c n) (whole (pos 1))) at (one_here c))
    (λ n g. none_there c n (λ e. g (omega (arith, e)))))
    (one-product_of v)

-- ---- a row's numbers, quantity by quantity
absent : (c : ℕ) (columns : List ℕ) (numbers : List Fraction) → ((k : ℕ) → k < length columns → get_or columns k 0 ≡ c → ⊥) → number_for c columns numbers ≡ whole (pos 0)
absent c [] numbers h = refl
absent c (d ∷ columns) [] h = refl
absent c (d ∷ columns) (t ∷ numbers) h = by_test (d == c) refl (absent c columns numbers (λ k inside. h (suc k) (omega (arith, inside))))
  where
    by_test : (b : Bool) → (d == c) ≡ b → number_for c columns numbers ≡ whole (pos 0) → (if b then t else number_for c columns numbers) ≡ whole (pos 0)
    by_test true e later = let same : d ≡ c = grind (arith, nat_tests) in absurd (h 0 (omega arith) same)
    by_test false e later = later

number_step : (i c : ℕ) (t : Fraction) (columns : List ℕ) (numbers : List Fraction) → number_for c columns numbers ≡ whole (pos 0)
    → IsSame (number_for i (c ∷ columns) (t ∷ numbers)) (sum_of (product_of t (one_at c i)) (number_for i columns numbers))
number_step i c t columns numbers none = by_test (c == i) refl
  where
    by_test : (b : Bool) → (c == i) ≡ b
        → IsSame (if b then t else number_for i columns numbers) (sum_of (product_of t (if b then whole (pos 1) else whole (pos 0))) (number_for i columns numbers))
    by_test true e =
        let same : c ≡ i = grind (arith, nat_tests) in
        let none_here : number_for i columns numbers ≡ whole (pos 0) = subst (λ (n : ℕ). number_for n columns numbers ≡ whole (pos 0)) same none in
        subst (λ (z : Fraction). IsSame t (sum_of (product_of t (whole (pos 1))) z)) (sym none_here)
        (same_by_ring (t ∷ []) x0 (x0 ⊗ number (pos 1) ⊕ number (pos 0)) refl)
    by_test false e = same_by_ring (t ∷ number_for i columns numbers ∷ []) x1 (x0 ⊗ number (pos 0) ⊕ x1) refl

abbrev AreDistinct : List ℕ → Type 0
AreDistinct columns = (j k : ℕ) → j < k → k < length columns → get_or columns j 0 ≡ get_or columns k 0 → ⊥

-- the sum over all quantities is the sum over the columns
regrouped : (columns : List ℕ) (numbers vs : List Fraction) → length numbers ≡ length columns → All HasPositiveDen numbers → All HasPositiveDen vs → AreDistinct columns
    → IsSame (form_of (λ i. number_for i columns numbers) 0 vs) (sum_of_products numbers (column_values columns vs))
regrouped [] [] vs e nd d distinct = form_of-nothing 0 vs
regrouped [] (t ∷ numbers) vs e nd d distinct = absurd (omega (arith, e))
regrouped (c ∷ columns) [] vs e nd d distinct = absurd (omega (arith, e))
regrouped (c ∷ columns) (t ∷ numbers) vs e nd d distinct =
    let td = All-head HasPositiveDen t numbers nd in
    let nsd = All-tail HasPositiveDen t numbers nd in
    let f : ℕ → Fraction = λ i. number_for i (c ∷ columns) (t ∷ numbers) in
    let g : ℕ → Fraction = λ i. number_for i columns numbers in
    let gd : (i : ℕ) → 0 < (g i).den = λ i. number_den i columns numbers nsd in
    let both : ℕ → Fraction = λ i. sum_of (product_of t (one_at c i)) (g i) in
    let both_den : (i : ℕ) → 0 < (both i).den = λ i. sum_of_den (product_of t (one_at c i)) (g i) (product_of_den t (one_at c i) td (one_den c i)) (gd i) in
    let one = form_of (one_at c) 0 vs in
    let rest = form_of g 0 vs in
    let v = entry_of vs c in
    let s = sum_of_products numbers (column_values columns vs) in
    let none = absent c columns numbers (λ k inside same. distinct 0 (suc k) (omega arith) (omega (arith, inside)) (sym same)) in
    let one_form_den = form_den (one_at c) 0 vs (one_den c) d in
    let rest_den = form_den g 0 vs gd d in
    same_trans (form_of f 0 vs) (form_of both 0 vs) (sum_of (product_of t v) s) (form_den both 0 vs both_den d)
    (form_same f both 0 vs (λ i. number_step i c t columns numbers none))
    (same_trans (form_of both 0 vs) (sum_of (product_of t one) rest) (sum_of (product_of t v) s) (sum_of_den (product_of t one) rest (product_of_den t one td one_form_den) rest_den)
    (form_of-combined t (one_at c) g 0 vs)
    (sum_of-same (product_of t one) rest (product_of t v) s (product_of-same t one t v (same_refl t) (picked c vs d))
    (regrouped columns numbers vs (omega (arith, e)) nsd d (λ j k less inside. distinct (suc j) (suc k) (omega (arith, less)) (omega (arith, inside))))))

multiplier_is : (t : Table) (r i : ℕ) → number_for r t.columns (drop 1 (row_at t.rows r)) ≡ whole (pos 0)
    → IsSame (multiplier t r i) (difference_of (one_at r i) (number_for i t.columns (drop 1 (row_at t.rows r))))
multiplier_is t r i none = by_test (i == r) (r == i) refl refl
  where
    by_test : (a b : Bool) → (i == r) ≡ a → (r == i) ≡ b
        → IsSame (if a then whole (pos 1) else negated (number_for i t.columns (drop 1 (row_at t.rows r))))
        (difference_of (if b then whole (pos 1) else whole (pos 0)) (number_for i t.columns (drop 1 (row_at t.rows r))))
    by_test true true e f =
        let same : r ≡ i = grind (arith, nat_tests) in
        let none_here : number_for i t.columns (drop 1 (row_at t.rows r)) ≡ whole (pos 0) = subst (λ (n : ℕ). number_for n t.columns (drop 1 (row_at t.rows r)) ≡ whole (pos 0)) same none in
        subst (λ (z : Fraction). IsSame (whole (pos 1)) (difference_of (whole (pos 1)) z)) (sym none_here)
        (same_by_ring [] (number (pos 1)) (number (pos 1) ⊕ minus (number (pos 0))) refl)
    by_test true false e f = absurd (grind (arith, nat_tests))
    by_test false true e f = absurd (grind (arith, nat_tests))
    by_test false false e f = same_by_ring (number_for i t.columns (drop 1 (row_at t.rows r)) ∷ []) (minus x0) (number (pos 0) ⊕ minus x0) refl

-- ---- the columns of a good tableau
not_one : (e : Fraction) → 0 < e.den → IsSame e (whole (pos 1)) → IsAtMost e (whole (pos 0)) → ⊥
not_one e d one none =
    let wrong : IsAtMost (whole (pos 1)) (whole (pos 0)) = at_most_trans (whole (pos 1)) e (whole (pos 0)) d (at_most-same (whole (pos 1)) e (same_sym e (whole (pos 1)) one)) none in
    omega (arith, ints, wrong)

in_two : (row vs : List Fraction) → 0 < length row → affine_value row vs ≡ sum_of (entry_of row 0) (sum_of_products (drop 1 row) vs)
in_two [] vs h = absurd (omega (arith, h))
in_two (t ∷ ts) vs h = refl

behind_long : (row : List Fraction) (n : ℕ) → length row ≡ suc n → length (drop 1 row) ≡ n
behind_long [] n h = absurd (omega (arith, h))
behind_long (t ∷ ts) n h = omega (arith, h)

closing_step : (m d s v a g : Fraction) → 0 < m.den → 0 < d.den → 0 < s.den → 0 < v.den → 0 < a.den → 0 < g.den
    → IsSame m (difference_of a g) → IsSame a v → IsSame v (sum_of d s) → IsSame s g → IsSame m d
closing_step m d s v a g md dd sd vd ad gd e f h k =
    same_given (m ∷ d ∷ s ∷ v ∷ a ∷ g ∷ []) x0 x1
    ((number (pos 1), x0, x4 ⊕ minus x5) ∷ (number (pos 1), x4, x3) ∷ (number (pos 1), x3, x1 ⊕ x2) ∷ (number (pos 1), x2, x5) ∷ [])
    (md, (dd, (sd, (vd, (ad, (gd, tt)))))) (e, (f, (h, (k, tt)))) refl

-- no column belongs to the quantity of this row
abbrev pub IsApart : Table → ℕ → Type 0
IsApart t r = (k : ℕ) → k < length t.columns → get_or t.columns k 0 ≡ r → ⊥

module _ (P : Problem) (cuts : List Row) (bx : List Range) (t : Table) (gt : IsGood P cuts bx t) where
  unit_den : (k : ℕ) → k < length t.columns → All HasPositiveDen (row_at t.rows (get_or t.columns k 0))
  unit_den k inside = gt.positive (get_or t.columns k 0) [] (gt.named k 0 inside)

  unit_long : (k : ℕ) → k < length t.columns → length (row_at t.rows (get_or t.columns k 0)) ≡ suc (length t.columns)
  unit_long k inside = gt.width (get_or t.columns k 0) [] (gt.named k 0 inside)

  distinct : AreDistinct t.columns
  distinct j k less inside same =
      let row = row_at t.rows (get_or t.columns k 0) in
      let before : j < length t.columns = omega (arith, less, inside) in
      let long : length row ≡ suc (length t.columns) = unit_long k inside in
      let unit : IsUnitRow (suc j) row = subst (λ (i : ℕ). IsUnitRow (suc j) (row_at t.rows i)) same (gt.units j before) in
      let one : IsSame (entry_of row (suc k)) (whole (pos 1)) = (gt.units k inside).one in
      let none : IsSame (entry_of row (suc k)) (whole (pos 0)) = unit.zeros (suc k) (omega (arith, inside, long)) (λ e. omega (arith, e, less)) in
      not_one (entry_of row (suc k)) (entry_den row (suc k) (unit_den k inside)) one (at_most-same (entry_of row (suc k)) (whole (pos 0)) none)

  -- no column is the objective's: in the first row a unit row's 1 would be positive
  pub first_apart : IsApart t 0
  first_apart k inside same =
      let row = row_at t.rows (get_or t.columns k 0) in
      let one : IsSame (entry_of row (suc k)) (whole (pos 1)) = (gt.units k inside).one in
      let first : IsSame (entry_of (row_at t.rows 0) (suc k)) (whole (pos 1)) = subst (λ (i : ℕ). IsSame (entry_of (row_at t.rows i) (suc k)) (whole (pos 1))) same one in
      let d : All HasPositiveDen (row_at t.rows 0) = subst (λ (i : ℕ). All HasPositiveDen (row_at t.rows i)) same (unit_den k inside) in
      not_one (entry_of (row_at t.rows 0) (suc k)) (entry_den (row_at t.rows 0) (suc k) d) first (first_none t.rows (suc k) (gt.negative k inside))

  -- no column is that of a row whose constant isn't 0
  pub below_apart : (r : ℕ) → (entry_of (row_at t.rows r) 0).num <ℤ pos 0 → IsApart t r
  below_apart r below k inside same =
      let row = row_at t.rows (get_or t.columns k 0) in
      let long : length row ≡ suc (length t.columns) = unit_long k inside in
      let none : IsSame (entry_of row 0) (whole (pos 0)) = (gt.units k inside).zeros 0 (omega (arith, long)) (λ e. omega (arith, e)) in
      let here : IsSame (entry_of (row_at t.rows r) 0) (whole (pos 0)) = subst (λ (i : ℕ). IsSame (entry_of (row_at t.rows i) 0) (whole (pos 0))) same none in
      not_below (entry_of (row_at t.rows r) 0) below here
    where
      not_below : (x : Fraction) → x.num <ℤ pos 0 → IsSame x (whole (pos 0)) → ⊥
      not_below x h e = omega (arith, ints, h, e)

  pub closing_sum : (r : ℕ) → r < length t.rows → IsApart t r → (xs : List Fraction) → IsPoint bx xs
      → IsSame (form_of (multiplier t r) 0 (values_at P cuts bx xs)) (entry_of (row_at t.rows r) 0)
  closing_sum r inside apart xs is =
      let row = row_at t.rows r in
      let rd : All HasPositiveDen row = gt.positive r [] inside in
      let long : length row ≡ suc (length t.columns) = gt.width r [] inside in
      let numbers = drop 1 row in
      let nd = All-drop HasPositiveDen 1 row rd in
      let vs = values_at P cuts bx xs in
      let vd = values_den xs (quantities P cuts bx) is.positive in
      let inputs = column_values t.columns vs in
      let s = sum_of_products numbers inputs in
      let d = entry_of row 0 in
      let v = entry_of vs r in
      let comes : IsSame (affine_value row inputs) v = zip_at (λ (row : List Fraction) (value : Fraction). IsSame (affine_value row inputs) value) t.rows vs r [] (whole (pos 0)) (gt.functions xs is) inside in
      let split : IsSame (sum_of d s) v = subst (λ (z : Fraction). IsSame z v) (in_two row inputs (omega (arith, long))) comes in
      let none = absent r t.columns numbers apart in
      let f : ℕ → Fraction = λ i. difference_of (one_at r i) (number_for i t.columns numbers) in
      let numbers_den : (i : ℕ) → 0 < (number_for i t.columns numbers).den = λ i. number_den i t.columns numbers nd in
      let f_den : (i : ℕ) → 0 < (f i).den = λ i. difference_of_den (one_at r i) (number_for i t.columns numbers) (one_den r i) (numbers_den i) in
      let m = form_of f 0 vs in
      let md = form_den f 0 vs f_den vd in
      let a = form_of (one_at r) 0 vs in
      let g = form_of (λ i. number_for i t.columns numbers) 0 vs in
      let whole_sum : IsSame m d =
      closing_step m d s v a g md (entry_den row 0 rd) (sum_of_products_den numbers inputs nd (column_values_den t.columns vs vd)) (entry_den vs r vd)
      (form_den (one_at r) 0 vs (one_den r) vd) (form_den (λ i. number_for i t.columns numbers) 0 vs numbers_den vd)
      (form_of-difference (one_at r) (λ i. number_for i t.columns numbers) 0 vs) (picked r vs vd) (same_sym (sum_of d s) v split)
      (same_sym g s (regrouped t.columns numbers vs (behind_long row (length t.columns) long) nd vd distinct)) in
      same_trans (form_of (multiplier t r) 0 vs) m d md (form_same (multiplier t r) f 0 vs (λ i. multiplier_is t r i none)) whole_sum

  -- the objective's multiplier in any other row's combination
  pub first_multiplier : (r : ℕ) → 1 ≤ r → multiplier t r 0 ≡ negated (whole (pos 0))
  first_multiplier r more = by_test (0 == r) refl
    where
      by_test : (b : Bool) → (0 == r) ≡ b → (if b then whole (pos 1) else negated (number_for 0 t.columns (drop 1 (row_at t.rows r)))) ≡ negated (whole (pos 0))
      by_test true e = absurd (let same : 0 ≡ r = grind (arith, nat_tests) in omega (arith, same, more))
      by_test false e = ap negated (absent 0 t.columns (drop 1 (row_at t.rows r)) first_apart)
