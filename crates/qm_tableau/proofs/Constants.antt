-- The columns' quantities decide the column of constants.
use Rattle.std.proofs.Common.{◌≡◌, refl, subst, ◌∙◌, ℕ, zero, suc, ◌<◌, List, [], ◌∷◌, length, get_or, map, arith, All, Contains, ℤ, pos}
use Rattle.std.specs.List.{AllZip}
use Rattle.std.proofs.lemmas.List.Elements.{All-cons, All-head, All-nil, All-tail}
use Rattle.qm_math.specs.Fraction.{Fraction, HasPositiveDen, IsSame, whole}
use Rattle.qm_math.specs.Arithmetic.{product_of, sum_of}
use Rattle.qm_math.specs.Totals.{sum_of_products}
use Rattle.qm_math.proofs.Polynomials.{number, ◌⊕◌, ◌⊗◌}
use Rattle.qm_math.proofs.Ring.{x0}
use Rattle.qm_math.proofs.FractionRing.{same_by_ring}
use Rattle.qm_math.proofs.FractionLaws.{product_of_den, same_refl, same_sym, same_trans, sum_of-same, sum_of-zero, sum_of_den, whole_den, product_of-same}
use Rattle.qm_math.proofs.Rows.{sum_of_products_den}
use Rattle.qm_model.specs.declared.range.Range.{Range}
use Rattle.qm_model.specs.declared.row.Row.{Row}
use Rattle.qm_model.specs.declared.game.Problem.{Problem}
use Rattle.qm_tableau.specs.Tables.{Table, entry_of, row_at}
use Rattle.qm_tableau.specs.Quantities.{Quantity, coefficient_in, quantities}
use Rattle.qm_tableau.specs.Columns.{affine_value, column_at}
use Rattle.qm_tableau.specs.Good.{ComeTo, IsGood, column_values, linear_value, quantity_value, values_at}
use Rattle.qm_tableau.proofs.Exactness.{entry_den}

pub zip_at : {A B : Type 0} (R : A → B → Type 0) (xs : List A) (ys : List B) (i : ℕ) (d : A) (e : B) → AllZip R xs ys → i < length xs → R (get_or xs i d) (get_or ys i e)
zip_at R [] ys i d e h k = absurd (omega arith)
zip_at R (x ∷ xs) [] i d e h k = absurd h
zip_at R (x ∷ xs) (y ∷ ys) zero d e h k = h.0
zip_at R (x ∷ xs) (y ∷ ys) (suc i) d e h k = zip_at R xs ys i d e h.1 (omega arith)

-- ---- dens
pub linear_den : (f : ℕ → ℤ) (var : ℕ) (xs : List Fraction) → All HasPositiveDen xs → 0 < (linear_value f var xs).den
linear_den f var [] d = whole_den (pos 0)
linear_den f var (x ∷ xs) d =
    sum_of_den (product_of (whole (f var)) x) (linear_value f (suc var) xs) (product_of_den (whole (f var)) x (whole_den (f var)) (All-head HasPositiveDen x xs d))
    (linear_den f (suc var) xs (All-tail HasPositiveDen x xs d))

pub quantity_den : (xs : List Fraction) (q : Quantity) → All HasPositiveDen xs → 0 < (quantity_value xs q).den
quantity_den xs q d = sum_of_den (whole q.constant) (linear_value (coefficient_in q) 0 xs) (whole_den q.constant) (linear_den (coefficient_in q) 0 xs d)

pub values_den : (xs : List Fraction) (qs : List Quantity) → All HasPositiveDen xs → All HasPositiveDen (map (quantity_value xs) qs)
values_den xs [] d = All-nil HasPositiveDen
values_den xs (q ∷ qs) d = All-cons HasPositiveDen (quantity_value xs q) (map (quantity_value xs) qs) (quantity_den xs q d) (values_den xs qs d)

pub column_values_den : (cols : List ℕ) (vs : List Fraction) → All HasPositiveDen vs → All HasPositiveDen (column_values cols vs)
column_values_den [] vs d = All-nil HasPositiveDen
column_values_den (c ∷ cols) vs d = All-cons HasPositiveDen (entry_of vs c) (column_values cols vs) (entry_den vs c d) (column_values_den cols vs d)

pub affine_den : (row vs : List Fraction) → All HasPositiveDen row → All HasPositiveDen vs → 0 < (affine_value row vs).den
affine_den [] vs d e = whole_den (pos 0)
affine_den (t ∷ ts) vs d e =
    sum_of_den t (sum_of_products ts vs) (All-head HasPositiveDen t ts d) (sum_of_products_den ts vs (All-tail HasPositiveDen t ts d) e)

-- ---- rows where all inputs are 0
pub AreZero : List Fraction → Type 0
AreZero vs = (i : ℕ) → IsSame (entry_of vs i) (whole (pos 0))

zero_step : (k v s : Fraction) → 0 < k.den → IsSame v (whole (pos 0)) → IsSame s (whole (pos 0)) → IsSame (sum_of (product_of k v) s) (whole (pos 0))
zero_step k v s kd e f =
    let z = whole (pos 0) in
    same_trans (sum_of (product_of k v) s) (sum_of (product_of k z) z) z (sum_of_den (product_of k z) z (product_of_den k z kd (whole_den (pos 0))) (whole_den (pos 0)))
    (sum_of-same (product_of k v) s (product_of k z) z (product_of-same k v k z (same_refl k) e) f)
    (same_by_ring (k ∷ []) (x0 ⊗ number (pos 0) ⊕ number (pos 0)) (number (pos 0)) refl)

products_zero : (ks vs : List Fraction) → All HasPositiveDen ks → AreZero vs → IsSame (sum_of_products ks vs) (whole (pos 0))
unfolding AreZero
products_zero [] vs d h = refl
products_zero (k ∷ ks) [] d h = refl
products_zero (k ∷ ks) (v ∷ vs) d h =
    zero_step k v (sum_of_products ks vs) (All-head HasPositiveDen k ks d) (h 0) (products_zero ks vs (All-tail HasPositiveDen k ks d) (λ i. h (suc i)))

pub constant_left : (row vs : List Fraction) → All HasPositiveDen row → AreZero vs → IsSame (affine_value row vs) (entry_of row 0)
constant_left [] vs d h = refl
constant_left (t ∷ ts) vs d h =
    let z = whole (pos 0) in
    let td = All-head HasPositiveDen t ts d in
    same_trans (sum_of t (sum_of_products ts vs)) (sum_of t z) t (sum_of_den t z td (whole_den (pos 0)))
    (sum_of-same t (sum_of_products ts vs) t z (same_refl t) (products_zero ts vs (All-tail HasPositiveDen t ts d) h)) (sum_of-zero t)

-- 0 for each column
pub nothing : List ℕ → List Fraction
nothing cols = map (λ (c : ℕ). whole (pos 0)) cols

pub nothing_long : (cols : List ℕ) → length (nothing cols) ≡ length cols
unfolding nothing
nothing_long [] = refl
nothing_long (c ∷ cols) = let e = nothing_long cols in omega (arith, e)

pub nothing_den : (cols : List ℕ) → All HasPositiveDen (nothing cols)
unfolding nothing
nothing_den [] = All-nil HasPositiveDen
nothing_den (c ∷ cols) = All-cons HasPositiveDen (whole (pos 0)) (map (λ (c : ℕ). whole (pos 0)) cols) (whole_den (pos 0)) (nothing_den cols)

pub nothing_zero : (cols : List ℕ) → AreZero (nothing cols)
unfolding nothing AreZero
nothing_zero [] i = refl
nothing_zero (c ∷ cols) zero = refl
nothing_zero (c ∷ cols) (suc i) = nothing_zero cols i

mapped_zero : (vs : List Fraction) (cols : List ℕ) → ((k : ℕ) → k < length cols → IsSame (entry_of vs (get_or cols k 0)) (whole (pos 0))) → AreZero (column_values cols vs)
unfolding AreZero
mapped_zero vs [] h i = refl
mapped_zero vs (c ∷ cols) h zero = h 0 (omega arith)
mapped_zero vs (c ∷ cols) h (suc i) = mapped_zero vs cols (λ k g. h (suc k) (omega (arith, g))) i

-- two lists of rows that come to the same values where their inputs are 0
joined : (ts us : List (List Fraction)) (vs xs ys : List Fraction) → ComeTo ts xs vs → ComeTo us ys vs → AreZero xs → AreZero ys
    → All HasPositiveDen xs → All HasPositiveDen ys → All HasPositiveDen vs → All (λ row. All HasPositiveDen row) ts → All (λ row. All HasPositiveDen row) us
    → AllZip IsSame (column_at ts 0) (column_at us 0)
joined [] [] vs xs ys h k zx zy xd yd vd td ud = tt
joined [] (u ∷ us) [] xs ys h k zx zy xd yd vd td ud = absurd k
joined [] (u ∷ us) (v ∷ vs) xs ys h k zx zy xd yd vd td ud = absurd h
joined (t ∷ ts) us [] xs ys h k zx zy xd yd vd td ud = absurd h
joined (t ∷ ts) [] (v ∷ vs) xs ys h k zx zy xd yd vd td ud = absurd k
joined (t ∷ ts) (u ∷ us) (v ∷ vs) xs ys h k zx zy xd yd vd td ud =
    let t0 = All-head (λ (r : List Fraction). All HasPositiveDen r) t ts td in
    let u0 = All-head (λ (r : List Fraction). All HasPositiveDen r) u us ud in
    let v0 = All-head HasPositiveDen v vs vd in
    let here : IsSame (entry_of t 0) (entry_of u 0) =
    same_trans (entry_of t 0) (affine_value t xs) (entry_of u 0) (affine_den t xs t0 xd) (same_sym (affine_value t xs) (entry_of t 0) (constant_left t xs t0 zx))
    (same_trans (affine_value t xs) v (entry_of u 0) v0 h.0
    (same_trans v (affine_value u ys) (entry_of u 0) (affine_den u ys u0 yd) (same_sym (affine_value u ys) v k.0) (constant_left u ys u0 zy))) in (
      here,
      joined ts us vs xs ys h.1 k.1 zx zy xd yd (All-tail HasPositiveDen v vs vd) (All-tail (λ (r : List Fraction). All HasPositiveDen r) t ts td)
          (All-tail (λ (r : List Fraction). All HasPositiveDen r) u us ud),
    )

pub same_constants : (P : Problem) (cuts : List Row) (bx : List Range) (t u : Table) → IsGood P cuts bx t → IsGood P cuts bx u → All (Contains t.columns) u.columns
    → AllZip IsSame (column_at t.rows 0) (column_at u.rows 0)
same_constants P cuts bx t u gt gu h =
    let xs = nothing t.columns in
    let xd = nothing_den t.columns in
    let at = gt.taken xs (nothing_long t.columns) xd in
    let point = at.0 in
    let vs = values_at P cuts bx point in
    let vd = values_den point (quantities P cuts bx) (at.1).positive in
    let zx = nothing_zero t.columns in
    let zero_at : (k : ℕ) → k < length t.columns → IsSame (entry_of vs (get_or t.columns k 0)) (whole (pos 0)) = λ k inside.
    (let r = get_or t.columns k 0 in
    let below : r < length t.rows = gt.named k 0 inside in
    let row = row_at t.rows r in
    let rd : All HasPositiveDen row = gt.positive r [] below in
    let long : length row ≡ suc (length t.columns) = gt.width r [] below in
    let comes : IsSame (affine_value row xs) (entry_of vs r) = zip_at (λ (row : List Fraction) (value : Fraction). IsSame (affine_value row xs) value) t.rows vs r [] (whole (pos 0)) at.2 below in
    let none : IsSame (entry_of row 0) (whole (pos 0)) = (gt.units k inside).zeros 0 (omega (arith, long)) (λ e. omega (arith, e)) in
    same_trans (entry_of vs r) (affine_value row xs) (whole (pos 0)) (affine_den row xs rd xd) (same_sym (affine_value row xs) (entry_of vs r) comes)
    (same_trans (affine_value row xs) (entry_of row 0) (whole (pos 0)) (entry_den row 0 rd) (constant_left row xs rd zx) none)) in
    let zero_there : (k : ℕ) → k < length u.columns → IsSame (entry_of vs (get_or u.columns k 0)) (whole (pos 0)) = λ k inside.
    (let c = get_or u.columns k 0 in
    let place : Contains t.columns c = h k 0 inside in
    let same : get_or t.columns place.0 0 ≡ c = found t.columns c place in
    subst (λ (r : ℕ). IsSame (entry_of vs r) (whole (pos 0))) same (zero_at place.0 place.1)) in
    joined t.rows u.rows vs xs (column_values u.columns vs) at.2 (gu.functions point at.1) zx (mapped_zero vs u.columns zero_there) xd (column_values_den u.columns vs vd) vd gt.positive gu.positive
  where
    any_default : (cols : List ℕ) (k : ℕ) (d e : ℕ) → k < length cols → get_or cols k d ≡ get_or cols k e
    any_default [] k d e h = absurd (omega arith)
    any_default (c ∷ cols) zero d e h = refl
    any_default (c ∷ cols) (suc k) d e h = any_default cols k d e (omega arith)

    found : (cols : List ℕ) (c : ℕ) → (p : Contains cols c) → get_or cols p.0 0 ≡ c
    found cols c p = any_default cols p.0 0 c p.1 ∙ p.2
