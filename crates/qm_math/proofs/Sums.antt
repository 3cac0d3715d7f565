-- Sums of whole numbers over lists.
use Rattle.std.proofs.Common.{◌≡◌, ◌∙◌, sym, refl, ap, ap₂, ℕ, suc, arith, List, [], ◌∷◌, ◌++◌, map, All, ℤ, pos, ◌+ℤ◌, ◌*ℤ◌, neg_ℤ, ◌≤ℤ◌, ◌+◌, ◌-◌, ◌≤◌, add-one, length, get_or}
use Rattle.std.specs.List.{enumerate_from, range_with_len}
use Rattle.std.proofs.lemmas.List.FromFn.{get_or-range_with_len, length-range_with_len}
use Rattle.std.proofs.Math.IntN.{+ℤ_assoc, +ℤ_idl, *ℤ_comm, zero-*ℤ, neg_ℤ-+ℤ}
use Rattle.std.proofs.lemmas.List.Elements.{All-head, All-tail}
use Rattle.std.proofs.lemmas.Int.{ints}
use Rattle.qm_math.specs.Sums.{sum_from, sum_of_each}
use Rattle.qm_math.proofs.Products.{*ℤ-add}
use Rattle.qm_math.proofs.Whole.{le_sum}

pub sum_of_each-append : {A : Type 0} (f : A → ℤ) (xs ys : List A) → sum_of_each f (xs ++ ys) ≡ sum_of_each f xs +ℤ sum_of_each f ys
sum_of_each-append f [] ys = sym (+ℤ_idl (sum_of_each f ys))
sum_of_each-append f (x ∷ xs) ys = ap (λ k. f x +ℤ k) (sum_of_each-append f xs ys) ∙ sym (+ℤ_assoc (f x) (sum_of_each f xs) (sum_of_each f ys))

pub sum_of_each-map : {A B : Type 0} (f : B → ℤ) (g : A → B) (xs : List A) → sum_of_each f (map g xs) ≡ sum_of_each (λ x. f (g x)) xs
sum_of_each-map f g [] = refl
sum_of_each-map f g (x ∷ xs) = ap (λ k. f (g x) +ℤ k) (sum_of_each-map f g xs)

pub *ℤ-sum_of_each : {A : Type 0} (k : ℤ) (f : A → ℤ) (xs : List A) → k *ℤ sum_of_each f xs ≡ sum_of_each (λ x. k *ℤ f x) xs
*ℤ-sum_of_each k f [] = *ℤ_comm k (pos 0) ∙ zero-*ℤ k
*ℤ-sum_of_each k f (x ∷ xs) = *ℤ-add k (f x) (sum_of_each f xs) ∙ ap (λ n. (k *ℤ f x) +ℤ n) (*ℤ-sum_of_each k f xs)

pub neg-sum_of_each : {A : Type 0} (f : A → ℤ) (xs : List A) → neg_ℤ (sum_of_each f xs) ≡ sum_of_each (λ x. neg_ℤ (f x)) xs
neg-sum_of_each f [] = refl
neg-sum_of_each f (x ∷ xs) = neg_ℤ-+ℤ (f x) (sum_of_each f xs) ∙ ap (λ n. neg_ℤ (f x) +ℤ n) (neg-sum_of_each f xs)

four : (a b c d : ℤ) → (a +ℤ b) +ℤ (c +ℤ d) ≡ (a +ℤ c) +ℤ (b +ℤ d)
four a b c d = omega (arith, ints)

pub sum_of_each-sum : {A : Type 0} (f g : A → ℤ) (xs : List A) → sum_of_each (λ x. f x +ℤ g x) xs ≡ sum_of_each f xs +ℤ sum_of_each g xs
sum_of_each-sum f g [] = refl
sum_of_each-sum f g (x ∷ xs) =
    ap (λ n. (f x +ℤ g x) +ℤ n) (sum_of_each-sum f g xs) ∙ four (f x) (g x) (sum_of_each f xs) (sum_of_each g xs)

pub sum_of_each-zero : {A : Type 0} (xs : List A) → sum_of_each (λ x. pos 0) xs ≡ pos 0
sum_of_each-zero [] = refl
sum_of_each-zero (x ∷ xs) = +ℤ_idl (sum_of_each (λ x. pos 0) xs) ∙ sum_of_each-zero xs

pub sum_of_each-same : {A : Type 0} (f g : A → ℤ) (xs : List A) → All (λ x. f x ≡ g x) xs → sum_of_each f xs ≡ sum_of_each g xs
sum_of_each-same f g [] e = refl
sum_of_each-same f g (x ∷ xs) e =
    ap₂ (λ k n. k +ℤ n) (All-head (λ x. f x ≡ g x) x xs e) (sum_of_each-same f g xs (All-tail (λ x. f x ≡ g x) x xs e))

pub sum_of_each-le : {A : Type 0} (f g : A → ℤ) (xs : List A) → All (λ x. f x ≤ℤ g x) xs → sum_of_each f xs ≤ℤ sum_of_each g xs
sum_of_each-le f g [] h = omega (arith, ints)
sum_of_each-le f g (x ∷ xs) h =
    le_sum (f x) (g x) (sum_of_each f xs) (sum_of_each g xs)
    (All-head (λ x. f x ≤ℤ g x) x xs h) (sum_of_each-le f g xs (All-tail (λ x. f x ≤ℤ g x) x xs h))

-- the two sums of a double sum change places
pub sum_of_each_exchange : {A B : Type 0} (f : A → B → ℤ) (xs : List A) (ys : List B)
    → sum_of_each (λ x. sum_of_each (f x) ys) xs ≡ sum_of_each (λ y. sum_of_each (λ x. f x y) xs) ys
sum_of_each_exchange f [] ys = sym (sum_of_each-zero ys)
sum_of_each_exchange f (x ∷ xs) ys =
    ap (λ n. sum_of_each (f x) ys +ℤ n) (sum_of_each_exchange f xs ys)
    ∙ sym (sum_of_each-sum (f x) (λ y. sum_of_each (λ x. f x y) xs) ys)

-- ---- sums by number are sums over the numbered items, and over their numbers
pub sum_from-each : {A : Type 0} (f : ℕ → A → ℤ) (first : ℕ) (xs : List A)
    → sum_from f first xs ≡ sum_of_each (λ p. f p.0 p.1) (enumerate_from first xs)
sum_from-each f first [] = refl
sum_from-each f first (x ∷ xs) =
    ap (λ n. f first x +ℤ n) (sum_from-each f (suc first) xs)
    ∙ ap (λ k. f first x +ℤ sum_of_each (λ p. f p.0 p.1) (enumerate_from k xs)) (sym (add-one first))

later_item : {A : Type 0} (x : A) (xs : List A) (first i : ℕ) (d : A) → first + 1 ≤ i → get_or xs (i - (first + 1)) d ≡ get_or (x ∷ xs) (i - first) d
later_item x xs first i d h =
    let e : i - first ≡ suc (i - (first + 1)) = omega arith in
    ap (λ k. get_or (x ∷ xs) k d) (sym e)

pub sum_from-places : {A : Type 0} (f : ℕ → A → ℤ) (first : ℕ) (xs : List A) (d : A)
    → sum_from f first xs ≡ sum_of_each (λ i. f i (get_or xs (i - first) d)) (range_with_len first (length xs))
sum_from-places f first [] d = refl
sum_from-places f first (x ∷ xs) d =
    let numbers = range_with_len (first + 1) (length xs) in
    let none : first - first ≡ 0 = omega arith in
    let here : get_or (x ∷ xs) (first - first) d ≡ x = ap (λ k. get_or (x ∷ xs) k d) none in
    let next : sum_from f (suc first) xs ≡ sum_of_each (λ i. f i (get_or xs (i - (first + 1)) d)) numbers =
    ap (λ k. sum_from f k xs) (sym (add-one first)) ∙ sum_from-places f (first + 1) xs d in
    let later : sum_of_each (λ i. f i (get_or xs (i - (first + 1)) d)) numbers ≡ sum_of_each (λ i. f i (get_or (x ∷ xs) (i - first) d)) numbers =
    sum_of_each-same (λ i. f i (get_or xs (i - (first + 1)) d)) (λ i. f i (get_or (x ∷ xs) (i - first) d)) numbers
    (λ k e low.
    (let number : get_or numbers k e ≡ (first + 1) + k = get_or-range_with_len (first + 1) (length xs) k e (omega (arith, length-range_with_len (first + 1) (length xs))) in
    ap (f (get_or numbers k e)) (later_item x xs first (get_or numbers k e) d (omega arith)))) in
    ap₂ (λ a b. f first a +ℤ b) (sym here) (next ∙ later)
