-- Sums of fractions over a list that is cut, grows, has one item changed or loses items that give 0.
use Rattle.std.proofs.Common.{◌≡◌, refl, ℕ, zero, suc, ◌<◌, arith, List, [], ◌∷◌, ◌++◌, length, take, get_or, set, Bool, true, false, cond, filter, All, pos}
use Rattle.std.proofs.lemmas.List.Elements.{All-head, All-tail}
use Rattle.qm_math.specs.Fraction.{Fraction, whole, IsSame}
use Rattle.qm_math.specs.Arithmetic.{sum_of}
use Rattle.qm_math.specs.Totals.{total_of}
use Rattle.qm_math.proofs.Polynomials.{number, ◌⊕◌, ◌⊗◌}
use Rattle.qm_math.proofs.Ring.{x0, x1, x2}
use Rattle.qm_math.proofs.FractionRing.{den_of, same_by_ring, same_from}
use Rattle.qm_math.proofs.FractionLaws.{same_refl, same_sym, sum_of-same, sum_of_comm, sum_of_later}
use Rattle.qm_math.proofs.Totals.{append_step}

-- the first items, and one more
pub total_of-take_more : {A : Type 0} (f : A → Fraction) (xs : List A) (i : ℕ) (d : A) → i < length xs
    → IsSame (total_of f (take (suc i) xs)) (sum_of (total_of f (take i xs)) (f (get_or xs i d)))
total_of-take_more f [] i d h = absurd (omega arith)
total_of-take_more f (x ∷ xs) zero d h = sum_of_comm (f x) (whole (pos 0))
total_of-take_more f (x ∷ xs) (suc i) d h =
    append_step (f x) (total_of f (take (suc i) xs)) (total_of f (take i xs)) (f (get_or xs i d)) (total_of-take_more f xs i d (omega arith))

-- the last item
pub total_of-push : {A : Type 0} (f : A → Fraction) (xs : List A) (x : A)
    → IsSame (total_of f (xs ++ x ∷ [])) (sum_of (total_of f xs) (f x))
total_of-push f [] x = sum_of_comm (f x) (whole (pos 0))
total_of-push f (y ∷ xs) x = append_step (f y) (total_of f (xs ++ x ∷ [])) (total_of f xs) (f x) (total_of-push f xs x)

-- one item put in place of another
set_here : (a b t : Fraction) → IsSame (sum_of (sum_of a t) b) (sum_of (sum_of b t) a)
set_here a b t = same_by_ring (a ∷ b ∷ t ∷ []) (x0 ⊕ x2 ⊕ x1) (x1 ⊕ x2 ⊕ x0) refl

pub total_of-set : {A : Type 0} (f : A → Fraction) (xs : List A) (i : ℕ) (x d : A) → i < length xs
    → IsSame (sum_of (total_of f (set xs i x)) (f (get_or xs i d))) (sum_of (total_of f xs) (f x))
total_of-set f [] i x d h = absurd (omega arith)
total_of-set f (y ∷ xs) zero x d h = set_here (f x) (f y) (total_of f xs)
total_of-set f (y ∷ xs) (suc i) x d h =
    sum_of_later (f y) (total_of f (set xs i x)) (f (get_or xs i d)) (total_of f xs) (f x) (total_of-set f xs i x d (omega arith))

-- ---- items left out that give 0
left_out : (a t u : Fraction) → IsSame t u → IsSame a (whole (pos 0)) → IsSame t (sum_of a u)
left_out a t u e none =
    same_from (a ∷ t ∷ u ∷ []) x1 (x0 ⊕ x2) ((den_of x0, x1, x2) ∷ (den_of x1 ⊗ den_of x2, number (pos 0), x0) ∷ [])
    (e, (same_sym a (whole (pos 0)) none, tt)) refl

kept_or_not : {A : Type 0} (f : A → Fraction) (x : A) (xs ys : List A) (passes : Bool) → (passes ≡ false → IsSame (f x) (whole (pos 0)))
    → IsSame (total_of f ys) (total_of f xs) → IsSame (total_of f (cond passes (x ∷ ys) ys)) (sum_of (f x) (total_of f xs))
kept_or_not f x xs ys true none e = sum_of-same (f x) (total_of f ys) (f x) (total_of f xs) (same_refl (f x)) e
kept_or_not f x xs ys false none e = left_out (f x) (total_of f ys) (total_of f xs) e (none refl)

pub total_of-filter : {A : Type 0} (f : A → Fraction) (test : A → Bool) (xs : List A) → All (λ x. test x ≡ false → IsSame (f x) (whole (pos 0))) xs
    → IsSame (total_of f (filter test xs)) (total_of f xs)
total_of-filter f test [] h = refl
total_of-filter f test (x ∷ xs) h =
    kept_or_not f x xs (filter test xs) (test x) (All-head (λ x. test x ≡ false → IsSame (f x) (whole (pos 0))) x xs h)
    (total_of-filter f test xs (All-tail (λ x. test x ≡ false → IsSame (f x) (whole (pos 0))) x xs h))
