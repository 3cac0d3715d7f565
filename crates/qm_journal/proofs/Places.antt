-- The item at a place of a list, if there is one.
use Rattle.std.proofs.Common.{All, ℕ, zero, suc, ◌<◌, arith, subst, List, [], ◌∷◌, ◌++◌, length, take, drop, get_or, IsSomeAnd}
use Rattle.std.specs.Prelude.{slice_get}
use Rattle.std.proofs.lemmas.List.{take-append-drop}
use Rattle.std.proofs.lemmas.List.Elements.{All-head, All-tail}

pub some_at-within : {X : Type 0} (Q : X → Type 0) (xs : List X) (i : ℕ) → IsSomeAnd (slice_get xs i) Q → i < length xs
some_at-within Q [] i h = absurd h
some_at-within Q (x ∷ xs) zero h = omega arith
some_at-within Q (x ∷ xs) (suc i) h = omega (arith, some_at-within Q xs i h)

pub some_at-append : {X : Type 0} (Q : X → Type 0) (xs ys : List X) (i : ℕ) → IsSomeAnd (slice_get xs i) Q → IsSomeAnd (slice_get (xs ++ ys) i) Q
some_at-append Q [] ys i h = absurd h
some_at-append Q (x ∷ xs) ys zero h = h
some_at-append Q (x ∷ xs) ys (suc i) h = some_at-append Q xs ys i h

pub some_at-take : {X : Type 0} (Q : X → Type 0) (n : ℕ) (xs : List X) (i : ℕ) → IsSomeAnd (slice_get (take n xs) i) Q → IsSomeAnd (slice_get xs i) Q
some_at-take Q n xs i h = subst (λ ys. IsSomeAnd (slice_get ys i) Q) (take-append-drop n xs) (some_at-append Q (take n xs) (drop n xs) i h)

pub some_at-get : {X : Type 0} (Q : X → Type 0) (xs : List X) (i : ℕ) (d : X) → IsSomeAnd (slice_get xs i) Q → Q (get_or xs i d)
some_at-get Q [] i d h = absurd h
some_at-get Q (x ∷ xs) zero d h = h
some_at-get Q (x ∷ xs) (suc i) d h = some_at-get Q xs i d h

pub some_at-of : {X : Type 0} (Q : X → Type 0) (xs : List X) (i : ℕ) (d : X) → i < length xs → Q (get_or xs i d) → IsSomeAnd (slice_get xs i) Q
some_at-of Q [] i d less q = absurd (omega arith)
some_at-of Q (x ∷ xs) zero d less q = q
some_at-of Q (x ∷ xs) (suc i) d less q = some_at-of Q xs i d (omega arith) q

-- where no item of a list is such, none at a place is
pub some_at-none : {X : Type 0} (Q : X → Type 0) (xs : List X) (i : ℕ) → All (λ x. ¬ Q x) xs → IsSomeAnd (slice_get xs i) Q → ⊥
some_at-none Q [] i none h = absurd h
some_at-none Q (x ∷ xs) zero none h = All-head (λ x. ¬ Q x) x xs none h
some_at-none Q (x ∷ xs) (suc i) none h = some_at-none Q xs i (All-tail (λ x. ¬ Q x) x xs none) h

pub some_at-left : {X : Type 0} (Q : X → Type 0) (xs ys : List X) (i : ℕ) → All (λ x. ¬ Q x) ys → IsSomeAnd (slice_get (xs ++ ys) i) Q → IsSomeAnd (slice_get xs i) Q
some_at-left Q [] ys i none h = absurd (some_at-none Q ys i none h)
some_at-left Q (x ∷ xs) ys zero none h = h
some_at-left Q (x ∷ xs) ys (suc i) none h = some_at-left Q xs ys i none h
