-- Lists with an item at the end.
use Rattle.std.proofs.Common.{◌≡◌, ◌≢◌, sym, refl, ap, ap₂, arith, List, [], ◌∷◌, ◌++◌, length, length-append}
use Rattle.qm_math.proofs.Lists.{cons-first, cons-rest}

pub snoc-nonempty : {X : Type 0} (xs : List X) (v : X) → xs ++ v ∷ [] ≢ []
snoc-nonempty xs v e = absurd (let lengths : length (xs ++ v ∷ []) ≡ 0 = ap length e in omega (arith, lengths, length-append xs (v ∷ [])))

-- they are the same where the lists and the items are
pub snoc-one : {X : Type 0} (xs ys : List X) (v w : X) → xs ++ v ∷ [] ≡ ys ++ w ∷ [] → (xs ≡ ys) × (v ≡ w)
snoc-one [] [] v w e = (refl, cons-first v w [] [] e)
snoc-one [] (y ∷ ys) v w e = absurd (snoc-nonempty ys w (sym (cons-rest v y [] (ys ++ w ∷ []) e)))
snoc-one (x ∷ xs) [] v w e = absurd (snoc-nonempty xs v (cons-rest x w (xs ++ v ∷ []) [] e))
snoc-one (x ∷ xs) (y ∷ ys) v w e =
    let rest = snoc-one xs ys v w (cons-rest x y (xs ++ v ∷ []) (ys ++ w ∷ []) e) in
    (ap₂ (λ z zs. z ∷ zs) (cons-first x y (xs ++ v ∷ []) (ys ++ w ∷ []) e) rest.0, rest.1)
