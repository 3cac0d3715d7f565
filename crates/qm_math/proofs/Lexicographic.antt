-- Lexicographic order of lists of fractions, and what taking a multiple of another list away does to it.
use Rattle.std.proofs.Common.{◌≡◌, refl, ◌<◌, ◌⊎◌, inl, inr, ⊎_elim, arith, List, [], ◌∷◌, length, map, All, pos}
use Rattle.std.specs.List.{AllZip}
use Rattle.std.proofs.lemmas.List.Elements.{All-head, All-tail}
use Rattle.qm_math.specs.Fraction.{Fraction, whole, IsSame, IsAtMost, IsBelow, HasPositiveDen}
use Rattle.qm_math.specs.Arithmetic.{negated, difference_of, product_of}
use Rattle.qm_math.specs.Totals.{reduced_row}
use Rattle.qm_math.specs.Lexicographic.{IsLexNegative, IsLexBelow}
use Rattle.qm_math.proofs.Polynomials.{number, ◌⊕◌, ◌⊗◌, minus}
use Rattle.qm_math.proofs.Ring.{x0, x1, x2, x3, x4}
use Rattle.qm_math.proofs.Compare.{at_most_or_below, at_most_both, below_at_most, at_most_below, below_at_most_weak}
use Rattle.qm_math.proofs.FractionLaws.{same_sym, same_trans, negated_den}
use Rattle.qm_math.proofs.FractionOrder.{at_most-same, below_trans, below_irrefl, product_of-at_most_turned, product_of-below}
use Rattle.qm_math.proofs.FractionLinear.{same_given, below_given}
use Rattle.qm_math.proofs.Quotients.{negated_above, cancel_product_of-below, cancel_product_of-same}

-- ---- the order
pub IsLexBelow-trans : (xs ys zs : List Fraction) → All HasPositiveDen xs → All HasPositiveDen ys → All HasPositiveDen zs
    → IsLexBelow xs ys → IsLexBelow ys zs → IsLexBelow xs zs
IsLexBelow-trans [] ys zs hx hy hz h k = absurd h
IsLexBelow-trans (x ∷ xs) [] zs hx hy hz h k = absurd h
IsLexBelow-trans (x ∷ xs) (y ∷ ys) [] hx hy hz h k = absurd k
IsLexBelow-trans (x ∷ xs) (y ∷ ys) (z ∷ zs) hx hy hz h k =
    let hx0 = All-head HasPositiveDen x xs hx in
    let hy0 = All-head HasPositiveDen y ys hy in
    let hz0 = All-head HasPositiveDen z zs hz in
    ⊎_elim
    (λ less. ⊎_elim
    (λ less'. inl (below_trans x y z hy0 hz0 less less'))
    (λ same'. inl (below_at_most x y z hz0 less (at_most-same y z same'.0))) k)
    (λ same. ⊎_elim
    (λ less'. inl (at_most_below x y z hx0 (at_most-same x y same.0) less'))
    (λ same'. inr (
      same_trans x y z hy0 same.0 same'.0,
      IsLexBelow-trans xs ys zs (All-tail HasPositiveDen x xs hx) (All-tail HasPositiveDen y ys hy) (All-tail HasPositiveDen z zs hz) same.1 same'.1,
    )) k) h

pub IsLexBelow-irrefl : (xs : List Fraction) → IsLexBelow xs xs → ⊥
IsLexBelow-irrefl [] h = h
IsLexBelow-irrefl (x ∷ xs) h = ⊎_elim (λ less. below_irrefl x less) (λ same. IsLexBelow-irrefl xs same.1) h

-- of two lists of one length one is below the other, or they are the same place by place
pub IsLexBelow-total : (xs ys : List Fraction) → length xs ≡ length ys → IsLexBelow xs ys ⊎ (IsLexBelow ys xs ⊎ AllZip IsSame xs ys)
IsLexBelow-total [] [] e = inr (inr tt)
IsLexBelow-total [] (y ∷ ys) e = absurd (omega arith)
IsLexBelow-total (x ∷ xs) [] e = absurd (omega arith)
IsLexBelow-total (x ∷ xs) (y ∷ ys) e =
    ⊎_elim
    (λ le. ⊎_elim
    (λ ge. by_rest (at_most_both x y le ge) (IsLexBelow-total xs ys (omega arith)))
    (λ less. inl (inl less)) (at_most_or_below y x))
    (λ more. inr (inl (inl more))) (at_most_or_below x y)
  where
    by_rest : IsSame x y → IsLexBelow xs ys ⊎ (IsLexBelow ys xs ⊎ AllZip IsSame xs ys)
        → IsLexBelow (x ∷ xs) (y ∷ ys) ⊎ (IsLexBelow (y ∷ ys) (x ∷ xs) ⊎ AllZip IsSame (x ∷ xs) (y ∷ ys))
    by_rest same rest =
        ⊎_elim (λ below. inl (inr (same, below)))
        (λ others. ⊎_elim (λ above. inr (inl (inr (same_sym x y same, above)))) (λ all. inr (inr (same, all))) others) rest

-- ---- one place
scaled_below : (f x : Fraction) → 0 < f.den → 0 < x.den → IsBelow (whole (pos 0)) f → IsBelow x (whole (pos 0)) → IsBelow (product_of f x) (whole (pos 0))
scaled_below f x hf hx more less =
    below_given (f ∷ x ∷ []) (x0 ⊗ x1) (number (pos 0)) (x0 ⊗ x1) (x0 ⊗ number (pos 0)) [] [] (hf, (hx, tt))
    (product_of-below f x (whole (pos 0)) hf more less) tt tt refl

scaled_same : (f x : Fraction) → 0 < f.den → 0 < x.den → IsSame x (whole (pos 0)) → IsSame (product_of f x) (whole (pos 0))
scaled_same f x hf hx e = same_given (f ∷ x ∷ []) (x0 ⊗ x1) (number (pos 0)) ((x0, x1, number (pos 0)) ∷ []) (hf, (hx, tt)) (e, tt) refl

-- ---- a positive multiple
pub IsLexNegative-scaled : (f : Fraction) (xs : List Fraction) → 0 < f.den → All HasPositiveDen xs → IsBelow (whole (pos 0)) f → IsLexNegative xs
    → IsLexNegative (map (product_of f) xs)
IsLexNegative-scaled f [] hf hx more h = h
IsLexNegative-scaled f (x ∷ xs) hf hx more h =
    ⊎_elim (λ less. inl (scaled_below f x hf (All-head HasPositiveDen x xs hx) more less))
    (λ same. inr (
      scaled_same f x hf (All-head HasPositiveDen x xs hx) same.0,
      IsLexNegative-scaled f xs hf (All-tail HasPositiveDen x xs hx) more same.1,
    )) h

-- ---- a multiple of another list taken away, for a multiplier of each sign
-- where the multiplier is 0
zero_below : (k f o : Fraction) → 0 < k.den → 0 < f.den → 0 < o.den → IsSame f (whole (pos 0)) → IsBelow k (whole (pos 0)) → IsBelow (difference_of k (product_of f o)) (whole (pos 0))
zero_below k f o hk hf ho e less =
    below_given (k ∷ f ∷ o ∷ []) (x0 ⊕ minus (x1 ⊗ x2)) (number (pos 0)) x0 (number (pos 0)) ((minus x2, x1, number (pos 0)) ∷ []) []
    (hk, (hf, (ho, tt))) less (e, tt) tt refl

zero_same : (k f o : Fraction) → 0 < k.den → 0 < f.den → 0 < o.den → IsSame f (whole (pos 0)) → IsSame k (whole (pos 0)) → IsSame (difference_of k (product_of f o)) (whole (pos 0))
zero_same k f o hk hf ho e same =
    same_given (k ∷ f ∷ o ∷ []) (x0 ⊕ minus (x1 ⊗ x2)) (number (pos 0)) ((number (pos 1), x0, number (pos 0)) ∷ (minus x2, x1, number (pos 0)) ∷ [])
    (hk, (hf, (ho, tt))) (same, (e, tt)) refl

pub IsLexNegative-reduced_row_zero : (ks : List Fraction) (f : Fraction) (os : List Fraction) → 0 < f.den → All HasPositiveDen ks → All HasPositiveDen os
    → IsSame f (whole (pos 0)) → IsLexNegative ks → IsLexNegative (reduced_row ks f os)
IsLexNegative-reduced_row_zero [] f os hf hk ho e h = h
IsLexNegative-reduced_row_zero (k ∷ ks) f [] hf hk ho e h = h
IsLexNegative-reduced_row_zero (k ∷ ks) f (o ∷ os) hf hk ho e h =
    let hk0 = All-head HasPositiveDen k ks hk in
    let ho0 = All-head HasPositiveDen o os ho in
    ⊎_elim (λ less. inl (zero_below k f o hk0 hf ho0 e less))
    (λ same. inr (
      zero_same k f o hk0 hf ho0 e same.0,
      IsLexNegative-reduced_row_zero ks f os hf (All-tail HasPositiveDen k ks hk) (All-tail HasPositiveDen o os ho) e same.1,
    )) h

-- where the multiplier is negative
above_product : (f o : Fraction) → IsBelow f (whole (pos 0)) → IsAtMost o (whole (pos 0)) → IsAtMost (product_of f (whole (pos 0))) (product_of f o)
above_product f o less h = product_of-at_most_turned f o (whole (pos 0)) (below_at_most_weak f (whole (pos 0)) less) h

-- k − f o is below b where k is below b, o at most 0 and f negative
taken_below : (k f o b : Fraction) → 0 < k.den → 0 < f.den → 0 < o.den → 0 < b.den → IsBelow f (whole (pos 0)) → IsBelow k b → IsAtMost o (whole (pos 0))
    → IsBelow (difference_of k (product_of f o)) b
taken_below k f o b hk hf ho hb less below h =
    below_given (k ∷ f ∷ o ∷ b ∷ []) (x0 ⊕ minus (x1 ⊗ x2)) x3 x0 x3 [] ((x1 ⊗ number (pos 0), x1 ⊗ x2) ∷ [])
    (hk, (hf, (ho, (hb, tt)))) below tt (above_product f o less h, tt) refl

-- k − f o is below b where k is b, and o and f are negative
taken_from_same : (k f o b : Fraction) → 0 < k.den → 0 < f.den → 0 < o.den → 0 < b.den → IsBelow f (whole (pos 0)) → IsSame k b → IsBelow o (whole (pos 0))
    → IsBelow (difference_of k (product_of f o)) b
taken_from_same k f o b hk hf ho hb less same h =
    below_given (k ∷ f ∷ o ∷ b ∷ []) (x0 ⊕ minus (x1 ⊗ x2)) x3 (minus x1 ⊗ x2) (minus x1 ⊗ number (pos 0)) ((number (pos 1), x0, x3) ∷ []) []
    (hk, (hf, (ho, (hb, tt))))
    (product_of-below (negated f) o (whole (pos 0)) (negated_den f hf) (negated_above f less) h) (same, tt) tt refl

-- k − f o is b where k is b and o is 0
taken_same : (k f o b : Fraction) → 0 < k.den → 0 < f.den → 0 < o.den → 0 < b.den → IsSame k b → IsSame o (whole (pos 0)) → IsSame (difference_of k (product_of f o)) b
taken_same k f o b hk hf ho hb same e =
    same_given (k ∷ f ∷ o ∷ b ∷ []) (x0 ⊕ minus (x1 ⊗ x2)) x3 ((number (pos 1), x0, x3) ∷ (minus x1, x2, number (pos 0)) ∷ [])
    (hk, (hf, (ho, (hb, tt)))) (same, (e, tt)) refl

pub IsLexNegative-reduced_row : (ks : List Fraction) (f : Fraction) (os : List Fraction) → 0 < f.den → All HasPositiveDen ks → All HasPositiveDen os
    → IsBelow f (whole (pos 0)) → IsLexNegative ks → IsLexNegative os → IsLexNegative (reduced_row ks f os)
IsLexNegative-reduced_row [] f os hf hk ho less h g = h
IsLexNegative-reduced_row (k ∷ ks) f [] hf hk ho less h g = h
IsLexNegative-reduced_row (k ∷ ks) f (o ∷ os) hf hk ho less h g =
    let hk0 = All-head HasPositiveDen k ks hk in
    let ho0 = All-head HasPositiveDen o os ho in
    ⊎_elim
    (λ below. inl (taken_below k f o (whole (pos 0)) hk0 hf ho0 (omega arith) less below
    (⊎_elim (λ below'. below_at_most_weak o (whole (pos 0)) below') (λ same'. at_most-same o (whole (pos 0)) same'.0) g)))
    (λ same. ⊎_elim
    (λ below'. inl (taken_from_same k f o (whole (pos 0)) hk0 hf ho0 (omega arith) less same.0 below'))
    (λ same'. inr (
      taken_same k f o (whole (pos 0)) hk0 hf ho0 (omega arith) same.0 same'.0,
      IsLexNegative-reduced_row ks f os hf (All-tail HasPositiveDen k ks hk) (All-tail HasPositiveDen o os ho) less same.1 same'.1,
    )) g) h

-- the list falls
pub IsLexBelow-reduced_row : (ks : List Fraction) (f : Fraction) (os : List Fraction) → length ks ≡ length os → 0 < f.den → All HasPositiveDen ks → All HasPositiveDen os
    → IsBelow f (whole (pos 0)) → IsLexNegative os → IsLexBelow (reduced_row ks f os) ks
IsLexBelow-reduced_row ks f [] e hf hk ho less g = absurd g
IsLexBelow-reduced_row [] f (o ∷ os) e hf hk ho less g = absurd (omega arith)
IsLexBelow-reduced_row (k ∷ ks) f (o ∷ os) e hf hk ho less g =
    let hk0 = All-head HasPositiveDen k ks hk in
    let ho0 = All-head HasPositiveDen o os ho in
    ⊎_elim (λ below. inl (taken_from_same k f o k hk0 hf ho0 hk0 less refl below))
    (λ same. inr (
      taken_same k f o k hk0 hf ho0 hk0 refl same.0,
      IsLexBelow-reduced_row ks f os (omega arith) hf (All-tail HasPositiveDen k ks hk) (All-tail HasPositiveDen o os ho) less same.1,
    )) g

-- ---- where the list over a is below the other over b: a f is b, for a positive a
over_below : (a k f o b : Fraction) → 0 < a.den → 0 < k.den → 0 < f.den → 0 < o.den → 0 < b.den → IsBelow (whole (pos 0)) a → IsSame (product_of a f) b
    → IsBelow (product_of a k) (product_of b o) → IsBelow (difference_of k (product_of f o)) (whole (pos 0))
over_below a k f o b ha hk hf ho hb more e less =
    cancel_product_of-below a (difference_of k (product_of f o)) (whole (pos 0)) more
    (below_given (a ∷ k ∷ f ∷ o ∷ b ∷ []) (x0 ⊗ (x1 ⊕ minus (x2 ⊗ x3))) (x0 ⊗ number (pos 0)) (x0 ⊗ x1) (x4 ⊗ x3) ((minus x3, x0 ⊗ x2, x4) ∷ []) []
    (ha, (hk, (hf, (ho, (hb, tt))))) less (e, tt) tt refl)

over_same : (a k f o b : Fraction) → 0 < a.den → 0 < k.den → 0 < f.den → 0 < o.den → 0 < b.den → IsBelow (whole (pos 0)) a → IsSame (product_of a f) b
    → IsSame (product_of a k) (product_of b o) → IsSame (difference_of k (product_of f o)) (whole (pos 0))
over_same a k f o b ha hk hf ho hb more e same =
    cancel_product_of-same a (difference_of k (product_of f o)) (whole (pos 0)) ha more
    (same_given (a ∷ k ∷ f ∷ o ∷ b ∷ []) (x0 ⊗ (x1 ⊕ minus (x2 ⊗ x3))) (x0 ⊗ number (pos 0)) ((number (pos 1), x0 ⊗ x1, x4 ⊗ x3) ∷ (minus x3, x0 ⊗ x2, x4) ∷ [])
    (ha, (hk, (hf, (ho, (hb, tt))))) (same, (e, tt)) refl)

pub IsLexNegative-from_below : (ks : List Fraction) (a f b : Fraction) (os : List Fraction) → 0 < a.den → 0 < f.den → 0 < b.den
    → All HasPositiveDen ks → All HasPositiveDen os → IsBelow (whole (pos 0)) a → IsSame (product_of a f) b
    → IsLexBelow (map (product_of a) ks) (map (product_of b) os) → IsLexNegative (reduced_row ks f os)
IsLexNegative-from_below [] a f b os ha hf hb hk ho more e h = h
IsLexNegative-from_below (k ∷ ks) a f b [] ha hf hb hk ho more e h = absurd h
IsLexNegative-from_below (k ∷ ks) a f b (o ∷ os) ha hf hb hk ho more e h =
    let hk0 = All-head HasPositiveDen k ks hk in
    let ho0 = All-head HasPositiveDen o os ho in
    ⊎_elim (λ less. inl (over_below a k f o b ha hk0 hf ho0 hb more e less))
    (λ same. inr (
      over_same a k f o b ha hk0 hf ho0 hb more e same.0,
      IsLexNegative-from_below ks a f b os ha hf hb (All-tail HasPositiveDen k ks hk) (All-tail HasPositiveDen o os ho) more e same.1,
    )) h
