-- Lists of fractions that are the same place by place.
use Rattle.std.proofs.Common.{inl, inr, ⊎_elim, List, [], ◌∷◌, All, pos}
use Rattle.std.specs.List.{AllZip}
use Rattle.std.proofs.lemmas.List.Elements.{All-head, All-tail}
use Rattle.qm_math.specs.Fraction.{Fraction, HasPositiveDen, whole, IsSame}
use Rattle.qm_math.specs.Lexicographic.{IsLexNegative, IsLexBelow}
use Rattle.qm_math.proofs.FractionLaws.{same_refl, same_sym, same_trans, whole_den}
use Rattle.qm_math.proofs.FractionOrder.{below_congr}

pub all_same_refl : (xs : List Fraction) → AllZip IsSame xs xs
all_same_refl [] = tt
all_same_refl (x ∷ xs) = (same_refl x, all_same_refl xs)

pub all_same_sym : (xs ys : List Fraction) → AllZip IsSame xs ys → AllZip IsSame ys xs
all_same_sym [] [] e = tt
all_same_sym [] (y ∷ ys) e = absurd e
all_same_sym (x ∷ xs) [] e = absurd e
all_same_sym (x ∷ xs) (y ∷ ys) e = (same_sym x y e.0, all_same_sym xs ys e.1)

pub all_same_trans : (xs ys zs : List Fraction) → All HasPositiveDen ys → AllZip IsSame xs ys → AllZip IsSame ys zs → AllZip IsSame xs zs
all_same_trans [] [] zs hy e k = k
all_same_trans [] (y ∷ ys) zs hy e k = absurd e
all_same_trans (x ∷ xs) [] zs hy e k = absurd e
all_same_trans (x ∷ xs) (y ∷ ys) [] hy e k = absurd k
all_same_trans (x ∷ xs) (y ∷ ys) (z ∷ zs) hy e k =
    (same_trans x y z (All-head HasPositiveDen y ys hy) e.0 k.0, all_same_trans xs ys zs (All-tail HasPositiveDen y ys hy) e.1 k.1)

-- ---- the lexicographic order of such lists
pub IsLexNegative-same : (xs ys : List Fraction) → All HasPositiveDen xs → All HasPositiveDen ys → AllZip IsSame xs ys → IsLexNegative xs → IsLexNegative ys
IsLexNegative-same [] ys hx hy e h = absurd h
IsLexNegative-same (x ∷ xs) [] hx hy e h = absurd e
IsLexNegative-same (x ∷ xs) (y ∷ ys) hx hy e h =
    let hx0 = All-head HasPositiveDen x xs hx in
    let hy0 = All-head HasPositiveDen y ys hy in
    ⊎_elim
    (λ less. inl (below_congr x (whole (pos 0)) y (whole (pos 0)) hx0 (whole_den (pos 0)) hy0 (whole_den (pos 0)) e.0 (same_refl (whole (pos 0))) less))
    (λ same. inr (
      same_trans y x (whole (pos 0)) hx0 (same_sym x y e.0) same.0,
      IsLexNegative-same xs ys (All-tail HasPositiveDen x xs hx) (All-tail HasPositiveDen y ys hy) e.1 same.1,
    )) h

pub IsLexBelow-same : (xs ys vs ws : List Fraction) → All HasPositiveDen xs → All HasPositiveDen ys → All HasPositiveDen vs → All HasPositiveDen ws
    → AllZip IsSame xs vs → AllZip IsSame ys ws → IsLexBelow xs ys → IsLexBelow vs ws
IsLexBelow-same [] ys vs ws hx hy hv hw e k h = absurd h
IsLexBelow-same (x ∷ xs) [] vs ws hx hy hv hw e k h = absurd h
IsLexBelow-same (x ∷ xs) (y ∷ ys) [] ws hx hy hv hw e k h = absurd e
IsLexBelow-same (x ∷ xs) (y ∷ ys) (v ∷ vs) [] hx hy hv hw e k h = absurd k
IsLexBelow-same (x ∷ xs) (y ∷ ys) (v ∷ vs) (w ∷ ws) hx hy hv hw e k h =
    let hx0 = All-head HasPositiveDen x xs hx in
    let hy0 = All-head HasPositiveDen y ys hy in
    let hv0 = All-head HasPositiveDen v vs hv in
    let hw0 = All-head HasPositiveDen w ws hw in
    ⊎_elim
    (λ less. inl (below_congr x y v w hx0 hy0 hv0 hw0 e.0 k.0 less))
    (λ same. inr (
      same_trans v x w hx0 (same_sym x v e.0) (same_trans x y w hy0 same.0 k.0),
      IsLexBelow-same xs ys vs ws (All-tail HasPositiveDen x xs hx) (All-tail HasPositiveDen y ys hy) (All-tail HasPositiveDen v vs hv) (All-tail HasPositiveDen w ws hw) e.1 k.1 same.1,
    )) h
