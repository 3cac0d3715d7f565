-- What bounds of a text say, where the names among its symbols are known.
use Rattle.std.proofs.Common.{◌≡◌, ℕ, ◌<◌, List, [], ◌∷◌, inl, inr, Option, Some, None, subst, sym, refl}
use Rattle.std.proofs.lemmas.List.Elements.{All-cons, All-nil}
use Rattle.qm_math.specs.Fraction.{Fraction}
use Rattle.qm_parse.specs.declared.ast.AstBound.{AstBound}
use Rattle.qm_parse.specs.declared.word.Symbol.{Symbol}
use Rattle.qm_parse.specs.declared.word.Word.TheVariants.{Related, Infinite, Free}
use Rattle.qm_parse.specs.Drafts.{turned}
use Rattle.qm_parse.specs.Known.{AreBoundsBelow, AreKnown}
use Rattle.qm_parse.specs.Parts.{BoundOf, BoundBody, BoundEnds, FreeName, Further, NameFirst, OneBound, Says, Value, ValueFirst}
use Rattle.qm_parse.proofs.KnownParts.{Given, Gives, gives-Either, gives-NameAt, gives-Says, gives-then}
use Rattle.qm_parse.proofs.KnownRows.{second, gives-Signed, gives-SignedNumber}

gives-Value : (n : ℕ) (value : Option Fraction) → Gives n (Value value) Unit
gives-Value n (Some value) = gives-SignedNumber n value
gives-Value n None = gives-Signed n (λ negative. Says Infinite) (λ negative. gives-Says n Infinite)

gives-NameFirst : (n : ℕ) (bound : AstBound) → Gives n (NameFirst bound) (bound.name < n)
gives-NameFirst n bound =
    gives-then (gives-NameAt n bound.name bound.at) (gives-then (gives-Says n (Related bound.relation)) (gives-Value n bound.value) second) (λ below _. below)

gives-FreeName : (n : ℕ) (bound : AstBound) → Gives n (FreeName bound) (bound.name < n)
gives-FreeName n bound = record {
  given = λ symbols rest known h. (gives-then (gives-NameAt n bound.name bound.at) (gives-Says n Free) (λ below _. below)).given symbols rest known h.2;
}

gives-ValueFirst : (n : ℕ) (bound : AstBound) → Gives n (ValueFirst bound) (bound.name < n)
gives-ValueFirst n bound =
    gives-then (gives-Value n bound.value) (gives-then (gives-Says n (Related (turned bound.relation))) (gives-NameAt n bound.name bound.at) second) second

gives-Further : (n : ℕ) (before bound : AstBound) → Gives n (Further before bound) (bound.name ≡ before.name)
gives-Further n before bound = record {
  given = λ symbols rest known h. (gives-then (gives-Says n (Related bound.relation)) (gives-Value n bound.value) (λ _ _. h.0)).given symbols rest known h.2;
}

gives-OneBound : (n : ℕ) (bound : AstBound) → Gives n (OneBound bound) (bound.name < n)
gives-OneBound n bound = gives-Either (gives-NameFirst n bound) (gives-Either (gives-FreeName n bound) (gives-ValueFirst n bound))

abbrev pub BoundBelow : ℕ → AstBound → Type 0
BoundBelow n bound = bound.name < n

one_below : (n : ℕ) (bounds : List AstBound) (bound : AstBound) → bounds ≡ bound ∷ [] → bound.name < n → AreBoundsBelow n bounds
one_below n bounds bound are below = subst (AreBoundsBelow n) (sym are) (All-cons (BoundBelow n) bound [] below (All-nil (BoundBelow n)))

two_below : (n : ℕ) (bounds : List AstBound) (bound further : AstBound) → bounds ≡ bound ∷ further ∷ [] → bound.name < n → further.name ≡ bound.name → AreBoundsBelow n bounds
two_below n bounds bound further are below same =
    subst (AreBoundsBelow n) (sym are)
    (All-cons (BoundBelow n) bound (further ∷ []) below (one_below n (further ∷ []) further refl (subst (λ (k : ℕ). k < n) (sym same) below)))

body_given : (n : ℕ) (bounds : List AstBound) (symbols rest : List Symbol) → AreKnown n symbols → BoundBody bounds symbols rest → Given n rest (AreBoundsBelow n bounds)
body_given n bounds symbols rest known (inl h) =
    let one = (gives-OneBound n h.0).given symbols rest known h.2 in
    record { known = one.known; fact = one_below n bounds h.0 h.1 one.fact }
body_given n bounds symbols rest known (inr h) =
    (gives-then (gives-ValueFirst n h.0) (gives-Further n h.0 h.1) (two_below n bounds h.0 h.1 h.2)).given symbols rest known h.3

bound_end_given : (n : ℕ) (symbols rest : List Symbol) → AreKnown n symbols → BoundEnds symbols rest → Given n rest Unit
bound_end_given n [] rest known same = record { known = subst (AreKnown n) same known; fact = tt }
bound_end_given n (symbol ∷ symbols) rest known h = record { known = subst (AreKnown n) h.1 known; fact = tt }

gives-BoundBody : (n : ℕ) (bounds : List AstBound) → Gives n (BoundBody bounds) (AreBoundsBelow n bounds)
gives-BoundBody n bounds = record { given = body_given n bounds }

gives-BoundEnds : (n : ℕ) → Gives n BoundEnds Unit
gives-BoundEnds n = record { given = bound_end_given n }

pub gives-Bound : (n : ℕ) (bounds : List AstBound) → Gives n (BoundOf bounds) (AreBoundsBelow n bounds)
gives-Bound n bounds = gives-then (gives-BoundBody n bounds) (gives-BoundEnds n) (λ below _. below)
