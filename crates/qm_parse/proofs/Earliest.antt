-- The first in the text of names: it doesn't matter how they are grouped.
use Rattle.std.proofs.Common.{◌≡◌, ℕ, Bool, true, false, ◌&&◌, ◌||◌, eqb, ltb, List, [], ◌∷◌, ◌++◌, Option, Some, None, arith, refl, sym, ap, ◌∙◌}
use Rattle.std.proofs.lemmas.Bool.Decides.{nat_tests}
use Rattle.qm_lex.specs.declared.place.Place.{Place}
use Rattle.qm_parse.specs.Checks.{earlier, earliest, is_before}
use Rattle.qm_parse.specs.SurveySteps.{earlier_of}
use Rattle.qm_parse.specs.declared.ast.Named.{Named}

abbrev before : ℕ → ℕ → ℕ → ℕ → Bool
before l c m d = ltb l m || (eqb l m && ltb c d)

before-trans : (a b c x y z : ℕ) → before a x b y ≡ true → before b y c z ≡ true → before a x c z ≡ true
before-trans a b c x y z p q = grind (arith, nat_tests)

before-not : (a b c x y z : ℕ) → before a x b y ≡ false → before b y c z ≡ false → before a x c z ≡ false
before-not a b c x y z p q = grind (arith, nat_tests)

pub is_before-trans : (one other last : Place) → is_before one other ≡ true → is_before other last ≡ true → is_before one last ≡ true
is_before-trans one other last = before-trans one.line other.line last.line one.column other.column last.column

pub is_before-not : (one other last : Place) → is_before one other ≡ false → is_before other last ≡ false → is_before one last ≡ false
is_before-not one other last = before-not one.line other.line last.line one.column other.column last.column

pub earlier-same : (one : Named) → earlier one None ≡ one
unfolding earlier
earlier-same one = refl

-- y before x, z before y and z before x
three_earlier : (x y z : Named) (yx zy zx : Bool)
    → (zy ≡ true → yx ≡ true → zx ≡ true) → (zy ≡ false → yx ≡ false → zx ≡ false)
    → is_before y.at x.at ≡ yx → is_before z.at y.at ≡ zy → is_before z.at x.at ≡ zx
    → earlier (earlier x (Some y)) (Some z) ≡ earlier x (Some (earlier y (Some z)))
unfolding earlier
three_earlier x y z true true zx both neither a b c = let d = both refl refl in rw (a, b, c ∙ d) refl
three_earlier x y z true false zx both neither a b c = rw (a, b, a) refl
three_earlier x y z false true zx both neither a b c = rw (a, b) refl
three_earlier x y z false false zx both neither a b c = let d = neither refl refl in rw (a, b, a, c ∙ d) refl

three_named : (x y z : Named) → earlier (earlier x (Some y)) (Some z) ≡ earlier x (Some (earlier y (Some z)))
three_named x y z =
    three_earlier x y z (is_before y.at x.at) (is_before z.at y.at) (is_before z.at x.at)
    (is_before-trans z.at y.at x.at) (is_before-not z.at y.at x.at) refl refl refl

pub earlier-earlier : (one : Named) (other last : Option Named) → earlier (earlier one other) last ≡ earlier one (earlier_of other last)
unfolding earlier_of
earlier-earlier one None last = ap (λ (first : Named). earlier first last) (earlier-same one)
earlier-earlier one (Some other) None = earlier-same (earlier one (Some other)) ∙ ap (λ (first : Named). earlier one (Some first)) (sym (earlier-same other))
earlier-earlier one (Some other) (Some last) = three_named one other last

pub earlier_of-earlier_of : (one other last : Option Named) → earlier_of (earlier_of one other) last ≡ earlier_of one (earlier_of other last)
unfolding earlier_of
earlier_of-earlier_of None other last = refl
earlier_of-earlier_of (Some one) other last = ap (λ (first : Named). Some first) (earlier-earlier one other last)

pub earlier_of-None : (one : Option Named) → earlier_of one None ≡ one
unfolding earlier_of
earlier_of-None None = refl
earlier_of-None (Some one) = ap (λ (first : Named). Some first) (earlier-same one)

pub earliest-append : (list more : List Named) → earliest (list ++ more) ≡ earlier_of (earliest list) (earliest more)
unfolding earliest earlier_of
earliest-append [] more = refl
earliest-append (named ∷ list) more =
    ap (λ (rest : Option Named). Some (earlier named rest)) (earliest-append list more)
    ∙ ap (λ (first : Named). Some first) (sym (earlier-earlier named (earliest list) (earliest more)))
