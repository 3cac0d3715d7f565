-- The least common denominator, from the last value on.
use Rattle.std.proofs.Common.{◌≡◌, ℕ, ◌+◌, ◌*◌, ◌/◌, ◌<◌, ◌≤◌, ◌^◌, ◌-◌, List, ◌∷◌, length, drop, get_or, Option, Some, refl, sym, ap, ◌∙◌, subst, arith, mul_comm}
use Rattle.std.specs.Prelude.{SomeIff}
use native.Mathlib.Nat.{div-mul_cancel, le_of_dvd, pos_of_dvd_of_pos}
use Rattle.std.proofs.Math.Nat.{mul-le-mul_left}
use Rattle.std.proofs.lemmas.List.{at_drop_more, at_drop_all}
use Rattle.qm_math.specs.Fraction.{Fraction}
use Rattle.qm_frac.specs.Gcd.{gcd_of}
use Rattle.qm_frac.proofs.Divisors.{gcd_is}
use Rattle.qm_normal.specs.Rows.{common_denominator, common_multiple}

pub gcd_some : (a b : ℕ) → 0 < a → 0 < gcd_of a b
gcd_some a b some = pos_of_dvd_of_pos (gcd_is a b).0 some

-- a common multiple is no less
pub multiple_at_least : (a b : ℕ) → 0 < a → b ≤ common_multiple a b
multiple_at_least a b some =
    let g = gcd_of a b in
    let whole : b / g * g ≡ b = div-mul_cancel g (gcd_is a b).1 in
    let small : g ≤ a = le_of_dvd some (gcd_is a b).0 in
    let grown : b / g * g ≤ b / g * a = mul-le-mul_left (b / g) small in
    omega (arith, whole, grown, mul_comm a (b / g))

-- where the one number is too great, so is the multiple
pub multiple_too_great : (a b most : ℕ) → 0 < a → ¬ (b ≤ most) → ¬ (common_multiple a b ≤ most)
multiple_too_great a b most some great le = great (omega (arith, le, multiple_at_least a b some))

pub denominator-nil : (values : List Fraction) (i : ℕ) → length values ≤ i → common_denominator (drop i values) ≡ 1
unfolding common_denominator
denominator-nil values i end = at_drop_all common_denominator values i end

pub denominator-cons : (value : Fraction) (values : List Fraction) → common_denominator (value ∷ values) ≡ common_multiple value.den (common_denominator values)
unfolding common_denominator
denominator-cons value values = refl

pub denominator-more : (values : List Fraction) (i : ℕ) (value : Fraction) → i < length values → value ≡ get_or values i value
    → common_denominator (drop i values) ≡ common_multiple value.den (common_denominator (drop (i + 1) values))
unfolding common_denominator
denominator-more values i value inside is =
    at_drop_more common_denominator values i value inside ∙ ap (λ (v : Fraction). common_multiple v.den (common_denominator (drop (i + 1) values))) (sym is)

-- one turn of the loop, which goes from the last value to the first
pub denominator_turn : (values : List Fraction) (done : ℕ) (value : Fraction) (o : Option ℕ) → done < length values → value ≡ get_or values (length values - 1 - done) value
    → SomeIff o (common_multiple value.den (common_denominator (drop (length values - done) values)) ≤ 2 ^ 126) (common_multiple value.den (common_denominator (drop (length values - done) values)))
    → SomeIff o (common_denominator (drop (length values - (done + 1)) values) ≤ 2 ^ 126) (common_denominator (drop (length values - (done + 1)) values))
denominator_turn values done value o inside is h =
    let i = length values - (done + 1) in
    let at : length values - 1 - done ≡ i = omega arith in
    let next : i + 1 ≡ length values - done = omega (arith, inside) in
    let here : value ≡ get_or values i value = is ∙ ap (λ (k : ℕ). get_or values k value) at in
    let there : common_denominator (drop i values) ≡ common_multiple value.den (common_denominator (drop (length values - done) values)) =
    denominator-more values i value (omega (arith, inside)) here ∙ ap (λ (k : ℕ). common_multiple value.den (common_denominator (drop k values))) next in
    subst (λ (d : ℕ). SomeIff o (d ≤ 2 ^ 126) d) (sym there) h

pub denominator_start : (values : List Fraction) → SomeIff (Some 1) (common_denominator (drop (length values) values) ≤ 2 ^ 126) (common_denominator (drop (length values) values))
denominator_start values = subst (λ (d : ℕ). SomeIff (Some 1) (d ≤ 2 ^ 126) d) (sym (denominator-nil values (length values) (omega arith))) (omega arith, refl)

pub none_multiple : (a d : ℕ) → 0 < a → ¬ (d ≤ 2 ^ 126) → ¬ (common_multiple a d ≤ 2 ^ 126)
none_multiple a d some great = multiple_too_great a d (2 ^ 126) some great
