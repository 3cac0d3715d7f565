-- The words of numbers tell the numbers.
use Rattle.std.proofs.Common.{◌≡◌, ℕ, suc, ◌<◌, ◌≤◌, Bool, true, false, not, ◌&&◌, eqb, ltb, T, ℤ, pos, negsuc, List, [], ◌∷◌, ◌++◌, length, refl, sym, ap, ◌∙◌, subst, arith, unsigned_abs}
use Rattle.std.specs.Prelude.{◌^◌, ◌==◌, if◌then◌else◌}
use Rattle.std.specs.Fmt.{decimal, signed_decimal}
use Rattle.std.specs.Str.Parse.{AllDigits, digits_value}
use Rattle.std.proofs.Math.Dec.{ltb→lt}
use Rattle.std.proofs.lemmas.Bool.{eq-eqb, eqb-true}
use Rattle.std.proofs.lemmas.Fmt.{decimal_is_IsNumeral_wide}
use Rattle.std.proofs.lemmas.Str.Parse.{digit_from_value}
use Rattle.qm_math.specs.Fraction.{Fraction}
use Rattle.qm_math.proofs.Lists.{cons-rest, cons-first}
use Rattle.qm_text.specs.Numbers.{number_word}
use Rattle.qm_certfile.specs.Lines.{Word}
use Rattle.qm_certfile.specs.Numbers.{greatest_of_fraction}

-- ---- bytes

-- each byte is above the space
abbrev pub AreVisible : List ℕ → Type 0
AreVisible [] = Unit {0}
AreVisible (b ∷ bs) = (32 < b) × AreVisible bs

-- the test of it, for words that are written out
abbrev pub are_visible : List ℕ → Bool
are_visible [] = true
are_visible (b ∷ bs) = ltb 32 b && are_visible bs

by_both : (s : Bool) (b : ℕ) (bs : List ℕ) → ltb 32 b ≡ s → (T (are_visible bs) → AreVisible bs) → T (s && are_visible bs) → (32 < b) × AreVisible bs
by_both true b bs e f t = (ltb→lt 32 b (subst T (sym e) tt), f t)
by_both false b bs e f t = absurd t

pub visible_word : (bs : List ℕ) → T (are_visible bs) → AreVisible bs
visible_word [] t = tt
visible_word (b ∷ bs) t = by_both (ltb 32 b) b bs refl (visible_word bs) t

pub visible_append : (bs more : List ℕ) → AreVisible bs → AreVisible more → AreVisible (bs ++ more)
visible_append [] more p q = q
visible_append (b ∷ bs) more p q = (p.0, visible_append bs more p.1 q)

-- no byte is s
abbrev pub Lacks : ℕ → List ℕ → Type 0
Lacks s [] = Unit {0}
Lacks s (b ∷ bs) = (b ≡ s → ⊥) × Lacks s bs

-- two numbers that are written out and differ
pub differ : (b c : ℕ) → T (not (eqb b c)) → b ≡ c → ⊥
differ b c t e = subst (λ s. T (not s)) (eq-eqb b c e) t

pub apart : (b c : ℕ) {bs cs : List ℕ} → T (not (eqb b c)) → b ∷ bs ≡ c ∷ cs → ⊥
apart b c t e = differ b c t (cons-first _ _ _ _ e)

pub not_empty : {A : Type 0} (x : A) (xs : List A) → [] ≡ x ∷ xs → ⊥
not_empty x xs e = let l : 0 ≡ suc (length xs) = ap length e in omega arith

-- where the words in front have no s, the first s tells them
pub split_at_first : (s : ℕ) (w v x y : List ℕ) → Lacks s w → Lacks s v → w ++ s ∷ x ≡ v ++ s ∷ y → (w ≡ v) × (x ≡ y)
split_at_first s [] [] x y p q e = (refl, cons-rest _ _ _ _ e)
split_at_first s [] (c ∷ v) x y p q e = absurd (q.0 (sym (cons-first _ _ _ _ e)))
split_at_first s (b ∷ w) [] x y p q e = absurd (p.0 (cons-first _ _ _ _ e))
split_at_first s (b ∷ w) (c ∷ v) x y p q e =
    let rest = split_at_first s w v x y p.1 q.1 (cons-rest _ _ _ _ e) in
    let same = cons-first _ _ _ _ e in
    (λ i. same i ∷ rest.0 i, rest.1)

pub has_one : (s : ℕ) (w v y : List ℕ) → Lacks s w → w ≡ v ++ s ∷ y → ⊥
has_one s [] [] y p e = not_empty s y e
has_one s [] (c ∷ v) y p e = not_empty c (v ++ s ∷ y) e
has_one s (b ∷ w) [] y p e = p.0 (cons-first _ _ _ _ e)
has_one s (b ∷ w) (c ∷ v) y p e = has_one s w v y p.1 (cons-rest _ _ _ _ e)

-- ---- whole numbers

visible_digits : (ds : List ℕ) → AllDigits 10 ds → AreVisible ds
visible_digits [] d = tt
visible_digits (c ∷ cs) d = (omega (arith, digit_from_value c d.0), visible_digits cs d.1)

lacks_digits : (s : ℕ) → ((c : ℕ) → 48 ≤ c → c ≤ 57 → c ≡ s → ⊥) → (ds : List ℕ) → AllDigits 10 ds → Lacks s ds
lacks_digits s far [] d = tt
lacks_digits s far (c ∷ cs) d = let k = digit_from_value c d.0 in (far c k.0 k.1, lacks_digits s far cs d.1)

pub visible_decimal : (n : ℕ) → n < 10 ^ 64 → AreVisible (decimal n)
visible_decimal n h = visible_digits (decimal n) (decimal_is_IsNumeral_wide n h).0.1

pub lacks_decimal : (s : ℕ) → ((c : ℕ) → 48 ≤ c → c ≤ 57 → c ≡ s → ⊥) → (n : ℕ) → n < 10 ^ 64 → Lacks s (decimal n)
lacks_decimal s far n h = lacks_digits s far (decimal n) (decimal_is_IsNumeral_wide n h).0.1

pub decimal_same : (m n : ℕ) → m < 10 ^ 64 → n < 10 ^ 64 → decimal m ≡ decimal n → m ≡ n
decimal_same m n p q e = sym (decimal_is_IsNumeral_wide m p).1 ∙ ap (digits_value 10) e ∙ (decimal_is_IsNumeral_wide n q).1

no_minus : (n : ℕ) (ds : List ℕ) → n < 10 ^ 64 → decimal n ≡ 45 ∷ ds → ⊥
no_minus n ds h e =
    let k = digit_from_value 45 (subst (AllDigits 10) e (decimal_is_IsNumeral_wide n h).0.1).0 in
    let low : 48 ≤ 45 = k.0 in
    omega arith

pub visible_signed : (z : ℤ) → unsigned_abs z < 10 ^ 64 → AreVisible (signed_decimal z)
visible_signed (pos n) h = visible_decimal n (omega arith)
visible_signed (negsuc n) h = (omega arith, visible_decimal (suc n) (omega arith))

pub lacks_signed : (s : ℕ) → (45 ≡ s → ⊥) → ((c : ℕ) → 48 ≤ c → c ≤ 57 → c ≡ s → ⊥) → (z : ℤ) → unsigned_abs z < 10 ^ 64 → Lacks s (signed_decimal z)
lacks_signed s minus far (pos n) h = lacks_decimal s far n (omega arith)
lacks_signed s minus far (negsuc n) h = (minus, lacks_decimal s far (suc n) (omega arith))

pub signed_same : (y z : ℤ) → unsigned_abs y < 10 ^ 64 → unsigned_abs z < 10 ^ 64 → signed_decimal y ≡ signed_decimal z → y ≡ z
signed_same (pos m) (pos n) p q e = ap pos (decimal_same m n (omega arith) (omega arith) e)
signed_same (pos m) (negsuc n) p q e = absurd (no_minus m (decimal (suc n)) (omega arith) e)
signed_same (negsuc m) (pos n) p q e = absurd (no_minus n (decimal (suc m)) (omega arith) (sym e))
signed_same (negsuc m) (negsuc n) p q e = ap negsuc (omega (arith, decimal_same (suc m) (suc n) (omega arith) (omega arith) (cons-rest _ _ _ _ e)))

-- ---- fractions

-- whole, or with a denominator
abbrev spelled : Bool → ℤ → ℕ → Word
spelled true num den = signed_decimal num
spelled false num den = signed_decimal num ++ 47 ∷ decimal den

spelled_by : (t : Bool) (num : ℤ) (den : ℕ) → (if t then signed_decimal num else signed_decimal num ++ 47 ∷ decimal den) ≡ spelled t num den
spelled_by true num den = refl
spelled_by false num den = refl

number_is : (a : Fraction) (t : Bool) → (a.den == 1) ≡ t → number_word a ≡ spelled t a.num a.den
number_is a t e = ap (λ (b : Bool). if b then signed_decimal a.num else signed_decimal a.num ++ 47 ∷ decimal a.den) e ∙ spelled_by t a.num a.den

lacks_slash : (z : ℤ) → unsigned_abs z < 10 ^ 64 → Lacks 47 (signed_decimal z)
lacks_slash z h = lacks_signed 47 (λ e. omega arith) (λ c p q e. omega arith) z h

visible_spelled : (t : Bool) (num : ℤ) (den : ℕ) → unsigned_abs num < 10 ^ 64 → den < 10 ^ 64 → AreVisible (spelled t num den)
visible_spelled true num den p q = visible_signed num p
visible_spelled false num den p q = visible_append (signed_decimal num) (47 ∷ decimal den) (visible_signed num p) (omega arith, visible_decimal den q)

pub visible_number : (a : Fraction) → greatest_of_fraction a < 10 ^ 64 → AreVisible (number_word a)
visible_number a h = subst AreVisible (sym (number_is a (a.den == 1) refl)) (visible_spelled (a.den == 1) a.num a.den (omega arith) (omega arith))

spelled_same : (s t : Bool) (m n : ℤ) (d e : ℕ) → unsigned_abs m < 10 ^ 64 → d < 10 ^ 64 → unsigned_abs n < 10 ^ 64 → e < 10 ^ 64
    → (s ≡ true → d ≡ 1) → (t ≡ true → e ≡ 1) → spelled s m d ≡ spelled t n e → (m ≡ n) × (d ≡ e)
spelled_same true true m n d e a b c f g h is = (signed_same m n a c is, g refl ∙ sym (h refl))
spelled_same true false m n d e a b c f g h is = absurd (has_one 47 (signed_decimal m) (signed_decimal n) (decimal e) (lacks_slash m a) is)
spelled_same false true m n d e a b c f g h is = absurd (has_one 47 (signed_decimal n) (signed_decimal m) (decimal d) (lacks_slash n c) (sym is))
spelled_same false false m n d e a b c f g h is =
    let parts = split_at_first 47 (signed_decimal m) (signed_decimal n) (decimal d) (decimal e) (lacks_slash m a) (lacks_slash n c) is in
    (signed_same m n a c parts.0, decimal_same d e b f parts.1)

pub number_same : (a b : Fraction) → greatest_of_fraction a < 10 ^ 64 → greatest_of_fraction b < 10 ^ 64 → number_word a ≡ number_word b → a ≡ b
number_same a b p q e =
    let both = spelled_same (a.den == 1) (b.den == 1) a.num b.num a.den b.den (omega arith) (omega arith) (omega arith) (omega arith) (eqb-true a.den 1) (eqb-true b.den 1)
    (sym (number_is a (a.den == 1) refl) ∙ e ∙ number_is b (b.den == 1) refl) in
    let num = both.0 in
    let den = both.1 in
    λ i. record { num = num i; den = den i }
