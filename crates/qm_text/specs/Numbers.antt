-- The numbers of certificates, and the words that spell them.
use Rattle.std.specs.Prelude.{◌≡◌, ℕ, suc, ◌≤◌, ℤ, pos, negsuc, unsigned_abs, List, ◌∷◌, ◌++◌, ◌⊎◌, ◌==◌, IsTrue, if◌then◌else◌}
use Rattle.std.specs.Fmt.{decimal, signed_decimal}
use Rattle.qm_math.specs.Fraction.{Fraction}
use Rattle.qm_frac.specs.Gcd.{gcd_of}
use Rattle.qm_frac.specs.Lowest.{IsInRange}
use Rattle.qm_text.specs.Digits.{is_plain_numeral, numeral_value}

-- digits without a leading zero
abbrev pub SpellsNatural : List ℕ → ℕ → Type 0
SpellsNatural word n = IsTrue (is_plain_numeral word) × (n ≡ numeral_value word)

-- the same, with a minus before a number below 0; so 0 has none
abbrev pub SpellsWhole : List ℕ → ℤ → Type 0
SpellsWhole word (pos n) = SpellsNatural word n
SpellsWhole word (negsuc n) = (digits : List ℕ) × (word ≡ 45 ∷ digits) × SpellsNatural digits (suc n)

-- `A/B` where B is 2 at least
pub record SpellsQuotient (word : List ℕ) (a : Fraction) : Type 0 where
  pub above : List ℕ
  pub below : List ℕ
  pub parts : word ≡ above ++ 47 ∷ below
  pub num : SpellsWhole above a.num
  pub den : SpellsNatural below a.den
  pub broken : 2 ≤ a.den

-- a whole number; or `A/B` in lowest terms, or with an A or a B that is out of range by itself
abbrev pub SpellsFraction : List ℕ → Fraction → Type 0
SpellsFraction word a =
    (SpellsWhole word a.num × (a.den ≡ 1))
    ⊎ (SpellsQuotient word a × ((gcd_of (unsigned_abs a.num) a.den ≡ 1) ⊎ ¬ IsInRange a))

-- what is written of a fraction in lowest terms: `A`, or `A/B` where the denominator isn't 1
abbrev pub number_word : Fraction → List ℕ
number_word a = if a.den == 1 then signed_decimal a.num else signed_decimal a.num ++ 47 ∷ decimal a.den
