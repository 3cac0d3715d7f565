-- Where the slash of a fraction stands.
use Rattle.std.proofs.Common.{◌≡◌, ℕ, zero, suc, List, [], ◌∷◌, ◌++◌, get_or, ℤ, pos, negsuc, true, false, IsTrue, refl, sym, ap, subst, arith}
use Rattle.std.specs.Char.{is_ascii_digit}
use Rattle.std.proofs.lemmas.List.Folds.{list_all_at}
use Rattle.qm_text.specs.Digits.{are_digits, is_plain_numeral}
use Rattle.qm_text.specs.Numbers.{SpellsWhole}
use Rattle.qm_text.specs.Steps.{HasNoSlash}

pub digits_of_plain : (word : List ℕ) → IsTrue (is_plain_numeral word) → are_digits word ≡ true
digits_of_plain word h = grind arith

digits_no_slash : (word : List ℕ) → are_digits word ≡ true → HasNoSlash word
digits_no_slash word all k h e =
    let none : is_ascii_digit (get_or word k 0) ≡ false = ap is_ascii_digit e in
    cc (list_all_at is_ascii_digit word k 0 h none, all)

minus_no_slash : (digits : List ℕ) → HasNoSlash digits → HasNoSlash (45 ∷ digits)
minus_no_slash digits none zero h e = absurd (omega arith)
minus_no_slash digits none (suc k) h e = none k (omega arith) e

pub whole_no_slash : (word : List ℕ) (z : ℤ) → SpellsWhole word z → HasNoSlash word
whole_no_slash word (pos n) h = digits_no_slash word (digits_of_plain word h.0)
whole_no_slash word (negsuc n) h = subst HasNoSlash (sym h.1) (minus_no_slash h.0 (digits_no_slash h.0 (digits_of_plain h.0 h.2.0)))

rest_no_slash : (byte : ℕ) (word : List ℕ) → HasNoSlash (byte ∷ word) → HasNoSlash word
rest_no_slash byte word none k h = none (suc k) (omega arith)

-- a word with a slash in it
pub slash_stands : (above below : List ℕ) → ¬ HasNoSlash (above ++ 47 ∷ below)
slash_stands [] below none = none 0 (omega arith) refl
slash_stands (byte ∷ above) below none = slash_stands above below (rest_no_slash byte (above ++ 47 ∷ below) none)

pub split_one : (a b c d : List ℕ) → HasNoSlash a → HasNoSlash c → a ++ 47 ∷ b ≡ c ++ 47 ∷ d → (a ≡ c) × (b ≡ d)
split_one [] b [] d none other e = (refl, cc e)
split_one [] b (y ∷ c) d none other e = let first : 47 ≡ y = cc e in absurd (other 0 (omega arith) (sym first))
split_one (x ∷ a) b [] d none other e = let first : x ≡ 47 = cc e in absurd (none 0 (omega arith) first)
split_one (x ∷ a) b (y ∷ c) d none other e =
    let first : x ≡ y = cc e in
    let rest : a ++ 47 ∷ b ≡ c ++ 47 ∷ d = cc e in
    let ih = split_one a b c d (rest_no_slash x a none) (rest_no_slash y c other) rest in
    (cc (first, ih.0), ih.1)
