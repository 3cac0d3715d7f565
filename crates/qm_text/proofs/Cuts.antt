-- Words cut at the first byte that passes a test: a word is cut in one way.
use Rattle.std.proofs.Common.{◌≡◌, ◌≢◌, ℕ, zero, suc, ◌<◌, ◌≤◌, Bool, true, false, List, [], ◌∷◌, ◌++◌, length, get_or, take, drop, refl, sym, subst, arith}
use Rattle.std.specs.Char.{is_ascii_digit}
use Rattle.std.proofs.lemmas.Bool.Decides.{nat_tests}
use Rattle.memchr.specs.Find.{is_byte, is_byte2}
use Rattle.qm_text.specs.Digits.{are_digits}
use Rattle.qm_text.specs.DecimalSteps.{HasNone, IsFrom}

-- a test that no digit passes
abbrev pub IsNoDigit : (ℕ → Bool) → Type 0
IsNoDigit test = (byte : ℕ) → is_ascii_digit byte ≡ true → test byte ≡ false

pub point_no_digit : IsNoDigit (is_byte 46)
point_no_digit byte e = grind (arith, nat_tests)

pub e_no_digit : IsNoDigit (is_byte2 101 69)
e_no_digit byte e = grind (arith, nat_tests)

pub first_digit : (digit : ℕ) (digits : List ℕ) → are_digits (digit ∷ digits) ≡ true → is_ascii_digit digit ≡ true
first_digit digit digits all = grind arith

pub rest_digits : (digit : ℕ) (digits : List ℕ) → are_digits (digit ∷ digits) ≡ true → are_digits digits ≡ true
rest_digits digit digits all = grind arith

pub digits_none : (test : ℕ → Bool) (digits : List ℕ) → IsNoDigit test → are_digits digits ≡ true → HasNone test digits
digits_none test [] refused all = tt
digits_none test (digit ∷ digits) refused all = (refused digit (first_digit digit digits all), digits_none test digits refused (rest_digits digit digits all))

pub join_none : (test : ℕ → Bool) (one other : List ℕ) → HasNone test one → HasNone test other → HasNone test (one ++ other)
join_none test [] other p q = q
join_none test (byte ∷ one) other p q = (p.0, join_none test one other p.1 q)

both : (a : Bool) → a ≡ true → a ≡ false → ⊥
both a p q = cc (p, q)

pub cut_one : (test : ℕ → Bool) (a b c d : List ℕ) → HasNone test a → HasNone test c → IsFrom test b → IsFrom test d → a ++ b ≡ c ++ d → (a ≡ c) × (b ≡ d)
cut_one test [] b [] d p q f g e = (refl, e)
cut_one test [] b (y ∷ c) d p q f g e = absurd (both (test y) (subst (IsFrom test) e f) q.0)
cut_one test (x ∷ a) b [] d p q f g e = absurd (both (test x) (subst (IsFrom test) (sym e) g) p.0)
cut_one test (x ∷ a) b (y ∷ c) d p q f g e =
    let first : x ≡ y = cc e in
    let rest : a ++ b ≡ c ++ d = cc e in
    let ih = cut_one test a b c d p.1 q.1 f g rest in
    (cc (first, ih.0), ih.1)

-- ---- where a search ends

not_true : (b : Bool) → b ≢ true → b ≡ false
not_true true h = absurd (h refl)
not_true false h = refl

pub none_before : (test : ℕ → Bool) (word : List ℕ) (at : ℕ) → at ≤ length word → ((k : ℕ) → k < at → test (get_or word k 0) ≢ true) → HasNone test (take at word)
none_before test word zero h none = tt
none_before test [] (suc at) h none = absurd (omega arith)
none_before test (byte ∷ word) (suc at) h none =
    (not_true (test byte) (none 0 (omega arith)), none_before test word at (omega arith) (λ k below. none (suc k) (omega arith)))

pub from_there : (test : ℕ → Bool) (word : List ℕ) (at : ℕ) → at < length word → test (get_or word at 0) ≡ true → IsFrom test (drop at word)
from_there test [] at h passes = absurd (omega arith)
from_there test (byte ∷ word) zero h passes = passes
from_there test (byte ∷ word) (suc at) h passes = from_there test word at (omega arith) passes

pub is_point : (byte : ℕ) → is_byte 46 byte ≡ true → byte ≡ 46
is_point byte h = grind (arith, nat_tests)
