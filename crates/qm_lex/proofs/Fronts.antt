-- The longest front of a text that passes a test.
use Rattle.std.proofs.Common.{◌≡◌, ℕ, zero, suc, ◌+◌, ◌<◌, ◌≤◌, Bool, true, false, cond, List, [], ◌∷◌, length, take, drop, Option, Some, None, refl, sym, ap, subst, ◌∙◌, arith, one-add}
use Rattle.std.specs.List.{list_all, prefix_len}

-- no front passes
abbrev pub Never : (List ℕ → Bool) → List ℕ → Type 0
Never p text = (m : ℕ) → p (take m text) ≡ false

-- the first n bytes pass, and no longer front does
pub record IsLongestFront (p : List ℕ → Bool) (text : List ℕ) (n : ℕ) : Type 0 where
  pub inside : n ≤ length text
  pub passes : p (take n text) ≡ true
  pub longest : (m : ℕ) → n < m → m ≤ length text → p (take m text) ≡ false

-- the longest front that passes is that long, or none does
abbrev pub LongestFront : (List ℕ → Bool) → List ℕ → Option ℕ → Type 0
LongestFront p text None = Never p text
LongestFront p text (Some n) = IsLongestFront p text n

-- the same of a number, which is 0 where none does
abbrev pub FrontOrZero : (List ℕ → Bool) → List ℕ → ℕ → Type 0
FrontOrZero p text zero = Never p text
FrontOrZero p text (suc n) = IsLongestFront p text (suc n)

-- the tests agree on each front of the text
abbrev pub Agree : (List ℕ → Bool) → (List ℕ → Bool) → List ℕ → Type 0
Agree p q text = (m : ℕ) → p (take m text) ≡ q (take m text)

pub agreeing : (p q : List ℕ → Bool) (text : List ℕ) (n : ℕ) → Agree p q text → IsLongestFront q text n → IsLongestFront p text n
agreeing p q text n same is = record {
  inside = is.inside;
  passes = same n ∙ is.passes;
  longest = λ m h k. same m ∙ is.longest m h k;
}

pub agreeing_or_zero : (p q : List ℕ → Bool) (text : List ℕ) (n : ℕ) → Agree p q text → FrontOrZero q text n → FrontOrZero p text n
agreeing_or_zero p q text zero same never = λ m. same m ∙ never m
agreeing_or_zero p q text (suc n) same is = agreeing p q text (suc n) same is

-- tests that agree behind the first byte, and on no byte
pub agree_behind : (p q : List ℕ → Bool) (byte : ℕ) (text : List ℕ) → p [] ≡ q [] → ((word : List ℕ) → p (byte ∷ word) ≡ q (byte ∷ word)) → Agree p q (byte ∷ text)
agree_behind p q byte text none some zero = none
agree_behind p q byte text none some (suc m) = some (take m text)

pub empty_passes : (p : List ℕ → Bool) → p [] ≡ true → IsLongestFront p [] 0
empty_passes p passes = record { inside = omega arith; passes = passes; longest = λ m h k. absurd (omega arith) }

pub empty_fails : (p : List ℕ → Bool) → p [] ≡ false → Never p []
empty_fails p fails zero = fails
empty_fails p fails (suc m) = fails

longest_more : (p q : List ℕ → Bool) (byte : ℕ) (text : List ℕ) (n : ℕ) → ((word : List ℕ) → p (byte ∷ word) ≡ q word) → IsLongestFront q text n
    → (m : ℕ) → suc n < m → m ≤ length (byte ∷ text) → p (take m (byte ∷ text)) ≡ false
longest_more p q byte text n step is zero h k = absurd (omega arith)
longest_more p q byte text n step is (suc m) h k = step (take m text) ∙ is.longest m (omega arith) (omega arith)

-- one byte more at the front
pub more : (p q : List ℕ → Bool) (byte : ℕ) (text : List ℕ) (n : ℕ) → ((word : List ℕ) → p (byte ∷ word) ≡ q word) → IsLongestFront q text n → IsLongestFront p (byte ∷ text) (suc n)
more p q byte text n step is = record {
  inside = omega (arith, is.inside);
  passes = step (take n text) ∙ is.passes;
  longest = longest_more p q byte text n step is;
}

pub one_more_front : (p q : List ℕ → Bool) (byte : ℕ) (text : List ℕ) (n : ℕ) → ((word : List ℕ) → p (byte ∷ word) ≡ q word) → IsLongestFront q text n → IsLongestFront p (byte ∷ text) (1 + n)
one_more_front p q byte text n step is = let P : ℕ → Type 0 = λ k. IsLongestFront p (byte ∷ text) k in subst P (sym (one-add n)) (more p q byte text n step is)

stop_longest : (p : List ℕ → Bool) (byte : ℕ) (text : List ℕ) → ((m : ℕ) → p (byte ∷ take m text) ≡ false) → (m : ℕ) → 0 < m → m ≤ length (byte ∷ text) → p (take m (byte ∷ text)) ≡ false
stop_longest p byte text none zero h k = absurd (omega arith)
stop_longest p byte text none (suc m) h k = none m

-- nothing passes, and no front with the first byte does
pub stop : (p : List ℕ → Bool) (byte : ℕ) (text : List ℕ) → p [] ≡ true → ((m : ℕ) → p (byte ∷ take m text) ≡ false) → IsLongestFront p (byte ∷ text) 0
stop p byte text passes none = record { inside = omega arith; passes = passes; longest = stop_longest p byte text none }

pub never : (p : List ℕ → Bool) (byte : ℕ) (text : List ℕ) → p [] ≡ false → ((m : ℕ) → p (byte ∷ take m text) ≡ false) → Never p (byte ∷ text)
never p byte text fails none zero = fails
never p byte text fails none (suc m) = none m

-- the bytes that pass a test one by one
front_step : (f : ℕ → Bool) (byte : ℕ) (text : List ℕ) (t : Bool) → f byte ≡ t → IsLongestFront (list_all f) text (prefix_len f text) → IsLongestFront (list_all f) (byte ∷ text) (cond t (1 + prefix_len f text) 0)
front_step f byte text true e is = one_more_front (list_all f) (list_all f) byte text (prefix_len f text) (λ word. rw e refl) is
front_step f byte text false e is = stop (list_all f) byte text refl (λ m. rw e refl)

pub front : (f : ℕ → Bool) (text : List ℕ) → IsLongestFront (list_all f) text (prefix_len f text)
front f [] = empty_passes (list_all f) refl
front f (byte ∷ text) = front_step f byte text (f byte) refl (front f text)

-- what a test passes behind bytes that it takes one by one
behind_step : (f : ℕ → Bool) (p : List ℕ → Bool) (g : List ℕ → ℕ) (byte : ℕ) (text : List ℕ) (t : Bool) → f byte ≡ t → ((word : List ℕ) → f byte ≡ true → p (byte ∷ word) ≡ p word)
    → (f byte ≡ false → IsLongestFront p (byte ∷ text) (g (byte ∷ text)))
    → IsLongestFront p text (prefix_len f text + g (drop (prefix_len f text) text))
    → IsLongestFront p (byte ∷ text) (cond t (1 + prefix_len f text) 0 + g (drop (cond t (1 + prefix_len f text) 0) (byte ∷ text)))
behind_step f p g byte text true e step ends is =
    let n = prefix_len f text in
    let P : ℕ → Type 0 = λ k. IsLongestFront p (byte ∷ text) k in
    let rest : drop (1 + n) (byte ∷ text) ≡ drop n text = ap (λ (k : ℕ). drop k (byte ∷ text)) (one-add n) in
    let same : 1 + (n + g (drop n text)) ≡ (1 + n) + g (drop (1 + n) (byte ∷ text)) = rw rest (omega arith) in
    subst P same (one_more_front p p byte text (n + g (drop n text)) (λ word. step word e) is)
behind_step f p g byte text false e step ends is =
    let P : ℕ → Type 0 = λ k. IsLongestFront p (byte ∷ text) k in
    let same : g (byte ∷ text) ≡ 0 + g (byte ∷ text) = omega arith in
    subst P same (ends e)

pub behind_front : (f : ℕ → Bool) (p : List ℕ → Bool) (g : List ℕ → ℕ) → ((byte : ℕ) (word : List ℕ) → f byte ≡ true → p (byte ∷ word) ≡ p word)
    → IsLongestFront p [] (g []) → ((byte : ℕ) (text : List ℕ) → f byte ≡ false → IsLongestFront p (byte ∷ text) (g (byte ∷ text)))
    → (text : List ℕ) → IsLongestFront p text (prefix_len f text + g (drop (prefix_len f text) text))
behind_front f p g step none ends [] =
    let P : ℕ → Type 0 = λ k. IsLongestFront p [] k in
    let same : g [] ≡ 0 + g [] = omega arith in subst P same none
behind_front f p g step none ends (byte ∷ text) = behind_step f p g byte text (f byte) refl (step byte) (ends byte text) (behind_front f p g step none ends text)
