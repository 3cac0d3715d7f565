-- The longest number at the front of a text.
use Rattle.std.proofs.Common.{◌≡◌, ℕ, zero, suc, ◌+◌, Bool, true, false, cond, List, [], ◌∷◌, take, drop, Some, None, eqb, refl, sym, ap, subst, ◌∙◌, arith, rules, tests, one-add, add-one}
use Rattle.std.specs.Char.{is_ascii_digit}
use Rattle.std.specs.List.{list_all}
use Rattle.qm_lex.specs.Bytes.{begins_exponent, is_sign}
use Rattle.qm_lex.proofs.NumberParts.{are_some_digits, are_signed_digits, is_exponent}
use Rattle.qm_lex.proofs.NumberWords.{is_behind_point, is_behind_digit, is_fraction, is_number}
use Rattle.qm_lex.specs.Reading.{digits_at, one_more, signed_digits_at, exponent_at, decimals_at, tail_at, point_at, number_at}
use Rattle.qm_lex.proofs.Fronts.{IsLongestFront, LongestFront, FrontOrZero, agreeing, agreeing_or_zero, agree_behind, empty_passes, empty_fails, more, one_more_front, stop, never, front, behind_front}

pub no_zero : (n : ℕ) → eqb (suc n) 0 ≡ false
no_zero n = search (rules, tests)

suc_more : (n : ℕ) → one_more (suc n) ≡ suc (suc n)
suc_more n = rw no_zero (add-one (suc n))

-- one byte more before something that has no empty front
more_or_zero : (p q : List ℕ → Bool) (byte : ℕ) (text : List ℕ) (n : ℕ) → p [] ≡ false → ((word : List ℕ) → p (byte ∷ word) ≡ q word) → FrontOrZero q text n → FrontOrZero p (byte ∷ text) (one_more n)
more_or_zero p q byte text zero fails step is = never p byte text fails (λ m. step (take m text) ∙ is m)
more_or_zero p q byte text (suc n) fails step is =
    let P : ℕ → Type 0 = λ k. FrontOrZero p (byte ∷ text) k in
    subst P (sym (suc_more n)) (more p q byte text (suc n) step is)

more_or_nothing : (p q : List ℕ → Bool) (byte : ℕ) (text : List ℕ) (n : ℕ) → p [] ≡ true → ((word : List ℕ) → p (byte ∷ word) ≡ q word) → FrontOrZero q text n → IsLongestFront p (byte ∷ text) (one_more n)
more_or_nothing p q byte text zero passes step is = stop p byte text passes (λ m. step (take m text) ∙ is m)
more_or_nothing p q byte text (suc n) passes step is =
    let P : ℕ → Type 0 = λ k. IsLongestFront p (byte ∷ text) k in
    subst P (sym (suc_more n)) (more p q byte text (suc n) step is)

digits_step : (byte : ℕ) (text : List ℕ) (t : Bool) → is_ascii_digit byte ≡ t → FrontOrZero are_some_digits (byte ∷ text) (cond t (1 + digits_at text) 0)
digits_step byte text true e =
    let P : ℕ → Type 0 = λ k. FrontOrZero are_some_digits (byte ∷ text) k in
    subst P (sym (one-add (digits_at text))) (more are_some_digits (list_all is_ascii_digit) byte text (digits_at text) (λ word. rw e refl) (front is_ascii_digit text))
digits_step byte text false e = never are_some_digits byte text refl (λ m. rw e refl)

pub digits_front : (text : List ℕ) → FrontOrZero are_some_digits text (digits_at text)
digits_front [] = empty_fails are_some_digits refl
digits_front (byte ∷ text) = digits_step byte text (is_ascii_digit byte) refl

signed_step : (byte : ℕ) (text : List ℕ) (t : Bool) → is_sign byte ≡ t → FrontOrZero are_signed_digits (byte ∷ text) (cond t (one_more (digits_at text)) (digits_at (byte ∷ text)))
signed_step byte text true e = more_or_zero are_signed_digits are_some_digits byte text (digits_at text) refl (λ word. rw e refl) (digits_front text)
signed_step byte text false e =
    agreeing_or_zero are_signed_digits are_some_digits (byte ∷ text) (digits_at (byte ∷ text)) (agree_behind are_signed_digits are_some_digits byte text refl (λ word. rw e refl)) (digits_front (byte ∷ text))

pub signed_front : (text : List ℕ) → FrontOrZero are_signed_digits text (signed_digits_at text)
unfolding signed_digits_at
signed_front [] = empty_fails are_signed_digits refl
signed_front (byte ∷ text) = signed_step byte text (is_sign byte) refl

exponent_step : (byte : ℕ) (text : List ℕ) (t : Bool) → begins_exponent byte ≡ t → IsLongestFront is_exponent (byte ∷ text) (cond t (one_more (signed_digits_at text)) 0)
exponent_step byte text true e = more_or_nothing is_exponent are_signed_digits byte text (signed_digits_at text) refl (λ word. rw e refl) (signed_front text)
exponent_step byte text false e = stop is_exponent byte text refl (λ m. rw e refl)

pub exponent_front : (text : List ℕ) → IsLongestFront is_exponent text (exponent_at text)
unfolding exponent_at
exponent_front [] = empty_passes is_exponent refl
exponent_front (byte ∷ text) = exponent_step byte text (begins_exponent byte) refl

empty_exponent : exponent_at [] ≡ 0
unfolding exponent_at
empty_exponent = refl

-- a text that goes on as an exponent, by a test that agrees there
ends_as_exponent : (p : List ℕ → Bool) (byte : ℕ) (text : List ℕ) → p [] ≡ true → ((word : List ℕ) → p (byte ∷ word) ≡ is_exponent (byte ∷ word)) → IsLongestFront p (byte ∷ text) (exponent_at (byte ∷ text))
ends_as_exponent p byte text passes step = agreeing p is_exponent (byte ∷ text) (exponent_at (byte ∷ text)) (agree_behind p is_exponent byte text passes step) (exponent_front (byte ∷ text))

empty_behind_point : IsLongestFront is_behind_point [] (exponent_at [])
empty_behind_point = let P : ℕ → Type 0 = λ k. IsLongestFront is_behind_point [] k in subst P (sym empty_exponent) (empty_passes is_behind_point refl)

point_front : (text : List ℕ) → IsLongestFront is_behind_point text (digits_at text + exponent_at (drop (digits_at text) text))
point_front = behind_front is_ascii_digit is_behind_point exponent_at (λ byte word e. rw e refl) empty_behind_point (λ byte text e. ends_as_exponent is_behind_point byte text refl (λ word. rw e refl))

pub decimals_front : (text : List ℕ) → IsLongestFront is_behind_point text (decimals_at text)
unfolding decimals_at
decimals_front text = point_front text

tail_step : (byte : ℕ) (text : List ℕ) (t : Bool) → is_ascii_digit byte ≡ false → eqb byte 46 ≡ t → IsLongestFront is_behind_digit (byte ∷ text) (cond t (1 + decimals_at text) (exponent_at (byte ∷ text)))
tail_step byte text true e f = one_more_front is_behind_digit is_behind_point byte text (decimals_at text) (λ word. rw (e, f) refl) (decimals_front text)
tail_step byte text false e f = ends_as_exponent is_behind_digit byte text refl (λ word. rw (e, f) refl)

tail_front : (byte : ℕ) (text : List ℕ) → is_ascii_digit byte ≡ false → IsLongestFront is_behind_digit (byte ∷ text) (tail_at (byte ∷ text))
unfolding tail_at
tail_front byte text e = tail_step byte text (eqb byte 46) e refl

empty_tail : IsLongestFront is_behind_digit [] (tail_at [])
unfolding tail_at
empty_tail = empty_passes is_behind_digit refl

pub behind_digit_front : (text : List ℕ) → IsLongestFront is_behind_digit text (digits_at text + tail_at (drop (digits_at text) text))
behind_digit_front = behind_front is_ascii_digit is_behind_digit tail_at (λ byte word e. rw e refl) empty_tail tail_front

no_digit : (n : ℕ) → eqb (1 + n) 0 ≡ false
no_digit n = search (rules, tests)

-- one byte more in front of what is counted so
counted_more : (g : List ℕ → ℕ) (byte : ℕ) (text : List ℕ) → 1 + (digits_at text + g (drop (digits_at text) text)) ≡ (1 + digits_at text) + g (drop (1 + digits_at text) (byte ∷ text))
counted_more g byte text =
    let n = digits_at text in
    let rest : drop (1 + n) (byte ∷ text) ≡ drop n text = ap (λ (k : ℕ). drop k (byte ∷ text)) (one-add n) in
    rw rest (omega arith)

decimals_more : (byte : ℕ) (text : List ℕ) → is_ascii_digit byte ≡ true → 1 + decimals_at text ≡ decimals_at (byte ∷ text)
unfolding decimals_at
decimals_more byte text e = rw e (counted_more exponent_at byte text)

fraction_step : (byte : ℕ) (text : List ℕ) (t : Bool) → is_ascii_digit byte ≡ t
    → LongestFront is_fraction (byte ∷ text) (cond (eqb (cond t (1 + digits_at text) 0) 0) None (Some (decimals_at (byte ∷ text))))
fraction_step byte text true e =
    let P : ℕ → Type 0 = λ k. IsLongestFront is_fraction (byte ∷ text) k in
    let some : IsLongestFront is_fraction (byte ∷ text) (decimals_at (byte ∷ text)) =
    subst P (decimals_more byte text e) (one_more_front is_fraction is_behind_point byte text (decimals_at text) (λ word. rw e refl) (decimals_front text)) in
    let Q : Bool → Type 0 = λ b. LongestFront is_fraction (byte ∷ text) (cond b None (Some (decimals_at (byte ∷ text)))) in
    subst Q (sym (no_digit (digits_at text))) some
fraction_step byte text false e = never is_fraction byte text refl (λ m. rw e refl)

fraction_front : (text : List ℕ) → LongestFront is_fraction text (cond (eqb (digits_at text) 0) None (Some (decimals_at text)))
fraction_front [] = empty_fails is_fraction refl
fraction_front (byte ∷ text) = fraction_step byte text (is_ascii_digit byte) refl

behind_a_point : (byte : ℕ) (text : List ℕ) (b : Bool) → ((word : List ℕ) → is_number (byte ∷ word) ≡ is_fraction word)
    → LongestFront is_fraction text (cond b None (Some (decimals_at text))) → LongestFront is_number (byte ∷ text) (cond b None (Some (1 + decimals_at text)))
behind_a_point byte text true step is = never is_number byte text refl (λ m. step (take m text) ∙ is m)
behind_a_point byte text false step is = one_more_front is_number is_fraction byte text (decimals_at text) step is

pointed_step : (byte : ℕ) (text : List ℕ) (t : Bool) → is_ascii_digit byte ≡ false → eqb byte 46 ≡ t
    → LongestFront is_number (byte ∷ text) (cond t (cond (eqb (digits_at text) 0) None (Some (1 + decimals_at text))) None)
pointed_step byte text true e f = behind_a_point byte text (eqb (digits_at text) 0) (λ word. rw (e, f) refl) (fraction_front text)
pointed_step byte text false e f = never is_number byte text refl (λ m. rw (e, f) refl)

pointed_front : (byte : ℕ) (text : List ℕ) → is_ascii_digit byte ≡ false → LongestFront is_number (byte ∷ text) (point_at (byte ∷ text))
unfolding point_at
pointed_front byte text e = pointed_step byte text (eqb byte 46) e refl

number_step : (byte : ℕ) (text : List ℕ) (t : Bool) → is_ascii_digit byte ≡ t
    → LongestFront is_number (byte ∷ text) (let n = cond t (1 + digits_at text) 0 in cond (eqb n 0) (point_at (byte ∷ text)) (Some (n + tail_at (drop n (byte ∷ text)))))
number_step byte text true e =
    let n = 1 + digits_at text in
    let P : ℕ → Type 0 = λ k. IsLongestFront is_number (byte ∷ text) k in
    let some : IsLongestFront is_number (byte ∷ text) (n + tail_at (drop n (byte ∷ text))) =
    subst P (counted_more tail_at byte text) (one_more_front is_number is_behind_digit byte text (digits_at text + tail_at (drop (digits_at text) text)) (λ word. rw e refl) (behind_digit_front text)) in
    let Q : Bool → Type 0 = λ b. LongestFront is_number (byte ∷ text) (cond b (point_at (byte ∷ text)) (Some (n + tail_at (drop n (byte ∷ text))))) in
    subst Q (sym (no_digit (digits_at text))) some
number_step byte text false e = pointed_front byte text e

empty_number : LongestFront is_number [] (point_at [])
unfolding point_at
empty_number = empty_fails is_number refl

-- what the code finds is the longest number
pub number_front : (text : List ℕ) → LongestFront is_number text (number_at text)
unfolding number_at
number_front [] = empty_number
number_front (byte ∷ text) = number_step byte text (is_ascii_digit byte) refl
