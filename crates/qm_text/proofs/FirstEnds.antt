-- The first LF at or after a place, by the first one in what stands there.
use Rattle.std.proofs.Common.{◌≡◌, ℕ, ◌+◌, ◌-◌, ◌≤◌, List, length, take, drop, get_or, subst, Some, None, sym, ap, ◌∙◌, arith, true, refl}
use Rattle.std.proofs.lemmas.List.{get_or-drop, length-drop, take_all}
use Rattle.std.proofs.lemmas.Bool.Decides.{nat_tests}
use Rattle.memchr.specs.Find.{IsFirst, IsFirstByte, is_byte}

passes : (byte : ℕ) → byte ≡ 10 → is_byte 10 byte ≡ true
passes byte e = rw e refl

is_end : (byte : ℕ) → is_byte 10 byte ≡ true → byte ≡ 10
is_end byte h = grind (arith, nat_tests)

-- the LF at a place of the text is one in what stands behind the start
line_end_in_rest : (text : List ℕ) (start k : ℕ) → start ≤ k → get_or text k 0 ≡ 10 → is_byte 10 (get_or (drop start text) (k - start) 0) ≡ true
line_end_in_rest text start k h e =
    let same : start + (k - start) ≡ k = omega arith in
    passes (get_or (drop start text) (k - start) 0) (get_or-drop start text (k - start) 0 ∙ ap (λ j. get_or text j 0) same ∙ e)

-- what stands from the start on, as code takes it
rest_is : (text : List ℕ) (start : ℕ) → take (length text - start) (drop start text) ≡ drop start text
rest_is text start = let len = length-drop start text in take_all (length text - start) (drop start text) (omega arith)

pub line_end_some : (text : List ℕ) (start k : ℕ) → start ≤ length text → IsFirstByte (is_byte 10) (take (length text - start) (drop start text)) (Some k)
    → IsFirst (λ at. get_or text at 0 ≡ 10) start (length text) (Some (start + k))
line_end_some text start k h first =
    let len = length-drop start text in
    let found = subst (λ t. IsFirstByte (is_byte 10) t (Some k)) (rest_is text start) first in
    let high = found.0.high in (
      record { low = omega arith; high = omega arith; before = λ j low below e. found.0.before (j - start) (omega arith) (omega arith) (line_end_in_rest text start j low e) },
      sym (get_or-drop start text k 0) ∙ is_end (get_or (drop start text) k 0) found.1,
    )

pub line_end_none : (text : List ℕ) (start : ℕ) → start ≤ length text → IsFirstByte (is_byte 10) (take (length text - start) (drop start text)) None
    → IsFirst (λ at. get_or text at 0 ≡ 10) start (length text) None
line_end_none text start h first = λ k low high e.
    let len = length-drop start text in
    let none = subst (λ t. IsFirstByte (is_byte 10) t None) (rest_is text start) first in
    none (k - start) (omega arith) (omega arith) (line_end_in_rest text start k low e)
