-- Where blanks and comments end.
use Rattle.std.proofs.Common.{◌≡◌, ◌≢◌, ℕ, ◌+◌, ◌<◌, Bool, true, false, not, cond, List, [], ◌∷◌, length, length-drop, get_or, get_or-drop, drop, eqb, eq-eqb, refl, sym, ap, subst, ◌∙◌, arith, one-add}
use Rattle.qm_lex.specs.declared.token.Token.{Token}
use Rattle.qm_lex.specs.Bytes.{is_blank}
use Rattle.qm_lex.specs.Texts.{skipped, behind_blanks, Reaches}

-- the byte is no blank, and begins no comment
pub record IsStop (byte : ℕ) : Type 0 where
  pub no_blank : is_blank byte ≡ false
  pub no_backslash : eqb byte 92 ≡ false

shifted : (byte : ℕ) (text : List ℕ) (n : ℕ) → IsStop (get_or text n 0) → IsStop (get_or (byte ∷ text) (1 + n) 0)
shifted byte text n is = let P : ℕ → Type 0 = λ k. IsStop (get_or (byte ∷ text) k 0) in subst P (sym (one-add n)) is

backslash_step : (byte : ℕ) (text : List ℕ) (t : Bool) → is_blank byte ≡ false → eqb byte 92 ≡ t
    → (skipped true text < length text → IsStop (get_or text (skipped true text) 0))
    → cond t (1 + skipped true text) 0 < length (byte ∷ text) → IsStop (get_or (byte ∷ text) (cond t (1 + skipped true text) 0) 0)
backslash_step byte text true e f behind h = shifted byte text (skipped true text) (behind (omega arith))
backslash_step byte text false e f behind h = record { no_blank = e; no_backslash = f }

blank_step : (byte : ℕ) (text : List ℕ) (t : Bool) → is_blank byte ≡ t
    → (skipped false text < length text → IsStop (get_or text (skipped false text) 0))
    → (skipped true text < length text → IsStop (get_or text (skipped true text) 0))
    → (let n = cond t (1 + skipped false text) (cond (eqb byte 92) (1 + skipped true text) 0) in n < length (byte ∷ text) → IsStop (get_or (byte ∷ text) n 0))
blank_step byte text true e outside inside = λ h. shifted byte text (skipped false text) (outside (omega arith))
blank_step byte text false e outside inside = backslash_step byte text (eqb byte 92) e refl inside

-- a byte behind blanks and comments is neither
stops : (is_inside : Bool) (text : List ℕ) → skipped is_inside text < length text → IsStop (get_or text (skipped is_inside text) 0)
stops true [] h = absurd (omega arith)
stops false [] h = absurd (omega arith)
stops true (byte ∷ text) h = shifted byte text (skipped (not (eqb byte 10)) text) (stops (not (eqb byte 10)) text (omega arith))
stops false (byte ∷ text) h = blank_step byte text (is_blank byte) refl (stops false text) (stops true text) h

stop_behind : (text : List ℕ) (from at : ℕ) → behind_blanks text from ≡ at → at < length text → IsStop (get_or text at 0)
unfolding behind_blanks
stop_behind text from at is h =
    let n = skipped false (drop from text) in
    let inside : n < length (drop from text) = rw length-drop (omega arith) in
    let here : get_or (drop from text) n 0 ≡ get_or text at 0 = get_or-drop from text n 0 ∙ ap (λ (k : ℕ). get_or text k 0) is in
    let P : ℕ → Type 0 = λ byte. IsStop byte in
    subst P here (stops false (drop from text) inside)

-- a byte that tokens, blanks and comments go up to is neither a blank nor a backslash
pub reached_stop : (text : List ℕ) (from : ℕ) (tokens : List Token) (at : ℕ) → Reaches text from tokens at → at < length text → IsStop (get_or text at 0)
reached_stop text from [] at is h = stop_behind text from at is h
reached_stop text from (token ∷ tokens) at is h = reached_stop text token.end tokens at is.2 h

pub no_comment : (byte : ℕ) → IsStop byte → byte ≢ 92
no_comment byte is = λ e. let both = eq-eqb byte 92 e in let neither = is.no_backslash in cc
