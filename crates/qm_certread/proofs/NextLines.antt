-- The next line of a text.
use Rattle.std.proofs.Common.{◌≡◌, ℕ, ◌+◌, ◌-◌, ◌<◌, ◌≤◌, true, List, ◌∷◌, ◌++◌, length, take, drop, get_or, None, Some, Ok, Err, inl, inr, refl, sym, ap, ap₂, ◌∙◌, subst, arith}
use Rattle.std.proofs.lemmas.Bool.Decides.{nat_tests}
use Rattle.std.proofs.lemmas.List.{get_or-drop, length-drop, drop-drop, drop_more, take-append-drop}
use Rattle.std.specs.List.{slice_split}
use Rattle.memchr.specs.Find.{IsFirst, IsFirstByte, is_byte}
use Rattle.qm_certread.specs.declared.cursor.Cursor.{Cursor}
use Rattle.qm_certread.specs.declared.fault.CertFault.{CertFault}
use Rattle.qm_certread.specs.declared.fault.CertFault.TheVariants as fault
use Rattle.qm_certread.specs.declared.fault.Misread.{Misread}
use Rattle.qm_certread.specs.declared.fault.Misread.TheVariants as rule
use Rattle.qm_certread.specs.declared.fault.Unread.{Unread}
use Rattle.qm_certread.specs.declared.fault.Unread.TheVariants as unread
use Rattle.qm_certfile.specs.Lines.{Line}
use Rattle.qm_certread.specs.Pieces.{words_of}
use Rattle.qm_certread.specs.Spelling.{Said}
use Rattle.qm_certread.specs.WordSteps.{Fails}
use Rattle.qm_certread.specs.ReadSteps.{IsIn, IsMissing, IsNext, NextFails, NextSays, fault_at, unread_at}
use Rattle.qm_certread.proofs.Cuts.{split_nowhere, split_there}

is_end : (byte : ℕ) → is_byte 10 byte ≡ true → byte ≡ 10
is_end byte h = grind (arith, nat_tests)

passes : (byte : ℕ) → byte ≡ 10 → is_byte 10 byte ≡ true
passes byte e = grind (arith, nat_tests)

-- the first LF from a place on is that of what stands there
first_there : (text : List ℕ) (at end : ℕ) → at ≤ length text → IsFirst (λ i. get_or text i 0 ≡ 10) at (length text) (Some end) → IsFirstByte (is_byte 10) (drop at text) (Some (end - at))
first_there text at end inside first =
    let len = length-drop at text in
    let low = first.0.low in
    let high = first.0.high in
    let same : at + (end - at) ≡ end = omega arith in (
      record {
        low = omega arith;
        high = omega arith;
        before = λ j l h e. first.0.before (at + j) (omega arith) (omega arith) (sym (get_or-drop at text j 0) ∙ is_end (get_or (drop at text) j 0) e);
      },
      passes (get_or (drop at text) (end - at) 0) (get_or-drop at text (end - at) 0 ∙ ap (λ i. get_or text i 0) same ∙ first.1),
    )

none_there : (text : List ℕ) (at : ℕ) → at ≤ length text → IsFirst (λ i. get_or text i 0 ≡ 10) at (length text) None → IsFirstByte (is_byte 10) (drop at text) None
none_there text at inside first = λ j l h e.
    let len = length-drop at text in
    first (at + j) (omega arith) (omega arith) (sym (get_or-drop at text j 0) ∙ is_end (get_or (drop at text) j 0) e)

pub line_missing : (text : List ℕ) (cursor : Cursor) → cursor.at ≤ length text → IsFirst (λ i. get_or text i 0 ≡ 10) cursor.at (length text) None → IsMissing text cursor
line_missing text cursor inside first = (drop cursor.at text, split_nowhere 10 (drop cursor.at text) (none_there text cursor.at inside first))

-- the bytes before a place, the one there and those behind it
parts_of : (bytes : List ℕ) (k : ℕ) → k < length bytes → bytes ≡ take k bytes ++ (get_or bytes k 0 ∷ drop (k + 1) bytes)
parts_of bytes k h = sym (take-append-drop k bytes) ∙ ap (λ t. take k bytes ++ t) (drop_more bytes k 0 h)

pub line_there : (text : List ℕ) (old new : Cursor) (end : ℕ) (line : List ℕ) → IsIn text old → IsFirst (λ i. get_or text i 0 ≡ 10) old.at (length text) (Some end)
    → line ≡ take (end - old.at) (drop old.at text) → new.at ≡ end + 1 → new.line ≡ old.line + 1 → IsNext text line old new × IsIn text new
line_there text old new end line place first is at number =
    let inside = place.inside in
    let counted = place.counted in
    let low = first.0.low in
    let high = first.0.high in
    let len = length-drop old.at text in
    let there = first_there text old.at end inside first in
    let behind : drop (end - old.at + 1) (drop old.at text) ≡ drop new.at text =
    drop-drop (end - old.at + 1) old.at text ∙ ap (λ n. drop n text) (omega arith) in
    let here : end - old.at < length (drop old.at text) = omega arith in
    let byte = is_end (get_or (drop old.at text) (end - old.at) 0) there.1 in (
      record {
        bytes = parts_of (drop old.at text) (end - old.at) here ∙ ap₂ (λ (w : List ℕ) (t : List ℕ). w ++ t) (sym is) (ap₂ (λ (b : ℕ) (t : List ℕ). b ∷ t) byte behind);
        lines = split_there 10 (drop old.at text) (end - old.at) there ∙ ap₂ (λ (w : List ℕ) (t : List ℕ). w ∷ slice_split (is_byte 10) t) (sym is) behind;
        number = number;
      },
      record { inside = omega arith; counted = omega arith; short = place.short },
    )

-- ---- what the line says

pub says_next : {A : Type 0} (text : List ℕ) (said : Line → Said A) (old new : Cursor) (line : List ℕ) (a : A) → IsNext text line old new → said (words_of line) ≡ Ok a → NextSays text said old new a
says_next {A} text said old new line a next e = record { line = line; next = next; says = e }

pub fails_next : {A : Type 0} (text : List ℕ) (said : Line → Said A) (old new : Cursor) (line : List ℕ) (m : Misread) (n : ℕ) (e : CertFault) → e ≡ fault_at m n → n ≡ old.line
    → IsNext text line old new → said (words_of line) ≡ Err m → NextFails text said old e
fails_next {A} text said old new line rule.Text n e is same next breaks = subst (NextFails text said old) (sym is) (same, inr (record { line = line; after = new; next = next; breaks = breaks }))
fails_next {A} text said old new line rule.Number n e is same next breaks = subst (NextFails text said old) (sym is) (same, record { line = line; after = new; next = next; breaks = breaks })

pub unread_next : {A : Type 0} (text : List ℕ) (said : Line → Said A) (old new : Cursor) (line : List ℕ) (m : Unread) (n : ℕ) (e : CertFault) → e ≡ unread_at m n → n ≡ old.line
    → IsNext text line old new → Fails m (said (words_of line)) → NextFails text said old e
unread_next {A} text said old new line (unread.Misread m) n e is same next breaks = fails_next text said old new line m n e is same next breaks
unread_next {A} text said old new line unread.Memory n e is same next breaks = subst (NextFails text said old) (sym is) tt

pub missing_next : {A : Type 0} (text : List ℕ) (said : Line → Said A) (old : Cursor) (e : CertFault) → e ≡ fault.Text old.line → IsMissing text old → NextFails text said old e
missing_next {A} text said old e is missing = subst (NextFails text said old) (sym is) (refl, inl missing)
