-- The text of lines, piece by piece.
use Rattle.std.proofs.Common.{◌≡◌, ℕ, List, [], ◌∷◌, ◌++◌, append_assoc, refl, sym, ap, ◌∙◌, Result, Ok, Err}
use Rattle.std.specs.Prelude.{OnOk}
use Rattle.qm_certfile.specs.Lines.{Word, Line, line_text, text_of}
use Rattle.qm_certfile.specs.LineSteps.{spaced}

-- a line is its first word, the others each behind a space, and LF
pub line_spaced : (word : Word) (words : List Word) → line_text (word ∷ words) ≡ word ++ (spaced words ++ 10 ∷ [])
line_spaced word [] = refl
line_spaced word (next ∷ words) =
    ap (λ t. word ++ 32 ∷ t) (line_spaced next words ∙ sym (append_assoc next (spaced words) (10 ∷ [])))

pub spaced_append : (words more : List Word) → spaced (words ++ more) ≡ spaced words ++ spaced more
spaced_append [] more = refl
spaced_append (word ∷ words) more = ap (λ t. 32 ∷ word ++ t) (spaced_append words more) ∙ ap (λ t. 32 ∷ t) (sym (append_assoc word (spaced words) (spaced more)))

pub text_of_append : (lines more : List Line) → text_of (lines ++ more) ≡ text_of lines ++ text_of more
text_of_append [] more = refl
text_of_append (line ∷ lines) more = ap (λ t. line_text line ++ t) (text_of_append lines more) ∙ sym (append_assoc (line_text line) (text_of lines) (text_of more))

-- one piece behind another
pub wrote : (old mid new first second all : List ℕ) → mid ≡ old ++ first → new ≡ mid ++ second → all ≡ first ++ second → new ≡ old ++ all
wrote old mid new first second all e f g = f ∙ ap (λ t. t ++ second) e ∙ append_assoc old first second ∙ ap (λ t. old ++ t) (sym g)

-- what holds on Ok, as far as it has what follows from it
pub on_ok : {T E P Q : Type 0} (r : Result T E) → (P → Q) → OnOk r P → OnOk r Q
on_ok (Ok x) f p = f p
on_ok (Err e) f p = p

-- a line, written as its first word, the others and LF
pub line_wrote : (old first behind new : List ℕ) (word : Word) (words : List Word) → first ≡ old ++ word → behind ≡ first ++ spaced words → new ≡ behind ++ 10 ∷ []
    → new ≡ old ++ line_text (word ∷ words)
line_wrote old first behind new word words e f g =
    wrote old first new word (spaced words ++ 10 ∷ []) (line_text (word ∷ words)) e (wrote first behind new (spaced words) (10 ∷ []) (spaced words ++ 10 ∷ []) f g refl) (line_spaced word words)
