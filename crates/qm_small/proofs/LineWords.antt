-- The words of a text that is written by lines.
use Rattle.std.proofs.Common.{◌≡◌, ℕ, Bool, true, false, not, List, [], ◌∷◌, ◌++◌, refl, ap, ◌∙◌}
use Rattle.std.specs.List.{flat_map, list_all}
use Rattle.std.proofs.lemmas.Bool.{and_parts, not-true}
use Rattle.std.proofs.lemmas.List.{append_assoc}
use Rattle.qm_small.specs.Lines.{Line, lines_text, spaced}
use Rattle.qm_small.specs.Words.{after_line, begins_word, is_blank, with_byte, words}
use Rattle.qm_small.specs.Written.{Word}
use Rattle.qm_small.proofs.Pieces.{longer_word, one_byte}

-- no byte is blank
abbrev pub is_full : List ℕ → Bool
is_full bytes = list_all (λ byte. not (is_blank byte)) bytes

-- one byte at least, and none that is blank
abbrev pub IsSolid : List ℕ → Type 0
IsSolid [] = ⊥
IsSolid (byte ∷ bytes) = is_full (byte ∷ bytes) ≡ true

abbrev pub AreSolid : Line → Type 0
AreSolid [] = Unit {0}
AreSolid (word ∷ line) = IsSolid word × AreSolid line

abbrev pub AreSolidLines : List Line → Type 0
AreSolidLines [] = Unit {0}
AreSolidLines (line ∷ lines) = AreSolid line × AreSolidLines lines

-- the words of a line, the first of which comes after an LF or doesn't
abbrev pub marked : Bool → Line → List Word
marked first [] = []
marked first (word ∷ line) = record { bytes = word; after_line = first } ∷ marked false line

-- the words of lines
abbrev pub lined : Bool → List Line → List Word
lined first [] = []
lined first (line ∷ lines) = marked first line ++ lined true lines

abbrev behind : Line → List ℕ
behind line = flat_map (λ other. 32 ∷ other) line

whole_word : (byte : ℕ) (bytes rest : List ℕ) → is_full (byte ∷ bytes) ≡ true → begins_word rest ≡ false → words (byte ∷ (bytes ++ rest)) ≡ record { bytes = byte ∷ bytes; after_line = false } ∷ words rest
whole_word byte [] rest full ends = one_byte byte rest (not-true (is_blank byte) (and_parts (not (is_blank byte)) true full).0) ends
whole_word byte (next ∷ bytes) rest full ends =
    let here = and_parts (not (is_blank byte)) (is_full (next ∷ bytes)) full in
    let begins = (and_parts (not (is_blank next)) (is_full bytes) here.1).0 in
    longer_word byte (next ∷ (bytes ++ rest)) (not-true (is_blank byte) here.0) begins ∙ ap (with_byte byte) (whole_word next bytes rest here.1 ends)

first_word : (word rest : List ℕ) → IsSolid word → begins_word rest ≡ false → words (word ++ rest) ≡ record { bytes = word; after_line = false } ∷ words rest
first_word [] rest solid ends = absurd solid
first_word (byte ∷ bytes) rest solid ends = whole_word byte bytes rest solid ends

behind_ends : (line : Line) (rest : List ℕ) → begins_word rest ≡ false → begins_word (behind line ++ rest) ≡ false
behind_ends [] rest ends = ends
behind_ends (word ∷ line) rest ends = refl

behind_words : (line : Line) (rest : List ℕ) → AreSolid line → begins_word rest ≡ false → words (behind line ++ rest) ≡ marked false line ++ words rest
behind_words [] rest solid ends = refl
behind_words (word ∷ line) rest solid ends =
    ap (λ (t : List ℕ). words (32 ∷ t)) (append_assoc word (behind line) rest)
    ∙ first_word word (behind line ++ rest) solid.0 (behind_ends line rest ends)
    ∙ ap (λ (ws : List Word). record { bytes = word; after_line = false } ∷ ws) (behind_words line rest solid.1 ends)

line_words : (line : Line) (rest : List ℕ) → AreSolid line → words (spaced line ++ 10 ∷ rest) ≡ marked false line ++ after_line (words rest)
line_words [] rest solid = refl
line_words (word ∷ line) rest solid =
    ap words (append_assoc word (behind line) (10 ∷ rest))
    ∙ first_word word (behind line ++ 10 ∷ rest) solid.0 (behind_ends line (10 ∷ rest) refl)
    ∙ ap (λ (ws : List Word). record { bytes = word; after_line = false } ∷ ws) (behind_words line (10 ∷ rest) solid.1 refl)

after_lined : (first : Bool) (lines : List Line) → after_line (lined first lines) ≡ lined true lines
after_lined first [] = refl
after_lined first ([] ∷ lines) = after_lined true lines
after_lined first ((word ∷ line) ∷ lines) = refl

pub lines_words : (lines : List Line) → AreSolidLines lines → words (lines_text lines) ≡ lined false lines
lines_words [] solid = refl
lines_words (line ∷ lines) solid =
    ap words (append_assoc (spaced line) (10 ∷ []) (lines_text lines))
    ∙ line_words line (lines_text lines) solid.0
    ∙ ap (λ (ws : List Word). marked false line ++ ws) (ap after_line (lines_words lines solid.1) ∙ after_lined false lines)
