-- The words of a text: what stands between blanks.
use Rattle.std.specs.Prelude.{ℕ, Bool, true, false, not, List, [], ◌∷◌, ◌||◌, ◌==◌, if◌then◌else◌}
use Rattle.qm_small.specs.Written.{Word}

-- a space or an LF
abbrev pub is_blank : ℕ → Bool
is_blank byte = (byte == 32) || (byte == 10)

-- the words, where the first of them comes after an LF as well
abbrev pub after_line : List Word → List Word
after_line [] = []
after_line (word ∷ words) = record { bytes = word.bytes; after_line = true } ∷ words

-- the words, the first of them with one byte more at its front
abbrev pub with_byte : ℕ → List Word → List Word
with_byte byte [] = []
with_byte byte (word ∷ words) = record { bytes = byte ∷ word.bytes; after_line = false } ∷ words

-- a word's byte stands first
abbrev pub begins_word : List ℕ → Bool
begins_word [] = false
begins_word (byte ∷ text) = not (is_blank byte)

-- the words of a text in their order: a byte that is no blank stands at the front of the word that goes on behind it, or is a word by itself
abbrev pub words : List ℕ → List Word
words [] = []
words (byte ∷ text) =
    if is_blank byte then (if byte == 10 then after_line (words text) else words text)
    else if begins_word text then with_byte byte (words text)
    else record { bytes = byte ∷ []; after_line = false } ∷ words text
