-- A text in pieces: blanks and a word, one behind the other, and blanks at the end.
use Rattle.std.proofs.Common.{◌≡◌, ℕ, ◌≤◌, Bool, true, false, not, cond, ◌||◌, List, [], ◌∷◌, ◌++◌, length, length-append, map, eqb, refl, ap, sym, ◌∙◌, arith}
use Rattle.qm_small.specs.Written.{Word}
use Rattle.qm_small.specs.Words.{after_line, begins_word, is_blank, with_byte, words}

-- blanks, and the word behind them, by its first byte and the others
pub record Piece : Type 0 where
  pub gap : List ℕ
  pub first : ℕ
  pub others : List ℕ

-- an LF stands among the bytes
abbrev pub has_line : List ℕ → Bool
has_line [] = false
has_line (byte ∷ gap) = eqb byte 10 || has_line gap

abbrev pub word_of : Piece → Word
word_of p = record { bytes = p.first ∷ p.others; after_line = has_line p.gap }

-- the text of pieces, and of what stands behind them
abbrev pub joined : List Piece → List ℕ → List ℕ
joined [] last = last
joined (p ∷ ps) last = p.gap ++ (p.first ∷ (p.others ++ joined ps last))

abbrev pub AreBlank : List ℕ → Type 0
AreBlank [] = Unit {0}
AreBlank (byte ∷ gap) = (is_blank byte ≡ true) × AreBlank gap

-- gaps are blank, and no byte of a word stands behind a word
abbrev pub AreCut : List Piece → List ℕ → Type 0
AreCut [] last = AreBlank last
AreCut (p ∷ ps) last = AreBlank p.gap × (begins_word (joined ps last) ≡ false) × AreCut ps last

-- the pieces of a text, and that its words are theirs
pub record Cut (text : List ℕ) : Type 0 where
  pub pieces : List Piece
  pub last : List ℕ
  pub text_is : text ≡ joined pieces last
  pub words_are : words text ≡ map word_of pieces
  pub parts : AreCut pieces last

blank_first : (byte : ℕ) (text : List ℕ) → is_blank byte ≡ true → words (byte ∷ text) ≡ cond (eqb byte 10) (after_line (words text)) (words text)
blank_first byte text blank = rw blank refl

pub longer_word : (byte : ℕ) (text : List ℕ) → is_blank byte ≡ false → begins_word text ≡ true → words (byte ∷ text) ≡ with_byte byte (words text)
longer_word byte text p q = rw (p, q) refl

pub one_byte : (byte : ℕ) (text : List ℕ) → is_blank byte ≡ false → begins_word text ≡ false → words (byte ∷ text) ≡ record { bytes = byte ∷ []; after_line = false } ∷ words text
one_byte byte text p q = rw (p, q) refl

no_words : (b : Bool) → cond b (after_line []) [] ≡ []
no_words true = refl
no_words false = refl

marked : (b c : Bool) (bytes : List ℕ) (ws : List Word)
    → cond b (after_line (record { bytes = bytes; after_line = c } ∷ ws)) (record { bytes = bytes; after_line = c } ∷ ws) ≡ record { bytes = bytes; after_line = b || c } ∷ ws
marked true c bytes ws = refl
marked false c bytes ws = refl

abbrev behind_blank : ℕ → List Word → List Word
behind_blank byte ws = cond (eqb byte 10) (after_line ws) ws

-- a blank more at the front
blank_more : (byte : ℕ) (text : List ℕ) → is_blank byte ≡ true → (ps : List Piece) (last : List ℕ) → text ≡ joined ps last → words text ≡ map word_of ps → AreCut ps last → Cut (byte ∷ text)
blank_more byte text blank [] last same is good = record {
  pieces = [];
  last = byte ∷ last;
  text_is = ap (λ (t : List ℕ). byte ∷ t) same;
  words_are = blank_first byte text blank ∙ ap (behind_blank byte) is ∙ no_words (eqb byte 10);
  parts = (blank, good);
}
blank_more byte text blank (p ∷ ps) last same is good = record {
  pieces = record { gap = byte ∷ p.gap; first = p.first; others = p.others } ∷ ps;
  last = last;
  text_is = ap (λ (t : List ℕ). byte ∷ t) same;
  words_are = blank_first byte text blank ∙ ap (behind_blank byte) is ∙ marked (eqb byte 10) (has_line p.gap) (p.first ∷ p.others) (map word_of ps);
  parts = ((blank, good.0), good.1, good.2);
}

-- a word of one byte more
word_more : (byte : ℕ) (text : List ℕ) → is_blank byte ≡ false → begins_word text ≡ false → (c : Cut text) → Cut (byte ∷ text)
word_more byte text p q c = record {
  pieces = record { gap = []; first = byte; others = [] } ∷ c.pieces;
  last = c.last;
  text_is = ap (λ (t : List ℕ). byte ∷ t) c.text_is;
  words_are = one_byte byte text p q ∙ ap (λ (ws : List Word). record { bytes = byte ∷ []; after_line = false } ∷ ws) c.words_are;
  parts = (tt, ap begins_word (sym c.text_is) ∙ q, c.parts);
}

blank_begins : (last : List ℕ) → AreBlank last → begins_word last ≡ true → ⊥
blank_begins [] blank begins = absurd cc
blank_begins (byte ∷ last) blank begins = let no : not (is_blank byte) ≡ false = rw blank.0 refl in absurd cc

-- a byte more of the first word
byte_more : (byte : ℕ) (text : List ℕ) → is_blank byte ≡ false → begins_word text ≡ true → (gap : List ℕ) (first : ℕ) (others : List ℕ) (ps : List Piece) (last : List ℕ)
    → text ≡ joined (record { gap = gap; first = first; others = others } ∷ ps) last → words text ≡ map word_of (record { gap = gap; first = first; others = others } ∷ ps)
    → AreCut (record { gap = gap; first = first; others = others } ∷ ps) last → Cut (byte ∷ text)
byte_more byte text p q [] first others ps last same is good = record {
  pieces = record { gap = []; first = byte; others = first ∷ others } ∷ ps;
  last = last;
  text_is = ap (λ (t : List ℕ). byte ∷ t) same;
  words_are = longer_word byte text p q ∙ ap (with_byte byte) is;
  parts = (tt, good.1, good.2);
}
byte_more byte text p q (g ∷ gap) first others ps last same is good =
    let begins : not (is_blank g) ≡ true = ap begins_word (sym same) ∙ q in
    let no : not (is_blank g) ≡ false = rw good.0.0 refl in
    absurd cc

first_more : (byte : ℕ) (text : List ℕ) → is_blank byte ≡ false → begins_word text ≡ true → (ps : List Piece) (last : List ℕ) → text ≡ joined ps last → words text ≡ map word_of ps → AreCut ps last → Cut (byte ∷ text)
first_more byte text p q [] last same is good = absurd (blank_begins last good (ap begins_word (sym same) ∙ q))
first_more byte text p q (piece ∷ ps) last same is good = byte_more byte text p q piece.gap piece.first piece.others ps last same is good

cut_more : (byte : ℕ) (text : List ℕ) (blank begins : Bool) → is_blank byte ≡ blank → begins_word text ≡ begins → Cut text → Cut (byte ∷ text)
cut_more byte text true begins p q c = blank_more byte text p c.pieces c.last c.text_is c.words_are c.parts
cut_more byte text false true p q c = first_more byte text p q c.pieces c.last c.text_is c.words_are c.parts
cut_more byte text false false p q c = word_more byte text p q c

-- each text is cut so
pub cut : (text : List ℕ) → Cut text
cut [] = record { pieces = []; last = []; text_is = refl; words_are = refl; parts = tt }
cut (byte ∷ text) = cut_more byte text (is_blank byte) (begins_word text) refl refl (cut text)

-- there are no more pieces than bytes
pub few_pieces : (ps : List Piece) (last : List ℕ) → length ps ≤ length (joined ps last)
few_pieces [] last = omega arith
few_pieces (p ∷ ps) last =
    let rest = few_pieces ps last in
    omega (arith, length-append p.gap (p.first ∷ (p.others ++ joined ps last)), length-append p.others (joined ps last))
