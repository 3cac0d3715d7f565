-- The tokens of a text in pieces.
use Rattle.std.proofs.Common.{◌≡◌, ℕ, suc, ◌+◌, ◌-◌, ◌≤◌, true, false, List, [], ◌∷◌, ◌++◌, length, length-append, length-drop, take, drop, map, refl, ap, sym, subst, ◌∙◌, arith}
use Rattle.std.proofs.lemmas.List.{drop-drop, drop_at, take_at}
use Rattle.qm_lex.specs.declared.token.Token.{Token}
use Rattle.qm_lex.specs.Texts.{IsLongest, IsTokenOf, Reaches, behind_blanks, skipped}
use Rattle.qm_lex.specs.Bytes as lex
use Rattle.qm_lex.proofs.Blanks.{IsStop}
use Rattle.qm_parse.specs.Symbols.{bytes_of}
use Rattle.qm_small.specs.Written.{Word}
use Rattle.qm_small.specs.Words.{is_blank}
use Rattle.qm_small.proofs.Pieces.{AreBlank, AreCut, Piece, joined, word_of}
use Rattle.qm_small.proofs.WordTokens.{IsToken, IsTokenWord, at_blank, kind_of}

abbrev pub AreTokenWords : List Word → Type 0
AreTokenWords [] = Unit {0}
AreTokenWords (word ∷ words) = IsTokenWord word.bytes × AreTokenWords words

-- where the word of a piece begins and ends, for a piece that begins at a place
abbrev pub start_of : ℕ → Piece → ℕ
start_of at p = at + length p.gap

abbrev pub end_of : ℕ → Piece → ℕ
end_of at p = at + length p.gap + length (p.first ∷ p.others)

abbrev pub token_of : ℕ → Piece → Token
token_of at p = record { kind = kind_of (p.first ∷ p.others); start = start_of at p; end = end_of at p }

-- the tokens of pieces that begin at a place
abbrev pub tokens_from : ℕ → List Piece → List Token
tokens_from at [] = []
tokens_from at (p ∷ ps) = token_of at p ∷ tokens_from (end_of at p) ps

-- the text goes on with these pieces at a place
pub record GoesOn (text : List ℕ) (at : ℕ) (ps : List Piece) (last : List ℕ) : Type 0 where
  pub same : drop at text ≡ joined ps last
  pub inside : at ≤ length text

-- the text behind a gap
pub behind_gap : (text : List ℕ) (at : ℕ) (p : Piece) (ps : List Piece) (last : List ℕ) → GoesOn text at (p ∷ ps) last → drop (start_of at p) text ≡ p.first ∷ (p.others ++ joined ps last)
behind_gap text at p ps last on =
    sym (drop-drop (length p.gap) at text) ∙ ap (drop (length p.gap)) on.same ∙ drop_at p.gap (p.first ∷ (p.others ++ joined ps last)) (length p.gap) refl

pub behind_word : (text : List ℕ) (at : ℕ) (p : Piece) (ps : List Piece) (last : List ℕ) → GoesOn text at (p ∷ ps) last → GoesOn text (end_of at p) ps last
behind_word text at p ps last on =
    let gap = behind_gap text at p ps last on in
    let word = p.first ∷ p.others in
    let long : length (drop at text) ≡ length p.gap + (suc (length p.others) + length (joined ps last)) =
    ap (length {A = ℕ}) on.same ∙ length-append p.gap (p.first ∷ (p.others ++ joined ps last)) ∙ ap (λ n. length p.gap + suc n) (length-append p.others (joined ps last)) ∙ omega arith in
    record {
      same = sym (drop-drop (length word) (start_of at p) text) ∙ ap (drop (length word)) gap ∙ drop_at word (joined ps last) (length word) refl;
      inside = omega (arith, long, length-drop at text, on.inside);
    }

pub bytes_are : (text : List ℕ) (at : ℕ) (p : Piece) (ps : List Piece) (last : List ℕ) → GoesOn text at (p ∷ ps) last → bytes_of text (token_of at p) ≡ p.first ∷ p.others
bytes_are text at p ps last on =
    let word = p.first ∷ p.others in
    let n : end_of at p - start_of at p ≡ length word = omega arith in
    ap (λ k. take k (drop (start_of at p) text)) n ∙ ap (take (length word)) (behind_gap text at p ps last on) ∙ take_at word (joined ps last) (length word) refl

lex_blank : (byte : ℕ) → is_blank byte ≡ true → lex.is_blank byte ≡ true
lex_blank byte blank = at_blank (λ b. lex.is_blank b ≡ true) refl refl byte blank

skipped_gap : (gap rest : List ℕ) → AreBlank gap → skipped false rest ≡ 0 → skipped false (gap ++ rest) ≡ length gap
skipped_gap [] rest blank stop = stop
skipped_gap (byte ∷ gap) rest blank stop =
    let more = skipped_gap gap rest blank.1 stop in
    rw (lex_blank byte blank.0) (omega (arith, more))

skipped_last : (last : List ℕ) → AreBlank last → skipped false last ≡ length last
skipped_last [] blank = refl
skipped_last (byte ∷ last) blank =
    let more = skipped_last last blank.1 in
    rw (lex_blank byte blank.0) (omega (arith, more))

stopped : (byte : ℕ) (rest : List ℕ) → IsStop byte → skipped false (byte ∷ rest) ≡ 0
stopped byte rest stop = rw (stop.no_blank, stop.no_backslash) refl

starts : (text : List ℕ) (at : ℕ) (p : Piece) (ps : List Piece) (last : List ℕ) → GoesOn text at (p ∷ ps) last → AreBlank p.gap → IsStop p.first → start_of at p ≡ behind_blanks text at
unfolding behind_blanks
starts text at p ps last on blank stop =
    let rest = p.first ∷ (p.others ++ joined ps last) in
    ap (λ n. at + n) (sym (skipped_gap p.gap rest blank (stopped p.first (p.others ++ joined ps last) stop)) ∙ ap (skipped false) (sym on.same))

ends : (text : List ℕ) (at : ℕ) (last : List ℕ) → GoesOn text at [] last → AreBlank last → behind_blanks text at ≡ length text
unfolding behind_blanks
ends text at last on blank =
    let skip : skipped false (drop at text) ≡ length (drop at text) = ap (skipped false) on.same ∙ skipped_last last blank ∙ ap (length {A = ℕ}) (sym on.same) in
    omega (arith, skip, length-drop at text, on.inside)

is_token : (text : List ℕ) (at : ℕ) (p : Piece) (ps : List Piece) (last : List ℕ) → GoesOn text at (p ∷ ps) last → AreCut (p ∷ ps) last → IsToken p.first p.others → IsTokenOf text (token_of at p)
is_token text at p ps last on cut token =
    let word = p.first ∷ p.others in
    let n : length word ≡ end_of at p - start_of at p = omega arith in
    let long = token.longest (joined ps last) cut.1 in
    let P : ℕ → Type 0 = λ k. IsLongest (drop (start_of at p) text) (kind_of word) k in
    let Q : List ℕ → Type 0 = λ t. IsLongest t (kind_of word) (length word) in
    record { ordered = omega arith; longest = subst P n (subst Q (sym (behind_gap text at p ps last on)) long) }

pub reaches : (text : List ℕ) (at : ℕ) (ps : List Piece) (last : List ℕ) → GoesOn text at ps last → AreCut ps last → AreTokenWords (map word_of ps) → Reaches text at (tokens_from at ps) (length text)
reaches text at [] last on cut tokens = ends text at last on cut
reaches text at (p ∷ ps) last on cut tokens = (
  starts text at p ps last on cut.0 tokens.0.stop,
  is_token text at p ps last on cut tokens.0,
  reaches text (end_of at p) ps last (behind_word text at p ps last on) cut.2 tokens.1,
)

pub whole_text : (text : List ℕ) (ps : List Piece) (last : List ℕ) → text ≡ joined ps last → GoesOn text 0 ps last
whole_text text ps last same = record { same = same; inside = omega arith }
