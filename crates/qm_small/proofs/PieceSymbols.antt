-- The symbols of a text in pieces, and what its words mean.
use Rattle.std.proofs.Common.{◌≡◌, ℕ, ◌+◌, ◌-◌, ◌*◌, ◌^◌, ◌<◌, ◌≤◌, Bool, true, false, not, cond, ◌||◌, List, [], ◌∷◌, ◌++◌, length, take, drop, map, eqb, leb, Some, pos, lit<, refl, ap, sym, subst, ◌∙◌, inl, inr, arith}
use Rattle.std.specs.Prelude.{IsTrue}
use Rattle.std.specs.List.{list_all}
use Rattle.std.proofs.Math.Nat.{pow-le-pow_right}
use Rattle.std.proofs.lemmas.Bool.Decides.{nat_tests}
use Rattle.std.proofs.lemmas.List.{append-nil, take_at}
use Rattle.std.proofs.lemmas.Bool.{and_parts}
use Rattle.qm_math.specs.Fraction.{whole}
use Rattle.qm_frac.specs.Lowest.{lowest}
use Rattle.qm_text.specs.Decimals.{Decimal, SpellsDecimal, Stays, is_zero_digit, with_tens, without_first_zeros, without_last_zeros}
use Rattle.qm_text.specs.Digits.{are_digits, is_numeral, numeral_value as text_value}
use Rattle.qm_text.proofs.Powers.{few_below, small_power, whole_lowest}
use Rattle.qm_text.proofs.Spellings.{numeral_from}
use Rattle.qm_text.proofs.Written.{value_below}
use Rattle.qm_lex.specs.declared.token.Kind.{Kind}
use Rattle.qm_lex.specs.declared.token.Kind.TheVariants as kind
use Rattle.qm_lex.specs.Places.{line_behind, place_of}
use Rattle.qm_parse.specs.declared.ast.Relation.TheVariants.{Less, Greater, Equal}
use Rattle.qm_parse.specs.declared.word.Symbol.{Symbol}
use Rattle.qm_parse.specs.declared.word.Word.{Word}
use Rattle.qm_parse.specs.declared.word.Word.TheVariants.{Name, Number, Sign, Related, Colon, Keyword}
use Rattle.qm_parse.specs.Symbols.{AreSymbols, IsSymbolOf, IsValueOf, IsWordOf, bytes_of, infinite_word, is_before_colon}
use Rattle.qm_parse.proofs.SymbolPlaces.{line-through}
use Rattle.qm_small.specs.Written.{Word as Spelling}
use Rattle.qm_small.specs.Spelling.{is_number, value_of}
use Rattle.qm_small.proofs.Numbering.{AreHeld, Held, number_of}
use Rattle.qm_small.proofs.Pieces.{Piece, has_line, joined, word_of}
use Rattle.qm_small.proofs.PieceTokens.{AreTokenWords, GoesOn, behind_word, bytes_are, end_of, start_of, token_of, tokens_from}
use Rattle.qm_small.proofs.WordTokens.{number_parts, kind_of}

-- what a word says, given whether a colon is next
abbrev pub word_for : List (List ℕ) → List ℕ → Bool → Kind → Word
word_for names bytes labels kind.Name = Name (number_of names bytes) labels
word_for names bytes labels kind.Number = Number (Some (whole (pos (value_of bytes))))
word_for names bytes labels kind.Plus = Sign false
word_for names bytes labels kind.Minus = Sign true
word_for names bytes labels kind.Less = Related Less
word_for names bytes labels kind.Greater = Related Greater
word_for names bytes labels kind.Equal = Related Equal
word_for names bytes labels kind.Colon = Colon
word_for names bytes labels (kind.Keyword reserved) = Keyword reserved
word_for names bytes labels kind.Infinite = infinite_word bytes

-- ---- numbers

pub same_value : (bytes : List ℕ) → value_of bytes ≡ text_value bytes
unfolding value_of text_value
same_value [] = refl
same_value (digit ∷ digits) = ap (λ n. (digit - 48) * 10 ^ length digits + n) (same_value digits)

fewer_first : (xs : List ℕ) → length (without_first_zeros xs) ≤ length xs
fewer_first [] = omega arith
fewer_first (x ∷ xs) =
    let rest = fewer_first xs in
    elim (is_zero_digit x) as (λ b. length (cond b (without_first_zeros xs) (x ∷ xs)) ≤ length (x ∷ xs)) [ true ↦ omega arith | false ↦ omega arith ]

fewer_last : (xs : List ℕ) → length (without_last_zeros xs) ≤ length xs
fewer_last [] = omega arith
fewer_last (x ∷ xs) =
    let rest = fewer_last xs in
    elim (list_all is_zero_digit (x ∷ xs)) as (λ b. length (cond b [] (x ∷ without_last_zeros xs)) ≤ length (x ∷ xs)) [ true ↦ omega arith | false ↦ omega arith ]

-- a number has one to six digits
pub record IsShort (bytes : List ℕ) : Type 0 where
  pub some : 1 ≤ length bytes
  pub few : length bytes ≤ 6
  pub digits : are_digits bytes ≡ true

pub short_number : (bytes : List ℕ) → is_number bytes ≡ true → IsShort bytes
short_number bytes is =
    let parts = number_parts bytes is in
    let ends = and_parts (leb 1 (length bytes)) (leb (length bytes) 6) parts.0 in
    let least = ends.0 in
    let most = ends.1 in
    record { some = grind (arith, nat_tests); few = grind (arith, nat_tests); digits = parts.1 }

pub number_below : (bytes : List ℕ) → IsShort bytes → value_of bytes < 2 ^ 127
number_below bytes short =
    let below = value_below bytes short.digits in
    let small = small_power (length bytes) (let few = short.few in omega arith) in
    rw (same_value bytes) (omega arith)

power_small : (n : ℕ) → n ≤ 6 → 10 ^ n ≤ 10 ^ 6
power_small n h = let some : 0 < 10 = lit< tt in pow-le-pow_right some h

pub number_small : (bytes : List ℕ) → is_number bytes ≡ true → value_of bytes < 2 ^ 32
number_small bytes is =
    let short = short_number bytes is in
    let below = value_below bytes short.digits in
    let power = power_small (length bytes) short.few in
    rw (same_value bytes) (omega arith)

not_none : (bytes : List ℕ) → 1 ≤ length bytes → eqb (length bytes) 0 ≡ false
not_none bytes some = grind (arith, nat_tests)

decimal_of : List ℕ → Decimal
decimal_of bytes = record { before = bytes; behind = []; exponent = pos 0 }

spells_decimal : (bytes : List ℕ) → IsShort bytes → SpellsDecimal bytes (decimal_of bytes)
unfolding decimal_of
spells_decimal bytes short = record {
  front = bytes;
  back = [];
  parts = sym (append-nil bytes);
  digits = (subst (λ (w : List ℕ). IsTrue (is_numeral w)) (sym (append-nil bytes)) (numeral_from bytes (not_none bytes short.some) short.digits), inr (refl, refl));
  exponent = inl (refl, refl);
}

stays : (bytes : List ℕ) → IsShort bytes → Stays (decimal_of bytes)
unfolding decimal_of
stays bytes short =
    let same = append-nil bytes in
    let small : text_value (bytes ++ []) < 2 ^ 127 = rw (same, ← same_value bytes) (number_below bytes short) in
    record {
      few = omega (arith, fewer_last (without_first_zeros (bytes ++ [])), fewer_first (bytes ++ []), ap (length {A = ℕ}) same, short.few);
      fits = few_below (text_value (bytes ++ [])) 0 small (omega arith);
    }

whole_value : (n : ℕ) → with_tens n 0 0 ≡ whole (pos n)
whole_value n = ap (λ (k : ℕ). lowest (pos k) 1) (let e : n * 1 ≡ n = omega arith in e) ∙ whole_lowest n

pub value_is : (bytes : List ℕ) → is_number bytes ≡ true → IsValueOf bytes (Some (whole (pos (value_of bytes))))
unfolding decimal_of
value_is bytes is =
    let short = short_number bytes is in
    let same : value_of bytes ≡ text_value (bytes ++ []) = same_value bytes ∙ ap text_value (sym (append-nil bytes)) in
    (decimal_of bytes, spells_decimal bytes short, stays bytes short, ap (λ (k : ℕ). whole (pos k)) same ∙ sym (whole_value (text_value (bytes ++ []))))

-- ---- symbols

pub says : (names : List (List ℕ)) (bytes : List ℕ) (labels : Bool) (of : Kind) → (of ≡ kind.Name → Held names bytes) → (of ≡ kind.Number → is_number bytes ≡ true) → IsWordOf names bytes labels of (word_for names bytes labels of)
says names bytes labels kind.Name held number = (number_of names bytes, held refl, refl)
says names bytes labels kind.Number held number = (Some (whole (pos (value_of bytes))), value_is bytes (number refl), refl)
says names bytes labels kind.Plus held number = refl
says names bytes labels kind.Minus held number = refl
says names bytes labels kind.Less held number = refl
says names bytes labels kind.Greater held number = refl
says names bytes labels kind.Equal held number = refl
says names bytes labels kind.Colon held number = refl
says names bytes labels (kind.Keyword reserved) held number = refl
says names bytes labels kind.Infinite held number = refl

-- the symbol of a piece, given the pieces behind it
abbrev pub symbol_at : List ℕ → List (List ℕ) → ℕ → ℕ → Piece → List Piece → Symbol
symbol_at text names at line p ps = record {
  word = word_for names (p.first ∷ p.others) (is_before_colon (tokens_from (end_of at p) ps)) (kind_of (p.first ∷ p.others));
  place = place_of text (start_of at p);
  begins_line = not (eqb (place_of text (start_of at p)).line line);
}

abbrev pub symbols_from : List ℕ → List (List ℕ) → ℕ → ℕ → List Piece → List Symbol
symbols_from text names at line [] = []
symbols_from text names at line (p ∷ ps) = symbol_at text names at line p ps ∷ symbols_from text names (end_of at p) (place_of text (start_of at p)).line ps

held_bytes : (text : List ℕ) (names : List (List ℕ)) (at : ℕ) (p : Piece) (ps : List Piece) (last : List ℕ) → GoesOn text at (p ∷ ps) last → (kind_of (p.first ∷ p.others) ≡ kind.Name → Held names (bytes_of text (token_of at p)))
    → kind_of (p.first ∷ p.others) ≡ kind.Name → Held names (p.first ∷ p.others)
held_bytes text names at p ps last on held is = subst (Held names) (bytes_are text at p ps last on) (held is)

is_symbol : (text : List ℕ) (names : List (List ℕ)) (at line : ℕ) (p : Piece) (ps : List Piece) (last : List ℕ) → GoesOn text at (p ∷ ps) last → (kind_of (p.first ∷ p.others) ≡ kind.Name → Held names (bytes_of text (token_of at p)))
    → (kind_of (p.first ∷ p.others) ≡ kind.Number → is_number (p.first ∷ p.others) ≡ true)
    → IsSymbolOf text names line (token_of at p) (tokens_from (end_of at p) ps) (symbol_at text names at line p ps)
is_symbol text names at line p ps last on held number =
    let bytes = p.first ∷ p.others in
    let labels = is_before_colon (tokens_from (end_of at p) ps) in
    let P : List ℕ → Type 0 = λ b. IsWordOf names b labels (kind_of bytes) (word_for names bytes labels (kind_of bytes)) in
    record {
      word = subst P (sym (bytes_are text at p ps last on)) (says names bytes labels (kind_of bytes) (held_bytes text names at p ps last on held) number);
      place = refl;
      line_begins = refl;
    }

pub are_symbols : (text : List ℕ) (names : List (List ℕ)) (at line : ℕ) (ps : List Piece) (last : List ℕ) → GoesOn text at ps last → AreHeld text names (tokens_from at ps) → AreTokenWords (map word_of ps)
    → AreSymbols text names line (tokens_from at ps) (symbols_from text names at line ps)
are_symbols text names at line [] last on held tokens = tt
are_symbols text names at line (p ∷ ps) last on held tokens = (
  is_symbol text names at line p ps last on held.0 tokens.0.number,
  are_symbols text names (end_of at p) (place_of text (start_of at p)).line ps last (behind_word text at p ps last on) held.1 tokens.1,
)

-- ---- what words mean

-- a symbol says what the word says, and begins a line where the word does
pub record Means (names : List (List ℕ)) (word : Spelling) (symbol : Symbol) : Type 0 where
  pub labels : Bool
  pub says : symbol.word ≡ word_for names word.bytes labels (kind_of word.bytes)
  pub line : word.after_line ≡ true → symbol.begins_line ≡ true
  pub held : kind_of word.bytes ≡ kind.Name → Held names word.bytes

abbrev pub AreMeant : List (List ℕ) → List Spelling → List Symbol → Type 0
AreMeant names [] [] = Unit {0}
AreMeant names [] (symbol ∷ symbols) = ⊥
AreMeant names (word ∷ words) [] = ⊥
AreMeant names (word ∷ words) (symbol ∷ symbols) = Means names word symbol × AreMeant names words symbols

line_grows : (line : ℕ) (bytes : List ℕ) → line ≤ line_behind line bytes
line_grows line [] = omega arith
line_grows line (byte ∷ bytes) =
    let same = line_grows line bytes in
    let more = line_grows (line + 1) bytes in
    elim (eqb byte 10) as (λ b. line ≤ line_behind (cond b (line + 1) line) bytes) [ true ↦ omega arith | false ↦ same ]

line_passed : (line : ℕ) (bytes : List ℕ) → has_line bytes ≡ true → line < line_behind line bytes
line_passed line [] has = absurd cc
line_passed line (byte ∷ bytes) has =
    let more = line_grows (line + 1) bytes in
    elim (eqb byte 10) as (λ b. (b || has_line bytes) ≡ true → line < line_behind (cond b (line + 1) line) bytes) [ true ↦ λ h. omega arith | false ↦ λ h. line_passed line bytes h ] has

lines_differ : (one other : ℕ) → other < one → not (eqb one other) ≡ true
lines_differ one other less = grind (arith, nat_tests)

gap_bytes : (text : List ℕ) (at : ℕ) (p : Piece) (ps : List Piece) (last : List ℕ) → GoesOn text at (p ∷ ps) last → take (start_of at p - at) (drop at text) ≡ p.gap
gap_bytes text at p ps last on =
    let n : start_of at p - at ≡ length p.gap = omega arith in
    ap (λ k. take k (drop at text)) n ∙ ap (take (length p.gap)) on.same ∙ take_at p.gap (p.first ∷ (p.others ++ joined ps last)) (length p.gap) refl

begins : (text : List ℕ) (at line : ℕ) (p : Piece) (ps : List Piece) (last : List ℕ) → GoesOn text at (p ∷ ps) last → line ≤ line_behind 1 (take at text) → has_line p.gap ≡ true
    → not (eqb (place_of text (start_of at p)).line line) ≡ true
begins text at line p ps last on before has =
    let through : line_behind 1 (take (start_of at p) text) ≡ line_behind (line_behind 1 (take at text)) p.gap =
    line-through at (start_of at p) text (omega arith) ∙ ap (line_behind (line_behind 1 (take at text))) (gap_bytes text at p ps last on) in
    let passed = line_passed (line_behind 1 (take at text)) p.gap has in
    lines_differ (line_behind 1 (take (start_of at p) text)) line (omega arith)

later_line : (text : List ℕ) (at to : ℕ) → at ≤ to → line_behind 1 (take at text) ≤ line_behind 1 (take to text)
later_line text at to h =
    let through = line-through at to text h in
    let grows = line_grows (line_behind 1 (take at text)) (take (to - at) (drop at text)) in
    omega arith

pub are_meant : (text : List ℕ) (names : List (List ℕ)) (at line : ℕ) (ps : List Piece) (last : List ℕ) → GoesOn text at ps last → AreHeld text names (tokens_from at ps) → line ≤ line_behind 1 (take at text)
    → AreMeant names (map word_of ps) (symbols_from text names at line ps)
are_meant text names at line [] last on held before = tt
are_meant text names at line (p ∷ ps) last on held before = (
  record {
    labels = is_before_colon (tokens_from (end_of at p) ps);
    says = refl;
    line = begins text at line p ps last on before;
    held = held_bytes text names at p ps last on held.0;
  },
  are_meant text names (end_of at p) (place_of text (start_of at p)).line ps last (behind_word text at p ps last on) held.1 (later_line text (start_of at p) (end_of at p) (omega arith)),
)
