-- The words of small texts are tokens: signs, relations, numbers, names and headings.
use Rattle.std.proofs.Common.{◌≡◌, ◌≢◌, ℕ, suc, ◌+◌, Bool, true, false, not, cond, ◌&&◌, List, [], ◌∷◌, ◌++◌, length, take, drop, map, leb, Some, refl, ap, sym, subst, ◌∙◌, inl, inr, arith}
use Rattle.std.specs.Prelude.{codes}
use Rattle.std.specs.Char.{is_ascii_alphabetic, is_ascii_alphanumeric, is_ascii_digit}
use Rattle.std.specs.List.{list_all, list_any, prefix_len}
use Rattle.std.specs.Str.{bytes_eq, str_eq_ignore_ascii_case}
use Rattle.std.proofs.lemmas.Bool.{cases_Bool, not-false, not-true, and_parts, or_parts}
use Rattle.std.proofs.lemmas.Bool.Decides.{nat_tests}
use Rattle.std.proofs.lemmas.List.{drop_at, take_at}
use Rattle.std.proofs.lemmas.Slice.Eq.{bytes_eq-Decides}
use Rattle.qm_math.proofs.Lists.{cons-first}
use Rattle.qm_text.proofs.Spellings.{one_of_two}
use Rattle.qm_lex.specs.declared.token.Kind.{Kind}
use Rattle.qm_lex.specs.declared.token.Kind.TheVariants.{Name, Number, Plus, Minus, Less, Keyword as Meaning}
use Rattle.qm_lex.specs.declared.token.Keyword.{Keyword}
use Rattle.qm_lex.specs.declared.token.Keyword.TheVariants as keyword
use Rattle.qm_lex.specs.Bytes.{begins_name, continues_name}
use Rattle.qm_lex.specs.Marks.{mark_at, mark_of}
use Rattle.qm_lex.specs.Names.{kind_among, kind_of_name, reserved as meanings}
use Rattle.qm_lex.specs.Reading.{digits_at, exponent_at, number_at, point_at, tail_at}
use Rattle.qm_lex.specs.Texts.{IsLongest}
use Rattle.qm_lex.proofs.Blanks.{IsStop}
use Rattle.qm_lex.proofs.Longest.{longest_name, longest_number, longest_other}
use Rattle.qm_lex.proofs.NumberFronts.{no_zero}
use Rattle.qm_small.specs.Spelling.{is_identifier, is_name, is_number, is_reserved, reserved}
use Rattle.qm_small.specs.Words.{begins_word, is_blank}

-- the kind of the token that a word of a small text is
unfoldable pub kind_of : List ℕ → Kind
kind_of bytes =
    cond (is_number bytes) Number
    (cond (bytes_eq bytes (codes "+")) Plus (cond (bytes_eq bytes (codes "-")) Minus (cond (bytes_eq bytes (codes "<=")) Less (kind_of_name bytes))))

-- the word begins as no blank and no comment does, where no word goes on behind it, it is the longest token there, and as
-- a number it has few digits
pub record IsToken (first : ℕ) (others : List ℕ) : Type 0 where
  pub stop : IsStop first
  pub number : kind_of (first ∷ others) ≡ Number → is_number (first ∷ others) ≡ true
  pub longest : (rest : List ℕ) → begins_word rest ≡ false → IsLongest (first ∷ (others ++ rest)) (kind_of (first ∷ others)) (length (first ∷ others))

abbrev pub IsTokenWord : List ℕ → Type 0
IsTokenWord [] = ⊥
IsTokenWord (first ∷ others) = IsToken first others

-- ---- what stands behind a word

pub at_blank : (P : ℕ → Type 0) → P 32 → P 10 → (byte : ℕ) → is_blank byte ≡ true → P byte
at_blank P space line byte blank =
    elim (one_of_two byte 32 10 blank) [ inl e ↦ subst P (sym e) space | inr e ↦ subst P (sym e) line ]

name_ends : (rest : List ℕ) → begins_word rest ≡ false → prefix_len continues_name rest ≡ 0
name_ends [] ends = refl
name_ends (byte ∷ rest) ends = at_blank (λ b. prefix_len continues_name (b ∷ rest) ≡ 0) refl refl byte (not-false (is_blank byte) ends)

digits_end : (rest : List ℕ) → begins_word rest ≡ false → prefix_len is_ascii_digit rest ≡ 0
digits_end [] ends = refl
digits_end (byte ∷ rest) ends = at_blank (λ b. prefix_len is_ascii_digit (b ∷ rest) ≡ 0) refl refl byte (not-false (is_blank byte) ends)

tail_ends : (rest : List ℕ) → begins_word rest ≡ false → tail_at rest ≡ 0
unfolding tail_at exponent_at
tail_ends [] ends = refl
tail_ends (byte ∷ rest) ends = at_blank (λ b. tail_at (b ∷ rest) ≡ 0) refl refl byte (not-false (is_blank byte) ends)

run : (f : ℕ → Bool) (xs rest : List ℕ) → list_all f xs ≡ true → prefix_len f (xs ++ rest) ≡ length xs + prefix_len f rest
run f [] rest all = omega arith
run f (x ∷ xs) rest all =
    let here = and_parts (f x) (list_all f xs) all in
    let more = run f xs rest here.1 in
    rw here.0 (omega (arith, more))

letters_continue : (xs : List ℕ) → list_all is_ascii_alphanumeric xs ≡ true → list_all continues_name xs ≡ true
letters_continue [] all = refl
letters_continue (x ∷ xs) all =
    let here = and_parts (is_ascii_alphanumeric x) (list_all is_ascii_alphanumeric xs) all in
    let letter = here.0 in
    let rest = letters_continue xs here.1 in
    let one : continues_name x ≡ true = rw letter refl in
    rw one rest

-- ---- numbers

digit_stops : (byte : ℕ) → is_ascii_digit byte ≡ true → IsStop byte
digit_stops byte digit = record { no_blank = grind (arith, nat_tests); no_backslash = grind (arith, nat_tests) }

digit_no_name : (byte : ℕ) → is_ascii_digit byte ≡ true → begins_name byte ≡ false
digit_no_name byte digit = grind (arith, nat_tests)

number_length : (text : List ℕ) (n : ℕ) → digits_at text ≡ suc n → tail_at (drop (suc n) text) ≡ 0 → Some (suc n) ≡ number_at text
unfolding number_at
number_length text n d t = rw (d, no_zero n, t) (ap (λ (k : ℕ). Some k) (let e : suc n ≡ suc n + 0 = omega arith in e))

pub number_parts : (bytes : List ℕ) → is_number bytes ≡ true → ((leb 1 (length bytes) && leb (length bytes) 6) ≡ true) × (list_all is_ascii_digit bytes ≡ true)
unfolding is_number
number_parts bytes is = and_parts (leb 1 (length bytes) && leb (length bytes) 6) (list_all is_ascii_digit bytes) is

pub digits_of_number : (bytes : List ℕ) → is_number bytes ≡ true → list_all is_ascii_digit bytes ≡ true
digits_of_number bytes is = (number_parts bytes is).1

pub kind_of-number : (bytes : List ℕ) → is_number bytes ≡ true → kind_of bytes ≡ Number
unfolding kind_of
kind_of-number bytes is = rw is refl

no_bytes : is_number [] ≡ false
unfolding is_number
no_bytes = refl

pub number_token : (bytes : List ℕ) → is_number bytes ≡ true → IsTokenWord bytes
number_token [] is = let none : is_number [] ≡ false = no_bytes in absurd cc
number_token (first ∷ others) is =
    let digits = digits_of_number (first ∷ others) is in
    let digit = (and_parts (is_ascii_digit first) (list_all is_ascii_digit others) digits).0 in
    let P : Kind → List ℕ → Type 0 = λ k text. IsLongest text k (length (first ∷ others)) in
    record {
      stop = digit_stops first digit;
      number = λ _. is;
      longest = λ rest ends.
          let text = first ∷ (others ++ rest) in
          let long : digits_at text ≡ suc (length others) = omega (arith, run is_ascii_digit (first ∷ others) rest digits, digits_end rest ends) in
          let behind : drop (suc (length others)) text ≡ rest = drop_at (first ∷ others) rest (suc (length others)) refl in
          let found = longest_number first (others ++ rest) (suc (length others)) (digit_no_name first digit) (number_length text (length others) long (ap tail_at behind ∙ tail_ends rest ends)) in
          subst (λ k. P k text) (sym (kind_of-number (first ∷ others) is)) found.1;
    }

-- ---- names and headings

letter_stops : (byte : ℕ) → is_ascii_alphabetic byte ≡ true → IsStop byte
letter_stops byte letter = record { no_blank = grind (arith, nat_tests); no_backslash = grind (arith, nat_tests) }

identifier_token : (first : ℕ) (others : List ℕ) → is_identifier (first ∷ others) ≡ true → kind_of (first ∷ others) ≡ kind_of_name (first ∷ others) → kind_of (first ∷ others) ≢ Number → IsToken first others
unfolding is_identifier
identifier_token first others is kind other =
    let parts = and_parts (is_ascii_alphabetic first) (list_all is_ascii_alphanumeric others) is in
    let letter = parts.0 in
    let begins : begins_name first ≡ true = rw letter refl in
    record {
      stop = letter_stops first letter;
      number = λ e. absurd (other e);
      longest = λ rest ends.
          let long : length (first ∷ others) ≡ 1 + prefix_len continues_name (others ++ rest) = omega (arith, run continues_name others rest (letters_continue others parts.1), name_ends rest ends) in
          let word : take (length (first ∷ others)) (first ∷ (others ++ rest)) ≡ first ∷ others = take_at (first ∷ others) rest (length (first ∷ others)) refl in
          (longest_name first (others ++ rest) (kind_of (first ∷ others)) (length (first ∷ others)) begins long (kind ∙ ap kind_of_name (sym word))).1;
    }

letter_no_digit : (byte : ℕ) → is_ascii_alphabetic byte ≡ true → is_ascii_digit byte ≡ true → ⊥
letter_no_digit byte p q = grind (arith, nat_tests)

letter_no_number : (first : ℕ) (others : List ℕ) → is_ascii_alphabetic first ≡ true → is_number (first ∷ others) ≡ false
letter_no_number first others letter =
    elim (cases_Bool (is_number (first ∷ others))) [
      | inl is ↦ absurd (letter_no_digit first letter (and_parts (is_ascii_digit first) (list_all is_ascii_digit others) (digits_of_number (first ∷ others) is)).0)
      | inr apart ↦ apart
    ]

letter_no_mark : (first b : ℕ) (others rest : List ℕ) → is_ascii_alphabetic first ≡ true → is_ascii_alphabetic b ≡ false → bytes_eq (first ∷ others) (b ∷ rest) ≡ false
letter_no_mark first b others rest letter mark =
    elim (cases_Bool (bytes_eq (first ∷ others) (b ∷ rest))) [
      | inl same ↦ let e = ap is_ascii_alphabetic (cons-first first b others rest ((bytes_eq-Decides (first ∷ others) (b ∷ rest)).0 same)) in absurd cc
      | inr apart ↦ apart
    ]

kind_of-letters : (first : ℕ) (others : List ℕ) → is_ascii_alphabetic first ≡ true → kind_of (first ∷ others) ≡ kind_of_name (first ∷ others)
unfolding kind_of
kind_of-letters first others letter =
    rw (letter_no_number first others letter, letter_no_mark first 43 others [] letter refl, letter_no_mark first 45 others [] letter refl, letter_no_mark first 60 others (61 ∷ []) letter refl) refl

letters_token : (bytes : List ℕ) → is_identifier bytes ≡ true → kind_of bytes ≢ Number → IsTokenWord bytes
unfolding is_identifier
letters_token [] is other = absurd cc
letters_token (first ∷ others) is other =
    identifier_token first others is (kind_of-letters first others (and_parts (is_ascii_alphabetic first) (list_all is_ascii_alphanumeric others) is).0) other

no_keyword : (word : Keyword) → Meaning word ≡ Number → ⊥
no_keyword word e = absurd cc

pub heading_token : (bytes : List ℕ) (word : Keyword) → is_identifier bytes ≡ true → kind_of bytes ≡ Meaning word → IsTokenWord bytes
heading_token bytes word is kind = letters_token bytes is (λ e. no_keyword word (sym kind ∙ e))

none_among : (entries : List (List ℕ × Kind)) (word : List ℕ) → list_any (str_eq_ignore_ascii_case word) (map (λ (e : List ℕ × Kind). e.0) entries) ≡ false → kind_among entries word ≡ Name
none_among [] word none = refl
none_among (entry ∷ entries) word none =
    let here = or_parts (str_eq_ignore_ascii_case word entry.0) _ none in
    rw here.0 (none_among entries word here.1)

same_reserved : map (λ (e : List ℕ × Kind). e.0) meanings ≡ reserved
unfolding meanings reserved
same_reserved = refl

plain_name : (word : List ℕ) → is_reserved word ≡ false → kind_of_name word ≡ Name
unfolding kind_of_name is_reserved
plain_name word none = none_among meanings word (ap (list_any (str_eq_ignore_ascii_case word)) same_reserved ∙ none)

pub identifier_of_name : (bytes : List ℕ) → is_name bytes ≡ true → (is_identifier bytes ≡ true) × (is_reserved bytes ≡ false)
unfolding is_name
identifier_of_name bytes is = let both = and_parts (is_identifier bytes) (not (is_reserved bytes)) is in (both.0, not-true (is_reserved bytes) both.1)

pub kind_of-name : (bytes : List ℕ) → is_name bytes ≡ true → kind_of bytes ≡ Name
unfolding is_identifier
kind_of-name [] is = let both = identifier_of_name [] is in let letters = both.0 in absurd cc
kind_of-name (first ∷ others) is =
    let both = identifier_of_name (first ∷ others) is in
    kind_of-letters first others (and_parts (is_ascii_alphabetic first) (list_all is_ascii_alphanumeric others) both.0).0 ∙ plain_name (first ∷ others) both.1

no_number : Name ≢ Number
no_number e = absurd cc

pub name_token : (bytes : List ℕ) → is_name bytes ≡ true → IsTokenWord bytes
name_token bytes is = letters_token bytes (identifier_of_name bytes is).0 (λ e. no_number (sym (kind_of-name bytes is) ∙ e))

-- ---- signs and the relation

pub plus_token : IsTokenWord (codes "+")
unfolding kind_of is_number number_at point_at mark_of
plus_token = record {
  stop = record { no_blank = refl; no_backslash = refl };
  number = λ e. absurd cc;
  longest = λ rest ends. (longest_other 43 rest (mark_at (43 ∷ rest)) refl refl refl).1;
}

pub minus_token : IsTokenWord (codes "-")
unfolding kind_of is_number number_at point_at mark_of
minus_token = record {
  stop = record { no_blank = refl; no_backslash = refl };
  number = λ e. absurd cc;
  longest = λ rest ends. (longest_other 45 rest (mark_at (45 ∷ rest)) refl refl refl).1;
}

pub most_token : IsTokenWord (codes "<=")
unfolding kind_of is_number number_at point_at mark_of
most_token = record {
  stop = record { no_blank = refl; no_backslash = refl };
  number = λ e. absurd cc;
  longest = λ rest ends. (longest_other 60 (61 ∷ rest) (mark_at (60 ∷ 61 ∷ rest)) refl refl refl).1;
}

-- ---- the kinds of single words

pub kind_of-plus : kind_of (codes "+") ≡ Plus
unfolding kind_of is_number
kind_of-plus = refl

pub kind_of-minus : kind_of (codes "-") ≡ Minus
unfolding kind_of is_number
kind_of-minus = refl

pub kind_of-most : kind_of (codes "<=") ≡ Less
unfolding kind_of is_number
kind_of-most = refl

pub kind_of-maximize : kind_of (codes "MAXIMIZE") ≡ Meaning keyword.Maximize
unfolding kind_of is_number kind_of_name meanings
kind_of-maximize = refl

pub kind_of-subject : kind_of (codes "SUBJECT") ≡ Meaning keyword.Subject
unfolding kind_of is_number kind_of_name meanings
kind_of-subject = refl

pub kind_of-to : kind_of (codes "TO") ≡ Meaning keyword.To
unfolding kind_of is_number kind_of_name meanings
kind_of-to = refl

pub kind_of-uncertainty : kind_of (codes "UNCERTAINTY") ≡ Meaning keyword.Uncertainty
unfolding kind_of is_number kind_of_name meanings
kind_of-uncertainty = refl

pub kind_of-binaries : kind_of (codes "BINARIES") ≡ Meaning keyword.Binaries
unfolding kind_of is_number kind_of_name meanings
kind_of-binaries = refl

pub kind_of-exists : kind_of (codes "EXISTS") ≡ Meaning keyword.Exists
unfolding kind_of is_number kind_of_name meanings
kind_of-exists = refl

pub kind_of-all : kind_of (codes "ALL") ≡ Meaning keyword.All
unfolding kind_of is_number kind_of_name meanings
kind_of-all = refl

pub kind_of-order : kind_of (codes "ORDER") ≡ Meaning keyword.Order
unfolding kind_of is_number kind_of_name meanings
kind_of-order = refl

pub kind_of-end : kind_of (codes "END") ≡ Meaning keyword.End
unfolding kind_of is_number kind_of_name meanings
kind_of-end = refl
