-- The tokens of a text, one behind the other.
use Rattle.std.specs.Prelude.{◌≡◌, ◌≢◌, ℕ, ◌+◌, ◌-◌, ◌<◌, ◌≤◌, Bool, true, false, not, List, [], ◌∷◌, ◌==◌, length, take, drop, slice_index, if◌then◌else◌}
use Rattle.qm_lex.specs.declared.token.Kind.{Kind}
use Rattle.qm_lex.specs.declared.token.Token.{Token}
use Rattle.qm_lex.specs.Bytes.{is_blank}
use Rattle.qm_lex.specs.Spelling.{Spells}

-- How many bytes at the front of a text are blanks and comments. A comment goes from a backslash to the LF that ends its line,
-- whatever bytes it holds; the flag says that the front stands inside of one.
abbrev pub skipped : Bool → List ℕ → ℕ
skipped is_inside [] = 0
skipped true (byte ∷ text) = 1 + skipped (not (byte == 10)) text
skipped false (byte ∷ text) =
    if is_blank byte then 1 + skipped false text
    else if byte == 92 then 1 + skipped true text
    else 0

-- the first place, from this one on, behind blanks and comments
unfoldable pub behind_blanks : List ℕ → ℕ → ℕ
behind_blanks text at = at + skipped false (drop at text)

-- no front of the text that is longer than n is a token
abbrev pub NoLonger : List ℕ → ℕ → Type 0
NoLonger text n = (m : ℕ) (kind : Kind) → n < m → m ≤ length text → ¬ Spells kind (take m text)

-- the first n bytes of the text are a token of this kind, and no longer front of it is one
pub record IsLongest (text : List ℕ) (kind : Kind) (n : ℕ) : Type 0 where
  pub inside : n ≤ length text
  pub spelled : Spells kind (take n text)
  pub longest : NoLonger text n

-- the token is the longest at the place where it begins
pub record IsTokenOf (text : List ℕ) (token : Token) : Type 0 where
  pub ordered : token.start ≤ token.end
  pub longest : IsLongest (drop token.start text) token.kind (token.end - token.start)

-- from one place to another there are these tokens, with blanks and comments between them
abbrev pub Reaches : List ℕ → ℕ → List Token → ℕ → Type 0
Reaches text from [] to = behind_blanks text from ≡ to
Reaches text from (token ∷ tokens) to = (token.start ≡ behind_blanks text from) × IsTokenOf text token × Reaches text token.end tokens to

-- these are the tokens of the text, from its front to its end
abbrev pub AreTokens : List ℕ → List Token → Type 0
AreTokens text tokens = Reaches text 0 tokens (length text)

-- the byte at this place begins no token, and is neither a blank nor the beginning of a comment
pub record BeginsNothing (text : List ℕ) (at : ℕ) : Type 0 where
  pub inside : at < length text
  pub no_blank : is_blank (slice_index text at) ≡ false
  pub no_comment : slice_index text at ≢ 92
  pub no_token : (m : ℕ) (kind : Kind) → ¬ Spells kind (take m (drop at text))

-- tokens, blanks and comments go up to this place, and its byte begins nothing
abbrev pub IsFirstBad : List ℕ → ℕ → Type 0
IsFirstBad text at = (tokens : List Token) × Reaches text 0 tokens at × BeginsNothing text at

-- from one place to another, each token takes some bytes and begins where the one before it ended, or later
abbrev pub AreInOrder : ℕ → List Token → ℕ → Type 0
AreInOrder from [] to = from ≤ to
AreInOrder from (token ∷ tokens) to = (from ≤ token.start) × (token.start < token.end) × AreInOrder token.end tokens to
