-- How names are spelled, and which of them have a meaning of their own.
use Rattle.std.specs.Prelude.{ℕ, Bool, false, List, [], ◌∷◌, ◌&&◌, codes, if◌then◌else◌}
use Rattle.std.specs.List.{list_all}
use Rattle.std.specs.Str.{str_eq_ignore_ascii_case}
use Rattle.qm_lex.specs.declared.token.Kind.{Kind}
use Rattle.qm_lex.specs.declared.token.Kind.TheVariants.{Name, Infinite, Keyword}
use Rattle.qm_lex.specs.declared.token.Keyword.TheVariants as keyword
use Rattle.qm_lex.specs.Bytes.{begins_name, continues_name}

-- a byte that begins a name, and bytes that continue it
abbrev pub is_name : List ℕ → Bool
is_name [] = false
is_name (byte ∷ word) = begins_name byte && list_all continues_name word

-- the names with a meaning of their own, in upper case
unfoldable pub reserved : List (List ℕ × Kind)
reserved =
    (codes "MAXIMIZE", Keyword keyword.Maximize)
    ∷ (codes "MAX", Keyword keyword.Max)
    ∷ (codes "MINIMIZE", Keyword keyword.Minimize)
    ∷ (codes "MIN", Keyword keyword.Min)
    ∷ (codes "SUBJECT", Keyword keyword.Subject)
    ∷ (codes "TO", Keyword keyword.To)
    ∷ (codes "ST", Keyword keyword.St)
    ∷ (codes "UNCERTAINTY", Keyword keyword.Uncertainty)
    ∷ (codes "BOUNDS", Keyword keyword.Bounds)
    ∷ (codes "GENERALS", Keyword keyword.Generals)
    ∷ (codes "GENERAL", Keyword keyword.General)
    ∷ (codes "BINARIES", Keyword keyword.Binaries)
    ∷ (codes "BINARY", Keyword keyword.Binary)
    ∷ (codes "EXISTS", Keyword keyword.Exists)
    ∷ (codes "ALL", Keyword keyword.All)
    ∷ (codes "ORDER", Keyword keyword.Order)
    ∷ (codes "END", Keyword keyword.End)
    ∷ (codes "INF", Infinite)
    ∷ (codes "INFINITY", Infinite)
    ∷ (codes "FREE", Infinite)
    ∷ []

-- the kind of the first of these names that the word is in whatever case; a word that is none of them is a plain name
abbrev pub kind_among : List (List ℕ × Kind) → List ℕ → Kind
kind_among [] word = Name
kind_among (entry ∷ entries) word =
    if str_eq_ignore_ascii_case word entry.0 then entry.1 else kind_among entries word

-- the kind of a name
unfoldable pub kind_of_name : List ℕ → Kind
kind_of_name word = kind_among reserved word
