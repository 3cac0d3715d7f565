-- What a text is answered with.
use Rattle.std.specs.Prelude.{◌≡◌, ℕ, List, length, slice_get, Some, None, Result, Ok, Err}
use Rattle.qm_lex.specs.declared.place.Place.{Place}
use Rattle.qm_lex.specs.declared.token.Token.{Token}
use Rattle.qm_lex.specs.Places.{place_of}
use Rattle.qm_parse.specs.declared.ast.Ast.{Ast}
use Rattle.qm_parse.specs.declared.fault.ParseFault.{ParseFault}
use Rattle.qm_parse.specs.declared.fault.ParseFault.TheVariants as fault
use Rattle.qm_parse.specs.declared.offence.Offence.{Offence}
use Rattle.qm_parse.specs.declared.offence.Offence.TheVariants as offence
use Rattle.qm_parse.specs.declared.unread.Unread.{Unread}
use Rattle.qm_parse.specs.declared.unread.Unread.TheVariants as unread
use Rattle.qm_parse.specs.declared.word.Symbol.{Symbol}
use Rattle.qm_parse.specs.Checks.{name_fault}
use Rattle.qm_parse.specs.Faults.{IsFirstFault}
use Rattle.qm_parse.specs.Symbols.{AreSymbols, names_of}
use Rattle.qm_parse.specs.Texts.{IsText}
use Rattle.qm_parse.specs.Wants.{Wants}

-- the first offence of a tree is of this kind and of this name, at this place
abbrev pub HasOffence : Ast → Offence → List ℕ → Place → Type 0
HasOffence ast kind name at =
    (number : ℕ) × (name_fault ast ≡ Some (record { offence = kind; name = number; at = at })) × (slice_get ast.names number ≡ Some name)

-- the tree, where it uses its names right, or else its first offence; memory may always run out
abbrev pub IsJudged : Ast → Result Ast ParseFault → Type 0
IsJudged ast (Ok right) = (right ≡ ast) × (name_fault ast ≡ None)
IsJudged ast (Err (fault.Expected at what)) = ⊥
IsJudged ast (Err (fault.Number at)) = ⊥
IsJudged ast (Err (fault.BothPlayers name at)) = HasOffence ast offence.BothPlayers name at
IsJudged ast (Err (fault.Twice name at)) = HasOffence ast offence.Twice name at
IsJudged ast (Err (fault.Unknown name at)) = HasOffence ast offence.Unknown name at
IsJudged ast (Err (fault.Unordered name at)) = HasOffence ast offence.Unordered name at
IsJudged ast (Err (fault.Infinite name at)) = HasOffence ast offence.Infinite name at
IsJudged ast (Err (fault.NoUpper name at)) = HasOffence ast offence.NoUpper name at
IsJudged ast (Err fault.Memory) = Unit

-- why a text is not read
unfoldable pub fault_of : Unread → ParseFault
fault_of (unread.Expected at what) = fault.Expected at what
fault_of (unread.Number at) = fault.Number at
fault_of unread.Memory = fault.Memory

-- Symbols are answered with the judgement of the tree that they spell, or with their first fault where they spell none; what
-- is expected there is what the unfinished part wants.
abbrev pub IsAnswerOf : List (List ℕ) → List Symbol → Place → Result Ast ParseFault → Type 0
IsAnswerOf names symbols end (Err (fault.Expected at what)) = (first : IsFirstFault symbols end (unread.Expected at what)) × Wants what symbols first.behind
IsAnswerOf names symbols end (Err (fault.Number at)) = IsFirstFault symbols end (unread.Number at)
IsAnswerOf names symbols end (Err fault.Memory) = Unit
IsAnswerOf names symbols end answer = (ast : Ast) × IsText names symbols ast × IsJudged ast answer

-- the symbols of a text and its tokens, and the answer to them
pub record IsReadAs (text : List ℕ) (tokens : List Token) (answer : Result Ast ParseFault) : Type 0 where
  pub symbols : List Symbol
  pub spelled : AreSymbols text (names_of text tokens) 0 tokens symbols
  pub answered : IsAnswerOf (names_of text tokens) symbols (place_of text (length text)) answer

-- the answer to a text and its tokens; memory may always run out
abbrev pub IsParsed : List ℕ → List Token → Result Ast ParseFault → Type 0
IsParsed text tokens (Err fault.Memory) = Unit
IsParsed text tokens answer = IsReadAs text tokens answer
