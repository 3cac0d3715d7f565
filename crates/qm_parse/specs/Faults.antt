-- Where symbols stop being the beginning of a text, and what would have gone on there.
use Rattle.std.specs.Prelude.{◌≡◌, ℕ, false, List, [], ◌∷◌, ◌++◌, ◌⊎◌, Option, Some, None}
use Rattle.qm_lex.specs.declared.place.Place.{Place}
use Rattle.qm_parse.specs.declared.ast.Ast.{Ast}
use Rattle.qm_parse.specs.declared.stage.State.{State}
use Rattle.qm_parse.specs.declared.unread.Unread.{Unread}
use Rattle.qm_parse.specs.declared.unread.Unread.TheVariants as unread
use Rattle.qm_parse.specs.declared.word.Symbol.{Symbol}
use Rattle.qm_parse.specs.declared.word.Word.{Word}
use Rattle.qm_parse.specs.declared.word.Word.TheVariants.{Name, Number}
use Rattle.qm_parse.specs.Drafts.{one}
use Rattle.qm_parse.specs.Reading.{start}
use Rattle.qm_parse.specs.Stages.{expected, next_state, wanted}
use Rattle.qm_parse.specs.Texts.{IsText, KnowColons}

-- a name that is no label
abbrev pub no_label : Word → Word
no_label (Name n labels) = Name n false
no_label word = word

-- the symbols, of which the last, if it is a name, is no label
abbrev pub unlabelled : List Symbol → List Symbol
unlabelled [] = []
unlabelled (symbol ∷ []) = record symbol { word = no_label symbol.word } ∷ []
unlabelled (symbol ∷ next ∷ symbols) = symbol ∷ unlabelled (next ∷ symbols)

-- Some further symbols make a text of these. A name at their end may be no label, though a colon stands behind it.
pub record CanGoOn (front : List Symbol) : Type 0 where
  pub written : List Symbol
  pub same : (written ≡ front) ⊎ (written ≡ unlabelled front)
  pub more : List Symbol
  pub names : List (List ℕ)
  pub ast : Ast
  pub colons : KnowColons (written ++ more)
  pub text : IsText names (written ++ more) ast

-- a number that leaves, taken as one that doesn't
abbrev pub number_in_range : Word → Word
number_in_range (Number None) = Number (Some one)
number_in_range word = word

abbrev pub in_range : Symbol → Symbol
in_range symbol = record symbol { word = number_in_range symbol.word }

-- the state behind symbols, where each of them may follow
abbrev pub state_behind : State → List Symbol → Option State
state_behind state [] = Some state
state_behind state (symbol ∷ symbols) = elim (next_state state symbol) [ None ↦ None | Some next ↦ state_behind next symbols ]

-- the first fault of the symbols, at the one that stands behind a beginning, or at the end of the text
abbrev pub IsFaultBehind : List Symbol → State → List Symbol → Place → Unread → Type 0
IsFaultBehind front state [] end fault =
    (fault ≡ unread.Expected end (wanted state.stage)) × ((names : List (List ℕ)) (ast : Ast) → ¬ IsText names front ast)
IsFaultBehind front state (symbol ∷ symbols) end fault =
    ((fault ≡ unread.Number symbol.place) × (symbol.word ≡ Number None) × CanGoOn (front ++ in_range symbol ∷ []))
    ⊎ ((fault ≡ unread.Expected symbol.place (expected state.stage symbol)) × ¬ CanGoOn (front ++ in_range symbol ∷ []))

-- The symbols up to a place are the beginning of a text, and with the next one they aren't any more.
pub record IsFirstFault (symbols : List Symbol) (end : Place) (fault : Unread) : Type 0 where
  pub front : List Symbol
  pub behind : List Symbol
  pub state : State
  pub parts : symbols ≡ front ++ behind
  pub goes_on : CanGoOn front
  pub reached : state_behind start front ≡ Some state
  pub stops : IsFaultBehind front state behind end fault
