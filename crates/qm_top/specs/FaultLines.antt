-- The lines that say why a problem is refused.
use Rattle.std.specs.Prelude.{◌≡◌, ℕ, ◌+◌, List, [], ◌∷◌, codes}
use Rattle.std.specs.Fmt.{decimal}
use Rattle.qm_certfile.specs.Lines.{Line, Word, line_text}
use Rattle.qm_lex.specs.declared.place.Place.{Place}
use Rattle.qm_normal.specs.declared.fault.Counted.{Counted}
use Rattle.qm_normal.specs.declared.fault.Counted.TheVariants as counted
use Rattle.qm_normal.specs.declared.fault.NormalFault.{NormalFault}
use Rattle.qm_normal.specs.declared.fault.NormalFault.TheVariants as normal
use Rattle.qm_normal.specs.declared.fault.Which.{Which}
use Rattle.qm_normal.specs.declared.fault.Which.TheVariants as which
use Rattle.qm_parse.specs.declared.fault.ParseFault.{ParseFault}
use Rattle.qm_parse.specs.declared.fault.ParseFault.TheVariants as parse
use Rattle.qm_parse.specs.declared.fault.What.{What}
use Rattle.qm_parse.specs.declared.fault.What.TheVariants as what

-- a line about a place of the text, by its line and its column
abbrev pub text_line : Place → Line → List ℕ
text_line at words = line_text (codes "text" ∷ decimal at.line ∷ decimal at.column ∷ words)

-- a line about a limit
abbrev pub limit_line : Line → List ℕ
limit_line words = line_text (codes "limit" ∷ words)

-- what would have gone on
abbrev pub what_word : What → Word
what_word what.Sense = codes "sense"
what_word what.SubjectTo = codes "SUBJECT TO"
what_word what.To = codes "TO"
what_word what.Term = codes "term"
what_word what.Name = codes "name"
what_word what.Relation = codes "relation"
what_word what.Number = codes "number"
what_word what.LineEnd = codes "line end"
what_word what.Section = codes "section"
what_word what.Order = codes "ORDER"
what_word what.TextEnd = codes "text end"

-- The line of a fault of the grammar or of the use of names. Want of memory is no fault of a text.
abbrev pub TellsParse : ParseFault → List ℕ → Type 0
TellsParse (parse.Expected at what) text = text ≡ text_line at (codes "expected" ∷ what_word what ∷ [])
TellsParse (parse.Number at) text = text ≡ text_line at (codes "number" ∷ [])
TellsParse (parse.BothPlayers name at) text = text ≡ text_line at (codes "both" ∷ name ∷ [])
TellsParse (parse.Twice name at) text = text ≡ text_line at (codes "twice" ∷ name ∷ [])
TellsParse (parse.Unknown name at) text = text ≡ text_line at (codes "unknown" ∷ name ∷ [])
TellsParse (parse.Unordered name at) text = text ≡ text_line at (codes "unordered" ∷ name ∷ [])
TellsParse (parse.Infinite name at) text = text ≡ text_line at (codes "infinite" ∷ name ∷ [])
TellsParse (parse.NoUpper name at) text = text ≡ text_line at (codes "upper" ∷ name ∷ [])
TellsParse parse.Memory text = ⊥

abbrev pub counted_word : Counted → Word
counted_word counted.Variables = codes "variables"
counted_word counted.Rows = codes "rows"
counted_word counted.Terms = codes "terms"

-- what is too wide; rows count from 1 in lines
abbrev pub which_words : Which → Line
which_words (which.Row n) = codes "row" ∷ decimal (n + 1) ∷ []
which_words (which.Uncertainty n) = codes "uncertainty" ∷ decimal (n + 1) ∷ []
which_words (which.Bound name) = codes "bound" ∷ name ∷ []
which_words which.Objective = codes "objective" ∷ []

-- The status and the line of a fault of scope, 5, or of a limit, 6. Want of memory is no fault of a problem.
abbrev pub TellsNormal : NormalFault → ℕ → List ℕ → Type 0
TellsNormal (normal.ContinuousUniversal name at) status text = (status ≡ 5) × (text ≡ text_line at (codes "universal" ∷ name ∷ []))
TellsNormal (normal.ContinuousEarly name at) status text = (status ≡ 5) × (text ≡ text_line at (codes "early" ∷ name ∷ []))
TellsNormal (normal.ExistsInUncertainty name at) status text = (status ≡ 5) × (text ≡ text_line at (codes "uncertain" ∷ name ∷ []))
TellsNormal (normal.Many counted n) status text = (status ≡ 6) × (text ≡ limit_line (counted_word counted ∷ decimal n ∷ []))
TellsNormal (normal.Domain name) status text = (status ≡ 6) × (text ≡ limit_line (codes "domain" ∷ name ∷ []))
TellsNormal (normal.Wide which) status text = (status ≡ 6) × (text ≡ limit_line (codes "wide" ∷ which_words which))
TellsNormal normal.Memory status text = ⊥
