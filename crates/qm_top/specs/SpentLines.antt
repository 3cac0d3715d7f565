-- The report of a spent journal: how many entries it has, and a line for each of them.
use Rattle.std.specs.Prelude.{ℕ, List, [], ◌∷◌, ◌++◌, codes, length, map}
use Rattle.std.specs.Fmt.{decimal, signed_decimal}
use Rattle.qm_journal.specs.declared.entry.JEntry.{JEntry}
use Rattle.qm_journal.specs.declared.entry.JKind.{JKind}
use Rattle.qm_journal.specs.declared.entry.JKind.TheVariants.{Game, Query, Step}
use Rattle.qm_certfile.specs.Lines.{Line, Word, text_of}
use Rattle.qm_certfile.specs.CertificateLines.{alone}

abbrev pub kind_word : JKind → Word
kind_word Game = codes "g"
kind_word Query = codes "q"
kind_word Step = codes "l"

-- what the entry stands for, the number of the entry that it continues, and the value that it appends
abbrev pub entry_line : JEntry → Line
entry_line entry = kind_word entry.kind ∷ decimal entry.parent ∷ signed_decimal entry.value ∷ []

abbrev pub spent_lines : List JEntry → List Line
spent_lines entries = (codes "spent" ∷ decimal (length entries) ∷ []) ∷ map entry_line entries ++ alone (codes "end") ∷ []

abbrev pub spent_text : List JEntry → List ℕ
spent_text entries = text_of (spent_lines entries)
