-- Lines and columns.
use Rattle.std.specs.Prelude.{ℕ, ◌+◌, List, [], ◌∷◌, ◌==◌, take, if◌then◌else◌}
use Rattle.qm_lex.specs.declared.place.Place.{Place}

-- the line behind the bytes, from this one on: an LF begins the next
abbrev pub line_behind : ℕ → List ℕ → ℕ
line_behind line [] = line
line_behind line (byte ∷ bytes) = line_behind (if byte == 10 then line + 1 else line) bytes

-- the column behind the bytes, from this one on: an LF begins a line, and each other byte takes a column
abbrev pub column_behind : ℕ → List ℕ → ℕ
column_behind column [] = column
column_behind column (byte ∷ bytes) = column_behind (if byte == 10 then 1 else column + 1) bytes

-- the line and the column of the byte at this place in the text, both from 1
abbrev pub place_of : List ℕ → ℕ → Place
place_of text at = record { line = line_behind 1 (take at text); column = column_behind 1 (take at text) }
