-- A text's lines, and a line's words.
use Rattle.std.specs.Prelude.{ℕ, List}
use Rattle.std.specs.List.{slice_split}
use Rattle.memchr.specs.Find.{is_byte}
use Rattle.qm_certfile.specs.Lines.{Line}

-- What stands between the LFs of a text. The last piece has no LF: it is empty where the text ends behind one.
abbrev pub lines_of : List ℕ → List (List ℕ)
lines_of text = slice_split (is_byte 10) text

-- what stands between the spaces of a line, so that two spaces, or one at the end, make a word of no bytes
abbrev pub words_of : List ℕ → Line
words_of line = slice_split (is_byte 32) line
