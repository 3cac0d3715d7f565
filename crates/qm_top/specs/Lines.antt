-- The lines that are written.
use Rattle.std.specs.Prelude.{ℕ, List, [], ◌∷◌, ◌++◌, codes}

-- a line ends with LF
abbrev pub line : List ℕ → List ℕ
line text = text ++ 10 ∷ []

-- the forms of the words
abbrev pub usage : List ℕ
usage = line (codes "usage: qyas solve FILE [--nodes N] | check FILE CERT | gen NUMBER SIZE [--solve]")
