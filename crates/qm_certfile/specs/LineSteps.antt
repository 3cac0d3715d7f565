-- The text of a line, piece by piece. No public clause cites this.
use Rattle.std.specs.Prelude.{ℕ, List, [], ◌∷◌, ◌++◌}
use Rattle.qm_certfile.specs.Lines.{Word}

-- the words, each behind a space
abbrev pub spaced : List Word → List ℕ
spaced [] = []
spaced (word ∷ words) = 32 ∷ word ++ spaced words
