-- Names and their numbers.
use Rattle.std.specs.Prelude.{◌≢◌, ℕ, Bool, List, AllPairs}
use Rattle.std.specs.List.{list_any}
use Rattle.std.specs.Str.{bytes_eq}

-- no name stands twice
abbrev pub AreDistinct : List (List ℕ) → Type 0
AreDistinct names = AllPairs (λ one other. one ≢ other) names

-- the name stands among the names
abbrev pub stands_in : List (List ℕ) → List ℕ → Bool
stands_in names name = list_any (bytes_eq name) names
