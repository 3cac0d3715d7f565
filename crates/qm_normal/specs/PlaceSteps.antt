-- Places in game order, by the numbers of names. No public clause cites this.
use Rattle.std.specs.Prelude.{◌≢◌, ℕ, List, All, AllPairs, Option, None, Some, slice_get, slice_index_or, map, MatchOption, ◌≡◌}
use Rattle.qm_parse.specs.declared.ast.Named.{Named}
use Rattle.qm_normal.specs.declared.places.Places.{Places}

-- the place of a name; a number beyond the table has none
abbrev pub place_in : Places → ℕ → Option ℕ
place_in places name = slice_index_or places.places name None

-- this name stands at this place of the list
abbrev pub StandsAt : List Named → ℕ → ℕ → Type 0
StandsAt order name place = slice_get (map (λ named. named.name) order) place ≡ Some name

-- each name that stands in the list has a place at which it stands, and no other name has one
abbrev pub IsPlacesOf : List Named → Places → Type 0
IsPlacesOf order places = (name : ℕ) → MatchOption (place_in places name) (All (λ named. named.name ≢ name) order) (StandsAt order name)

-- no name stands twice
abbrev pub AreApart : List Named → Type 0
AreApart order = AllPairs (λ one other. one.name ≢ other.name) order
