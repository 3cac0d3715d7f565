-- Numbers that are drawn one behind the other, each by its place.
use Rattle.std.specs.Prelude.{ℕ, suc, zero, ◌+◌, ◌*◌, ◌/◌, ◌%◌}

-- the state that follows a state
abbrev pub next_state : ℕ → ℕ
next_state state = (state * 1103515245 + 12345) % 2147483648

-- the state behind so many draws; it starts as the number
unfoldable pub state_behind : ℕ → ℕ → ℕ
state_behind number zero = number
state_behind number (suc count) = next_state (state_behind number count)

-- what is drawn at a place, the first at 0: the upper bits of the state behind that draw
abbrev pub draw : ℕ → ℕ → ℕ
draw number place = state_behind number (suc place) / 65536

-- the draws from a place on
abbrev pub from_place : ℕ → (ℕ → ℕ) → ℕ → ℕ
from_place first draws place = draws (first + place)
