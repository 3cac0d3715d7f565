-- Evaluations whose operations have places: row and column.
use Rattle.std.specs.Prelude.{ℕ, Result, Ok, Err}
use Rattle.qm_frac.specs.Checked.{Checked}
use Rattle.qm_tableau.specs.declared.leaves_at.LeavesAt.{LeavesAt}

-- a value, or the first operation on the way to it that leaves, with its place
abbrev pub Placed : Type 0 → Type 0
Placed A = Result A LeavesAt

-- an operation that belongs to this row and column
abbrev pub placed : {A : Type 0} → ℕ → ℕ → Checked A → Placed A
placed row col (Ok x) = Ok x
placed row col (Err leaves) = Err (record { row = row; col = col; leaves = leaves })

-- the next step, where the one before didn't leave
abbrev pub next : {A B : Type 0} → Placed A → (A → Placed B) → Placed B
next (Ok x) f = f x
next (Err leaves) f = Err leaves

-- what a call answers that leaves x behind where nothing leaves
abbrev pub giving : {A B : Type 0} → Placed A → B → Placed B
giving (Ok u) x = Ok x
giving (Err leaves) x = Err leaves
