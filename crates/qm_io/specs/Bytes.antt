-- What reads and writes do to the bytes that a source or a sink tells.
use Rattle.std.specs.Prelude.{◌≡◌, ◌↔◌, ⊤, ℕ, ◌<◌, ◌≤◌, List, [], length, take, None, Some, IfOk}
use Rattle.std.specs.Io.KnownBytes.{Consumes, Appends}
use Rattle.std.specs.declared.option.Option.{Option}
use Rattle.std.specs.declared.result.Result.{Result}

-- a read into a buffer with room gives no byte exactly where none is left
abbrev pub EndsExactly : {E : Type 0} → Option (List ℕ) → Result ℕ E → List ℕ → Type 0
EndsExactly None r buf = ⊤
EndsExactly (Some rest) r buf = IfOk r (λ n. 0 < length buf → ((n ≡ 0) ↔ (rest ≡ [])))

-- a write takes at least a byte of a piece that isn't empty
abbrev pub TakesSome : {E : Type 0} → Result ℕ E → List ℕ → Type 0
TakesSome r piece = IfOk r (λ n. 0 < length piece → 0 < n)

-- some bytes came, at most so many
abbrev pub TookSome : Option (List ℕ) → Option (List ℕ) → ℕ → Type 0
TookSome old new most = (bytes : List ℕ) × Consumes old new bytes × (length bytes ≤ most)

-- a front of the text was appended, and not all of it
abbrev pub AppendsFront : Option (List ℕ) → Option (List ℕ) → List ℕ → Type 0
AppendsFront old new text = (n : ℕ) × (n < length text) × Appends old new (take n text)
