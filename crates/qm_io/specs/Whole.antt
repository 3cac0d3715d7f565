-- What reading to the end answers.
use Rattle.std.specs.Prelude.{◌≡◌, ℕ, ◌+◌, ◌≤◌, List, length}
use Rattle.std.specs.Io.KnownBytes.{Consumes, IsAtEnd}
use Rattle.std.specs.declared.option.Option.{Option}
use Rattle.qm_io.specs.declared.whole.Whole.{Whole}
use Rattle.qm_io.specs.declared.whole.Whole.TheVariants.{Bytes, Longer}

-- all the bytes to the end came, at most so many; or one more than that came
abbrev pub IsWhole : Option (List ℕ) → Option (List ℕ) → ℕ → Whole → Type 0
IsWhole old new most (Bytes bytes) = Consumes old new bytes × IsAtEnd new × (length bytes ≤ most)
IsWhole old new most Longer = (bytes : List ℕ) × Consumes old new bytes × (length bytes ≡ most + 1)
