-- What small steps of the readers do. No public clause cites this.
use Rattle.std.specs.Prelude.{◌≢◌, ℕ, ◌<◌, ◌≤◌, ℤ, List, length, Result, Ok, Err, slice_index}
use Rattle.qm_text.specs.declared.fault.NumberFault.{NumberFault}
use Rattle.qm_text.specs.declared.fault.NumberFault.TheVariants as fault
use Rattle.qm_text.specs.Numbers.{SpellsNatural}

-- no byte of the word is a slash
abbrev pub HasNoSlash : List ℕ → Type 0
HasNoSlash word = (k : ℕ) → k < length word → slice_index word k ≢ 47

-- a natural number that may stand behind the slash
abbrev pub SpellsDenominator : List ℕ → ℕ → Type 0
SpellsDenominator word n = SpellsNatural word n × (2 ≤ n)

-- both numbers; none where one of them is none, and else a number that leaves where one of them leaves
abbrev pub both_of : Result ℤ NumberFault → Result ℕ NumberFault → Result (ℤ × ℕ) NumberFault
both_of (Ok num) (Ok den) = Ok (num, den)
both_of (Ok num) (Err e) = Err e
both_of (Err e) (Ok den) = Err e
both_of (Err fault.NotNumber) (Err e) = Err fault.NotNumber
both_of (Err fault.Leaves) (Err e) = Err e
