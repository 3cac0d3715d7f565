-- Answers of calls that may run out of memory.
use Rattle.std.specs.Prelude.{◌≡◌, Result, Err, ⊤}
use Rattle.qm_normal.specs.declared.fault.NormalFault.{NormalFault}
use Rattle.qm_normal.specs.declared.fault.NormalFault.TheVariants as fault

-- what a function returned is this answer, unless memory ran out
abbrev pub Gives : {A : Type 0} → Result A NormalFault → Result A NormalFault → Type 0
Gives (Err fault.Memory) answer = ⊤
Gives result answer = answer ≡ result
