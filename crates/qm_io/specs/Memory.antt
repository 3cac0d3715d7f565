-- A source and a sink in memory, as contracts see them.
use Rattle.std.specs.Prelude.{ℕ, List, Result, Ok, Err}
use Rattle.qm_io.specs.declared.calls.Calls.{Calls}
use Rattle.qm_io.specs.Causes.{next_count}

-- the bytes still to come, the most that a call gives, and the calls
pub record MemoryInput : Type 0 where
  pub rest : List ℕ
  pub piece : ℕ
  pub calls : Calls

-- the bytes taken so far, the most that a call takes, and the calls
pub record MemoryOutput : Type 0 where
  pub taken : List ℕ
  pub piece : ℕ
  pub calls : Calls

-- the calls after one more, which has failed where it answered an error
abbrev pub calls_after : {T E : Type 0} → Calls → Result T E → Calls
calls_after calls (Ok _) = record calls { made = next_count calls.made }
calls_after calls (Err _) = record calls { made = next_count calls.made; failed = next_count calls.failed }
