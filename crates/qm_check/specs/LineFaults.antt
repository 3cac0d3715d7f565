-- The fault of a line by its number.
use Rattle.std.specs.Prelude.{ℕ}
use Rattle.qm_check.specs.declared.fault.Fault.{Fault}
use Rattle.qm_check.specs.declared.fault.Fault.TheVariants as fault
use Rattle.qm_check.specs.declared.text_fault.TextFault.{TextFault}
use Rattle.qm_check.specs.declared.text_fault.TextFault.TheVariants as text

abbrev pub fault_at : Fault → ℕ → TextFault
fault_at (fault.Broken rule) n = text.Broken n rule
fault_at (fault.Leaves leaves) n = text.Leaves n leaves
fault_at fault.Memory n = text.Memory
