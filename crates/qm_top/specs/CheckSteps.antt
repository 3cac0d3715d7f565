-- What is reported of what the checker tells. No public clause cites this.
use Rattle.std.specs.Prelude.{◌≡◌, ℕ, List, Result, Ok, Err, codes}
use Rattle.qm_certread.specs.Fits.{line_of}
use Rattle.qm_certread.specs.SaidSteps.{claim_node}
use Rattle.qm_check.specs.declared.verdict.Verdict.{Verdict}
use Rattle.qm_check.specs.declared.verdict.Verdict.TheVariants.{Accepted, Refused}
use Rattle.qm_check.specs.declared.verdict.CheckFault.{CheckFault}
use Rattle.qm_check.specs.declared.verdict.CheckFault.TheVariants as fault
use Rattle.qm_top.specs.CheckLines.{accepted_line, leaves_line, refused_line}
use Rattle.qm_top.specs.Lines.{line}

abbrev pub ReportsVerdict : Result Verdict CheckFault → ℕ → List ℕ → Type 0
ReportsVerdict (Ok (Accepted claim)) status text = (status ≡ 0) × (text ≡ accepted_line (line_of (claim_node claim)))
ReportsVerdict (Ok (Refused number rule)) status text = (status ≡ 9) × (text ≡ refused_line number rule)
ReportsVerdict (Err (fault.Leaves number leaves)) status text = (status ≡ 7) × (text ≡ leaves_line number leaves)
ReportsVerdict (Err fault.Limit) status text = (status ≡ 6) × (text ≡ line (codes "limit certificate"))
ReportsVerdict (Err fault.Read) status text = (status ≡ 3) × (text ≡ line (codes "read certificate"))
ReportsVerdict (Err fault.Memory) status text = (status ≡ 10) × (text ≡ line (codes "memory"))
