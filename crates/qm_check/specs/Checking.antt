-- What is told of a source's bytes.
use Rattle.std.specs.Prelude.{◌≡◌, ℕ, ◌+◌, ◌≤◌, List, Option, Result, Ok, Err, length}
use Rattle.std.specs.Io.KnownBytes.{Consumes, IsAtEnd}
use Rattle.qm_io.specs.Bytes.{TookSome}
use Rattle.qm_model.specs.declared.game.Problem.{Problem}
use Rattle.qm_trees.specs.Verdicts as line
use Rattle.qm_trees.specs.Verdicts.{◌then◌}
use Rattle.qm_certread.specs.FirstFault.{first_fault}
use Rattle.qm_check.specs.declared.verdict.Verdict.{Verdict}
use Rattle.qm_check.specs.declared.verdict.Verdict.TheVariants.{Accepted, Refused}
use Rattle.qm_check.specs.declared.verdict.CheckFault.{CheckFault}
use Rattle.qm_check.specs.declared.verdict.CheckFault.TheVariants as fault
use Rattle.qm_check.specs.Texts.{Claims, IsFine}

-- the first line of the text at fault, by its number from 1
abbrev pub numbered_fault : Problem → List ℕ → line.Verdict
numbered_fault P text = (line.Fine 1) then first_fault P text

-- no line is at fault and the first one claims this, or the first that is at fault breaks this rule
abbrev pub IsVerdict : Problem → List ℕ → Verdict → Type 0
IsVerdict P text (Accepted claim) = IsFine (numbered_fault P text) × Claims text claim
IsVerdict P text (Refused n rule) = numbered_fault P text ≡ line.Broken rule n

-- all the bytes to the end came, at most so many, and this is so of them
abbrev pub OfWhole : Option (List ℕ) → Option (List ℕ) → ℕ → (List ℕ → Type 0) → Type 0
OfWhole old new most Is = (text : List ℕ) × Consumes old new text × IsAtEnd new × (length text ≤ most) × Is text

-- what is told of the bytes to the end, at most so many; or one more came; or the source failed, or memory ran out, and some
-- came, at most so many
abbrev pub IsChecked : Problem → Option (List ℕ) → Option (List ℕ) → ℕ → Result Verdict CheckFault → Type 0
IsChecked P old new most (Ok verdict) = OfWhole old new most (λ text. IsVerdict P text verdict)
IsChecked P old new most (Err (fault.Leaves n leaves)) = OfWhole old new most (λ text. numbered_fault P text ≡ line.Left leaves n)
IsChecked P old new most (Err fault.Limit) = (bytes : List ℕ) × Consumes old new bytes × (length bytes ≡ most + 1)
IsChecked P old new most (Err fault.Read) = TookSome old new most
IsChecked P old new most (Err fault.Memory) = TookSome old new most

-- what is told of a text
abbrev pub IsToldOf : Problem → List ℕ → Result Verdict CheckFault → Type 0
IsToldOf P text (Ok verdict) = IsVerdict P text verdict
IsToldOf P text (Err (fault.Leaves n leaves)) = numbered_fault P text ≡ line.Left leaves n
IsToldOf P text (Err fault.Limit) = ⊥
IsToldOf P text (Err fault.Read) = ⊥
IsToldOf P text (Err fault.Memory) = Unit {0}
