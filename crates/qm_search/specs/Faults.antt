-- What the search answers: a certificate and a journal, or why there is no certificate.
use Rattle.std.specs.Prelude.{◌≡◌, ◌<◌, ◌≤◌, ℕ, length}
use Rattle.qm_certfile.specs.Passes.{Passes, ending_of}
use Rattle.qm_model.specs.declared.game.Problem.{Problem}
use Rattle.qm_model.specs.Endings.{HasEnding}
use Rattle.qm_journal.specs.Contents.{Contents}
use Rattle.qm_journal.specs.Enough.{enough}
use Rattle.qm_journal.specs.Lawful.{IsLawfulWith, SpendsBudget}
use Rattle.qm_simplex.specs.RightLeaves.{IsRightLeave}
use Rattle.qm_search.specs.declared.fault.SearchFault.{SearchFault}
use Rattle.qm_search.specs.declared.fault.SearchFault.TheVariants as fault
use Rattle.qm_search.specs.declared.fault.Solved.{Solved}
use Rattle.qm_search.specs.Entering.{IsEnterable, MayHold}

-- a lawful journal of this search within the budget
pub record IsWithinBudget (P : Problem) (budget : ℕ) (J : Contents) : Type 0 where
  pub limit : J.limit ≡ budget
  pub few : length J.entries ≤ budget
  pub lawful : IsLawfulWith P (MayHold P) J.entries

-- the certificate passes and claims how the game ends, and the journal is lawful and within the budget
pub record IsSolved (P : Problem) (limit : ℕ) (solved : Solved) : Type 0 where
  pub passes : Passes P solved.certificate
  pub ending : HasEnding P (ending_of solved.certificate)
  pub journal : IsWithinBudget P limit solved.journal

-- the journal is lawful and spends the budget, which is less than what is always enough
pub record IsSpent (P : Problem) (limit : ℕ) (J : Contents) : Type 0 where
  pub spends : SpendsBudget P (MayHold P) limit J.entries
  pub scarce : limit < enough P

-- the budget is spent; or the leaf run of this prefix leaves as told, and each shorter one may be entered; or memory is wanting
abbrev pub IsRightFault : Problem → ℕ → SearchFault → Type 0
IsRightFault P limit (fault.Spent journal) = IsSpent P limit journal
IsRightFault P limit (fault.Leave leave) = IsRightLeave P (IsEnterable P) leave.prefix leave.run
IsRightFault P limit fault.Memory = Unit {0}
