-- Which answer can come for which words and input, where a source that is read tells its bytes and doesn't fail.
use Rattle.std.specs.Prelude.{◌≡◌, ◌≢◌, ◌⊎◌, ◌<◌, ◌≤◌, ℕ, List, Some, codes, length}
use Rattle.qm_io.specs.Causes.{Rose}
use Rattle.qm_frac.specs.declared.leaves.Leaves.{Leaves}
use Rattle.qm_trees.specs.declared.rule.Rule.{Rule}
use Rattle.qm_trees.specs.Verdicts.{Broken, Left}
use Rattle.qm_certfile.specs.Passes.{ending_of}
use Rattle.qm_check.specs.Checking.{numbered_fault}
use Rattle.qm_check.specs.Texts.{IsFine}
use Rattle.qm_gen.specs.Generated.{generated_problem, generated_text}
use Rattle.qm_journal.specs.Enough.{enough}
use Rattle.qm_model.specs.declared.game.Problem.{Problem}
use Rattle.qm_normal.specs.Stated.{States}
use Rattle.qm_top.specs.declared.command.Command.{Command}
use Rattle.qm_top.specs.declared.command.Command.TheVariants.{Check, Gen, GenSolve, Solve}
use Rattle.qm_top.specs.Answers.{Claims, SolvesMade, SolvesProblem, Summarizes}
use Rattle.qm_top.specs.CheckLines.{accepted_line, leaves_line, refused_line}
use Rattle.qm_top.specs.EndingLines.{ending_line}
use Rattle.qm_top.specs.Lines.{line, usage}
use Rattle.qm_top.specs.Readings.{Reading}
use Rattle.qm_top.specs.Refusals.{Refuses}
use Rattle.qm_top.specs.Words.{Asks}

-- memory ran out, which no input rules out
abbrev pub IsNoMemory : ℕ → List ℕ → Type 0
IsNoMemory status text = (status ≡ 10) × (text ≡ line (codes "memory"))

-- this status and this text
abbrev pub IsReport : ℕ → List ℕ → ℕ → List ℕ → Type 0
IsReport due told status text = (status ≡ due) × (text ≡ told)

-- What is answered about the bytes of a problem, where this is so of the answer wherever they state the problem. Bytes that
-- aren't too many state a problem or are refused with one status and one text, and not both (`stated_or_refused`).
pub record IsDueText (OfProblem : Problem → Type 0) (bytes : List ℕ) (status : ℕ) (text : List ℕ) : Type 0 where
  pub long : 4194304 < length bytes → IsReport 6 (line (codes "limit problem")) status text ⊎ IsNoMemory status text
  pub stated : (P : Problem) → length bytes ≤ 4194304 → States bytes P → OfProblem P
  pub refused : (due : ℕ) (told : List ℕ) → length bytes ≤ 4194304 → Refuses bytes due told → IsReport due told status text ⊎ IsNoMemory status text

-- what `solve` answers about a problem with a budget
pub record IsDueSolved (P : Problem) (nodes status : ℕ) (text : List ℕ) : Type 0 where
  pub solved : SolvesProblem P nodes status text ⊎ IsNoMemory status text
  -- without continuous variables no number leaves
  pub whole : P.wholes ≡ length P.vars → status ≢ 7
  -- a budget that is enough for every lawful journal isn't spent
  pub ample : enough P ≤ nodes → status ≢ 8
  -- so where both hold the problem is solved
  pub sure : P.wholes ≡ length P.vars → enough P ≤ nodes → ((status ≡ 0) × Claims P text) ⊎ IsNoMemory status text

-- what `solve` answers about the bytes of a problem with a budget
abbrev pub IsDue : List ℕ → ℕ → ℕ → List ℕ → Type 0
IsDue bytes nodes status text = IsDueText (λ P. IsDueSolved P nodes status text) bytes status text

-- what `check` answers about the bytes of a certificate of a problem: one of these is about any bytes
pub record IsDueChecked (P : Problem) (bytes : List ℕ) (status : ℕ) (text : List ℕ) : Type 0 where
  pub long : 268435456 < length bytes → IsReport 6 (line (codes "limit certificate")) status text ⊎ IsNoMemory status text
  pub accepted : length bytes ≤ 268435456 → IsFine (numbered_fault P bytes)
      → ((claims : Claims P bytes) × IsReport 0 (accepted_line (ending_line P.sense (ending_of claims.certificate))) status text) ⊎ IsNoMemory status text
  pub broken : (number : ℕ) (rule : Rule) → length bytes ≤ 268435456 → numbered_fault P bytes ≡ Broken rule number → IsReport 9 (refused_line number rule) status text ⊎ IsNoMemory status text
  pub leaving : (number : ℕ) (leaves : Leaves) → length bytes ≤ 268435456 → numbered_fault P bytes ≡ Left leaves number → IsReport 7 (leaves_line number leaves) status text ⊎ IsNoMemory status text

-- What `check` answers about the bytes of a problem; where they state none, the certificate's source tells nothing about it.
abbrev pub IsDueByCheck : Reading → List ℕ → ℕ → List ℕ → Type 0
IsDueByCheck certificate bytes status text = IsDueText (λ P. (told : List ℕ) → certificate.before ≡ Some told → ¬ Rose certificate.faults_before certificate.faults_after → IsDueChecked P told status text) bytes status text

-- What `gen --solve` answers about the problem that it made: its text states it, and it has no continuous variables, so
-- it is never refused and no number leaves.
pub record IsDueMade (P : Problem) (status : ℕ) (text : List ℕ) : Type 0 where
  pub some : SolvesMade P status text
  -- where the budget is enough for every lawful journal, it isn't spent
  pub sure : enough P ≤ 1000000 → ((status ≡ 0) × Summarizes P 1000000 text) ⊎ IsNoMemory status text

-- the same by the words; where they are no form, or a problem is made, the sources tell nothing about the answer
pub record IsDueTo (words : List (List ℕ)) (problem certificate : Reading) (status : ℕ) (text : List ℕ) : Type 0 where
  pub misused : ((command : Command) → ¬ Asks command words) → IsReport 2 usage status text
  pub solve : (nodes : ℕ) (bytes : List ℕ) → Asks (Solve nodes) words → problem.before ≡ Some bytes → ¬ Rose problem.faults_before problem.faults_after → IsDue bytes nodes status text
  pub check : (bytes : List ℕ) → Asks Check words → problem.before ≡ Some bytes → ¬ Rose problem.faults_before problem.faults_after → IsDueByCheck certificate bytes status text
  pub gen : (number size : ℕ) → Asks (Gen number size) words → IsReport 0 (generated_text number size) status text ⊎ IsNoMemory status text
  pub gen_solve : (number size : ℕ) → Asks (GenSolve number size) words → IsDueMade (generated_problem number size) status text
