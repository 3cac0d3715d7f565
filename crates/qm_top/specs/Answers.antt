-- What may be answered: which status and text go with which words and input.
use Rattle.std.specs.Prelude.{◌≡◌, ℕ, ◌<◌, ◌≤◌, ℤ, List, length, codes}
use Rattle.std.specs.declared.option.Option.{Option}
use Rattle.std.specs.Io.KnownBytes.{Appends}
use Rattle.qm_io.specs.Causes.{Rose}
use Rattle.qm_io.specs.Bytes.{AppendsFront}
use Rattle.qm_frac.specs.declared.leaves.Leaves.{Leaves}
use Rattle.qm_model.specs.declared.game.Problem.{Problem}
use Rattle.qm_model.specs.Endings.{HasEnding}
use Rattle.qm_model.specs.Plays.{IsPlay}
use Rattle.qm_normal.specs.Stated.{States}
use Rattle.qm_trees.specs.declared.rule.Rule.{Rule}
use Rattle.qm_trees.specs.Verdicts.{Broken, Left}
use Rattle.qm_certfile.specs.declared.certificate.Certificate.{Certificate}
use Rattle.qm_certfile.specs.CertificateLines.{certificate_text}
use Rattle.qm_certfile.specs.Passes.{AnswersPlay, Passes, ending_of}
use Rattle.qm_check.specs.Checking.{numbered_fault}
use Rattle.qm_check.specs.Texts.{IsFine}
use Rattle.qm_gen.specs.Generated.{generated_problem, generated_text}
use Rattle.qm_search.specs.declared.fault.Leave.{Leave}
use Rattle.qm_search.specs.Entering.{IsEnterable, MayHold}
use Rattle.qm_journal.specs.declared.entry.JEntry.{JEntry}
use Rattle.qm_journal.specs.Enough.{enough}
use Rattle.qm_journal.specs.Lawful.{IsLawfulWith, SpendsBudget}
use Rattle.qm_simplex.specs.RightLeaves.{IsRightLeave}
use Rattle.qm_top.specs.declared.command.Command.{Command}
use Rattle.qm_top.specs.declared.command.Command.TheVariants.{Check, Gen, GenSolve, Solve}
use Rattle.qm_top.specs.Words.{Asks}
use Rattle.qm_top.specs.CheckLines.{accepted_line, leaves_line, refused_line}
use Rattle.qm_top.specs.EndingLines.{ending_line}
use Rattle.qm_top.specs.LeaveLines.{leave_text}
use Rattle.qm_top.specs.Lines.{line, usage}
use Rattle.qm_top.specs.Readings.{AreUnread, IsUnread, Reading, Readings, ReadsProblemAlone, Tells}
use Rattle.qm_top.specs.Refusals.{Refuses}
use Rattle.qm_top.specs.SpentLines.{spent_text}
use Rattle.qm_top.specs.SummaryLines.{summary_text}

-- The text is that of a certificate that passes, and what it claims is how the problem ends. Where it claims a value,
-- its policy meets every row and reaches the value on every universal play.
pub record Claims (P : Problem) (text : List ℕ) : Type 0 where
  pub certificate : Certificate
  pub spelled : text ≡ certificate_text P certificate
  pub passes : Passes P certificate
  pub ending : HasEnding P (ending_of certificate)
  pub answers : (us : List ℤ) → IsPlay P us → AnswersPlay P us certificate

-- What `solve` answers about a problem with a budget: its ending; or the first operation that leaves the range in the
-- leaf run of a complete prefix, each shorter one of which may be entered, which only a problem with continuous
-- variables has; or a lawful journal of this search that spends the budget.
pub data SolvesProblem (P : Problem) (nodes status : ℕ) (text : List ℕ) : Type 0 where
  claimed : Claims P text → status ≡ 0 → SolvesProblem P nodes status text
  left : (leave : Leave) → IsRightLeave P (IsEnterable P) leave.prefix leave.run → status ≡ 7 → text ≡ leave_text leave → SolvesProblem P nodes status text
  spent : (entries : List JEntry) → SpendsBudget P (MayHold P) nodes entries → status ≡ 8 → text ≡ spent_text entries → SolvesProblem P nodes status text

-- What is told of the bytes of a problem, where a command tells this of each problem: what it tells of the one that they
-- state, or why they state none. `Behind` is what then became of the sources that are read behind them.
pub data TellsText (Behind : Type 0) (OfProblem : Problem → ℕ → List ℕ → Type 0) (bytes : List ℕ) (status : ℕ) (text : List ℕ) : Type 0 where
  stated : (P : Problem) → States bytes P → OfProblem P status text → TellsText Behind OfProblem bytes status text
  -- they state no problem
  refused : Refuses bytes status text → Behind → TellsText Behind OfProblem bytes status text
  out_of_memory : Behind → status ≡ 10 → text ≡ line (codes "memory") → TellsText Behind OfProblem bytes status text

-- the same by what was read of the problem: at most 4,194,305 bytes
abbrev pub TellsProblem : Type 0 → (Problem → ℕ → List ℕ → Type 0) → Reading → ℕ → List ℕ → Type 0
TellsProblem Behind OfProblem read status text = Tells (codes "problem") 4194304 Behind (TellsText Behind OfProblem) read status text

-- what `solve` answers about the whole bytes of a problem; it reads no other source
abbrev pub SolvesText : List ℕ → ℕ → ℕ → List ℕ → Type 0
SolvesText bytes nodes status text = TellsText (Unit {0}) (λ P. SolvesProblem P nodes) bytes status text

-- what `solve` answers, by what was read of the problem
abbrev pub Solves : Reading → ℕ → ℕ → List ℕ → Type 0
Solves read nodes status text = TellsProblem (Unit {0}) (λ P. SolvesProblem P nodes) read status text

-- What `check` answers about the whole bytes of a certificate of a problem: they are accepted where no line of theirs is at
-- fault, with the claim of the certificate whose text they are; else the first line at fault is told.
pub data ChecksText (P : Problem) (bytes : List ℕ) (status : ℕ) (text : List ℕ) : Type 0 where
  accepted : IsFine (numbered_fault P bytes) → (claims : Claims P bytes) → status ≡ 0 → text ≡ accepted_line (ending_line P.sense (ending_of claims.certificate)) → ChecksText P bytes status text
  broken : (number : ℕ) (rule : Rule) → numbered_fault P bytes ≡ Broken rule number → status ≡ 9 → text ≡ refused_line number rule → ChecksText P bytes status text
  leaving : (number : ℕ) (leaves : Leaves) → numbered_fault P bytes ≡ Left leaves number → status ≡ 7 → text ≡ leaves_line number leaves → ChecksText P bytes status text
  no_room_for_verdict : status ≡ 10 → text ≡ line (codes "memory") → ChecksText P bytes status text

-- what `check` answers about a problem, by what was read of the certificate: at most 268,435,457 bytes
abbrev pub ChecksProblem : Reading → Problem → ℕ → List ℕ → Type 0
ChecksProblem certificate P status text = Tells (codes "certificate") 268435456 (Unit {0}) (ChecksText P) certificate status text

-- What `check` answers, by what was read of the problem and of the certificate, of which nothing is read where there is no
-- problem.
abbrev pub Checks : Reading → Reading → ℕ → List ℕ → Type 0
Checks problem certificate status text = TellsProblem (IsUnread certificate) (ChecksProblem certificate) problem status text

-- what `gen` answers: the text of this number and this size
pub data Makes (number size status : ℕ) (text : List ℕ) : Type 0 where
  made : status ≡ 0 → text ≡ generated_text number size → Makes number size status text
  no_room_for_text : status ≡ 10 → text ≡ line (codes "memory") → Makes number size status text

-- The text is a summary: of a certificate that passes, whose claim is how the problem ends and whose text has the told
-- number of bytes; and of a lawful journal of this search within a budget, which has the told number of entries, fewer
-- than are always enough.
pub record Summarizes (P : Problem) (nodes : ℕ) (text : List ℕ) : Type 0 where
  pub certificate : Certificate
  pub entries : List JEntry
  pub passes : Passes P certificate
  pub ending : HasEnding P (ending_of certificate)
  pub lawful : IsLawfulWith P (MayHold P) entries
  pub within : length entries ≤ nodes
  pub scarce : length entries < enough P
  pub told : text ≡ summary_text P certificate entries

-- What `gen --solve` answers about the problem that it made: a summary; or what `solve` answers where the budget is spent.
pub data SolvesMade (P : Problem) (status : ℕ) (text : List ℕ) : Type 0 where
  summed : Summarizes P 1000000 text → status ≡ 0 → SolvesMade P status text
  spent_on : (entries : List JEntry) → SpendsBudget P (MayHold P) 1000000 entries → status ≡ 8 → text ≡ spent_text entries → SolvesMade P status text
  no_room_for_answer : status ≡ 10 → text ≡ line (codes "memory") → SolvesMade P status text

-- The answers, by command. Where the words are none of the forms, nothing is read and the usage is told; nothing is read
-- either where a problem is made.
pub data IsAnswer (words : List (List ℕ)) (read : Readings) (status : ℕ) (text : List ℕ) : Type 0 where
  misused : ((command : Command) → ¬ Asks command words) → AreUnread read → status ≡ 2 → text ≡ usage → IsAnswer words read status text
  solved : (nodes : ℕ) → Asks (Solve nodes) words → ReadsProblemAlone read → Solves read.problem nodes status text → IsAnswer words read status text
  checked : Asks Check words → IsUnread read.moves → Checks read.problem read.certificate status text → IsAnswer words read status text
  generated : (number size : ℕ) → Asks (Gen number size) words → AreUnread read → Makes number size status text → IsAnswer words read status text
  made_and_solved : (number size : ℕ) → Asks (GenSolve number size) words → AreUnread read → SolvesMade (generated_problem number size) status text → IsAnswer words read status text

-- the sink took exactly the text that goes with this status
pub record Took (before after : Option (List ℕ)) (words : List (List ℕ)) (read : Readings) (status : ℕ) : Type 0 where
  pub text : List ℕ
  pub answer : IsAnswer words read status text
  pub taken : Appends before after text

-- the sink failed, and took a part of the text that goes with some status
pub record Failed (before after : Option (List ℕ)) (faults_before faults_after : ℕ) (words : List (List ℕ)) (read : Readings) : Type 0 where
  pub status : ℕ
  pub text : List ℕ
  pub answer : IsAnswer words read status text
  pub taken : AppendsFront before after text
  pub rose : Rose faults_before faults_after
