-- Which answers there are.
use Rattle.std.proofs.Common.{◌≡◌, ◌≢◌, ◌⊎◌, ◌<◌, ◌≤◌, ℕ, List, Option, Some, Result, Ok, Err, IfOk, inl, inr, arith, length, ap, subst, sym, ◌∙◌}
use Rattle.std.specs.Prelude.{codes}
use Rattle.std.specs.Io.KnownBytes.{Appends}
use Rattle.qm_io.specs.Causes.{Rose}
use Rattle.qm_gen.specs.Generated.{generated_problem, generated_text}
use Rattle.qm_journal.specs.Enough.{enough}
use Rattle.qm_journal.proofs.Counting.{lawful_below_enough}
use Rattle.qm_model.specs.declared.game.Problem.{Problem}
use Rattle.qm_lex.specs.declared.token.Token.{Token}
use Rattle.qm_lex.specs.Texts.{AreTokens}
use Rattle.qm_parse.specs.declared.ast.Ast.{Ast}
use Rattle.qm_parse.specs.Parsing.{IsParsed}
use Rattle.qm_normal.specs.declared.fault.NormalFault.{NormalFault}
use Rattle.qm_normal.specs.declared.fault.NormalFault.TheVariants as normal
use Rattle.qm_normal.specs.Answers.{Gives}
use Rattle.qm_normal.specs.Normal.{normal_form}
use Rattle.qm_parse.proofs.OneSymbols.{OneDecimal}
use Rattle.qm_top.specs.declared.command.Command.{Command}
use Rattle.qm_top.specs.declared.command.Command.TheVariants.{Check, Gen, GenSolve, Solve}
use Rattle.qm_top.specs.Words.{Asks}
use Rattle.qm_top.specs.Lines.{line}
use Rattle.qm_top.specs.Readings.{IsUnread, Reading, Readings, reading}
use Rattle.qm_top.specs.Completeness.{IsDue, IsDueByCheck, IsDueChecked, IsDueMade, IsDueSolved, IsDueTo, IsNoMemory, IsReport}
use Rattle.qm_top.specs.Answers.{Checks, ChecksProblem, Claims, IsAnswer, Makes, Solves, SolvesMade, SolvesProblem, Summarizes, checked, claimed, generated, left, made, made_and_solved, misused, no_room_for_answer, no_room_for_text, solved, spent, spent_on, summed}
use Rattle.qm_top.specs.declared.report.Report.{Report}
use Rattle.qm_top.specs.FaultLines.{TellsNormal}
use Rattle.qm_top.specs.Refusals.{Refuses, beyond}
use Rattle.qm_top.specs.Report.{status_of, text_of}
use Rattle.qm_top.proofs.Checked as checking
use Rattle.qm_top.proofs.OneCommand.{one_command}
use Rattle.qm_top.proofs.Telling.{text_due}

-- a fact of the value in an Ok leads to another
pub IfOk-map : {T E : Type 0} (P Q : T → Type 0) (r : Result T E) → ((x : T) → P x → Q x) → IfOk r P → IfOk r Q
IfOk-map P Q (Ok x) f h = f x h
IfOk-map P Q (Err e) f h = tt

-- without continuous variables no number leaves
whole_problem : (P : Problem) (nodes status : ℕ) (text : List ℕ) → P.wholes ≡ length P.vars → SolvesProblem P nodes status text → status ≢ 7
whole_problem P nodes status text whole (claimed claims is) seven = omega (arith, is, seven)
whole_problem P nodes status text whole (left leave right is told) seven = omega (arith, whole, right.continuous)
whole_problem P nodes status text whole (spent entries spends is told) seven = omega (arith, is, seven)

-- a lawful journal has fewer entries than are enough
ample_problem : (P : Problem) (nodes status : ℕ) (text : List ℕ) → enough P ≤ nodes → SolvesProblem P nodes status text → status ≢ 8
ample_problem P nodes status text ample (claimed claims is) eight = omega (arith, is, eight)
ample_problem P nodes status text ample (left leave right is told) eight = omega (arith, is, eight)
ample_problem P nodes status text ample (spent entries spends is told) eight =
    let few : length entries < enough P = lawful_below_enough P entries spends.lawful.lawful in
    let all : length entries ≡ nodes = spends.spent in
    omega (arith, few, all, ample)

sure_problem : (P : Problem) (nodes status : ℕ) (text : List ℕ) → P.wholes ≡ length P.vars → enough P ≤ nodes → SolvesProblem P nodes status text → (status ≡ 0) × Claims P text
sure_problem P nodes status text whole ample (claimed claims is) = (is, claims)
sure_problem P nodes status text whole ample (left leave right is told) = absurd (whole_problem P nodes status text whole (left leave right is told) is)
sure_problem P nodes status text whole ample (spent entries spends is told) = absurd (ample_problem P nodes status text ample (spent entries spends is told) is)

-- what is due to a problem that is solved, or memory ran out
problem_due : (P : Problem) (nodes status : ℕ) (text : List ℕ) → SolvesProblem P nodes status text ⊎ IsNoMemory status text → IsDueSolved P nodes status text
problem_due P nodes status text (inl solves) = record {
  solved = inl solves;
  whole = λ all. whole_problem P nodes status text all solves;
  ample = λ many. ample_problem P nodes status text many solves;
  sure = λ all many. inl (sure_problem P nodes status text all many solves);
}
problem_due P nodes status text (inr memory) = record {
  solved = inr memory;
  whole = λ all seven. omega (arith, memory.0, seven);
  ample = λ many eight. omega (arith, memory.0, eight);
  sure = λ all many. inr memory;
}

-- a text that was made is answered, or memory ran out
text_made : (number size status : ℕ) (text : List ℕ) → Makes number size status text → IsReport 0 (generated_text number size) status text ⊎ IsNoMemory status text
text_made number size status text (made is told) = inl (is, told)
text_made number size status text (no_room_for_text is line) = inr (is, line)

-- a lawful journal has fewer entries than are enough, so a budget of as many isn't spent
sure_made : (P : Problem) (status : ℕ) (text : List ℕ) → enough P ≤ 1000000 → SolvesMade P status text → ((status ≡ 0) × Summarizes P 1000000 text) ⊎ IsNoMemory status text
sure_made P status text ample (summed summary is) = inl (is, summary)
sure_made P status text ample (spent_on entries spends is told) = absurd (ample_problem P 1000000 status text ample (spent entries spends is told) is)
sure_made P status text ample (no_room_for_answer is line) = inr (is, line)

problem_made : (P : Problem) (status : ℕ) (text : List ℕ) → SolvesMade P status text → IsDueMade P status text
problem_made P status text solves = record { some = solves; sure = λ ample. sure_made P status text ample solves }

-- What is answered to a command is due to the words, where it is due to this command: words ask for no other.
due_to : (words : List (List ℕ)) (read : Readings) (status : ℕ) (text : List ℕ) (command : Command) → Asks command words
    → ((nodes : ℕ) (bytes : List ℕ) → command ≡ Solve nodes → read.problem.before ≡ Some bytes → ¬ Rose read.problem.faults_before read.problem.faults_after → IsDue bytes nodes status text)
    → ((bytes : List ℕ) → command ≡ Check → read.problem.before ≡ Some bytes → ¬ Rose read.problem.faults_before read.problem.faults_after → IsDueByCheck read.certificate bytes status text)
    → ((number size : ℕ) → command ≡ Gen number size → IsReport 0 (generated_text number size) status text ⊎ IsNoMemory status text)
    → ((number size : ℕ) → command ≡ GenSolve number size → IsDueMade (generated_problem number size) status text)
    → IsDueTo words read.problem read.certificate status text
due_to words read status text command asks solve check gen gen_solve = record {
  misused = λ no. absurd (no command asks);
  solve = λ nodes bytes also told still. solve nodes bytes (one_command words command (Solve nodes) asks also) told still;
  check = λ bytes also told still. check bytes (one_command words command Check asks also) told still;
  gen = λ number size also. gen number size (one_command words command (Gen number size) asks also);
  gen_solve = λ number size also. gen_solve number size (one_command words command (GenSolve number size) asks also);
}

solved_due : OneDecimal → (words : List (List ℕ)) (read : Readings) (status : ℕ) (text : List ℕ) (nodes : ℕ) → Asks (Solve nodes) words → Solves read.problem nodes status text
    → IsDueTo words read.problem read.certificate status text
solved_due law words read status text nodes asks solves =
    let due : (bytes : List ℕ) → read.problem.before ≡ Some bytes → ¬ Rose read.problem.faults_before read.problem.faults_after → IsDue bytes nodes status text =
    λ bytes told still. text_due law (Unit {0}) (λ P. SolvesProblem P nodes) bytes status text (λ P. IsDueSolved P nodes status text) read.problem told still solves (λ P. problem_due P nodes status text) in
    due_to words read status text (Solve nodes) asks
    (λ others bytes is told still. let same : nodes ≡ others = cc in subst (λ n. IsDue bytes n status text) same (due bytes told still))
    (λ bytes is. cc)
    (λ number size is. cc)
    (λ number size is. cc)

checked_due : OneDecimal → (words : List (List ℕ)) (read : Readings) (status : ℕ) (text : List ℕ) → Asks Check words → Checks read.problem read.certificate status text
    → IsDueTo words read.problem read.certificate status text
checked_due law words read status text asks checks =
    due_to words read status text Check asks
    (λ nodes bytes is told still. cc)
    (λ bytes is told still.
    text_due law (IsUnread read.certificate) (ChecksProblem read.certificate) bytes status text
    (λ P. (others : List ℕ) → read.certificate.before ≡ Some others → ¬ Rose read.certificate.faults_before read.certificate.faults_after → IsDueChecked P others status text)
    read.problem told still checks
    (λ P answer others comes calm. checking.problem_due P read.certificate status text others comes calm answer))
    (λ number size is. cc)
    (λ number size is. cc)

made_due : (words : List (List ℕ)) (read : Readings) (status : ℕ) (text : List ℕ) (number size : ℕ) → Asks (Gen number size) words → Makes number size status text
    → IsDueTo words read.problem read.certificate status text
made_due words read status text number size asks makes =
    due_to words read status text (Gen number size) asks
    (λ nodes bytes is told still. cc)
    (λ bytes is. cc)
    (λ other another is.
    let numbers : number ≡ other = cc in
    let sizes : size ≡ another = cc in
    text_made other another status text (subst (λ n. Makes other n status text) sizes (subst (λ n. Makes n size status text) numbers makes)))
    (λ other another is. cc)

made_and_solved_due : (words : List (List ℕ)) (read : Readings) (status : ℕ) (text : List ℕ) (number size : ℕ) → Asks (GenSolve number size) words
    → SolvesMade (generated_problem number size) status text → IsDueTo words read.problem read.certificate status text
made_and_solved_due words read status text number size asks solves =
    due_to words read status text (GenSolve number size) asks
    (λ nodes bytes is told still. cc)
    (λ bytes is. cc)
    (λ other another is. cc)
    (λ other another is.
    let numbers : number ≡ other = cc in
    let sizes : size ≡ another = cc in
    let same : generated_problem number size ≡ generated_problem other another = ap (λ n. generated_problem n size) numbers ∙ ap (λ n. generated_problem other n) sizes in
    problem_made (generated_problem other another) status text (subst (λ P. SolvesMade P status text) same solves))

complete_answer : OneDecimal → (words : List (List ℕ)) (read : Readings) (status : ℕ) (text : List ℕ) → IsAnswer words read status text → IsDueTo words read.problem read.certificate status text
complete_answer law words read status text (misused none unread is line) = record {
  misused = λ no. (is, line);
  solve = λ nodes bytes asks told still. absurd (none (Solve nodes) asks);
  check = λ bytes asks told still. absurd (none Check asks);
  gen = λ number size asks. absurd (none (Gen number size) asks);
  gen_solve = λ number size asks. absurd (none (GenSolve number size) asks);
}
complete_answer law words read status text (solved nodes asks others solves) = solved_due law words read status text nodes asks solves
complete_answer law words read status text (checked asks unread checks) = checked_due law words read status text asks checks
complete_answer law words read status text (generated number size asks unread makes) = made_due words read status text number size asks makes
complete_answer law words read status text (made_and_solved number size asks unread solves) = made_and_solved_due words read status text number size asks solves

-- a source that wasn't read, by what it told before
abbrev pub unread : Option (List ℕ) → ℕ → Reading
unread before faults = reading before before faults faults

-- the sink took the text of a report
pub complete_report : OneDecimal → (before after : Option (List ℕ)) (words : List (List ℕ)) (read : Readings) (status due : ℕ) (text : List ℕ)
    → IsAnswer words read due text → status ≡ due → Appends before after text
    → (taken : List ℕ) × Appends before after taken × IsDueTo words read.problem read.certificate status taken
complete_report law before after words read status due text answer is taken =
    (text, taken, complete_answer law words read status text (subst (λ n. IsAnswer words read n text) (sym is) answer))

-- a fault of scope or of a limit that is told isn't want of memory
told_form : (ast : Ast) (fault : NormalFault) (status : ℕ) (text : List ℕ) → Gives (Err fault) (normal_form ast) → TellsNormal fault status text → normal_form ast ≡ Err fault
told_form ast (normal.ContinuousUniversal name at) status text given tells = given
told_form ast (normal.ContinuousEarly name at) status text given tells = given
told_form ast (normal.ExistsInUncertainty name at) status text given tells = given
told_form ast (normal.Many counted n) status text given tells = given
told_form ast (normal.Domain name) status text given tells = given
told_form ast (normal.Wide which) status text given tells = given
told_form ast normal.Memory status text given tells = absurd tells

pub refused_beyond : (bytes : List ℕ) (tokens : List Token) (ast : Ast) (fault : NormalFault) → AreTokens bytes tokens → IsParsed bytes tokens (Ok ast) → Gives (Err fault) (normal_form ast)
    → (status : ℕ) (text : List ℕ) → TellsNormal fault status text → Refuses bytes status text
refused_beyond bytes tokens ast fault cut parsed given status text tells = beyond tokens ast fault cut parsed (told_form ast fault status text given tells) tells

-- a report, by its status and its text
abbrev pub Reports : (ℕ → List ℕ → Type 0) → Report → Type 0
Reports P report = P (status_of report) (text_of report)
