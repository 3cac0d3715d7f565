-- What is answered of a line.
use Rattle.std.specs.Prelude.{◌≡◌, List, [], ◌∷◌, ◌++◌, ℕ, Result, Ok, Err}
use Rattle.qm_model.specs.declared.game.Problem.{Problem}
use Rattle.qm_trees.specs.declared.rule.Rule.TheVariants as broken
use Rattle.qm_trees.specs.Verdicts.{Verdict, Fine, Broken, Left}
use Rattle.qm_certfile.specs.Styles.{first_style}
use Rattle.qm_certread.specs.declared.fault.Unread.{Unread}
use Rattle.qm_certread.specs.declared.fault.Unread.TheVariants as unread
use Rattle.qm_certread.specs.Pieces.{words_of}
use Rattle.qm_certread.specs.Forms.{rule_of, said_at}
use Rattle.qm_certread.specs.Tasks.{Task, due_of, follow}
use Rattle.qm_certread.specs.FirstFault.{rule_at}
use Rattle.qm_check.specs.declared.fault.Fault.{Fault}
use Rattle.qm_check.specs.declared.fault.Fault.TheVariants as fault

abbrev pub fault_of : Unread → Fault
fault_of (unread.Misread misread) = fault.Broken (rule_of misread)
fault_of unread.Memory = fault.Memory

-- a line is taken that is right, or its fault is answered, or memory ran out
abbrev pub IsJudged : {A : Type 0} → Verdict → Result A Fault → Type 0
IsJudged verdict (Ok a) = verdict ≡ Fine 1
IsJudged verdict (Err (fault.Broken rule)) = verdict ≡ Broken rule 0
IsJudged verdict (Err (fault.Leaves leaves)) = verdict ≡ Left leaves 0
IsJudged verdict (Err fault.Memory) = Unit {0}

-- a line where this is the task: its form, and then its rule
abbrev pub line_verdict : Problem → Task → List ℕ → Verdict
line_verdict P task line = elim (said_at first_style P (due_of task) (words_of line)) [ Ok node ↦ rule_at P [] [] task node | Err r ↦ Broken (rule_of r) 0 ]

-- the tasks behind it
abbrev pub tasks_behind : Problem → Task → List ℕ → List Task → List Task
tasks_behind P task line tasks = elim (said_at first_style P (due_of task) (words_of line)) [ Ok node ↦ follow first_style P task node ++ tasks | Err r ↦ tasks ]

-- the same where there may be no task
abbrev pub next_verdict : Problem → List Task → List ℕ → Verdict
next_verdict P [] line = Broken broken.Text 0
next_verdict P (task ∷ tasks) line = line_verdict P task line

abbrev pub next_tasks : Problem → List Task → List ℕ → List Task
next_tasks P [] line = []
next_tasks P (task ∷ tasks) line = tasks_behind P task line tasks
