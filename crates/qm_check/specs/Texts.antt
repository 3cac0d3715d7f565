-- What is answered of a certificate's text.
use Rattle.std.specs.Prelude.{◌≡◌, ◌<◌, ℕ, Bool, true, false, List, [], ◌∷◌, Result, Ok, Err}
use Rattle.qm_model.specs.declared.game.Problem.{Problem}
use Rattle.qm_trees.specs.Verdicts.{Verdict, Fine, Broken, Left, ◌then◌}
use Rattle.qm_certfile.specs.Styles.{first_style}
use Rattle.qm_certread.specs.declared.cursor.Cursor.{Cursor}
use Rattle.qm_certread.specs.declared.said.Claim.{Claim}
use Rattle.qm_certread.specs.Pieces.{lines_of, words_of}
use Rattle.qm_certread.specs.Forms.{claim_said}
use Rattle.qm_certread.specs.SaidSteps.{claim_node}
use Rattle.qm_certread.specs.Tasks.{Claimed, Task, follow}
use Rattle.qm_certread.specs.FirstFault.{judge_lines}
use Rattle.qm_certread.specs.ReadSteps.{IsIn, IsMissing, lines_at}
use Rattle.qm_check.specs.declared.walk.Walk.{Walk}
use Rattle.qm_check.specs.Walks.{IsWalk, tasks_of}
use Rattle.qm_check.specs.declared.text_fault.TextFault.{TextFault}
use Rattle.qm_check.specs.declared.text_fault.TextFault.TheVariants as fault

-- the first line at fault from there on, by its number
abbrev pub verdict_at : Problem → List Task → List ℕ → Cursor → Verdict
verdict_at P tasks text cursor = (Fine cursor.line) then judge_lines first_style P [] [] tasks (lines_at text cursor)

-- the line of this number is the first at fault so, or memory ran out
abbrev pub IsFault : Verdict → TextFault → Type 0
IsFault verdict (fault.Broken n rule) = verdict ≡ Broken rule n
IsFault verdict (fault.Leaves n leaves) = verdict ≡ Left leaves n
IsFault verdict fault.Memory = Unit {0}

abbrev pub IsFine : Verdict → Type 0
IsFine verdict = (n : ℕ) × (verdict ≡ Fine n)

-- no line is at fault, or the first that is is answered
abbrev pub IsAnswered : {A : Type 0} → Verdict → Result A TextFault → Type 0
IsAnswered verdict (Ok a) = IsFine verdict
IsAnswered verdict (Err e) = IsFault verdict e

-- the text's first line says this
abbrev pub IsClaimed : List (List ℕ) → Claim → Type 0
IsClaimed [] claim = ⊥
IsClaimed (line ∷ lines) claim = claim_said (words_of line) ≡ Ok (claim_node claim)

abbrev pub Claims : List ℕ → Claim → Type 0
Claims text claim = IsClaimed (lines_of text) claim

-- ---- line by line

-- a line was taken, behind which the verdict is the same, or none is left
abbrev pub TakesNext : Problem → List ℕ → Walk → Walk → Cursor → Cursor → Bool → Type 0
TakesNext P text old new here there true =
    IsIn text there × (here.at < there.at) × IsWalk P new × (verdict_at P (tasks_of old) text here ≡ verdict_at P (tasks_of new) text there)
TakesNext P text old new here there false = (there ≡ here) × (new ≡ old) × IsMissing text here

-- the first line was taken, which says this
abbrev pub TakesClaim : List ℕ → Cursor → Cursor → Claim → Type 0
TakesClaim text here there claim =
    IsIn text there × ((P : Problem) → verdict_at P (Claimed ∷ []) text here ≡ verdict_at P (follow first_style P Claimed (claim_node claim)) text there)
    × IsClaimed (lines_at text here) claim
