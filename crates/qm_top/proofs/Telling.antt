-- What is told of sources and of the bytes of problems.
use Rattle.std.proofs.Common.{◌≡◌, ◌⊎◌, ◌<◌, ◌≤◌, ◌+◌, ℕ, List, ◌++◌, Option, Some, None, append-nil, inl, inr, arith, length, length-append, ap, subst, sym, ◌∙◌}
use Rattle.std.specs.Prelude.{codes}
use Rattle.std.specs.Io.KnownBytes.{Consumes, IsAtEnd}
use Rattle.qm_io.specs.Causes.{Rose}
use Rattle.qm_model.specs.declared.game.Problem.{Problem}
use Rattle.qm_normal.specs.Stated.{States}
use Rattle.qm_normal.proofs.StatedOnce.{one_problem}
use Rattle.qm_parse.proofs.OneSymbols.{OneDecimal}
use Rattle.qm_top.specs.Answers.{TellsProblem, TellsText, out_of_memory, refused, stated}
use Rattle.qm_top.specs.Completeness.{IsDueText, IsNoMemory, IsReport}
use Rattle.qm_top.specs.Lines.{line}
use Rattle.qm_top.specs.Readings.{Reading, Tells, failed, longer, no_room, whole_text}
use Rattle.qm_top.specs.Refusals.{Refuses}
use Rattle.qm_top.specs.declared.stated.Stated.{Stated}
use Rattle.qm_top.specs.declared.stated.Stated.TheVariants as stating
use Rattle.qm_top.specs.declared.report.Report.{Report}
use Rattle.qm_top.specs.Report.{status_of, text_of}
use Rattle.qm_top.specs.Stating.{IsStated}
use Rattle.qm_top.proofs.Refusals.{AreSame, not_refused, one_refusal}

-- what was read to its end is all that there was
all_read : (before after : Option (List ℕ)) (bytes told : List ℕ) → before ≡ Some told → Consumes before after bytes → IsAtEnd after → told ≡ bytes
all_read None after bytes told is came end = cc
all_read (Some xs) None bytes told is came end = absurd came
all_read (Some xs) (Some ys) bytes told is came end =
    let same : told ≡ xs = cc in
    same ∙ came ∙ ap (λ rest. bytes ++ rest) end ∙ append-nil bytes

-- what came is no longer than what there was
no_more : (before after : Option (List ℕ)) (bytes told : List ℕ) → before ≡ Some told → Consumes before after bytes → length bytes ≤ length told
no_more None after bytes told is came = cc
no_more (Some xs) None bytes told is came = absurd came
no_more (Some xs) (Some ys) bytes told is came =
    let same : told ≡ bytes ++ ys = cc in
    omega (arith, ap length same, length-append bytes ys)

module _ (name : List ℕ) (most : ℕ) (Behind : Type 0) (OfBytes : List ℕ → ℕ → List ℕ → Type 0) (read : Reading) (status : ℕ) (text bytes : List ℕ) where
  -- what was told and came to its end is answered as a whole, or memory ran out
  pub text_told : read.before ≡ Some bytes → length bytes ≤ most → ¬ Rose read.faults_before read.faults_after → Tells name most Behind OfBytes read status text
      → OfBytes bytes status text ⊎ IsNoMemory status text
  text_told told short still (whole_text came consumed end fits answer) =
      inl (subst (λ bs. OfBytes bs status text) (sym (all_read read.before read.after came bytes told consumed end)) answer)
  text_told told short still (longer came consumed long behind is line) = absurd (omega (arith, no_more read.before read.after came bytes told consumed, short, long))
  text_told told short still (failed some rose behind is line) = absurd (still rose)
  text_told told short still (no_room some behind is line) = inr (is, line)

  -- bytes beyond the limit are told to be, or memory ran out
  pub length_told : read.before ≡ Some bytes → most < length bytes → ¬ Rose read.faults_before read.faults_after → Tells name most Behind OfBytes read status text
      → IsReport 6 (line (codes "limit " ++ name)) status text ⊎ IsNoMemory status text
  length_told told long still (whole_text came consumed end fits answer) =
      absurd (omega (arith, ap length (all_read read.before read.after came bytes told consumed end), long, fits))
  length_told told long still (longer came consumed more behind is line) = inl (is, line)
  length_told told long still (failed some rose behind is line) = absurd (still rose)
  length_told told long still (no_room some behind is line) = inr (is, line)

module _ (law : OneDecimal) (Behind : Type 0) (OfProblem : Problem → ℕ → List ℕ → Type 0) (bytes : List ℕ) (status : ℕ) (text : List ℕ) where
  -- the problem that is answered is the one that the bytes state
  stated_answered : (P : Problem) → States bytes P → TellsText Behind OfProblem bytes status text ⊎ IsNoMemory status text → OfProblem P status text ⊎ IsNoMemory status text
  stated_answered P states (inl (stated Q also answer)) = inl (subst (λ R. OfProblem R status text) (one_problem law bytes Q P also states) answer)
  stated_answered P states (inl (refused refusal behind)) = absurd (not_refused law bytes P status text states refusal)
  stated_answered P states (inl (out_of_memory behind is line)) = inr (is, line)
  stated_answered P states (inr memory) = inr memory

  refused_answered : (due : ℕ) (told : List ℕ) → Refuses bytes due told → TellsText Behind OfProblem bytes status text ⊎ IsNoMemory status text → AreSame status due text told ⊎ IsNoMemory status text
  refused_answered due told refusal (inl (stated P states answer)) = absurd (not_refused law bytes P due told states refusal)
  refused_answered due told refusal (inl (refused also behind)) = inl (one_refusal law bytes status due text told also refusal)
  refused_answered due told refusal (inl (out_of_memory behind is line)) = inr (is, line)
  refused_answered due told refusal (inr memory) = inr memory

  -- What is told of a problem's bytes that were told, where what is told of a problem, or want of memory, is due to it.
  pub text_due : (Due : Problem → Type 0) (read : Reading) → read.before ≡ Some bytes → ¬ Rose read.faults_before read.faults_after → TellsProblem Behind OfProblem read status text
      → ((P : Problem) → OfProblem P status text ⊎ IsNoMemory status text → Due P) → IsDueText Due bytes status text
  text_due Due read told still tells due =
      let answer : length bytes ≤ 4194304 → TellsText Behind OfProblem bytes status text ⊎ IsNoMemory status text =
      λ short. text_told (codes "problem") 4194304 Behind (TellsText Behind OfProblem) read status text bytes told short still tells in
      record {
        long = λ many. length_told (codes "problem") 4194304 Behind (TellsText Behind OfProblem) read status text bytes told many still tells;
        stated = λ P short states. due P (stated_answered P states (answer short));
        refused = λ other why short refusal. refused_answered other why refusal (answer short);
      }

-- what bytes come to, where they are lent
pub lent : (bytes others : List ℕ) (told case : Stated) → others ≡ bytes → told ≡ case → IsStated others told → IsStated bytes case
lent bytes others told case same is states = subst (λ t. IsStated bytes t) is (subst (λ bs. IsStated bs told) same states)

module _ (Behind : Type 0) (OfProblem : Problem → ℕ → List ℕ → Type 0) (bytes others : List ℕ) (told : Stated) where
  -- what is answered about bytes, by what they come to
  pub refused_told : (report : Report) → others ≡ bytes → told ≡ stating.Refused report → IsStated others told → Behind
      → TellsText Behind OfProblem bytes (status_of report) (text_of report)
  refused_told report same is states behind = refused (lent bytes others told (stating.Refused report) same is states) behind

  pub game_told : (P : Problem) → others ≡ bytes → told ≡ stating.Game P → IsStated others told → (status : ℕ) (text : List ℕ) → OfProblem P status text → TellsText Behind OfProblem bytes status text
  game_told P same is states status text solves = stated P (lent bytes others told (stating.Game P) same is states) solves
