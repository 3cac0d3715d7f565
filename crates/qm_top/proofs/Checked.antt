-- What is told of a certificate.
use Rattle.std.proofs.Common.{◌≡◌, ◌⊎◌, ◌<◌, ◌≤◌, ◌^◌, ◌+◌, ℕ, List, [], ◌∷◌, Option, Some, Result, Ok, Err, inl, inr, arith, length, refl, ap, sym, ◌∙◌}
use Rattle.std.specs.Prelude.{codes}
use Rattle.qm_io.specs.Bytes.{TookSome}
use Rattle.qm_io.specs.Causes.{Rose}
use Rattle.qm_frac.specs.declared.leaves.Leaves.{Leaves}
use Rattle.qm_model.specs.declared.game.Problem.{Problem}
use Rattle.qm_model.specs.Sound.{IsSound}
use Rattle.qm_trees.specs.declared.rule.Rule.{Rule}
use Rattle.qm_trees.specs.Passing as passing
use Rattle.qm_trees.specs.Verdicts.{Broken, Fine, Left, Verdict as Judged, ◌then◌}
use Rattle.qm_normal.specs.Stated.{States}
use Rattle.qm_normal.proofs.StatedBounds.{stated_near, stated_sound}
use Rattle.qm_certfile.specs.declared.certificate.Certificate.{Certificate}
use Rattle.qm_certfile.specs.declared.certificate.Certificate.TheVariants as ending
use Rattle.qm_certfile.specs.CertificateLines.{certificate_text}
use Rattle.qm_certfile.specs.Passes.{Passes, ending_of}
use Rattle.qm_certfile.specs.Styles.{first_style}
use Rattle.qm_certfile.proofs.ToldEndings.{answered, told_ending}
use Rattle.qm_certread.specs.declared.said.Claim.{Claim}
use Rattle.qm_certread.specs.Dues as due
use Rattle.qm_certread.specs.FirstFault.{first_fault}
use Rattle.qm_certread.specs.Fits.{Fits, line_of}
use Rattle.qm_certread.specs.Judgements.{HasNoFault}
use Rattle.qm_certread.specs.Nodes.{Node}
use Rattle.qm_certread.specs.NodesOf.{claim_of, nodes_of}
use Rattle.qm_certread.specs.Pieces.{lines_of}
use Rattle.qm_certread.specs.Reading.{AreSaid}
use Rattle.qm_certread.specs.SaidSteps.{claim_node}
use Rattle.qm_certread.proofs.FineTexts.{few_whole, fit_is_said}
use Rattle.qm_certread.proofs.PassingFits.{short_law}
use Rattle.qm_certread.proofs.PassingTexts.{no_fault_law}
use Rattle.qm_check.specs.declared.verdict.Verdict.{Verdict}
use Rattle.qm_check.specs.declared.verdict.Verdict.TheVariants as verdict
use Rattle.qm_check.specs.declared.verdict.CheckFault.{CheckFault}
use Rattle.qm_check.specs.declared.verdict.CheckFault.TheVariants as fault
use Rattle.qm_check.specs.Checking.{IsChecked, numbered_fault}
use Rattle.qm_check.specs.Texts.{IsClaimed, IsFine}
use Rattle.qm_check.specs.Texts as first
use Rattle.qm_top.specs.Answers.{ChecksProblem, ChecksText, Claims, accepted, broken, leaving, no_room_for_verdict}
use Rattle.qm_top.specs.CheckLines.{accepted_line, leaves_line, refused_line}
use Rattle.qm_top.specs.CheckSteps.{ReportsVerdict}
use Rattle.qm_top.specs.Completeness.{IsDueChecked, IsNoMemory, IsReport}
use Rattle.qm_top.specs.EndingLines.{ending_line}
use Rattle.qm_top.specs.Lines.{line}
use Rattle.qm_top.specs.Readings.{Reading, longer, failed, no_room, whole_text}
use Rattle.qm_top.proofs.Telling.{length_told, text_told}

-- ---- texts without fault

fine_numbered : (v : Judged) → passing.IsFine v → IsFine ((Fine 1) then v)
fine_numbered (Fine n) fine = (1 + n, refl)
fine_numbered (Broken rule n) fine = absurd fine
fine_numbered (Left leaves n) fine = absurd fine

numbered_fine : (v : Judged) → IsFine ((Fine 1) then v) → passing.IsFine v
numbered_fine (Fine n) fine = tt
numbered_fine (Broken rule n) (m, is) = cc
numbered_fine (Left leaves n) (m, is) = cc

-- a certificate that passes, by its text
pub claims_of : (P : Problem) (certificate : Certificate) (text : List ℕ) → IsSound P → Passes P certificate → text ≡ certificate_text P certificate → Claims P text
claims_of P certificate text sound passes is = record {
  certificate = certificate;
  spelled = is;
  passes = passes;
  ending = told_ending P certificate sound passes;
  answers = λ us play. answered P certificate us sound passes play;
}

-- a text that is that of a certificate that passes has no fault, where it isn't too long
pub shown_has_no_fault : (bytes : List ℕ) (P : Problem) (text : List ℕ) → States bytes P → length text ≤ 268435456 → Claims P text → IsFine (numbered_fault P text)
shown_has_no_fault bytes P text states short claims =
    let few : length text < 2 ^ 32 = omega (arith, short) in
    fine_numbered (first_fault P text) ((short_law P text (stated_sound bytes P states) (stated_near bytes P states) few).1 (claims.certificate, claims.passes, sym claims.spelled))

no_fault : (P : Problem) (text : List ℕ) → IsFine (numbered_fault P text) → HasNoFault P text
no_fault P text fine = numbered_fine (first_fault P text) fine

pub no_fault_is_shown : (bytes : List ℕ) (P : Problem) (text : List ℕ) → States bytes P → IsFine (numbered_fault P text) → Claims P text
no_fault_is_shown bytes P text states fine =
    let sound = stated_sound bytes P states in
    let of = (no_fault_law P sound text).0 (no_fault P text fine) in
    claims_of P of.0 text sound of.2 (sym of.3)

-- ---- the claim of the first line

claim_said : (P : Problem) (c : Certificate) (nodes : List Node) (claim : Claim) (lines : List (List ℕ)) → AreSaid first_style P (due.Claimed ∷ []) (claim_of P c ∷ nodes) lines → IsClaimed lines claim
    → claim_node claim ≡ claim_of P c
claim_said P c nodes claim [] said claims = absurd said
claim_said P c nodes claim (l ∷ []) said claims = absurd said
claim_said P c nodes claim (l ∷ next ∷ lines) said claims =
    let both : Ok (claim_node claim) ≡ Ok (claim_of P c) = sym claims ∙ said.0 in
    cc

claim_line : (P : Problem) (c : Certificate) → line_of (claim_of P c) ≡ ending_line P.sense (ending_of c)
claim_line P (ending.Optimal value legal policy refute) = refl
claim_line P (ending.Infeasible legal refute) = refl
claim_line P (ending.Empty tree) = refl

claim_told : (P : Problem) (c : Certificate) (text : List ℕ) (claim : Claim) → IsSound P → Fits P c → certificate_text P c ≡ text → first.Claims text claim
    → line_of (claim_node claim) ≡ ending_line P.sense (ending_of c)
claim_told P c text claim sound fits is claims =
    ap line_of (claim_said P c _ claim (lines_of text) (fit_is_said P text c (few_whole P sound) fits is) claims) ∙ claim_line P c

accepted_told : (P : Problem) (bytes : List ℕ) (claim : Claim) (status : ℕ) (text : List ℕ) → IsSound P → IsFine (numbered_fault P bytes) → first.Claims bytes claim
    → status ≡ 0 → text ≡ accepted_line (line_of (claim_node claim)) → ChecksText P bytes status text
unfolding claims_of
accepted_told P bytes claim status text sound fine claims is told =
    let of = (no_fault_law P sound bytes).0 (no_fault P bytes fine) in
    accepted fine (claims_of P of.0 bytes sound of.2 (sym of.3)) is (told ∙ ap accepted_line (claim_told P of.0 bytes claim sound of.1 of.3 claims))

-- ---- what the checker told

module _ (P : Problem) (read : Reading) where
  abbrev ToldSo : Result Verdict CheckFault → Type 0
  ToldSo told = IsChecked P read.before read.after 268435456 told

  more_taken : TookSome read.before read.after 268435456 → TookSome read.before read.after (268435456 + 1)
  more_taken (bytes, came, few) = (bytes, came, omega (arith, few))

  some_taken : (told : Result Verdict CheckFault) → ToldSo told → TookSome read.before read.after (268435456 + 1)
  some_taken (Ok v) (bytes, came, end, few, is) = (bytes, came, omega (arith, few))
  some_taken (Err (fault.Leaves n leaves)) (bytes, came, end, few, is) = (bytes, came, omega (arith, few))
  some_taken (Err fault.Limit) (bytes, came, many) = (bytes, came, omega (arith, many))
  some_taken (Err fault.Read) some = more_taken some
  some_taken (Err fault.Memory) some = more_taken some

  -- where there is no memory for the line
  pub memory_told : (told : Result Verdict CheckFault) → ToldSo told → ChecksProblem read P 10 (line (codes "memory"))
  memory_told told is = no_room (some_taken told is) tt refl refl

  pub verdict_told : (told : Result Verdict CheckFault) (status : ℕ) (text : List ℕ) → IsSound P → ToldSo told → (told ≡ Err fault.Read → Rose read.faults_before read.faults_after)
      → ReportsVerdict told status text → ChecksProblem read P status text
  verdict_told (Ok (verdict.Accepted claim)) status text sound (bytes, came, end, few, is) rose (zero, told) = whole_text bytes came end few (accepted_told P bytes claim status text sound is.0 is.1 zero told)
  verdict_told (Ok (verdict.Refused number rule)) status text sound (bytes, came, end, few, is) rose (nine, told) = whole_text bytes came end few (broken number rule is nine told)
  verdict_told (Err (fault.Leaves number leaves)) status text sound (bytes, came, end, few, is) rose (seven, told) = whole_text bytes came end few (leaving number leaves is seven told)
  verdict_told (Err fault.Limit) status text sound (bytes, came, many) rose (six, told) = longer bytes came many tt six told
  verdict_told (Err fault.Read) status text sound some rose (three, told) = failed (more_taken some) (rose refl) tt three told
  verdict_told (Err fault.Memory) status text sound some rose (ten, told) = no_room (more_taken some) tt ten told

-- ---- what is due to the bytes of a certificate

module _ (P : Problem) (bytes : List ℕ) (status : ℕ) (text : List ℕ) where
  abbrev OrMemory : Type 0 → Type 0
  OrMemory Told = Told ⊎ IsNoMemory status text

  fine_due : IsFine (numbered_fault P bytes) → OrMemory (ChecksText P bytes status text)
      → OrMemory ((claims : Claims P bytes) × IsReport 0 (accepted_line (ending_line P.sense (ending_of claims.certificate))) status text)
  fine_due fine (inl (accepted also claims is told)) = inl (claims, (is, told))
  fine_due (n, fine) (inl (broken number rule at is told)) = let bad : Fine n ≡ Broken rule number = sym fine ∙ at in cc
  fine_due (n, fine) (inl (leaving number leaves at is told)) = let bad : Fine n ≡ Left leaves number = sym fine ∙ at in cc
  fine_due fine (inl (no_room_for_verdict is told)) = inr (is, told)
  fine_due fine (inr memory) = inr memory

  broken_due : (number : ℕ) (rule : Rule) → numbered_fault P bytes ≡ Broken rule number → OrMemory (ChecksText P bytes status text) → OrMemory (IsReport 9 (refused_line number rule) status text)
  broken_due number rule at (inl (accepted (n, fine) claims is told)) = let bad : Fine n ≡ Broken rule number = sym fine ∙ at in cc
  broken_due number rule at (inl (broken other another also is told)) =
      let both : Broken another other ≡ Broken rule number = sym also ∙ at in
      let rules : another ≡ rule = cc in
      let numbers : other ≡ number = cc in
      inl (is, told ∙ ap (refused_line other) rules ∙ ap (λ n. refused_line n rule) numbers)
  broken_due number rule at (inl (leaving other leaves also is told)) = let bad : Left leaves other ≡ Broken rule number = sym also ∙ at in cc
  broken_due number rule at (inl (no_room_for_verdict is told)) = inr (is, told)
  broken_due number rule at (inr memory) = inr memory

  leaving_due : (number : ℕ) (leaves : Leaves) → numbered_fault P bytes ≡ Left leaves number → OrMemory (ChecksText P bytes status text) → OrMemory (IsReport 7 (leaves_line number leaves) status text)
  leaving_due number leaves at (inl (accepted (n, fine) claims is told)) = let bad : Fine n ≡ Left leaves number = sym fine ∙ at in cc
  leaving_due number leaves at (inl (broken other rule also is told)) = let bad : Broken rule other ≡ Left leaves number = sym also ∙ at in cc
  leaving_due number leaves at (inl (leaving other another also is told)) =
      let both : Left another other ≡ Left leaves number = sym also ∙ at in
      let operations : another ≡ leaves = cc in
      let numbers : other ≡ number = cc in
      inl (is, told ∙ ap (leaves_line other) operations ∙ ap (λ n. leaves_line n leaves) numbers)
  leaving_due number leaves at (inl (no_room_for_verdict is told)) = inr (is, told)
  leaving_due number leaves at (inr memory) = inr memory

pub problem_due : (P : Problem) (read : Reading) (status : ℕ) (text bytes : List ℕ) → read.before ≡ Some bytes → ¬ Rose read.faults_before read.faults_after
    → ChecksProblem read P status text ⊎ IsNoMemory status text → IsDueChecked P bytes status text
problem_due P read status text bytes told still (inl checks) =
    let answer : length bytes ≤ 268435456 → ChecksText P bytes status text ⊎ IsNoMemory status text =
    λ short. text_told (codes "certificate") 268435456 (Unit {0}) (ChecksText P) read status text bytes told short still checks in
    record {
      long = λ many. length_told (codes "certificate") 268435456 (Unit {0}) (ChecksText P) read status text bytes told many still checks;
      accepted = λ short fine. fine_due P bytes status text fine (answer short);
      broken = λ number rule short at. broken_due P bytes status text number rule at (answer short);
      leaving = λ number leaves short at. leaving_due P bytes status text number leaves at (answer short);
    }
problem_due P read status text bytes told still (inr memory) = record {
  long = λ many. inr memory;
  accepted = λ short fine. inr memory;
  broken = λ number rule short at. inr memory;
  leaving = λ number leaves short at. inr memory;
}
