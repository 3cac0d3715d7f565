-- The judgement of a certificate in the order of its text, and what the first fault of a text has to do with it.
use Rattle.std.specs.Prelude.{◌≡◌, ℕ, ℤ, List, [], ◌∷◌, ◌++◌, Ok, drop}
use Rattle.qm_math.specs.Fraction.{Fraction}
use Rattle.qm_model.specs.declared.row.Row.{Row}
use Rattle.qm_model.specs.declared.range.Range.{Range}
use Rattle.qm_model.specs.declared.game.Problem.{Problem}
use Rattle.qm_model.specs.Boxes.{whole_box_of}
use Rattle.qm_model.specs.Goals.{Goal}
use Rattle.qm_model.specs.Goals as goal
use Rattle.qm_model.specs.Plays.{whole_vars}
use Rattle.qm_trees.specs.declared.rule.Rule.TheVariants as broken
use Rattle.qm_trees.specs.declared.empty.Empty.{Empty as EmptyTree}
use Rattle.qm_trees.specs.declared.policy.Policy.{Policy as Moving}
use Rattle.qm_trees.specs.declared.refutation.Refute.{Refute as Refutation}
use Rattle.qm_trees.specs.Verdicts.{Verdict, Fine, line, ◌then◌}
use Rattle.qm_trees.specs.Passing.{IsFine}
use Rattle.qm_trees.specs.EmptyJudgement.{judge_empty}
use Rattle.qm_trees.specs.PolicyJudgement.{judge_policy}
use Rattle.qm_trees.specs.RefuteJudgement.{Head, judge_refute}
use Rattle.qm_certfile.specs.declared.certificate.Certificate.{Certificate}
use Rattle.qm_certfile.specs.declared.certificate.Certificate.TheVariants as ending
use Rattle.qm_certfile.specs.CertificateLines.{certificate_text}
use Rattle.qm_certfile.specs.Lines.{text_of}
use Rattle.qm_certfile.specs.Passes.{Passes}
use Rattle.qm_certfile.specs.Styles.{first_style}
use Rattle.qm_certfile.specs.TreeLines.{empty_lines, policy_lines, refute_lines}
use Rattle.qm_certread.specs.Pieces.{lines_of}
use Rattle.qm_certread.specs.Dues as due
use Rattle.qm_certread.specs.Fits.{AreFit, Fits}
use Rattle.qm_certread.specs.NodesOf.{empty_nodes, policy_nodes, refute_nodes}
use Rattle.qm_certread.specs.Tasks.{Task, Policy, Empty, Refute}
use Rattle.qm_certread.specs.FirstFault.{first_fault, is_play, judge_lines}

-- ---- certificates

-- the values of a universal play
abbrev pub judge_play : Problem → List ℤ → Verdict
judge_play P values = line broken.Legal (Ok (is_play P values))

-- `refute`, the refutation of the goal over the whole box, and `end`
abbrev pub judge_refuted : Problem → Goal → Refutation → Verdict
judge_refuted P G tree = (Fine 1) then judge_refute P [] [] G (whole_vars P) 0 (whole_box_of P.vars) tree then (Fine 1)

-- line by line: the claim and the version, and then what shows the claim
abbrev pub judge_certificate : Problem → Certificate → Verdict
judge_certificate P (ending.Optimal value legal policy refute) =
    (Fine 2) then judge_play P legal then (Fine 1) then judge_policy P value (whole_vars P) 0 (whole_box_of P.vars) policy then judge_refuted P (goal.Above value) refute
judge_certificate P (ending.Infeasible legal refute) = (Fine 2) then judge_play P legal then judge_refuted P goal.Any refute
judge_certificate P (ending.Empty tree) = (Fine 3) then judge_empty P (whole_vars P) 0 (whole_box_of P.vars) tree then (Fine 1)

-- ---- a tree's text is judged as the tree is, and what stands behind it as if it stood alone

abbrev pub judge_text : Problem → List Row → List Head → List Task → List ℕ → Verdict
judge_text P cuts heads tasks text = judge_lines first_style P cuts heads tasks (lines_of text)

abbrev pub PoliciesAreJudged : Problem → List Row → List Head → Type 0
PoliciesAreJudged P cuts heads =
    (value : Fraction) (depth : ℕ) (bx : List Range) (policy : Moving) (tasks : List Task) (behind : List ℕ) → AreFit P (due.Policy depth ∷ []) (policy_nodes policy)
    → judge_text P cuts heads (Policy value depth bx ∷ tasks) (text_of (policy_lines first_style policy depth) ++ behind)
    ≡ judge_policy P value (drop depth (whole_vars P)) depth bx policy then judge_text P cuts heads tasks behind

abbrev pub RefutationsAreJudged : Problem → List Row → List Head → Type 0
RefutationsAreJudged P cuts heads =
    (G : Goal) (depth : ℕ) (bx : List Range) (tree : Refutation) (tasks : List Task) (behind : List ℕ) → AreFit P (due.Refute depth ∷ []) (refute_nodes tree)
    → judge_text P cuts heads (Refute G depth bx ∷ tasks) (text_of (refute_lines first_style tree depth) ++ behind)
    ≡ judge_refute P cuts heads G (drop depth (whole_vars P)) depth bx tree then judge_text P cuts heads tasks behind

abbrev pub EmptyTreesAreJudged : Problem → List Row → List Head → Type 0
EmptyTreesAreJudged P cuts heads =
    (position : ℕ) (bx : List Range) (tree : EmptyTree) (tasks : List Task) (behind : List ℕ) → AreFit P (due.Empty position ∷ []) (empty_nodes tree)
    → judge_text P cuts heads (Empty position bx ∷ tasks) (text_of (empty_lines first_style tree position) ++ behind)
    ≡ judge_empty P (drop position (whole_vars P)) position bx tree then judge_text P cuts heads tasks behind

abbrev pub CertificatesAreJudged : Problem → Type 0
CertificatesAreJudged P = (certificate : Certificate) → Fits P certificate → first_fault P (certificate_text P certificate) ≡ judge_certificate P certificate

-- ---- texts without fault

-- the text is that of a certificate that passes
abbrev pub IsOfPassing : Problem → List ℕ → Type 0
IsOfPassing P text = (certificate : Certificate) × Passes P certificate × (certificate_text P certificate ≡ text)

-- and that fits the game
abbrev pub IsOfPassingFit : Problem → List ℕ → Type 0
IsOfPassingFit P text = (certificate : Certificate) × Fits P certificate × Passes P certificate × (certificate_text P certificate ≡ text)

abbrev pub HasNoFault : Problem → List ℕ → Type 0
HasNoFault P text = IsFine (first_fault P text)
