-- The text of a certificate, piece by piece.
use Rattle.std.proofs.Common.{◌≡◌, ℕ, ℤ, List, [], ◌∷◌, ◌++◌, append_assoc, refl, sym, ap, ◌∙◌}
use Rattle.std.specs.Prelude.{codes}
use Rattle.qm_math.specs.Fraction.{Fraction}
use Rattle.qm_model.specs.declared.game.Problem.{Problem}
use Rattle.qm_trees.specs.declared.empty.Empty.{Empty as Tree}
use Rattle.qm_trees.specs.declared.policy.Policy.{Policy}
use Rattle.qm_trees.specs.declared.refutation.Refute.{Refute}
use Rattle.qm_certfile.specs.declared.certificate.Certificate.{Certificate}
use Rattle.qm_certfile.specs.declared.certificate.Certificate.TheVariants.{Optimal, Infeasible, Empty}
use Rattle.qm_text.specs.Numbers.{number_word}
use Rattle.qm_certfile.specs.Lines.{Line, line_text, text_of}
use Rattle.qm_certfile.specs.Styles.{first_style}
use Rattle.qm_certfile.specs.TreeLines.{illegal_lines, policy_lines, refute_lines}
use Rattle.qm_certfile.specs.CertificateLines.{alone, certificate_lines, certificate_text, claimed, legal_line, version_line}
use Rattle.qm_certfile.proofs.LineTexts.{text_of_append, wrote}

pub text_is : (P : Problem) (certificate : Certificate) → certificate_text P certificate ≡ text_of (certificate_lines first_style P certificate)
unfolding certificate_text
text_is P certificate = refl

-- the refutation and the last line
abbrev pub last_lines : Refute → List Line
last_lines refute = alone (codes "refute") ∷ refute_lines first_style refute 0 ++ alone (codes "end") ∷ []

pub refutation_wrote : (refute : Refute) (old first behind new : List ℕ) → first ≡ old ++ line_text (alone (codes "refute"))
    → ((place : ℕ) → behind ≡ first ++ text_of (refute_lines first_style refute place)) → new ≡ behind ++ line_text (alone (codes "end"))
    → new ≡ old ++ text_of (last_lines refute)
refutation_wrote refute old first behind new e f g =
    wrote old first new (line_text (alone (codes "refute"))) (text_of (refute_lines first_style refute 0 ++ alone (codes "end") ∷ [])) (text_of (last_lines refute)) e
    (wrote first behind new (text_of (refute_lines first_style refute 0)) (text_of (alone (codes "end") ∷ [])) (text_of (refute_lines first_style refute 0 ++ alone (codes "end") ∷ [])) (f 0) g
    (text_of_append (refute_lines first_style refute 0) (alone (codes "end") ∷ [])))
    refl

-- the lines of the version and of the universal play
abbrev pub begin_lines : List ℤ → List Line
begin_lines legal = version_line first_style ∷ legal_line first_style legal ∷ []

pub infeasible_wrote : (P : Problem) (certificate : Certificate) (legal : List ℤ) (refute : Refute) (old first begun new : List ℕ) → certificate ≡ Infeasible legal refute
    → first ≡ old ++ line_text (alone (codes "infeasible")) → begun ≡ first ++ text_of (begin_lines legal) → new ≡ begun ++ text_of (last_lines refute)
    → new ≡ old ++ certificate_text P certificate
infeasible_wrote P certificate legal refute old first begun new is e f g =
    wrote old first new (line_text (alone (codes "infeasible"))) (text_of (begin_lines legal ++ last_lines refute)) (text_of (certificate_lines first_style P (Infeasible legal refute))) e
    (wrote first begun new (text_of (begin_lines legal)) (text_of (last_lines refute)) (text_of (begin_lines legal ++ last_lines refute)) f g (text_of_append (begin_lines legal) (last_lines refute)))
    refl
    ∙ ap (λ t. old ++ t) (sym (text_is P (Infeasible legal refute)) ∙ sym (ap (certificate_text P) is))

pub optimal_wrote : (P : Problem) (certificate : Certificate) (value : Fraction) (legal : List ℤ) (policy : Policy) (refute : Refute) (old first begun named chosen new : List ℕ)
    → certificate ≡ Optimal value legal policy refute
    → first ≡ old ++ line_text (codes "optimal" ∷ number_word (claimed P.sense value) ∷ []) → begun ≡ first ++ text_of (begin_lines legal)
    → named ≡ begun ++ line_text (alone (codes "policy")) → ((place : ℕ) → chosen ≡ named ++ text_of (policy_lines first_style policy place)) → new ≡ chosen ++ text_of (last_lines refute)
    → new ≡ old ++ certificate_text P certificate
optimal_wrote P certificate value legal policy refute old first begun named chosen new is e f g h k =
    let line = codes "optimal" ∷ number_word (claimed P.sense value) ∷ [] in
    let moves = policy_lines first_style policy 0 ++ last_lines refute in
    let below = alone (codes "policy") ∷ moves in
    wrote old first new (line_text line) (text_of (begin_lines legal ++ below)) (text_of (certificate_lines first_style P (Optimal value legal policy refute))) e
    (wrote first begun new (text_of (begin_lines legal)) (text_of below) (text_of (begin_lines legal ++ below)) f
    (wrote begun named new (line_text (alone (codes "policy"))) (text_of moves) (text_of below) g
    (wrote named chosen new (text_of (policy_lines first_style policy 0)) (text_of (last_lines refute)) (text_of moves) (h 0) k (text_of_append (policy_lines first_style policy 0) (last_lines refute)))
    refl)
    (text_of_append (begin_lines legal) below))
    (ap (λ ls. text_of (line ∷ begin_lines legal ++ alone (codes "policy") ∷ ls))
    (append_assoc (policy_lines first_style policy 0) (alone (codes "refute") ∷ refute_lines first_style refute 0) (alone (codes "end") ∷ [])))
    ∙ ap (λ t. old ++ t) (sym (text_is P (Optimal value legal policy refute)) ∙ sym (ap (certificate_text P) is))

-- the lines of the certificate that there is no universal play
abbrev pub no_play_lines : Tree → List Line
no_play_lines tree = alone (codes "empty") ∷ version_line first_style ∷ illegal_lines first_style tree 0 ++ alone (codes "end") ∷ []

pub no_play_wrote : (tree : Tree) (old first second behind new : List ℕ) → first ≡ old ++ line_text (alone (codes "empty")) → second ≡ first ++ line_text (version_line first_style)
    → ((place : ℕ) → behind ≡ second ++ text_of (illegal_lines first_style tree place)) → new ≡ behind ++ line_text (alone (codes "end"))
    → new ≡ old ++ text_of (no_play_lines tree)
no_play_wrote tree old first second behind new e f g h =
    let shown = illegal_lines first_style tree 0 in
    let end = alone (codes "end") ∷ [] in
    wrote old first new (line_text (alone (codes "empty"))) (text_of (version_line first_style ∷ shown ++ end)) (text_of (no_play_lines tree)) e
    (wrote first second new (line_text (version_line first_style)) (text_of (shown ++ end)) (text_of (version_line first_style ∷ shown ++ end)) f
    (wrote second behind new (text_of shown) (text_of end) (text_of (shown ++ end)) (g 0) h (text_of_append shown end))
    refl)
    refl

pub empty_wrote : (P : Problem) (certificate : Certificate) (tree : Tree) (old new : List ℕ) → certificate ≡ Empty tree → new ≡ old ++ text_of (no_play_lines tree)
    → new ≡ old ++ certificate_text P certificate
empty_wrote P certificate tree old new is e = e ∙ ap (λ t. old ++ t) (sym (text_is P (Empty tree)) ∙ sym (ap (certificate_text P) is))
