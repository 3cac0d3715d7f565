-- What is read of a certificate's text.
use Rattle.std.specs.Prelude.{◌≡◌, ◌⊎◌, ℕ, List, [], ◌∷◌, ◌++◌, Result, Ok, Err}
use Rattle.qm_model.specs.declared.game.Problem.{Problem}
use Rattle.qm_trees.specs.declared.rule.Rule.TheVariants as broken
use Rattle.qm_trees.specs.Verdicts.{Verdict, Fine, Broken, ◌then◌}
use Rattle.qm_certfile.specs.declared.certificate.Certificate.{Certificate}
use Rattle.qm_certfile.specs.Styles.{Style, first_style}
use Rattle.qm_certfile.specs.CertificateLines.{certificate_text}
use Rattle.qm_certread.specs.declared.fault.CertFault.{CertFault}
use Rattle.qm_certread.specs.declared.fault.CertFault.TheVariants as fault
use Rattle.qm_certread.specs.Pieces.{words_of}
use Rattle.qm_certread.specs.Nodes.{Node}
use Rattle.qm_certread.specs.Dues.{Due, after}
use Rattle.qm_certread.specs.Forms.{certificate_form, said_at}
use Rattle.qm_certread.specs.Fits.{Fits}

-- What is answered is the first line that isn't in form, by its number from 1, or a certificate where there is none; or
-- memory ran out.
abbrev pub IsFirstFault : Verdict → Result Certificate CertFault → Type 0
IsFirstFault form (Ok certificate) = (n : ℕ) × (form ≡ Fine n)
IsFirstFault form (Err (fault.Text n)) = (Fine 1) then form ≡ Broken broken.Text n
IsFirstFault form (Err (fault.Number n)) = (Fine 1) then form ≡ Broken broken.Number n
IsFirstFault form (Err fault.Memory) = Unit {0}

-- where these are due, the lines say these nodes, one after another, and then the text ends
abbrev pub AreSaid : Style → Problem → List Due → List Node → List (List ℕ) → Type 0
AreSaid style P dues nodes [] = ⊥
AreSaid style P [] [] (rest ∷ []) = rest ≡ []
AreSaid style P [] [] (line ∷ next ∷ lines) = ⊥
AreSaid style P [] (node ∷ nodes) (line ∷ lines) = ⊥
AreSaid style P (d ∷ dues) [] (line ∷ lines) = ⊥
AreSaid style P (d ∷ dues) (node ∷ nodes) (line ∷ []) = ⊥
AreSaid style P (d ∷ dues) (node ∷ nodes) (line ∷ next ∷ lines) =
    (said_at style P d (words_of line) ≡ Ok node) × AreSaid style P (after style d node ++ dues) nodes (next ∷ lines)

-- each line is in form
abbrev pub IsInForm : Problem → List ℕ → Type 0
IsInForm P text = (n : ℕ) × (certificate_form first_style P text ≡ Fine n)

-- the text is that of a certificate that fits the game
abbrev pub IsOfCertificate : Problem → List ℕ → Type 0
IsOfCertificate P text = (certificate : Certificate) × Fits P certificate × (certificate_text P certificate ≡ text)

-- what is answered where the text is that of this certificate, and it fits the game: the certificate, if there is memory for it
abbrev pub IsReadBack : Certificate → Result Certificate CertFault → Type 0
IsReadBack certificate result = (result ≡ Ok certificate) ⊎ (result ≡ Err fault.Memory)
