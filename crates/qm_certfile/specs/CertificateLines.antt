-- The text of a certificate.
use Rattle.std.specs.Prelude.{ℕ, ℤ, List, [], ◌∷◌, ◌++◌, codes, map}
use Rattle.std.specs.Fmt.{signed_decimal}
use Rattle.qm_math.specs.Fraction.{Fraction}
use Rattle.qm_math.specs.Arithmetic.{negated}
use Rattle.qm_model.specs.declared.game.Sense.{Sense}
use Rattle.qm_model.specs.declared.game.Sense.TheVariants.{Max, Min}
use Rattle.qm_model.specs.declared.game.Problem.{Problem}
use Rattle.qm_certfile.specs.declared.certificate.Certificate.{Certificate}
use Rattle.qm_certfile.specs.declared.certificate.Certificate.TheVariants.{Optimal, Infeasible, Empty}
use Rattle.qm_text.specs.Numbers.{number_word}
use Rattle.qm_certfile.specs.Lines.{Line, text_of}
use Rattle.qm_certfile.specs.Styles.{Style, first_style}
use Rattle.qm_certfile.specs.TreeLines.{illegal_lines, policy_lines, refute_lines}

-- a value of the maximised problem in the sense of the file
abbrev pub claimed : Sense → Fraction → Fraction
claimed Max value = value
claimed Min value = negated value

abbrev pub version_line : Style → Line
version_line style = codes "certificate" ∷ style.version ∷ []

-- the values of a universal play
abbrev pub legal_line : Style → List ℤ → Line
legal_line style values = codes "legal" ∷ style.universal_values 0 (map signed_decimal values)

-- a line of one word
abbrev pub alone : List ℕ → Line
alone word = word ∷ []

abbrev pub certificate_lines : Style → Problem → Certificate → List Line
certificate_lines style P (Optimal value legal policy refute) =
    (codes "optimal" ∷ number_word (claimed P.sense value) ∷ []) ∷ version_line style ∷ legal_line style legal
    ∷ alone (codes "policy") ∷ policy_lines style policy 0 ++ alone (codes "refute") ∷ refute_lines style refute 0 ++ alone (codes "end") ∷ []
certificate_lines style P (Infeasible legal refute) =
    alone (codes "infeasible") ∷ version_line style ∷ legal_line style legal
    ∷ alone (codes "refute") ∷ refute_lines style refute 0 ++ alone (codes "end") ∷ []
certificate_lines style P (Empty tree) = alone (codes "empty") ∷ version_line style ∷ illegal_lines style tree 0 ++ alone (codes "end") ∷ []

-- the text of a certificate in version 1
unfoldable pub certificate_text : Problem → Certificate → List ℕ
certificate_text P certificate = text_of (certificate_lines first_style P certificate)
