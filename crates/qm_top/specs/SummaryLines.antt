-- What is told of a problem that was made and solved: how it ends, how many entries the journal of the search has, and
-- how many bytes the certificate's text has.
use Rattle.std.specs.Prelude.{ℕ, List, [], ◌∷◌, codes, length}
use Rattle.std.specs.Fmt.{decimal}
use Rattle.qm_model.specs.declared.game.Problem.{Problem}
use Rattle.qm_journal.specs.declared.entry.JEntry.{JEntry}
use Rattle.qm_certfile.specs.declared.certificate.Certificate.{Certificate}
use Rattle.qm_certfile.specs.Lines.{Line, text_of}
use Rattle.qm_certfile.specs.CertificateLines.{certificate_text}
use Rattle.qm_certfile.specs.Passes.{ending_of}
use Rattle.qm_top.specs.EndingLines.{ending_line}

abbrev pub summary_lines : Problem → Certificate → List JEntry → List Line
summary_lines P certificate entries =
    ending_line P.sense (ending_of certificate)
    ∷ (codes "nodes" ∷ decimal (length entries) ∷ [])
    ∷ (codes "certificate" ∷ decimal (length (certificate_text P certificate)) ∷ []) ∷ []

abbrev pub summary_text : Problem → Certificate → List JEntry → List ℕ
summary_text P certificate entries = text_of (summary_lines P certificate entries)
