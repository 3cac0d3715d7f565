-- How a problem ends, as a line in the sense of its file.
use Rattle.std.specs.Prelude.{[], ◌∷◌, codes}
use Rattle.qm_text.specs.Numbers.{number_word}
use Rattle.qm_model.specs.declared.game.Sense.{Sense}
use Rattle.qm_model.specs.Endings.{Ending, Empty, Infeasible, Optimal}
use Rattle.qm_certfile.specs.Lines.{Line}
use Rattle.qm_certfile.specs.CertificateLines.{alone, claimed}

-- the line of an ending, as a certificate begins with it
abbrev pub ending_line : Sense → Ending → Line
ending_line sense Empty = alone (codes "empty")
ending_line sense Infeasible = alone (codes "infeasible")
ending_line sense (Optimal value) = codes "optimal" ∷ number_word (claimed sense value) ∷ []
