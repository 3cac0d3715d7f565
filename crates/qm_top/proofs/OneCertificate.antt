-- A printed text has one certificate.
use Rattle.std.proofs.Common.{◌≡◌, ℕ, List, sym, ◌∙◌}
use Rattle.qm_model.specs.declared.game.Problem.{Problem}
use Rattle.qm_normal.specs.Stated.{States}
use Rattle.qm_normal.proofs.StatedBounds.{stated_near, stated_sound}
use Rattle.qm_certfile.specs.declared.certificate.Certificate.{Certificate}
use Rattle.qm_certfile.specs.CertificateLines.{certificate_text}
use Rattle.qm_certfile.specs.Passes.{Passes}
use Rattle.qm_certfile.proofs.PassingForms as forms
use Rattle.qm_top.specs.Answers.{Claims}

pub one_passing : (bytes : List ℕ) (P : Problem) (c d : Certificate) → States bytes P → Passes P c → Passes P d → certificate_text P c ≡ certificate_text P d → c ≡ d
one_passing bytes P c d states passes other same = forms.one_passing P (stated_sound bytes P states) (stated_near bytes P states) c d passes other same

pub one_claimed : (bytes : List ℕ) (P : Problem) (text : List ℕ) → States bytes P → (one other : Claims P text) → one.certificate ≡ other.certificate
one_claimed bytes P text states one other =
    one_passing bytes P one.certificate other.certificate states one.passes other.passes (sym one.spelled ∙ other.spelled)
