use Rattle.qm_top.proofs.Checked.{no_fault_is_shown, shown_has_no_fault}
use Rattle.qm_top.proofs.laws.a_text_has_no_fault_where_it_shows_its_claim.Goals as goal

pub returns : goal.returns
returns c = record { accepted = shown_has_no_fault; shown = no_fault_is_shown }
