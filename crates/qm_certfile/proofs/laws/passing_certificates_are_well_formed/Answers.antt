use Rattle.qm_certfile.proofs.PassingForms.{one_passing, passing_of_type}
use Rattle.qm_certfile.proofs.laws.passing_certificates_are_well_formed.Goals as goal

pub returns : goal.returns
returns c = record {
  formed = λ P c sound near passes. passing_of_type P sound near c passes;
  one = λ P c d sound near passes other same. one_passing P sound near c d passes other same;
}
