use Rattle.qm_model.proofs.LegalMoves.{legal_with_any, legal_with_some}
use Rattle.qm_model.proofs.laws.a_legal_prefix_goes_on.Goals as goal

pub returns : goal.returns
returns c = record {
  exists = λ P prefix x later v next existential legal. legal_with_any P prefix x later next v existential legal;
  universal = λ P prefix x later next universal legal. legal_with_some P prefix x later next universal legal;
}
