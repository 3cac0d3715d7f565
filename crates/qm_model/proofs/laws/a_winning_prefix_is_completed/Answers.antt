use Rattle.qm_model.proofs.LegalMoves.{winning_rest}
use Rattle.qm_model.proofs.laws.a_winning_prefix_is_completed.Goals as goal

pub returns : goal.returns
returns c = λ P G xs prefix next legal wins.
    let all = winning_rest P G xs prefix next legal wins in
    (all.rest, all.within, all.legal, all.wins)
