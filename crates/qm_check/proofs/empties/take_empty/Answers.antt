use Rattle.std.proofs.Common.{subst}
use Rattle.qm_model.specs.declared.game.Problem.{Problem}
use Rattle.qm_certread.specs.Pieces.{words_of}
use Rattle.qm_check.specs.TreeSaid.{CanSayEmpty}
use Rattle.qm_check.proofs.SaidParts.{empty_can_say}
use Rattle.qm_check.proofs.empties.take_empty.Goals as goal

pub take_said-requires-clause-fits : goal.take_said-requires-clause-fits
take_said-requires-clause-fits c =
    subst (λ (P : Problem). CanSayEmpty P c.in-Ok.said) c.problem-problem.ensures.value
    (empty_can_say c.problem-problem.result.now c.args.position (words_of c.args.line.now) c.in-Ok.said c.in-Ok.ensures)
