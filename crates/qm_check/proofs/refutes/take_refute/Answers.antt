use Rattle.std.proofs.Common.{subst}
use Rattle.qm_model.specs.declared.game.Problem.{Problem}
use Rattle.qm_certread.specs.Pieces.{words_of}
use Rattle.qm_check.specs.TreeSaid.{CanSayRefute}
use Rattle.qm_check.proofs.SaidParts.{refute_can_say}
use Rattle.qm_check.proofs.refutes.take_refute.Goals as goal

pub take_said-requires-clause-fits : goal.take_said-requires-clause-fits
take_said-requires-clause-fits c =
    subst (λ (P : Problem). CanSayRefute P c.args.depth c.in-Ok.said) c.problem-problem.ensures.value
    (refute_can_say c.problem-problem.result.now c.args.depth (words_of c.args.line.now) c.in-Ok.said c.in-Ok.ensures)
