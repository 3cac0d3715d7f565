use Rattle.qm_legal.proofs.WholeBoxes.{first_question}
use Rattle.bench_large.proofs.legality.ask.Goals as goal

pub legal-answer-requires-clause-new : goal.legal-answer-requires-clause-new
legal-answer-requires-clause-new c = rw c.new-journal.ensures (first_question c.args.game.now)
