use Rattle.qm_simplex.proofs.ShortRuns.{few_pivots}
use Rattle.qm_simplex.proofs.ShortAnswers.{short_answer}
use Rattle.qm_simplex.proofs.run_laws.runs_are_short.Goals as goal

pub returns-clause-pivots : goal.returns-clause-pivots
returns-clause-pivots c = few_pivots

pub returns-clause-answers : goal.returns-clause-answers
returns-clause-answers c = short_answer
