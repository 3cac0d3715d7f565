use Rattle.qm_math.proofs.Lexicographic.{IsLexBelow-trans, IsLexBelow-irrefl, IsLexBelow-total}
use Rattle.qm_math.proofs.columns.lists_of_fractions_are_ordered.Goals as goal

pub returns-clause-transitive : goal.returns-clause-transitive
returns-clause-transitive c = IsLexBelow-trans

pub returns-clause-not_itself : goal.returns-clause-not_itself
returns-clause-not_itself c = IsLexBelow-irrefl

pub returns-clause-total : goal.returns-clause-total
returns-clause-total c = IsLexBelow-total
