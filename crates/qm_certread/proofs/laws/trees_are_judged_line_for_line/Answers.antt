use Rattle.qm_certread.proofs.JudgedTexts.{empty_law, policy_law, refute_law}
use Rattle.qm_certread.proofs.laws.trees_are_judged_line_for_line.Goals as goal

pub returns-clause-policies : goal.returns-clause-policies
returns-clause-policies c = policy_law

pub returns-clause-refutations : goal.returns-clause-refutations
returns-clause-refutations c = refute_law

pub returns-clause-empty_trees : goal.returns-clause-empty_trees
returns-clause-empty_trees c = empty_law
