use Rattle.qm_trees.proofs.CombinationCloses.{closes_harder}
use Rattle.qm_trees.proofs.combination_laws.closing_closes_harder_goals.Goals as goal

pub returns : goal.returns
returns c = closes_harder
