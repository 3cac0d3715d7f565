use Rattle.std.proofs.Common.{subst}
use Rattle.qm_search.specs.StopSteps.{IsRightStop}
use Rattle.qm_search.proofs.RootPlaces.{spent_budget}
use Rattle.qm_search.proofs.ending.fault_of.Goals as goal

pub returns-in-Spent : goal.returns-in-Spent
returns-in-Spent c P budget within right = spent_budget P budget c.args.journal within (subst (IsRightStop P c.args.journal) c.in-Spent.is right)
