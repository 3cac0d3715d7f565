use Rattle.std.proofs.Common.{subst}
use Rattle.qm_search.specs.OutcomeSteps.{IsOutcome}
use Rattle.qm_search.specs.RecallSteps.{window_above}
use Rattle.qm_search.proofs.HarderGoals.{reaches_above}
use Rattle.qm_search.proofs.recalled.Recalled.or_better.Goals as goal

pub returns-in-At : goal.returns-in-At
returns-in-At c = λ P cuts heads rest depth bx W proper recalled uncapped outcome.
    let told = subst (IsOutcome P cuts heads rest depth bx (window_above c.args.self.value W)) c.in-At.is outcome in
    record {
      reached = told.reached;
      reaches = reaches_above W.floor c.args.self.value c.in-At.value recalled.positive told.reached.positive proper.floor recalled.reaches told.reaches;
      uncapped = told.uncapped;
    }
