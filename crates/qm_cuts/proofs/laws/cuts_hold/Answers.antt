use Rattle.std.proofs.Common.{[]}
use Rattle.std.proofs.lemmas.List.Elements.{All-nil}
use Rattle.qm_model.specs.Points.{HoldsOver, values_over}
use Rattle.qm_model.proofs.UncertaintyRows.{legal_meets_uncertainty}
use Rattle.qm_cuts.proofs.Holding.{are_over, hold_after}
use Rattle.qm_cuts.proofs.laws.cuts_hold.Goals as goal

pub returns-clause-hold : goal.returns-clause-hold
returns-clause-hold c P cuts sound are prefix y begin complete legal meets =
    hold_after P prefix y sound begin complete meets (legal_meets_uncertainty P prefix y sound complete legal) [] cuts (All-nil (HoldsOver y.den (values_over prefix y))) are

pub returns-clause-over : goal.returns-clause-over
returns-clause-over c P cuts are = are_over P [] cuts are
