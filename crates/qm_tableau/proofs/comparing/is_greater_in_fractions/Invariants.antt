use Rattle.std.proofs.Common.{◌≡◌, drop}
use Rattle.qm_tableau.specs.Rule.{is_greater}
use Rattle.qm_tableau.proofs.comparing.is_greater_in_fractions.Given as goal

abbrev pub invariant-loop-i : goal.invariant-loop-i
invariant-loop-i l =
    is_greater l.k l.by l.best l.best_by l.i (drop l.i l.numbers.rows) ≡ is_greater l.k l.by l.best l.best_by 0 l.numbers.rows
