use Rattle.qm_model.specs.Boxes.{IsBox}
use Rattle.probe_words.proofs.boxes.box_of_ranges.Given as goal

abbrev pub invariant-loop-var : goal.invariant-loop-var
invariant-loop-var l =
    (goal.iterator-loop-var).can_next l.var-iterator ×
    (goal.iterator-loop-var).is_finite l.var-iterator ×
    IsBox l.game.vars l.bx
