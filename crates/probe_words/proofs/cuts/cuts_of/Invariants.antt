use Rattle.std.proofs.Common.{◌≤◌, length}
use Rattle.std.specs.Prelude.{All}
use Rattle.qm_model.specs.Sound.{IsRowOver}
use Rattle.probe_words.proofs.cuts.cuts_of.Given as goal

abbrev pub invariant-loop-word : goal.invariant-loop-word
invariant-loop-word l =
    (goal.iterator-loop-word).can_next l.word-iterator ×
    (goal.iterator-loop-word).is_finite l.word-iterator ×
    All (IsRowOver l.game.vars) l.cuts ×
    length l.cuts ≤ 100
