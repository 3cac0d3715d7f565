use Rattle.std.proofs.Common.{◌≡◌, ◌∷◌, length}
use Rattle.qm_certread.specs.Spelling.{are_in_order}
use Rattle.qm_certread.specs.WordSteps.{words_behind}
use Rattle.qm_certread.proofs.order.follow.Given as goal

abbrev pub invariant-loop-word : goal.invariant-loop-word
invariant-loop-word l = are_in_order (l.fn.first ∷ words_behind l.fn.rest) ≡ are_in_order (l.last ∷ words_behind l.rest)

abbrev pub decreases-loop-word : goal.decreases-loop-word
decreases-loop-word l = length l.rest
