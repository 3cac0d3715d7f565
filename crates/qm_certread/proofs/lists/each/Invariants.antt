use Rattle.std.proofs.Common.{◌≡◌, length}
use Rattle.qm_certread.specs.Spelling.{each}
use Rattle.qm_certread.specs.WordSteps.{said_before, words_behind}
use Rattle.qm_certread.proofs.lists.each.Given as goal

abbrev pub invariant-loop-word : goal.invariant-loop-word
invariant-loop-word g l = each g.T.Spoken.word_says (words_behind l.fn.rest) ≡ said_before l.outside l.items (each g.T.Spoken.word_says (words_behind l.rest))

abbrev pub decreases-loop-word : goal.decreases-loop-word
decreases-loop-word g l = length l.rest
