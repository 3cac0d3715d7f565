use Rattle.std.proofs.Common.{◌≡◌, ◌≤◌, ◌+◌, length}
use Rattle.qm_certread.specs.WordSteps.{words_behind}
use Rattle.qm_certread.proofs.lists.count_words.Given as goal

abbrev pub invariant-loop-more : goal.invariant-loop-more
invariant-loop-more l = record {
  counted : l.count + length (words_behind l.rest) ≡ length (words_behind l.fn.rest);
  bounded : l.count + length l.rest ≤ length l.fn.rest;
}

abbrev pub decreases-loop-more : goal.decreases-loop-more
decreases-loop-more l = length l.rest
