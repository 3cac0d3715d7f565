use Rattle.std.proofs.Common.{◌≡◌, ◌-◌, ◌*◌, drop, length, unsigned_abs, ◌-ℤ◌, ◌+ℤ◌, pos}
use Rattle.qm_legal.specs.SearchSteps.{range_to}
use Rattle.qm_legal.specs.JournalSteps.{AreStepsWithin, AreUntried, Grown}
use Rattle.qm_legal.proofs.Places.{Reached}
use Rattle.qm_legal.proofs.search.+search.Given as goal

abbrev pub decreases-search : goal.decreases-search
decreases-search l = 6 * length l.here.rest.now

abbrev pub decreases-search_values : goal.decreases-search_values
decreases-search_values l = 6 * length l.here.rest.now - 1

abbrev pub decreases-search_others : goal.decreases-search_others
decreases-search_others l = 6 * length l.here.rest.now - 2

abbrev pub decreases-search_range : goal.decreases-search_range
decreases-search_range l = 6 * length l.here.rest.now - 3

abbrev pub decreases-search_value : goal.decreases-search_value
decreases-search_value l = 6 * length l.here.rest.now - 4

abbrev pub decreases-search_below : goal.decreases-search_below
decreases-search_below l = 6 * length l.here.rest.now - 5

abbrev pub invariant-search_range-loop-alloc : goal.invariant-search_range-loop-alloc
invariant-search_range-loop-alloc l = record {
  same : l.bx ≡ l.fn.bx;
  reached : Reached l.here.game.now (drop 1 l.here.rest.now) l.here.depth l.fn.bx l.within l.next l.parts;
  grown : Grown l.here.game.now (AreStepsWithin l.number l.within (length l.fn.journal.entries)) l.fn.journal l.journal;
  untried : AreUntried l.number (range_to l.next l.within.high) l.journal.entries;
}

abbrev pub decreases-search_range-loop-alloc : goal.decreases-search_range-loop-alloc
decreases-search_range-loop-alloc l = unsigned_abs ((l.within.high +ℤ pos 1) -ℤ l.next)
