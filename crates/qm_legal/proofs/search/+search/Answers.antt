use Rattle.std.proofs.Common.{rules, ◌≡◌, ◌+◌, ◌-ℤ◌, ◌+ℤ◌, pos, ◌∙◌, [], ◌∷◌, ◌++◌, drop, length, refl, sym, to_z, ap, set, arith, inl, inr}
use Rattle.std.proofs.lemmas.Int.{ints, to_z-of_z}
use Rattle.std.proofs.lemmas.List.{length-drop}
use Rattle.std.proofs.lemmas.List.Elements.{All-nil}
use mir.Syntax.{w128}
use mir.Val.{SFits}
use Rattle.qm_math.proofs.WholeTests.{le_of_test}
use Rattle.qm_model.specs.declared.variable.Player.TheVariants.{Exists, All as Universal}
use Rattle.qm_model.specs.Ranges.{range_at, single}
use Rattle.qm_model.proofs.Players.{exists_of}
use Rattle.qm_cover.proofs.Places.{put_back}
use Rattle.qm_trees.specs.EmptyJudgement.{range_of}
use Rattle.qm_journal.specs.declared.entry.JKind.TheVariants.{Step}
use Rattle.qm_journal.proofs.Growing.{IsParent-within}
use Rattle.qm_legal.specs.SearchSteps.{range_to}
use Rattle.qm_legal.specs.JournalSteps.{AreStepsWithin, IsAdded, IsStepWithin, number_after, with_entry}
use Rattle.qm_legal.proofs.AlivePlays.{alive_play}
use Rattle.qm_legal.proofs.Boxes.{one_inside, set_in_box}
use Rattle.qm_legal.proofs.Found.{part_found}
use Rattle.qm_legal.proofs.Growth.{added_none, entered, entered_stays, entered_untried, grown_entered, grown_none, grown_same, grown_then, grown_value, grown_wider, searched_behind, stands_below, untried_less, untried_stays}
use Rattle.qm_legal.proofs.OpenBoxes.{alive_value, filled, open_behind, open_behind_value, values_next, values_other}
use Rattle.qm_legal.proofs.Places.{completed_at_end, completed_behind_value, found_behind_if, part_from, reached_more, reached_none, sets_next, some_next}
use Rattle.qm_legal.proofs.RangeParts.{below_it, filled_as, joined_parts, later_low, le_itself, le_of_same, lower_part, lower_some, one_low, one_within, past_of_test, reached_parts, run_before, run_high, run_low, shown_as, split_shown, upper_part}
use Rattle.qm_legal.proofs.search.+search.Goals as goal

-- ---- a variable of the other player, and the end

pub search-returns-in-None-clause-found : goal.search-returns-in-None-clause-found
search-returns-in-None-clause-found t c = completed_at_end c.args.here.game.now c.args.here.depth c.args.bx.now c.args.here.rest.now c.args.here.from_depth c.in-None.ensures.cases c.requires.box.alive

pub search-returns-in-None-clause-grown : goal.search-returns-in-None-clause-grown
search-returns-in-None-clause-grown t c = grown_none c.args.here.game.now (IsAdded c.args.entry c.args.journal.now.entries) c.args.journal.now (added_none c.args.entry c.args.journal.now.entries) c.requires.lawful

pub search-search-requires : goal.search-search-requires
search-search-requires t c =
    let P = c.args.here.game.now in
    let other = sets_next Exists c.args.here.rest.now c.in-Some.var.now c.in-Some._later.now c.in-Some.ensures.cases.0 (exists_of c.in-Some.var.now (sym c.is_for_all.ensures ∙ c.if-is_for_all.false)) in (
      omega (arith, some_next Exists c.args.here.rest.now other, ap length c.behind.ensures.rest, length-drop 1 c.args.here.rest.now),
      rw (c.behind.ensures.game, c.behind.ensures.depth) (searched_behind P c.args.here.depth c.args.bx.now c.args.journal.now c.args.entry
          (open_behind P c.args.here.depth c.args.bx.now c.args.here.rest.now c.args.here.from_depth other c.requires.box)
          (values_other P c.args.here.depth c.args.bx.now c.args.here.rest.now c.args.here.from_depth other c.requires.box) c.requires),
    )

pub search-returns-else-is_for_all-clause-found : goal.search-returns-else-is_for_all-clause-found
search-returns-else-is_for_all-clause-found t c =
    let other = sets_next Exists c.args.here.rest.now c.in-Some.var.now c.in-Some._later.now c.in-Some.ensures.cases.0 (exists_of c.in-Some.var.now (sym c.is_for_all.ensures ∙ c.if-is_for_all.false)) in
    found_behind_if c.args.here.game.now c.args.here.depth c.args.bx.now c.args.here.rest.now (some_next Exists c.args.here.rest.now other) c.search.new.bx c.search.result
    (rw (c.behind.ensures.game, c.behind.ensures.rest, c.behind.ensures.depth) at c.search.ensures.found)

pub search-returns-else-is_for_all-clause-grown : goal.search-returns-else-is_for_all-clause-grown
search-returns-else-is_for_all-clause-grown t c = rw c.behind.ensures.game at c.search.ensures.grown

-- ---- the values of a variable

pub search_values-returns-in_err-number-clause-grown : goal.search_values-returns-in_err-number-clause-grown
search_values-returns-in_err-number-clause-grown t c =
    grown_same c.args.here.game.now (IsAdded c.args.entry c.args.journal.now.entries) c.args.journal.now c.enter.new.journal (added_none c.args.entry c.args.journal.now.entries) c.requires.searched.lawful c.in_err-number.ensures.same

pub search_values-upper_values-upper-requires : goal.search_values-upper_values-upper-requires
search_values-upper_values-upper-requires t c =
    filled_as c.range-covered.result (range_at c.args.bx.now c.args.here.depth) c.range-covered.ensures (filled c.args.here.game.now c.args.here.depth c.args.bx.now c.args.here.rest.now c.args.here.from_depth c.requires.player c.requires.searched.box)

pub search_values-search_range-requires : goal.search_values-search_range-requires
search_values-search_range-requires t c = (
  omega (arith, some_next Universal c.args.here.rest.now c.requires.player),
  (rw (c.in_ok-number.ensures.number, c.in_ok-number.ensures.entered) (entered c.args.here.game.now c.args.here.depth c.args.bx.now c.args.journal.now c.args.entry c.requires.searched), (c.requires.player, (c.upper_values-upper.ensures.some, (upper_part c.upper_values-upper.result c.range-covered.result (range_at c.args.bx.now c.args.here.depth) c.range-covered.ensures c.upper_values-upper.ensures.low c.upper_values-upper.ensures.high, rw (c.in_ok-number.ensures.number, c.in_ok-number.ensures.entered) (entered_untried c.args.here.game.now c.args.here.depth c.args.bx.now c.args.journal.now c.args.entry c.upper_values-upper.result c.requires.searched))))),
)

pub search_values-returns-in_err-search_range-clause-grown : goal.search_values-returns-in_err-search_range-clause-grown
search_values-returns-in_err-search_range-clause-grown t c =
    let g = rw (c.in_ok-number.ensures.number, c.in_ok-number.ensures.entered) at c.search_range.ensures.grown in
    grown_entered c.args.here.game.now c.args.here.depth c.args.bx.now c.args.journal.now c.args.entry c.upper_values-upper.result c.search_range.new.journal g

pub search_values-returns-in-None-clause-found : goal.search_values-returns-in-None-clause-found
search_values-returns-in-None-clause-found t c =
    rw c.in-None.is at c.in_ok-search_range.ensures.found

pub search_values-returns-in-None-clause-grown : goal.search_values-returns-in-None-clause-grown
search_values-returns-in-None-clause-grown t c =
    let g = rw (c.in_ok-number.ensures.number, c.in_ok-number.ensures.entered) at c.search_range.ensures.grown in
    grown_entered c.args.here.game.now c.args.here.depth c.args.bx.now c.args.journal.now c.args.entry c.upper_values-upper.result c.search_range.new.journal g

pub search_values-search_others-requires : goal.search_values-search_others-requires
search_values-search_others-requires t c =
    let found = rw c.in-Some.is at c.in_ok-search_range.ensures.found in
    let here = entered c.args.here.game.now c.args.here.depth c.args.bx.now c.args.journal.now c.args.entry c.requires.searched in
    let r = range_at c.args.bx.now c.args.here.depth in
    let g = c.search_range.ensures.grown in
    let low = rw c.range-covered.ensures at c.upper_values-upper.ensures.low in
    let high = rw c.range-covered.ensures at c.upper_values-upper.ensures.high in
    let g' = rw (c.in_ok-number.ensures.number, c.in_ok-number.ensures.entered) at c.search_range.ensures.grown in
    let n = number_after c.args.entry c.args.journal.now in
    let K = with_entry c.args.entry c.args.journal.now in
    let L = c.search_range.new.journal in
    let others = range_to r.low (c.upper_values-upper.result.low -ℤ pos 1) in
    let stays = entered_stays c.args.here.game.now c.args.here.depth c.args.bx.now n K L (AreStepsWithin n c.upper_values-upper.result (length K.entries)) here g' in
    let untried = untried_stays c.args.here.game.now c.args.here.depth c.args.bx.now n K L c.upper_values-upper.result others (inl (below_it c.upper_values-upper.result.low)) (IsParent-within Step K.entries n here.parent) (entered_untried c.args.here.game.now c.args.here.depth c.args.bx.now c.args.journal.now c.args.entry others c.requires.searched) g' in (
      omega (arith, some_next Universal c.args.here.rest.now c.requires.player),
      (rw (found.1, c.in_ok-number.ensures.number) stays, (c.requires.player, (rw found.1 low, (c.upper_values-upper.ensures.some, (rw found.1 high, (rw (found.1, c.in_ok-number.ensures.number) untried, rw found.1 found.0)))))),
    )

pub search_values-returns-in-Some-clause-found : goal.search_values-returns-in-Some-clause-found
search_values-returns-in-Some-clause-found t c =
    let found = rw c.in-Some.is at c.in_ok-search_range.ensures.found in
    rw found.1 at c.search_others.ensures.found

pub search_values-returns-in-Some-clause-grown : goal.search_values-returns-in-Some-clause-grown
search_values-returns-in-Some-clause-grown t c =
    let found = rw c.in-Some.is at c.in_ok-search_range.ensures.found in
    let r = range_at c.args.bx.now c.args.here.depth in
    let low = rw c.range-covered.ensures at c.upper_values-upper.ensures.low in
    let high = rw c.range-covered.ensures at c.upper_values-upper.ensures.high in
    let g' = rw (c.in_ok-number.ensures.number, c.in_ok-number.ensures.entered) at c.search_range.ensures.grown in
    let h = rw (found.1, c.in_ok-number.ensures.number) at c.search_others.ensures.grown in
    let n = number_after c.args.entry c.args.journal.now in
    let K = with_entry c.args.entry c.args.journal.now in
    grown_entered c.args.here.game.now c.args.here.depth c.args.bx.now c.args.journal.now c.args.entry r c.search_others.new.journal
    (grown_then c.args.here.game.now n c.upper_values-upper.result r r K c.search_range.new.journal c.search_others.new.journal low (le_of_same c.upper_values-upper.result.high r.high high) (le_itself r.low) (le_itself r.high) g' h)

-- ---- the values below the first that were tried

pub search_others-returns-then-are_all-clause-found : goal.search_others-returns-then-are_all-clause-found
search_others-returns-then-are_all-clause-found t c =
    let r = range_at c.args.bx.now c.args.here.depth in
    let low = one_low c.range-covered.result c.args.upper r c.range-covered.ensures c.requires.low (le_of_test c.args.upper.low c.range-covered.result.low (sym c.are_all.ensures ∙ c.if-are_all.true)) in
    let shown = shown_as c.args.here.game.now (drop 1 c.args.here.rest.now) c.args.here.depth c.args.bx.now c.args.upper r c.args.above low c.requires.high c.requires.above in
    rw c.split.ensures (split_shown c.args.here.game.now c.args.here.rest.now c.args.here.depth c.args.bx.now c.args.above c.args.bx.now c.requires.player (filled c.args.here.game.now c.args.here.depth c.args.bx.now c.args.here.rest.now c.args.here.from_depth c.requires.player c.requires.entered.box) shown refl)

pub search_others-returns-then-are_all-clause-grown : goal.search_others-returns-then-are_all-clause-grown
search_others-returns-then-are_all-clause-grown t c =
    grown_none c.args.here.game.now (AreStepsWithin c.args.number (range_at c.args.bx.now c.args.here.depth) (length c.args.journal.now.entries)) c.args.journal.now (All-nil (IsStepWithin c.args.number (range_at c.args.bx.now c.args.here.depth) (length c.args.journal.now.entries))) c.requires.entered.lawful

pub search_others-lower_values-requires : goal.search_others-lower_values-requires
search_others-lower_values-requires t c = past_of_test c.args.upper.low c.range-covered.result.low (sym c.are_all.ensures ∙ c.if-are_all.false)

pub search_others-search_range-requires : goal.search_others-search_range-requires
search_others-search_range-requires t c =
    let low = lower_some c.range-covered.result.low c.args.upper.low (past_of_test c.args.upper.low c.range-covered.result.low (sym c.are_all.ensures ∙ c.if-are_all.false)) in
    let r = range_at c.args.bx.now c.args.here.depth in (
      omega (arith, some_next Universal c.args.here.rest.now c.requires.player),
      (c.requires.entered, (c.requires.player, (rw c.lower_values.ensures low, (rw (c.lower_values.ensures, c.range-covered.ensures) (lower_part r c.args.upper c.requires.some c.requires.high), rw (c.lower_values.ensures, c.range-covered.ensures) c.requires.untried)))),
    )

pub search_others-returns-in_err-search_range-clause-grown : goal.search_others-returns-in_err-search_range-clause-grown
search_others-returns-in_err-search_range-clause-grown t c =
    let r = range_at c.args.bx.now c.args.here.depth in
    let part = lower_part r c.args.upper c.requires.some c.requires.high in
    let g = rw (c.lower_values.ensures, c.range-covered.ensures) at c.search_range.ensures.grown in
    grown_wider c.args.here.game.now c.args.number (range_to r.low (c.args.upper.low -ℤ pos 1)) r c.args.journal.now c.search_range.new.journal part.low part.high g

pub search_others-returns-in-None-clause-grown : goal.search_others-returns-in-None-clause-grown
search_others-returns-in-None-clause-grown t c =
    let r = range_at c.args.bx.now c.args.here.depth in
    let part = lower_part r c.args.upper c.requires.some c.requires.high in
    let g = rw (c.lower_values.ensures, c.range-covered.ensures) at c.search_range.ensures.grown in
    grown_wider c.args.here.game.now c.args.number (range_to r.low (c.args.upper.low -ℤ pos 1)) r c.args.journal.now c.search_range.new.journal part.low part.high g

pub search_others-returns-in_err-parts-in-Some-clause-grown : goal.search_others-returns-in_err-parts-in-Some-clause-grown
search_others-returns-in_err-parts-in-Some-clause-grown t c =
    let r = range_at c.args.bx.now c.args.here.depth in
    let part = lower_part r c.args.upper c.requires.some c.requires.high in
    let g = rw (c.lower_values.ensures, c.range-covered.ensures) at c.search_range.ensures.grown in
    grown_wider c.args.here.game.now c.args.number (range_to r.low (c.args.upper.low -ℤ pos 1)) r c.args.journal.now c.search_range.new.journal part.low part.high g

pub search_others-returns-in_ok-parts-in-Some-clause-grown : goal.search_others-returns-in_ok-parts-in-Some-clause-grown
search_others-returns-in_ok-parts-in-Some-clause-grown t c =
    let r = range_at c.args.bx.now c.args.here.depth in
    let part = lower_part r c.args.upper c.requires.some c.requires.high in
    let g = rw (c.lower_values.ensures, c.range-covered.ensures) at c.search_range.ensures.grown in
    grown_wider c.args.here.game.now c.args.number (range_to r.low (c.args.upper.low -ℤ pos 1)) r c.args.journal.now c.search_range.new.journal part.low part.high g

pub search_others-returns-in-None-clause-found : goal.search_others-returns-in-None-clause-found
search_others-returns-in-None-clause-found t c =
    rw c.in-None.is at c.in_ok-search_range.ensures.found

pub search_others-returns-in_ok-parts-in-Some-clause-found : goal.search_others-returns-in_ok-parts-in-Some-clause-found
search_others-returns-in_ok-parts-in-Some-clause-found t c =
    let r = range_at c.args.bx.now c.args.here.depth in
    let found = rw (c.in-Some.is, c.lower_values.ensures, c.range-covered.ensures) at c.in_ok-search_range.ensures.found in
    let above = shown_as c.args.here.game.now (drop 1 c.args.here.rest.now) c.args.here.depth c.args.bx.now c.args.upper (range_to c.args.upper.low c.args.upper.high) c.args.above refl refl c.requires.above in
    let all = joined_parts c.args.here.game.now (drop 1 c.args.here.rest.now) c.args.here.depth c.args.bx.now r.low c.args.upper.low c.args.upper.high c.in-Some.below c.args.above c.in_ok-parts-in-Some.parts found.0 above c.in_ok-parts-in-Some.ensures in
    let shown = shown_as c.args.here.game.now (drop 1 c.args.here.rest.now) c.args.here.depth c.args.bx.now (range_to r.low c.args.upper.high) r c.in_ok-parts-in-Some.parts refl c.requires.high all in
    rw c.split-in-Some.ensures (split_shown c.args.here.game.now c.args.here.rest.now c.args.here.depth c.args.bx.now c.in_ok-parts-in-Some.parts c.search_range.new.bx c.requires.player (filled c.args.here.game.now c.args.here.depth c.args.bx.now c.args.here.rest.now c.args.here.from_depth c.requires.player c.requires.entered.box) shown found.1)

-- ---- the values of a range

pub search_range-loop-alloc-init : goal.search_range-loop-alloc-init
search_range-loop-alloc-init t c =
    let fits : SFits w128 c.start-next.result = search rules in
    rw (to_z-of_z w128 c.start-next.result fits, c.start-next.ensures, c.new-parts.ensures) (record {
      same = refl;
      reached = reached_none c.args.here.game.now (drop 1 c.args.here.rest.now) c.args.here.depth c.args.bx.now c.args.within;
      grown = grown_none c.args.here.game.now (AreStepsWithin c.args.number c.args.within (length c.args.journal.now.entries)) c.args.journal.now (All-nil (IsStepWithin c.args.number c.args.within (length c.args.journal.now.entries))) c.requires.entered.lawful;
      untried = c.requires.untried;
    })

pub search_range-search_value-requires : goal.search_range-search_value-requires
search_range-search_value-requires t c =
    let before = c.loop-alloc.invariant in
    let next = to_z w128 c.loop-alloc.next-bits in
    let left = le_of_test next c.args.within.high (sym c.is_left.ensures ∙ c.loop-alloc-test.true) in
    let r = range_at c.args.bx.now c.args.here.depth in
    let run = c.single_at-run.result in
    let stays = entered_stays c.args.here.game.now c.args.here.depth c.args.bx.now c.args.number c.args.journal.now c.loop-alloc.journal (AreStepsWithin c.args.number c.args.within (length c.args.journal.now.entries)) c.requires.entered before.grown in (
      omega (arith, some_next Universal c.args.here.rest.now c.requires.player),
      (rw before.same stays, (c.requires.player, (rw before.same (one_within r c.args.within next run c.requires.within before.reached.from left c.single_at-run.ensures), (rw c.single_at-run.ensures left, (rw before.same c.requires.within.high, rw c.single_at-run.ensures (untried_less c.args.number (range_to next c.args.within.high) (single next) c.loop-alloc.journal.entries (le_itself next) left before.untried)))))),
    )

pub search_range-returns-in_err-search_value-clause-grown : goal.search_range-returns-in_err-search_value-clause-grown
search_range-returns-in_err-search_value-clause-grown t c =
    let before = c.loop-alloc.invariant in
    let next = to_z w128 c.loop-alloc.next-bits in
    let left = le_of_test next c.args.within.high (sym c.is_left.ensures ∙ c.loop-alloc-test.true) in
    let run = c.single_at-run.result in
    let all = grown_then c.args.here.game.now c.args.number c.args.within run c.args.within c.args.journal.now c.loop-alloc.journal c.search_value.new.journal (le_itself c.args.within.low) (le_itself c.args.within.high) (run_low run next c.args.within c.single_at-run.ensures before.reached.from) (run_high run next c.args.within c.single_at-run.ensures left) before.grown c.search_value.ensures.grown in
    all

pub search_range-returns-in-None-clause-grown : goal.search_range-returns-in-None-clause-grown
search_range-returns-in-None-clause-grown t c =
    let before = c.loop-alloc.invariant in
    let next = to_z w128 c.loop-alloc.next-bits in
    let left = le_of_test next c.args.within.high (sym c.is_left.ensures ∙ c.loop-alloc-test.true) in
    let run = c.single_at-run.result in
    let all = grown_then c.args.here.game.now c.args.number c.args.within run c.args.within c.args.journal.now c.loop-alloc.journal c.search_value.new.journal (le_itself c.args.within.low) (le_itself c.args.within.high) (run_low run next c.args.within c.single_at-run.ensures before.reached.from) (run_high run next c.args.within c.single_at-run.ensures left) before.grown c.search_value.ensures.grown in
    all

pub search_range-returns-in_err-map_err-in-Some-clause-grown : goal.search_range-returns-in_err-map_err-in-Some-clause-grown
search_range-returns-in_err-map_err-in-Some-clause-grown t c =
    let before = c.loop-alloc.invariant in
    let next = to_z w128 c.loop-alloc.next-bits in
    let left = le_of_test next c.args.within.high (sym c.is_left.ensures ∙ c.loop-alloc-test.true) in
    let run = c.single_at-run.result in
    let all = grown_then c.args.here.game.now c.args.number c.args.within run c.args.within c.args.journal.now c.loop-alloc.journal c.search_value.new.journal (le_itself c.args.within.low) (le_itself c.args.within.high) (run_low run next c.args.within c.single_at-run.ensures before.reached.from) (run_high run next c.args.within c.single_at-run.ensures left) before.grown c.search_value.ensures.grown in
    all

pub search_range-returns-in-None-clause-found : goal.search_range-returns-in-None-clause-found
search_range-returns-in-None-clause-found t c =
    let found = rw (c.in-None.is, c.loop-alloc.invariant.same) at c.in_ok-search_value.ensures.found in
    found

pub search_range-loop-alloc-smaller : goal.search_range-loop-alloc-smaller
search_range-loop-alloc-smaller t c =
    let before = c.loop-alloc.invariant in
    let next = to_z w128 c.loop-alloc.next-bits in
    let left = le_of_test next c.args.within.high (sym c.is_left.ensures ∙ c.loop-alloc-test.true) in
    let found = rw c.in-Some.is at c.in_ok-search_value.ensures.found in
    let part = part_from c.args.here.game.now (drop 1 c.args.here.rest.now) c.args.here.depth c.args.bx.now c.loop-alloc.bx c.args.within c.single_at-run.result next c.args.within.high c.in-Some.part before.same refl c.single_at-run.ensures found.0 in
    let fits : SFits w128 c.after-next.result = search rules in
    rw c.after-next.ensures (omega (arith, ints, part.some, part.high, left))

pub search_range-loop-alloc-preserved : goal.search_range-loop-alloc-preserved
search_range-loop-alloc-preserved t c =
    let before = c.loop-alloc.invariant in
    let next = to_z w128 c.loop-alloc.next-bits in
    let left = le_of_test next c.args.within.high (sym c.is_left.ensures ∙ c.loop-alloc-test.true) in
    let run = c.single_at-run.result in
    let all = grown_then c.args.here.game.now c.args.number c.args.within run c.args.within c.args.journal.now c.loop-alloc.journal c.search_value.new.journal (le_itself c.args.within.low) (le_itself c.args.within.high) (run_low run next c.args.within c.single_at-run.ensures before.reached.from) (run_high run next c.args.within c.single_at-run.ensures left) before.grown c.search_value.ensures.grown in
    let found = rw c.in-Some.is at c.in_ok-search_value.ensures.found in
    let part = part_from c.args.here.game.now (drop 1 c.args.here.rest.now) c.args.here.depth c.args.bx.now c.loop-alloc.bx c.args.within c.single_at-run.result next c.args.within.high c.in-Some.part before.same refl c.single_at-run.ensures found.0 in
    let fits : SFits w128 c.after-next.result = search rules in
    let pushed : c.push.new.self ≡ c.loop-alloc.parts ++ c.in-Some.part ∷ [] = search rules in
    let others = range_to ((range_of c.in-Some.part).high +ℤ pos 1) c.args.within.high in
    let less = untried_less c.args.number (range_to next c.args.within.high) others c.loop-alloc.journal.entries (later_low next (range_of c.in-Some.part).high part.some) (le_itself c.args.within.high) before.untried in
    let stays = entered_stays c.args.here.game.now c.args.here.depth c.args.bx.now c.args.number c.args.journal.now c.loop-alloc.journal (AreStepsWithin c.args.number c.args.within (length c.args.journal.now.entries)) c.requires.entered before.grown in
    let apart = run_before run next (range_of c.in-Some.part).high c.single_at-run.ensures part.some in
    rw (to_z-of_z w128 c.after-next.result fits, c.after-next.ensures) (record {
      same = found.1 ∙ before.same;
      reached = reached_more c.args.here.game.now (drop 1 c.args.here.rest.now) c.args.here.depth c.args.bx.now c.args.within next c.loop-alloc.parts c.push.new.self c.in-Some.part before.reached part pushed;
      grown = all;
      untried = untried_stays c.args.here.game.now c.args.here.depth c.args.bx.now c.args.number c.loop-alloc.journal c.search_value.new.journal run others (inr apart) (IsParent-within Step c.loop-alloc.journal.entries c.args.number stays.parent) less c.search_value.ensures.grown;
    })

pub search_range-returns-clause-found : goal.search_range-returns-clause-found
search_range-returns-clause-found t c =
    let before = c.loop-alloc.invariant in
    let next = to_z w128 c.loop-alloc.next-bits in
    let past = past_of_test next c.args.within.high (sym c.is_left.ensures ∙ c.loop-alloc-test.false) in
    reached_parts c.args.here.game.now (drop 1 c.args.here.rest.now) c.args.here.depth c.args.bx.now c.args.within next c.loop-alloc.parts c.loop-alloc.bx before.reached c.requires.some past before.same

pub search_range-returns-clause-grown : goal.search_range-returns-clause-grown
search_range-returns-clause-grown t c =
    c.loop-alloc.invariant.grown

-- ---- one value

pub search_value-dead_row_with-requires-clause-bx : goal.search_value-dead_row_with-requires-clause-bx
search_value-dead_row_with-requires-clause-bx t c =
    c.requires.entered.box.alive.box

pub search_value-dead_row_with-requires-clause-alive : goal.search_value-dead_row_with-requires-clause-alive
search_value-dead_row_with-requires-clause-alive t c =
    c.requires.entered.box.alive.alive

pub search_value-dead_row_with-requires-clause-inside : goal.search_value-dead_row_with-requires-clause-inside
search_value-dead_row_with-requires-clause-inside t c =
    one_inside (range_at c.args.bx.now c.args.here.depth) c.args.run c.requires.run

pub search_value-dead_part-requires-clause-bx : goal.search_value-dead_part-requires-clause-bx
search_value-dead_part-requires-clause-bx t c =
    rw c.dead_row_with.ensures.same c.requires.entered.box.alive.box

pub search_value-dead_part-requires-clause-run : goal.search_value-dead_part-requires-clause-run
search_value-dead_part-requires-clause-run t c =
    rw c.dead_row_with.ensures.same c.requires.run

pub search_value-dead_part-requires-clause-within : goal.search_value-dead_part-requires-clause-within
search_value-dead_part-requires-clause-within t c =
    rw c.dead_row_with.ensures.same c.requires.within

pub search_value-dead_part-requires-clause-dead : goal.search_value-dead_part-requires-clause-dead
search_value-dead_part-requires-clause-dead t c =
    rw c.dead_row_with.ensures.same c.in-Some.ensures.row.has

pub search_value-search_below-requires : goal.search_value-search_below-requires
search_value-search_below-requires t c = (
  omega (arith, some_next Universal c.args.here.rest.now c.requires.player),
  (rw c.dead_row_with.ensures.same c.requires.entered, (c.requires.player, (rw c.dead_row_with.ensures.same (alive_value c.args.here.game.now c.args.here.depth c.args.bx.now c.args.run c.requires.run c.in-None.ensures.row), (c.requires.some, c.requires.untried)))),
)

pub search_value-returns-in_err-part-in-Some-clause-grown : goal.search_value-returns-in_err-part-in-Some-clause-grown
search_value-returns-in_err-part-in-Some-clause-grown t c =
    grown_none c.args.here.game.now (AreStepsWithin c.args.number c.args.run (length c.args.journal.now.entries)) c.args.journal.now (All-nil (IsStepWithin c.args.number c.args.run (length c.args.journal.now.entries))) c.requires.entered.lawful

pub search_value-returns-in_ok-part-in-Some-clause-grown : goal.search_value-returns-in_ok-part-in-Some-clause-grown
search_value-returns-in_ok-part-in-Some-clause-grown t c =
    grown_none c.args.here.game.now (AreStepsWithin c.args.number c.args.run (length c.args.journal.now.entries)) c.args.journal.now (All-nil (IsStepWithin c.args.number c.args.run (length c.args.journal.now.entries))) c.requires.entered.lawful

pub search_value-returns-in_ok-part-in-Some-clause-found : goal.search_value-returns-in_ok-part-in-Some-clause-found
search_value-returns-in_ok-part-in-Some-clause-found t c =
    (rw c.dead_row_with.ensures.same at c.in_ok-part-in-Some.ensures.part, c.in_ok-part-in-Some.ensures.same ∙ c.dead_row_with.ensures.same)

pub search_value-returns-in-None-clause-found : goal.search_value-returns-in-None-clause-found
search_value-returns-in-None-clause-found t c =
    rw c.dead_row_with.ensures.same at c.search_below.ensures.found

-- ---- below a value

pub search_below-put-requires-clause-bx : goal.search_below-put-requires-clause-bx
search_below-put-requires-clause-bx t c =
    c.requires.entered.box.alive.box

pub search_below-search-requires : goal.search_below-search-requires
search_below-search-requires t c =
    let sound = rw c.problem-problem.ensures.value at c.problem-problem.ensures.sound in
    let bx' = set c.args.bx.now c.args.here.depth c.args.run in
    let some = some_next Universal c.args.here.rest.now c.requires.player in
    let box = open_behind_value c.args.here.game.now c.args.here.depth c.args.bx.now c.args.here.rest.now c.args.here.from_depth c.requires.player c.args.run c.requires.value.one c.requires.value.alive c.requires.entered.box in
    let play = alive_play c.args.here.game.now sound (c.args.here.depth + 1) bx' box in
    let values = values_next c.args.here.game.now c.args.here.depth c.args.bx.now c.args.here.rest.now c.args.here.from_depth c.requires.player c.args.run c.requires.entered.box in (
      omega (arith, some, ap length c.behind.ensures.rest, length-drop 1 c.args.here.rest.now),
      rw (c.step_of-step.ensures, c.put.ensures, c.behind.ensures.game, c.behind.ensures.depth)
          (stands_below c.args.here.game.now c.args.here.depth c.args.bx.now c.args.number c.args.run c.args.journal.now c.requires.entered c.requires.untried c.requires.value.one.single box play values),
    )

pub search_below-returns-in_err-search-clause-grown : goal.search_below-returns-in_err-search-clause-grown
search_below-returns-in_err-search-clause-grown t c =
    let g = rw (c.behind.ensures.game, c.step_of-step.ensures) at c.search.ensures.grown in
    let run = c.args.run in
    grown_wider c.args.here.game.now c.args.number (single run.low) run c.args.journal.now c.search.new.journal (le_itself run.low) (le_of_same run.low run.high c.requires.value.one.single)
    (grown_value c.args.here.game.now c.args.number run.low c.args.journal.now c.search.new.journal g)

pub search_below-returns-in-None-clause-grown : goal.search_below-returns-in-None-clause-grown
search_below-returns-in-None-clause-grown t c =
    let g = rw (c.behind.ensures.game, c.step_of-step.ensures) at c.search.ensures.grown in
    let run = c.args.run in
    grown_wider c.args.here.game.now c.args.number (single run.low) run c.args.journal.now c.search.new.journal (le_itself run.low) (le_of_same run.low run.high c.requires.value.one.single)
    (grown_value c.args.here.game.now c.args.number run.low c.args.journal.now c.search.new.journal g)

pub search_below-returns-in-Some-clause-grown : goal.search_below-returns-in-Some-clause-grown
search_below-returns-in-Some-clause-grown t c =
    let g = rw (c.behind.ensures.game, c.step_of-step.ensures) at c.search.ensures.grown in
    let run = c.args.run in
    grown_wider c.args.here.game.now c.args.number (single run.low) run c.args.journal.now c.search.new.journal (le_itself run.low) (le_of_same run.low run.high c.requires.value.one.single)
    (grown_value c.args.here.game.now c.args.number run.low c.args.journal.now c.search.new.journal g)

pub search_below-put-requires-in-Some-clause-bx : goal.search_below-put-requires-in-Some-clause-bx
search_below-put-requires-in-Some-clause-bx t c =
    let found = rw c.in-Some.is at c.in_ok-search.ensures.found in
    rw (found.1, c.put.ensures) (set_in_box c.args.here.game.now.vars c.args.bx.now c.args.here.depth c.args.run c.requires.entered.box.alive.box (one_inside (range_at c.args.bx.now c.args.here.depth) c.args.run c.requires.value.one))

pub search_below-returns-in-None-clause-found : goal.search_below-returns-in-None-clause-found
search_below-returns-in-None-clause-found t c =
    let found = rw c.in-None.is at c.in_ok-search.ensures.found in
    completed_behind_value c.args.here.game.now c.args.here.depth c.args.bx.now c.args.run c.search.new.bx (rw (c.behind.ensures.game, c.behind.ensures.depth, c.put.ensures) at found)

pub search_below-returns-in-Some-clause-found : goal.search_below-returns-in-Some-clause-found
search_below-returns-in-Some-clause-found t c =
    let found = rw c.in-Some.is at c.in_ok-search.ensures.found in
    let back = put_back c.args.bx.now c.put.new.bx c.search.new.bx c.put-in-Some.new.bx c.args.here.depth c.args.run c.range-before.result
    c.put.ensures found.1 c.put-in-Some.ensures c.range-before.ensures in
    part_found c.args.here.game.now (drop 1 c.args.here.rest.now) c.args.here.depth c.args.bx.now c.args.run c.in-Some.below c.part_of.result c.put-in-Some.new.bx c.args.within.high c.requires.value.one.single c.requires.some
    (rw (c.behind.ensures.game, c.behind.ensures.rest, c.behind.ensures.depth, c.put.ensures) at found.0) c.part_of.ensures.range c.part_of.ensures.below back
