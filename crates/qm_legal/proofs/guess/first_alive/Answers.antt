use Rattle.std.proofs.Common.{rules, ◌∙◌, refl, sym, to_z, ap, arith, set}
use Rattle.std.proofs.lemmas.Int.{ints, to_z-of_z}
use mir.Syntax.{w128}
use mir.Val.{SFits}
use Rattle.qm_math.proofs.WholeTests.{le_of_test}
use Rattle.qm_model.specs.declared.range.Range.{Range}
use Rattle.qm_model.specs.Boxes.{IsDead}
use Rattle.qm_model.specs.Ranges.{range_at}
use Rattle.qm_legal.proofs.Asking.{has_rows_at}
use Rattle.qm_legal.proofs.Boxes.{one_inside}
use Rattle.qm_legal.proofs.OpenBoxes.{filled}
use Rattle.qm_legal.proofs.RangeParts.{filled_as, high_of, one_value, past_of_test}
use Rattle.qm_legal.proofs.guess.first_alive.Goals as goal

pub loop-covered-init : goal.loop-covered-init
loop-covered-init c =
    let fits : SFits w128 c.start-next.result = search rules in
    rw (to_z-of_z w128 c.start-next.result fits, c.start-next.ensures) (record {
      same = refl;
      covered = c.range-covered.ensures;
      from = omega (arith, ints);
      rows = λ less. absurd (omega (arith, ints, less));
    })

pub dead_row_with-requires-clause-bx : goal.dead_row_with-requires-clause-bx
dead_row_with-requires-clause-bx c = rw c.loop-covered.invariant.same c.requires.bx.alive.box

pub dead_row_with-requires-clause-alive : goal.dead_row_with-requires-clause-alive
dead_row_with-requires-clause-alive c = rw c.loop-covered.invariant.same c.requires.bx.alive.alive

pub dead_row_with-requires-clause-inside : goal.dead_row_with-requires-clause-inside
dead_row_with-requires-clause-inside c =
    let before = c.loop-covered.invariant in
    let next = to_z w128 c.loop-covered.next-bits in
    let left = le_of_test next c.range-covered.result.high (sym c.is_left.ensures ∙ c.loop-covered-test.true) in
    let r = range_at c.args.bx.now c.args.here.depth in
    rw before.same (one_inside r c.single_at-run.result (one_value r c.range-covered.result c.single_at-run.result next before.covered before.from left c.single_at-run.ensures))

pub returns-in-None-clause-first : goal.returns-in-None-clause-first
returns-in-None-clause-first c =
    let before = c.loop-covered.invariant in
    let next = to_z w128 c.loop-covered.next-bits in
    let left = le_of_test next c.range-covered.result.high (sym c.is_left.ensures ∙ c.loop-covered-test.true) in
    let r = range_at c.args.bx.now c.args.here.depth in
    record {
      one = one_value r c.range-covered.result c.single_at-run.result next before.covered before.from left c.single_at-run.ensures;
      alive = rw before.same at c.in-None.ensures.row;
    }

pub returns-in-None-clause-same : goal.returns-in-None-clause-same
returns-in-None-clause-same c = c.dead_row_with.ensures.same ∙ c.loop-covered.invariant.same

pub dead_range-requires-clause-bx : goal.dead_range-requires-clause-bx
dead_range-requires-clause-bx c = rw (c.dead_row_with.ensures.same, c.loop-covered.invariant.same) c.requires.bx.alive.box

pub dead_range-requires-clause-run : goal.dead_range-requires-clause-run
dead_range-requires-clause-run c =
    let before = c.loop-covered.invariant in
    let next = to_z w128 c.loop-covered.next-bits in
    let left = le_of_test next c.range-covered.result.high (sym c.is_left.ensures ∙ c.loop-covered-test.true) in
    rw (c.dead_row_with.ensures.same, before.same) (one_value (range_at c.args.bx.now c.args.here.depth) c.range-covered.result c.single_at-run.result next before.covered before.from left c.single_at-run.ensures)

pub dead_range-requires-clause-before : goal.dead_range-requires-clause-before
dead_range-requires-clause-before c =
    let next = to_z w128 c.loop-covered.next-bits in
    rw c.single_at-run.ensures (le_of_test next c.range-covered.result.high (sym c.is_left.ensures ∙ c.loop-covered-test.true))

pub dead_range-requires-clause-within : goal.dead_range-requires-clause-within
dead_range-requires-clause-within c =
    let before = c.loop-covered.invariant in
    rw (c.dead_row_with.ensures.same, before.same) (high_of c.range-covered.result (range_at c.args.bx.now c.args.here.depth) before.covered)

pub dead_range-requires-clause-dead : goal.dead_range-requires-clause-dead
dead_range-requires-clause-dead c = rw c.dead_row_with.ensures.same c.in-Some.ensures.row.has

pub loop-covered-smaller : goal.loop-covered-smaller
loop-covered-smaller c =
    let next = to_z w128 c.loop-covered.next-bits in
    let left = le_of_test next c.range-covered.result.high (sym c.is_left.ensures ∙ c.loop-covered-test.true) in
    let fits : SFits w128 c.after-next.result = search rules in
    let run = ap (λ (r : Range). r.high) c.single_at-run.ensures in
    rw c.after-next.ensures (omega (arith, ints, run, c.dead_range.ensures.some, c.dead_range.ensures.high, left))

pub loop-covered-preserved : goal.loop-covered-preserved
loop-covered-preserved c =
    let before = c.loop-covered.invariant in
    let next = to_z w128 c.loop-covered.next-bits in
    let fits : SFits w128 c.after-next.result = search rules in
    let run = ap (λ (r : Range). r.high) c.single_at-run.ensures in
    rw (to_z-of_z w128 c.after-next.result fits, c.after-next.ensures) (record {
      same = c.dead_range.ensures.same ∙ c.dead_row_with.ensures.same ∙ before.same;
      covered = before.covered;
      from = omega (arith, ints, run, c.dead_range.ensures.some, before.from);
      rows = λ less. has_rows_at c.args.here.game.now.urows c.in-Some.number (IsDead (set c.loop-covered.bx c.args.here.depth c.single_at-run.result)) c.in-Some.ensures.row.has;
    })

pub returns-clause-first : goal.returns-clause-first
returns-clause-first c =
    let before = c.loop-covered.invariant in
    let next = to_z w128 c.loop-covered.next-bits in
    let past = past_of_test next c.range-covered.result.high (sym c.is_left.ensures ∙ c.loop-covered-test.false) in
    before.rows (omega (arith, ints, past, filled_as c.range-covered.result (range_at c.args.bx.now c.args.here.depth) c.range-covered.ensures (filled c.args.here.game.now c.args.here.depth c.args.bx.now c.args.here.rest.now c.args.here.from_depth c.requires.player c.requires.bx)))
