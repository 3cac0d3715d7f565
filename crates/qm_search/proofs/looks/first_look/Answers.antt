use Rattle.std.proofs.Common.{rules, ◌≡◌, ◌+ℤ◌, ◌<ℤ◌, arith, ap, pos, subst, to_z, ◌∙◌}
use Rattle.std.proofs.lemmas.Int.{ints, to_z-of_z}
use mir.Syntax.{w64}
use mir.Val.{SFits}
use Rattle.qm_model.specs.declared.range.Range.{Range}
use Rattle.qm_model.specs.Ranges.{range_at}
use Rattle.qm_search.specs.JudgeSteps.{IsKnownPoint}
use Rattle.qm_search.specs.LookSteps.{IsSeen}
use Rattle.qm_search.specs.PartSteps.{IsStart}
use Rattle.qm_search.proofs.looks.first_look.Goals as goal
use Rattle.qm_search.proofs.looks.first_look.Goals.{else-loop-value-test, then-loop-value-test+in_ok-outcome+else-value-value-end, in-Bound, in-Nothing}

pub looked_at-requires-clause-within : goal.looked_at-requires-clause-within
looked_at-requires-clause-within c =
    let range = range_at c.args.bx.now c.args.here.depth in
    let is : c.range-range.result ≡ range = c.range-range.ensures in
    let high = ap (λ (r : Range). r.high) is in
    rw c.loop-value.invariant.same (c.loop-value.invariant.from, omega (arith, ints, high))

pub or-lowest-requires-clause-within : goal.or-lowest-requires-clause-within
or-lowest-requires-clause-within c =
    let range = range_at c.args.bx.now c.args.here.depth in
    let is : c.range-range.result ≡ range = c.range-range.ensures in
    let low = ap (λ (r : Range). r.low) is in
    (omega (arith, ints, low, c.loop-value.invariant.from), omega (arith, ints))

pub returns-clause-look : goal.returns-clause-look
returns-clause-look c =
    let P = c.args.here.game.now in
    let rest = c.args.here.rest.now in
    let depth = c.args.here.depth in
    let bx = c.args.bx.now in
    let W = c.args.window.now in
    let before = c.loop-value.invariant in
    let start : IsStart (range_at bx depth) c.loop-value-test.lowest.value =
    elim c.loop-value-test.branch [
      | else-loop-value-test w ↦ rw w.lowest-is before.start
      | then-loop-value-test+in_ok-outcome+else-value-value-end w ↦
          elim w.match-branch-2.branch [
            | in-Bound b ↦ rw (w.lowest-is, b.lowest-is) (rw c.range-range.ensures at b.or-lowest.ensures.start)
            | in-Nothing b ↦ rw (w.lowest-is, b.lowest-is) before.start
          ]
    ] in
    let point : IsKnownPoint P c.loop-value-test.lowest.point =
    elim c.loop-value-test.branch [
      | else-loop-value-test w ↦ rw w.lowest-is before.point
      | then-loop-value-test+in_ok-outcome+else-value-value-end w ↦
          elim w.match-branch-2.branch [
            | in-Bound b ↦ rw (w.lowest-is, b.lowest-is) (b.or-lowest.ensures.point P before.point (subst (IsSeen P rest depth c.loop-value.bx W) b.in-Bound.is w.in_ok-outcome.ensures.seen))
            | in-Nothing b ↦ rw (w.lowest-is, b.lowest-is) before.point
          ]
    ] in
    (start, point)

pub loop-value-preserved : goal.loop-value-preserved
loop-value-preserved c =
    let P = c.args.here.game.now in
    let rest = c.args.here.rest.now in
    let depth = c.args.here.depth in
    let bx = c.args.bx.now in
    let W = c.args.window.now in
    let v = to_z w64 c.loop-value.value-bits in
    let before = c.loop-value.invariant in
    let fitting : SFits w64 c.range-range.result.high = search rules in
    let less : v <ℤ c.range-range.result.high = omega (arith, ints) in
    let fits : SFits w64 (v +ℤ pos 1) = omega (arith, ints) in
    let start : IsStart (range_at bx depth) c.match-branch-2.lowest.value =
    elim c.match-branch-2.branch [
      | in-Bound b ↦ rw b.lowest-is (rw c.range-range.ensures at b.or-lowest.ensures.start)
      | in-Nothing b ↦ rw b.lowest-is before.start
    ] in
    let point : IsKnownPoint P c.match-branch-2.lowest.point =
    elim c.match-branch-2.branch [
      | in-Bound b ↦ rw b.lowest-is (b.or-lowest.ensures.point P before.point (subst (IsSeen P rest depth c.loop-value.bx W) b.in-Bound.is c.in_ok-outcome.ensures.seen))
      | in-Nothing b ↦ rw b.lowest-is before.point
    ] in
    simp (to_z-of_z w64 (v +ℤ pos 1) fits) (record { same = c.looked_at.ensures.same ∙ before.same; from = omega (arith, ints, before.from); start = start; point = point })
