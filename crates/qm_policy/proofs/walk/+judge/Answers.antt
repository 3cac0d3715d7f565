use Rattle.std.proofs.Common.{rules, ◌≡◌, true, arith, ap, sym, subst, ◌∙◌}
use Rattle.std.proofs.lemmas.Int.{to_z-of_z}
use mir.Syntax.{w128}
use mir.Val.{SFits}
use Rattle.qm_model.specs.Boxes.{IsBox, IsInside}
use Rattle.qm_model.specs.Ranges.{range_at}
use Rattle.qm_model.proofs.BoxLaws.{IsBox-length}
use Rattle.qm_cover.proofs.PartSteps.{part_inside, part_leaves, part_fails, part_passes}
use Rattle.qm_policy.proofs.Steps.{answer_judged}
use Rattle.qm_policy.proofs.walk.+judge.Goals as goal

pub test_here-test_end-requires : goal.test_here-test_end-requires
test_here-test_end-requires t c = IsBox-length c.args.here.game.now.vars c.args.bx.now c.requires

pub test_here-returns-in-Answer-clause-answer : goal.test_here-returns-in-Answer-clause-answer
test_here-returns-in-Answer-clause-answer t c =
    c.test_answer.ensures.answer
    ∙ answer_judged c.args.here.game.now c.args.value c.args.here.rest.now c.args.here.depth c.args.bx.now c.args.policy.now c.in-Answer.parts _ c.in-Answer.is c.as_slice.ensures

pub test_answer_parts-test_part-requires : goal.test_answer_parts-test_part-requires
test_answer_parts-test_part-requires t c =
    let same = sym c.loop-at.invariant.same in
    let inside = λ (on : c.follows-follows.result ≡ true).
    subst (IsInside _) (c.requires.covered ∙ ap (λ b. range_at b c.args.here.depth) same)
    (part_inside c.loop-at.invariant c.loop-at-test.true c.index-parts-at.is c.follows-follows.ensures c.is_last.ensures on) in
    (omega arith, (subst (IsBox c.args.here.game.now.vars) same c.requires.bx, (c.requires.some, inside)))

pub test_answer_parts-returns-in_err-test_part-clause-answer : goal.test_answer_parts-returns-in_err-test_part-clause-answer
test_answer_parts-returns-in_err-test_part-clause-answer t c =
    let known = part_leaves c.loop-at.invariant c.loop-at-test.true c.index-parts-at.is c.follows-follows.ensures c.is_last.ensures _ c.in_err-test_part.ensures.answer in
    search (rules, known)

pub test_answer_parts-returns-then-not-branch-clause-answer : goal.test_answer_parts-returns-then-not-branch-clause-answer
test_answer_parts-returns-then-not-branch-clause-answer t c =
    part_fails c.loop-at.invariant c.loop-at-test.true c.index-parts-at.is c.follows-follows.ensures c.is_last.ensures (rw c.if-not-branch.true at c.in_ok-test_part.ensures.answer)

pub test_answer_parts-loop-at-preserved : goal.test_answer_parts-loop-at-preserved
test_answer_parts-loop-at-preserved t c =
    let fits : SFits w128 c.after-next.result = search rules in
    rw (to_z-of_z w128 c.after-next.result fits, c.after-next.ensures)
    (part_passes c.loop-at.invariant c.loop-at-test.true c.index-parts-at.is c.follows-follows.ensures c.is_last.ensures (rw c.if-not-branch.false at c.in_ok-test_part.ensures.answer) _ c.test_part.ensures.same)
