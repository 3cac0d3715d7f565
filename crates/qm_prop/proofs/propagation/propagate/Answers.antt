use Rattle.std.proofs.Common.{◌≡◌, ◌≢◌, ◌∙◌, sym, subst, suc, ◌+◌, ◌-◌, length, arith}
use Rattle.std.specs.Prelude.{Some, None}
use Rattle.qm_prop.specs.Courses.{sweep_of, swept}
use Rattle.qm_prop.specs.Propagation.{Tells}
use Rattle.qm_prop.proofs.Meaning.{last-answer, propagation-tells, sweep-dead, sweep-more, sweep-rest}
use Rattle.qm_prop.proofs.propagation.propagate.Goals as goal

pub returns-in-Some-clause-exact : goal.returns-in-Some-clause-exact
returns-in-Some-clause-exact c =
    let P = c.args.game.now in
    let left : 32 - c.loop.counter ≡ suc (32 - (c.loop.counter + 1)) = omega (arith, c.loop-test.true) in
    let came : sweep_of P c.loop.course ≡ swept c.sweep.new.course (Some c.in-Some.row) =
    sym (rw c.in-Some.is at c.in_ok-row.ensures.course) in
    sym (sweep-dead P (32 - (c.loop.counter + 1)) c.loop.course c.sweep.new.course c.in-Some.row came) ∙ rw left at c.loop.invariant.course

pub returns-in-Some-clause-tells : goal.returns-in-Some-clause-tells
returns-in-Some-clause-tells c =
    let P = c.args.game.now in
    let sound = rw c.problem-problem.ensures.value at c.problem-problem.ensures.sound in
    subst (Tells P c.args.bx) (sym (returns-in-Some-clause-exact c)) (propagation-tells P c.args.bx sound c.requires)

pub returns-then-len-before-clause-exact : goal.returns-then-len-before-clause-exact
returns-then-len-before-clause-exact c =
    let P = c.args.game.now in
    let left : 32 - c.loop.counter ≡ suc (32 - (c.loop.counter + 1)) = omega (arith, c.loop-test.true) in
    let came : sweep_of P c.loop.course ≡ swept c.sweep.new.course None =
    sym (rw c.in_default.is at c.in_ok-row.ensures.course) in
    let same : length c.sweep.new.course.reasons ≡ length c.loop.course.reasons = omega (arith, c.len.ensures, c.len-before.ensures, c.if-len-before.true) in
    sym (sweep-rest P (32 - (c.loop.counter + 1)) c.loop.course c.sweep.new.course came same) ∙ rw left at c.loop.invariant.course

pub returns-then-len-before-clause-tells : goal.returns-then-len-before-clause-tells
returns-then-len-before-clause-tells c =
    let P = c.args.game.now in
    let sound = rw c.problem-problem.ensures.value at c.problem-problem.ensures.sound in
    subst (Tells P c.args.bx) (sym (returns-then-len-before-clause-exact c)) (propagation-tells P c.args.bx sound c.requires)

pub loop-preserved : goal.loop-preserved
loop-preserved c =
    let P = c.args.game.now in
    let left : 32 - c.loop.counter ≡ suc (32 - (c.loop.counter + 1)) = omega (arith, c.loop-test.true) in
    let came : sweep_of P c.loop.course ≡ swept c.sweep.new.course None =
    sym (rw c.in_default.is at c.in_ok-row.ensures.course) in
    let more : length c.sweep.new.course.reasons ≢ length c.loop.course.reasons = λ e. absurd (omega (arith, e, c.len.ensures, c.len-before.ensures, c.if-len-before.false)) in
    record {
      course = sym (sweep-more P (32 - (c.loop.counter + 1)) c.loop.course c.sweep.new.course came more) ∙ rw left at c.loop.invariant.course;
      box = c.in_ok-row.ensures.bx;
    }

pub returns-clause-exact : goal.returns-clause-exact
returns-clause-exact c =
    let left : 32 - c.loop.counter ≡ 0 = omega (arith, c.loop-test.false) in
    sym (last-answer c.args.game.now c.loop.course) ∙ rw left at c.loop.invariant.course

pub returns-clause-tells : goal.returns-clause-tells
returns-clause-tells c =
    let P = c.args.game.now in
    let sound = rw c.problem-problem.ensures.value at c.problem-problem.ensures.sound in
    subst (Tells P c.args.bx) (sym (returns-clause-exact c)) (propagation-tells P c.args.bx sound c.requires)
