use Rattle.std.proofs.Common.{rules, ◌≡◌, sym, ◌∙◌, pos, drop, ◌++◌, ◌∷◌, []}
use Rattle.qm_check.proofs.Completions.{fixed_ends, fixed_on_lacks, fixed_on_stays, fixed_on_takes, none_left}
use Rattle.qm_model.specs.Ranges.{single}
use Rattle.qm_check.proofs.picked.append_fixed.Goals as goal
use Rattle.qm_check.proofs.picked.append_fixed.Goals.{then-is_universal_at+in-Some, then-is_universal_at+in_default, else-is_universal_at}

pub loop-at-preserved : goal.loop-at-preserved
loop-at-preserved c =
    let xs = c.args.vars.now in
    let bx = c.args.ranges.now in
    let us = c.loop-at.left.now in
    let pushed : c.push.new.self ≡ c.loop-at.bx ++ c.if-is_universal_at.next ∷ [] = search rules in
    elim c.if-is_universal_at.branch [
      | then-is_universal_at+in-Some w ↦
          let more = w.in-Some.ensures.cases.0 in
          let next = rw more at w.single_first-next.ensures in
          rw w.left-is (fixed_on_takes xs bx c.loop-at.bx c.push.new.self c.loop-at.at (single (pos 0)) c.loop-at-test.true us _ _ more (sym c.is_universal_at.ensures ∙ w.if-is_universal_at.true)
          (rw (w.next-is, next) at pushed) ∙ c.loop-at.invariant)
      | then-is_universal_at+in_default w ↦
          rw w.left-is (fixed_on_lacks xs bx c.loop-at.bx c.push.new.self c.loop-at.at (single (pos 0)) c.loop-at-test.true us (none_left us w.in_default.ensures.cases) (rw w.next-is at pushed) ∙ c.loop-at.invariant)
      | else-is_universal_at w ↦
          rw w.left-is (fixed_on_stays xs bx c.loop-at.bx c.push.new.self c.loop-at.at (single (pos 0)) c.loop-at-test.true us (sym c.is_universal_at.ensures ∙ w.if-is_universal_at.false) (rw w.next-is at pushed) ∙ c.loop-at.invariant)
    ]

pub returns : goal.returns
returns c = sym (fixed_ends (drop c.loop-at.at c.args.vars.now) c.args.ranges.now c.loop-at.at c.loop-at.left.now c.loop-at.bx c.loop-at-test.false) ∙ c.loop-at.invariant
