use Rattle.std.proofs.Common.{◌≡◌, ◌∙◌, refl, arith, subst, IsTrue, true, false}
use Rattle.std.proofs.lemmas.Int.{ints}
use Rattle.qm_legal.proofs.Parts.{dead_tried, none_longer}
use Rattle.qm_legal.proofs.run.dead_run.Goals as goal

pub loop-bracket-init : goal.loop-bracket-init
loop-bracket-init c =
    rw c.bracket_of-bracket.ensures (record {
      same = refl;
      from = omega (arith, ints);
      some = c.requires.before;
      high = omega (arith, ints);
      dead = c.requires.dead;
      longest = λ v above within dead. absurd (omega (arith, ints, above, within));
    })

pub loop-bracket-preserved-then-is_dead_with : goal.loop-bracket-preserved-then-is_dead_with
loop-bracket-preserved-then-is_dead_with c =
    let tried = c.halved-tried.ensures in
    let before = c.loop-bracket.invariant in
    rw c.upper-bracket.ensures (record {
      same = c.is_dead_with.ensures.same ∙ before.same;
      from = omega (arith, ints, before.from, tried.above);
      some = tried.within;
      high = before.high;
      dead = dead_tried c.args.row.now c.loop-bracket.bx c.args.bx.now c.args.here.depth c.args.run c.halved-tried.result before.same tried.low (c.is_dead_with.ensures.answer.0 c.if-is_dead_with.true);
      longest = before.longest;
    })

pub loop-bracket-preserved : goal.loop-bracket-preserved
loop-bracket-preserved c =
    let tried = c.halved-tried.ensures in
    let before = c.loop-bracket.invariant in
    rw c.lower-bracket.ensures (record {
      same = c.is_dead_with.ensures.same ∙ before.same;
      from = before.from;
      some = omega (arith, ints, tried.above);
      high = omega (arith, ints, tried.within, before.high);
      dead = before.dead;
      longest = none_longer c.args.row.now c.loop-bracket.bx c.args.bx.now c.args.here.depth c.args.run c.halved-tried.result c.args.within.high before.same tried.low
          (λ dead. let e : false ≡ true = subst IsTrue c.if-is_dead_with.false (c.is_dead_with.ensures.answer.1 dead) in cc);
    })

pub returns-clause-run : goal.returns-clause-run
returns-clause-run c =
    let end = c.loop-bracket.invariant in
    let met = c.loop-bracket-test.false in
    rw c.run_to.ensures (record {
      low = refl;
      some = end.from;
      high = omega (arith, ints, end.some, end.high);
      dead = end.dead;
      longest = λ v above within. end.longest v (omega (arith, ints, met, above)) within;
    })
