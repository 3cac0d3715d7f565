use Rattle.std.proofs.Common.{arith}
use Rattle.qm_combo.proofs.Coefficients.{coefficient_behind, later_at}
use Rattle.qm_cuts.proofs.nexts.place_from.Goals as goal

pub loop-low-preserved-then-terms-middle : goal.loop-low-preserved-then-terms-middle
loop-low-preserved-then-terms-middle c =
    let before = c.loop-low.invariant in
    record {
      below = omega (arith, c.loop-low-test.true);
      within = before.within;
      before = λ n h. coefficient_behind c.args.terms.now _ n (omega (arith, before.within, c.loop-low-test.true)) c.requires (omega (arith, h, c.if-terms-middle.true));
      behind = before.behind;
    }

pub loop-low-preserved : goal.loop-low-preserved
loop-low-preserved c =
    let before = c.loop-low.invariant in
    record {
      below = omega (arith, c.loop-low-test.true);
      within = omega (arith, before.within, c.loop-low-test.true);
      before = before.before;
      behind = (later_at c.args.terms.now _ c.args.var (omega (arith, before.within, c.loop-low-test.true))).1 c.if-terms-middle.false;
    }
