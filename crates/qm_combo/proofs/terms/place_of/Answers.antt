use Rattle.std.proofs.Common.{arith}
use Rattle.qm_combo.proofs.Coefficients.{coefficient_behind, later_at}
use Rattle.qm_combo.proofs.terms.place_of.Goals as goal

pub loop-low-preserved-then-terms-middle : goal.loop-low-preserved-then-terms-middle
loop-low-preserved-then-terms-middle c =
    let before = c.loop-low.invariant in (
      omega (arith, c.loop-low-test.true),
      before.1,
      coefficient_behind c.args.terms.now _ c.args.var (omega (arith, before.1, c.loop-low-test.true)) c.requires c.if-terms-middle.true,
      before.3,
    )

pub loop-low-preserved : goal.loop-low-preserved
loop-low-preserved c =
    let before = c.loop-low.invariant in (
      omega (arith, c.loop-low-test.true),
      omega (arith, before.1, c.loop-low-test.true),
      before.2,
      (later_at c.args.terms.now _ c.args.var (omega (arith, before.1, c.loop-low-test.true))).1 c.if-terms-middle.false,
    )
