use Rattle.std.proofs.Common.{◌≡◌, ℕ, ◌-◌, ◌≤◌, ◌^◌, Some, drop, length, sym, subst, arith}
use Rattle.std.specs.Prelude.{SomeIff}
use Rattle.qm_normal.specs.Rows.{common_denominator}
use Rattle.qm_normal.proofs.Denominators.{denominator_start, denominator_turn}
use Rattle.qm_normal.proofs.scaling.denominator_of_sums.Goals as goal

pub loop-done-init : goal.loop-done-init
loop-done-init c =
    let all : length c.args.sums.now - 0 ≡ length c.args.sums.now = omega arith in
    subst (λ (k : ℕ). SomeIff (Some 1) (common_denominator (drop k c.args.sums.now) ≤ 2 ^ 126) (common_denominator (drop k c.args.sums.now))) (sym all) (denominator_start c.args.sums.now)

pub loop-done-preserved : goal.loop-done-preserved
loop-done-preserved c =
    denominator_turn c.args.sums.now c.loop-done.done c.index-sums-sums.result c.multiple_of-common.result (omega arith) c.index-sums-sums.is
    (c.multiple_of-common.ensures (common_denominator (drop (length c.args.sums.now - c.loop-done.done) c.args.sums.now)) c.loop-done.invariant)
