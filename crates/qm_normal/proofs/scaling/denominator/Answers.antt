use Rattle.std.proofs.Common.{ℕ, ◌≤◌, ◌^◌, sym, subst}
use Rattle.std.specs.Prelude.{SomeIff}
use Rattle.qm_normal.specs.Rows.{common_denominator}
use Rattle.qm_normal.proofs.Denominators.{denominator-cons}
use Rattle.qm_normal.proofs.scaling.denominator.Goals as goal

pub returns : goal.returns
returns c =
    subst (λ (d : ℕ). SomeIff c.multiple_of.result (d ≤ 2 ^ 126) d) (sym (denominator-cons c.args.right c.args.sums.now))
    (c.multiple_of.ensures (common_denominator c.args.sums.now) c.denominator_of_sums.ensures)
