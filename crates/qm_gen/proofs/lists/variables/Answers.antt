use Rattle.std.proofs.Common.{ℕ, ap, length, arith}
use Rattle.std.proofs.lemmas.List.FromFn.{length-range_with_len}
use Rattle.qm_gen.specs.Generated.{variables}
use Rattle.qm_gen.specs.WritingSteps.{is_in}
use Rattle.qm_gen.proofs.Drawn.{members_step}
use Rattle.qm_gen.proofs.Fits.{length-filter-le}
use Rattle.qm_gen.proofs.lists.variables.Goals as goal

pub loop-place-preserved : goal.loop-place-preserved
loop-place-preserved c = members_step (is_in c.args.group) c.loop-place.place c.loop-place.numbers c.push_member.new.numbers c.loop-place.invariant c.in_ok-push_member.ensures

pub returns-clause-few : goal.returns-clause-few
returns-clause-few c =
    omega (arith, ap (length {A = ℕ}) c.loop-place.invariant, length-filter-le (is_in c.args.group) (variables c.loop-place.place), length-range_with_len 1 c.loop-place.place)
