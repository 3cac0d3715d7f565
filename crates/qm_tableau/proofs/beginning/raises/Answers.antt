use Rattle.std.proofs.Common.{◌≡◌, ◌∙◌, ◌++◌, ◌∷◌, [], ◌<◌, ◌^◌, unsigned_abs, pos, ap, arith, add-one}
use Rattle.qm_frac.proofs.SignLaws.{unwrap}
use Rattle.std.specs.Prelude.{int_lt}
use Rattle.qm_model.specs.declared.range.Range.{Range}
use Rattle.qm_model.specs.Linear.{coefficient}
use Rattle.qm_tableau.proofs.Highs.{raises_step}
use Rattle.qm_tableau.proofs.beginning.raises.Goals as goal

pub loop-var-preserved : goal.loop-var-preserved
loop-var-preserved c =
    let var = c.loop-var.var in
    let objective = c.args.objective.now in
    let found = c.next_coefficient-coefficient.ensures in
    let same : c.next_coefficient-coefficient.result.0 ≡ coefficient objective var = found.value ∙ c.loop-var.invariant.same var (omega arith) in
    let small : unsigned_abs c.next_coefficient-coefficient.result.0 < 2 ^ 127 = rw same (c.requires.narrow var) in
    let any : Range = record { low = pos 0; high = pos 0 } in
    let pushed : c.push.new.self ≡ c.loop-var.highs ++ c.is_positive.result ∷ [] = c.in_ok-push.ensures.ok in
    record {
      done = raises_step objective c.loop-var.rest.now var any c.args.bx.now c.loop-var.highs _ _ c.next_coefficient-coefficient.result.0 c.loop-var-test.true
          (pushed ∙ ap (λ b. c.loop-var.highs ++ b ∷ []) (c.is_positive.ensures ∙ ap (int_lt (pos 0)) (unwrap c.next_coefficient-coefficient.result.0 small))) found.value (c.loop-var.invariant.same var (omega arith)) c.loop-var.invariant.done;
      ordered = rw (add-one var) found.ordered;
      same = λ v h. found.later v (omega arith) ∙ c.loop-var.invariant.same v (omega arith);
    }
