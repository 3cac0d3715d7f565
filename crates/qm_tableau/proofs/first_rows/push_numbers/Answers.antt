use Rattle.std.proofs.Common.{◌≡◌, ◌∙◌, ◌++◌, ◌∷◌, [], ◌<◌, ◌^◌, unsigned_abs, ap, to_z, of_z, arith, false, get_or, ℤ, add-one}
use Rattle.std.specs.Int.{w128}
use Rattle.qm_math.specs.Fraction.{whole}
use Rattle.qm_tableau.specs.Quantities.{turned}
use Rattle.qm_frac.proofs.SignLaws.{unwrap}
use Rattle.qm_model.specs.Linear.{coefficient}
use Rattle.qm_tableau.proofs.Highs.{numbers_step}
use Rattle.qm_tableau.proofs.first_rows.push_numbers.Goals as goal

pub loop-var-preserved : goal.loop-var-preserved
loop-var-preserved c =
    let var = c.loop-var.var in
    let terms = c.args.terms.now in
    let found = c.next_coefficient-coefficient.ensures in
    let same : c.next_coefficient-coefficient.result.0 ≡ coefficient terms var = found.value ∙ c.loop-var.invariant.same var (omega arith) in
    let small : unsigned_abs c.next_coefficient-coefficient.result.0 < 2 ^ 127 = rw same (c.requires.narrow var) in
    let passed : to_z w128 (of_z w128 c.number.result) ≡ c.number.result = unwrap c.number.result c.number.ensures.size in
    let pushed : c.push.new.self ≡ c.loop-var.entries ++ whole c.number.result ∷ [] = c.in_ok-push.ensures ∙ ap (λ (z : ℤ). c.loop-var.entries ++ whole z ∷ []) passed in
    record {
      done = numbers_step c.args.less terms c.loop-var.rest.now var false c.args.highs.now c.loop-var.entries _ _ c.next_coefficient-coefficient.result.0 c.loop-var-test.true
          (pushed ∙ ap (λ (z : ℤ). c.loop-var.entries ++ whole z ∷ []) (c.number.ensures.value ∙ ap (λ (z : ℤ). turned (get_or c.args.highs.now var false) (turned c.args.less z)) (unwrap c.next_coefficient-coefficient.result.0 small))) found.value (c.loop-var.invariant.same var (omega arith)) c.loop-var.invariant.done;
      ordered = rw (add-one var) found.ordered;
      same = λ v h. found.later v (omega arith) ∙ c.loop-var.invariant.same v (omega arith);
    }
