use Rattle.std.proofs.Common.{◌∙◌, sym, ap, to_z}
use Rattle.std.specs.Int.{w128}
use Rattle.qm_frac.proofs.SignLaws.{unwrap}
use Rattle.qm_frac.proofs.SumLaws.{zero_plus, plus_zero}
use Rattle.qm_frac.proofs.sums.total.Goals as goal

pub returns-then-num-eq0 : goal.returns-then-num-eq0
returns-then-num-eq0 c =
    let a = c.num.ensures in
    let zero = sym a.num ∙ sym (unwrap c.num.result (rw a.num a.terms.num_fits)) ∙ ap (to_z w128) c.if-num-eq0.true in
    zero_plus c.args.a c.args.b a.terms c.den-2.ensures.terms zero

pub returns-then-num-eq0-2 : goal.returns-then-num-eq0-2
returns-then-num-eq0-2 c =
    let b = c.num-else-num-eq0.ensures in
    let zero = sym b.num ∙ sym (unwrap c.num-else-num-eq0.result (rw b.num b.terms.num_fits)) ∙ ap (to_z w128) c.if-num-eq0-2.true in
    plus_zero c.args.a c.args.b c.den.ensures.terms b.terms zero
