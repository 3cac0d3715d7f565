use Rattle.std.proofs.Common.{◌∙◌, ap, unsigned_abs}
use Rattle.qm_frac.proofs.SignLaws.{unwrap, below_zero_is}
use Rattle.qm_frac.proofs.ProductLaws.{IsFrac-inverse}
use Rattle.qm_frac.proofs.frac.Frac.inverse.Goals as goal

pub made-requires : goal.made-requires
made-requires c =
    let a = c.parts-num.ensures in
    let n = unwrap c.parts-num.result.0 (rw a.num a.terms.num_fits) ∙ a.num in
    let abs = c.unsigned_abs.ensures.value ∙ ap unsigned_abs n in
    rw (n, abs, a.den, below_zero_is c.args.self.num) (IsFrac-inverse c.args.self a.terms c.requires)
