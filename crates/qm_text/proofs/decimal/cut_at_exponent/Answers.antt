use Rattle.std.proofs.Common.{take, drop, ap, ◌∙◌}
use Rattle.qm_text.proofs.Spellings.{exponent_cut_at}
use Rattle.qm_text.proofs.decimal.cut_at_exponent.Goals as goal

pub returns : goal.returns
returns c =
    let at = c.unwrap_or.ensures in
    exponent_cut_at c.args.text.now c.split_at.result.0.now c.split_at.result.1.now c.memchr2.result c.memchr2.ensures
    (c.split_at.ensures.front ∙ ap (λ n. take n c.args.text.now) at)
    (c.split_at.ensures.back ∙ ap (λ n. drop n c.args.text.now) at)
