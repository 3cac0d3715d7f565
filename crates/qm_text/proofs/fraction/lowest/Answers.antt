use Rattle.std.proofs.Common.{◌∙◌, sym, pos}
use Rattle.qm_frac.proofs.SignLaws.{unwrap}
use Rattle.qm_text.proofs.Wholes.{wrapped}
use Rattle.qm_text.proofs.Fractions.{lowest_answer}
use Rattle.qm_text.proofs.fraction.lowest.Goals as goal

pub returns : goal.returns
returns c =
    let num = unwrap c.args.num c.requires.num in
    let den = wrapped c.plus-den.result (pos c.args.den) c.plus-den.ensures c.requires.den in
    let one = rw (num, den) at c.gcd.ensures in
    let found = rw (num, den) at c.of.ensures in
    rw c.ok_or.ensures.value
    (lowest_answer c.args.num c.args.den c.requires.num c.requires.some c.requires.den (sym one ∙ c.if-gcd-ne1.false) c.of.result found)
