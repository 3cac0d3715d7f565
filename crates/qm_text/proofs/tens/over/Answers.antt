use Rattle.std.proofs.Common.{pos}
use Rattle.qm_frac.proofs.Terms.{in_range_small}
use Rattle.qm_text.proofs.Wholes.{wrapped}
use Rattle.qm_text.proofs.tens.over.Goals as goal

pub returns-in-None : goal.returns-in-None
returns-in-None c =
    let num = wrapped c.plus.result (pos c.args.num) c.plus.ensures c.requires.num in
    let den = wrapped c.plus-2.result (pos c.args.den) c.plus-2.ensures c.requires.den in
    let found = rw (num, den, c.in-None.is) at c.of.ensures in
    absurd (found (in_range_small (pos c.args.num) c.args.den c.requires.num c.requires.den))
