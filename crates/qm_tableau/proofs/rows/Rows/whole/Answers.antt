use Rattle.qm_tableau.proofs.KeptRows.{first_kept, first_seen}
use Rattle.qm_tableau.proofs.rows.Rows.whole.Goals as goal

pub invariant_of-result : goal.invariant_of-result
invariant_of-result c =
    let f = c.in_ok-fractions.ensures in
    let s = c.in_ok-spare.ensures in
    first_kept c.args.width c.args.height c.args.numbers.items c.in_ok-wholes.wholes c.in_ok-others.others c.in_ok-fractions.fractions c.in_ok-spare.spare c.in_ok-wholes.ensures f.width
    c.requires.small c.in_ok-others.ensures f.rows f.spare s.rows s.width s.spare

pub returns : goal.returns
returns c =
    first_seen c.args.width c.args.height c.args.numbers.items c.in_ok-wholes.wholes c.in_ok-others.others c.in_ok-fractions.fractions c.in_ok-spare.spare c.in_ok-wholes.ensures c.in_ok-fractions.ensures.width
