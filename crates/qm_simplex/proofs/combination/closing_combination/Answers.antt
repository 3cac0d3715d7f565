use Rattle.std.proofs.Common.{◌+◌, ◌<◌, ◌++◌, add-one, arith, length, length-append}
use Rattle.qm_simplex.specs.Multipliers.{multiplier, slack_name, slack_rows, slacks_start}
use Rattle.qm_simplex.proofs.FirstEntries.{entries_so_far}
use Rattle.qm_simplex.proofs.combination.closing_combination.Goals as goal

pub push_entry-requires : goal.push_entry-requires
push_entry-requires c =
    let problem = c.args.problem.now in
    let all = length-append problem.rows (problem.urows ++ c.args.cuts.now) in
    let others = length-append problem.urows c.args.cuts.now in
    let below : c.loop-n.n < length (slack_rows problem c.args.cuts.now) =
    omega (arith, c.loop-n-test.true, c.len-rows.ensures, c.len-urows.ensures, all, others) in
    let entries = entries_so_far (slack_name (length problem.rows) (length problem.urows)) (λ n. multiplier c.args.tableau.now c.args.row (slacks_start c.args.bx.now + n))
    c.loop-n.n (length (slack_rows problem c.args.cuts.now)) below c.requires.entries in
    rw (c.loop-n.invariant, c.slack_name.ensures, c.multiplier-by.ensures, c.len-rows.ensures, c.len-urows.ensures) entries

pub loop-n-preserved : goal.loop-n-preserved
loop-n-preserved c =
    let pushed = c.in_ok-push_entry.ensures in
    rw add-one (rw (c.loop-n.invariant, c.slack_name.ensures, c.multiplier-by.ensures, c.len-rows.ensures, c.len-urows.ensures) at pushed)
