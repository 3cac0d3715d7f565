use Rattle.std.proofs.Common.{[]}
use Rattle.qm_cuts.specs.Pools.{rows_of}
use Rattle.qm_cuts.proofs.Derivations.{answer_cut}
use Rattle.qm_cuts.proofs.Holding.{are_over}
use Rattle.qm_cuts.proofs.derivation.derive.Goals as goal

pub derived-requires-clause-over : goal.derived-requires-clause-over
derived-requires-clause-over c = rw (c.problem.ensures.value, c.rows.ensures) (are_over c.args.game.now [] c.args.pool.now c.requires)

pub returns-clause-cut : goal.returns-clause-cut
returns-clause-cut c =
    let sound = rw c.problem.ensures.value at c.problem.ensures.sound in
    let form = rw c.entries.ensures.value at c.entries.ensures.in_order in
    let answer = rw (c.problem.ensures.value, c.rows.ensures, c.entries.ensures.value) at c.derived.ensures in
    answer_cut c.args.game.now (rows_of c.args.pool.now) c.args.combo.now sound form c.derived.result answer
