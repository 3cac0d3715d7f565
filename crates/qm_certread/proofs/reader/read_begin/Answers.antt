use Rattle.std.proofs.Common.{ap, ◌∙◌}
use Rattle.qm_trees.specs.Picks.{universal_count}
use Rattle.qm_certread.proofs.BodyRead.{begin_fails}
use Rattle.qm_certread.proofs.reader.read_begin.Goals as goal

pub returns-clause-err : goal.returns-clause-err
returns-clause-err c =
    begin_fails c.args.problem.now c.args.text.now c.next_values.result c.universal_count-count.result c.args.cursor.now c.next_version.new.cursor
    (c.universal_count-count.ensures ∙ ap universal_count c.whole_vars.ensures) c.in_ok-next_version.ensures.ok c.next_values.ensures.err
