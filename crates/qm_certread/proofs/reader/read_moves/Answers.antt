use Rattle.qm_certread.specs.Dues.{Policy, policy_line}
use Rattle.qm_certread.proofs.BodyRead.{tree_fails}
use Rattle.qm_certread.proofs.reader.read_moves.Goals as goal

pub returns-clause-err : goal.returns-clause-err
returns-clause-err c =
    tree_fails c.args.problem.now c.args.text.now c.read_policy.result policy_line (Policy 0) c.args.cursor.now c.next_alone.new.cursor c.in_ok-next_alone.ensures.ok c.read_policy.ensures.err
