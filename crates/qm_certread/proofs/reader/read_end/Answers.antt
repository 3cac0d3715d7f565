use Rattle.std.specs.Prelude.{◌∷◌, []}
use Rattle.qm_model.specs.declared.game.Problem.{Problem}
use Rattle.qm_certread.specs.Dues.{Said, end_line}
use Rattle.qm_certread.specs.ReadSteps.{IsFault}
use Rattle.qm_certread.proofs.TreesRead.{err_out}
use Rattle.qm_certread.proofs.WholeRead.{last_fails, text_fails}
use Rattle.qm_certread.proofs.reader.read_end.Goals as goal

pub returns-in_err-next_alone-clause-err : goal.returns-in_err-next_alone-clause-err
returns-in_err-next_alone-clause-err c =
    err_out (λ e. (P : Problem) → IsFault P c.args.text.now (Said end_line ∷ []) c.args.cursor e) c.from_residual.result _ c.from_residual.ensures.1
    (last_fails c.args.text.now c.args.cursor _ c.in_err-next_alone.ensures.err)

pub returns-clause-err : goal.returns-clause-err
returns-clause-err c = text_fails c.args.text.now c.args.cursor c.next_alone.new.cursor c.text_end.result c.in_ok-next_alone.ensures.ok c.text_end.ensures.err
