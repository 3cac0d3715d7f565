use Rattle.std.proofs.Common.{refl}
use Rattle.qm_top.specs.Report.{status_of, text_of}
use Rattle.qm_top.proofs.Answering.{complete_report, unread}
use Rattle.qm_top.proofs.top.run.Goals as goal

pub returns-in-Ok-clause-answered : goal.returns-in-Ok-clause-answered
returns-in-Ok-clause-answered g c = λ taken.
    let moves = unread (g.M.Source.rest c.args.moves.now) (g.M.Source.faults c.args.moves.now) in
    let answer = c.answer-report.ensures.answer moves (record { bytes = refl; faults = refl }) in
    record { text = text_of c.answer-report.result; answer = rw c.status.ensures answer; taken = c.in-Ok.ensures.ok }

pub returns-in-Ok-clause-complete : goal.returns-in-Ok-clause-complete
returns-in-Ok-clause-complete g c = λ still.
    let moves = unread (g.M.Source.rest c.args.moves.now) (g.M.Source.faults c.args.moves.now) in
    complete_report c.one_decimal_a_word.ensures _ _ _ _ c.status.result (status_of c.answer-report.result) (text_of c.answer-report.result)
    (c.answer-report.ensures.answer moves (record { bytes = refl; faults = refl }))
    c.status.ensures c.in-Ok.ensures.ok

pub returns-clause-failed : goal.returns-clause-failed
returns-clause-failed g c = λ four.
    let moves = unread (g.M.Source.rest c.args.moves.now) (g.M.Source.faults c.args.moves.now) in
    record {
      status = status_of c.answer-report.result;
      text = text_of c.answer-report.result;
      answer = c.answer-report.ensures.answer moves (record { bytes = refl; faults = refl });
      taken = c.in-Err.ensures.err;
      rose = c.in-Err.ensures.cause.failed;
    }
