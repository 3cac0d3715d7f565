use Rattle.qm_top.specs.Readings.{reading}
use Rattle.qm_top.specs.Report.{status_of, text_of}
use Rattle.qm_top.proofs.Checked.{memory_told, verdict_told}
use Rattle.qm_top.proofs.check.check_game.Goals as goal

pub returns-in-Ok-clause-checks : goal.returns-in-Ok-clause-checks
returns-in-Ok-clause-checks g c =
    let sound = rw c.problem-problem.ensures.value at c.problem-problem.ensures.sound in
    let rest = g.C.Source.rest in
    let faults = g.C.Source.faults in
    let read = reading (rest c.args.certificate.now) (rest c.check-told.new.source) (faults c.args.certificate.now) (faults c.check-told.new.source) in
    verdict_told c.args.game.now read c.check-told.result (status_of c.in-Ok.report) (text_of c.in-Ok.report) sound c.check-told.ensures.checked c.check-told.ensures.read c.in-Ok.ensures

pub returns-in-Err-clause-checks : goal.returns-in-Err-clause-checks
returns-in-Err-clause-checks g c =
    let rest = g.C.Source.rest in
    let faults = g.C.Source.faults in
    let read = reading (rest c.args.certificate.now) (rest c.check-told.new.source) (faults c.args.certificate.now) (faults c.check-told.new.source) in
    memory_told c.args.game.now read c.check-told.result c.check-told.ensures.checked
