use Rattle.std.proofs.Common.{refl}
use Rattle.qm_top.specs.Answers.{ChecksProblem}
use Rattle.qm_top.specs.Readings.{IsUnread, reading}
use Rattle.qm_top.specs.Report.{status_of, text_of}
use Rattle.qm_top.proofs.Telling.{game_told, refused_told}
use Rattle.qm_top.proofs.check.check_text.Goals as goal

pub returns-in-Ok-Refused-clause-checks : goal.returns-in-Ok-Refused-clause-checks
returns-in-Ok-Refused-clause-checks g c =
    let rest = g.C.Source.rest in
    let faults = g.C.Source.faults in
    let read = reading (rest c.args.certificate.now) (rest c.args.certificate.now) (faults c.args.certificate.now) (faults c.args.certificate.now) in
    refused_told (IsUnread read) (ChecksProblem read) c.args.text c.as_slice.result.now c.in-Ok-Refused.field-0 c.in-Ok-Refused.report c.as_slice.ensures c.in-Ok-Refused.field-0-is c.in-Ok-Refused.ensures
    (record { bytes = refl; faults = refl })

pub returns-in-Ok-Game-clause-checks : goal.returns-in-Ok-Game-clause-checks
returns-in-Ok-Game-clause-checks g c =
    let rest = g.C.Source.rest in
    let faults = g.C.Source.faults in
    let read = reading (rest c.args.certificate.now) (rest c.check_game.new.certificate) (faults c.args.certificate.now) (faults c.check_game.new.certificate) in
    game_told (IsUnread read) (ChecksProblem read) c.args.text c.as_slice.result.now c.in-Ok-Game.field-0 c.in-Ok-Game.game c.as_slice.ensures c.in-Ok-Game.field-0-is c.in-Ok-Game.ensures
    (status_of c.check_game.result) (text_of c.check_game.result) c.check_game.ensures.checks
