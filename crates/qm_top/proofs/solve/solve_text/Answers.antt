use Rattle.qm_top.specs.Report.{status_of, text_of}
use Rattle.qm_top.specs.Answers.{SolvesProblem, SolvesText}
use Rattle.qm_top.proofs.Answering.{IfOk-map, Reports}
use Rattle.qm_top.proofs.Telling.{game_told, refused_told}
use Rattle.qm_top.proofs.solve.solve_text.Goals as goal

pub returns-in-Refused : goal.returns-in-Refused
returns-in-Refused c =
    refused_told (Unit {0}) (λ P. SolvesProblem P c.args.nodes) c.args.text c.as_slice.result.now c.in_ok-stated.stated c.in-Refused.report c.as_slice.ensures c.in-Refused.is c.in_ok-stated.ensures tt

pub returns-in-Game : goal.returns-in-Game
returns-in-Game c =
    IfOk-map (Reports (SolvesProblem c.in-Game.game c.args.nodes)) (Reports (SolvesText c.args.text c.args.nodes)) c.solve_game.result
    (λ report solves.
    game_told (Unit {0}) (λ P. SolvesProblem P c.args.nodes) c.args.text c.as_slice.result.now c.in_ok-stated.stated c.in-Game.game c.as_slice.ensures c.in-Game.is c.in_ok-stated.ensures
    (status_of report) (text_of report) solves)
    c.solve_game.ensures
