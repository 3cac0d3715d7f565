use Rattle.std.proofs.Common.{◌∙◌, ap}
use Rattle.qm_model.specs.declared.game.Problem.{Problem}
use Rattle.qm_model.specs.Plays.{whole_vars}
use Rattle.qm_trees.specs.Picks.{universal_count}
use Rattle.qm_check.proofs.Judgements.{play_unread}
use Rattle.qm_check.proofs.line.take_play.Goals as goal

pub returns : goal.returns
returns c =
    rw c.fault_of.ensures
    (play_unread c.args.game.now c.args.line.now c.in-Err.unread c.universal_count-count.result
    (c.universal_count-count.ensures ∙ ap universal_count c.whole_vars.ensures ∙ ap (λ (P : Problem). universal_count (whole_vars P)) c.problem.ensures.value) c.in-Err.ensures)
