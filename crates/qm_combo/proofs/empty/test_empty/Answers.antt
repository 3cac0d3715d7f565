use Rattle.std.proofs.Common.{◌≡◌, sym, ◌∙◌}
use Rattle.qm_model.specs.Plays.{whole_vars}
use Rattle.qm_trees.specs.EmptyJudgement.{judge_empty}
use Rattle.qm_trees.specs.Verdicts.{answer_of}
use Rattle.qm_trees.proofs.Lines.{fine_of_answer}
use Rattle.qm_trees.proofs.EmptyLines.{right_of_fine}
use Rattle.qm_trees.proofs.EmptySound.{no_play}
use Rattle.qm_combo.proofs.empty.test_empty.Goals as goal

pub returns-clause-right : goal.returns-clause-right
returns-clause-right c =
    let P = c.args.game.now in
    let judged = judge_empty P (whole_vars P) 0 c.args.bx.now c.args.tree.now in
    let walked : c.test_from.result ≡ answer_of judged = rw (c.at.result.from_depth, c.at.ensures.depth, c.at.ensures.game) at c.test_from.ensures.answer in
    λ passes. (right_of_fine P (whole_vars P) 0 c.args.bx.now c.args.tree.now (fine_of_answer judged (sym walked ∙ passes))).0

pub returns-clause-none : goal.returns-clause-none
returns-clause-none c =
    let sound = rw c.problem-problem.ensures.value at c.problem-problem.ensures.sound in
    λ passes us play fits. no_play c.args.game.now c.args.bx.now c.args.tree.now us sound play fits (returns-clause-right c passes)
