use Rattle.std.proofs.Common.{sym, ◌∙◌, subst}
use Rattle.qm_trees.specs.Verdicts.{Verdict}
use Rattle.qm_check.specs.Texts.{IsFault}
use Rattle.qm_check.proofs.Judgements.{first_verdict}
use Rattle.qm_check.proofs.text.judge.Goals as goal

pub returns-in-Ok-judge_behind-clause-fault : goal.returns-in-Ok-judge_behind-clause-fault
returns-in-Ok-judge_behind-clause-fault c =
    let P = c.args.game.now in
    let first = c.in-Ok.ensures.ok in
    let behind = c.in-Ok-judge_behind.ensures in
    (behind.0, first_verdict P c.args.text.now ∙ first.1 P ∙ behind.1)

pub returns-in-Err-judge_behind-clause-fault : goal.returns-in-Err-judge_behind-clause-fault
returns-in-Err-judge_behind-clause-fault c =
    let P = c.args.game.now in
    let first = c.in-Ok.ensures.ok in
    subst (λ (v : Verdict). IsFault v c.in-Err-judge_behind.fault) (sym (first_verdict P c.args.text.now ∙ first.1 P)) c.in-Err-judge_behind.ensures

pub returns-in-Err-clause-fault : goal.returns-in-Err-clause-fault
returns-in-Err-clause-fault c =
    let P = c.args.game.now in
    subst (λ (v : Verdict). IsFault v c.in-Err.fault) (sym (first_verdict P c.args.text.now)) (c.in-Err.ensures.err P)
