use Rattle.std.proofs.Common.{[], pos, subst}
use Rattle.std.proofs.lemmas.Int.{to_z-of_z}
use mir.Syntax.{w64}
use Rattle.qm_search.specs.AnswerSteps.{IsRightAnswer}
use Rattle.qm_search.proofs.looks.closed.Goals as goal

pub returns-in-Ended : goal.returns-in-Ended
returns-in-Ended c = λ P rest depth bx W proper player right outcome.
    let told = (rw (to_z-of_z w64 c.args.value c.ranges.value) at c.in_ok-outcome.ensures) P [] [] rest depth bx W (pos 0) proper player right outcome in
    subst (IsRightAnswer P [] [] rest depth bx W (pos 0) c.args.value) c.in-Ended.is told
