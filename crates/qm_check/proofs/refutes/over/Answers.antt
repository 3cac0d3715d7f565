use Rattle.std.proofs.Common.{◌∙◌, sym, ap, length}
use Rattle.qm_model.specs.declared.game.Problem.{Problem}
use Rattle.qm_model.proofs.BoxLaws.{IsBox-length}
use Rattle.qm_check.proofs.refutes.over.Goals as goal

pub may_cover-requires-clause-bx : goal.may_cover-requires-clause-bx
may_cover-requires-clause-bx c =
    rw c.as_slice.ensures (IsBox-length c.args.game.now.vars c.args.walk.now.bx c.requires.walk.box ∙ ap (λ (P : Problem). length P.vars) (sym c.problem-problem.ensures.value))
