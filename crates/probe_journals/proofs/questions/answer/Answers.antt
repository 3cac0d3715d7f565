use Rattle.std.proofs.Common.{◌≡◌, ◌++◌, ◌∷◌, [], ◌∙◌, sym, ap, subst, length}
use Rattle.std.specs.Prelude.{IfOk}
use Rattle.std.proofs.lemmas.Int.{to_z-of_z}
use mir.Syntax.{w64}
use Rattle.qm_legal.specs.Queries.{IsExact, IsQueryOf}
use Rattle.probe_journals.proofs.SetBoxes.{prefix_box_asked}
use Rattle.probe_journals.proofs.Completed.{prefix_legal}
use Rattle.probe_journals.proofs.questions.answer.Goals as goal

pub legal-requires-clause-bx : goal.legal-requires-clause-bx
legal-requires-clause-bx c =
    rw (to_z-of_z w64 c.args.value c.ranges.value)
    (subst (λ prefix. IsQueryOf c.args.game.now prefix c.in_ok-bx.bx) c.requires.named
    (prefix_box_asked c.args.game.now c.args.prefix.now c.in_ok-bx.bx c.requires.within c.in_ok-bx.ensures.bx))

pub returns-clause-legal : goal.returns-clause-legal
returns-clause-legal c =
    let exact = rw (to_z-of_z w64 c.args.value c.ranges.value) at c.legal.ensures.exact in
    prefix_legal c.args.game.now c.args.prefix.now c.in_ok-bx.bx c.legal.result c.requires.within c.in_ok-bx.ensures.bx
    (subst (λ prefix. IfOk c.legal.result (IsExact c.args.game.now (length prefix) c.in_ok-bx.bx)) (sym c.requires.named) exact)
