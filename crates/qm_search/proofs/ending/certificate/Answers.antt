use Rattle.std.proofs.Common.{refl}
use Rattle.qm_model.specs.Boxes.{whole_box_of}
use Rattle.qm_model.proofs.BoxLaws.{whole_box_is_box}
use Rattle.qm_legal.proofs.WholeBoxes.{whole_box_asked}
use Rattle.qm_search.proofs.RootPlaces.{asked_within}
use Rattle.qm_search.proofs.ending.certificate.Goals as goal

pub legal-answer-requires-clause-bx : goal.legal-answer-requires-clause-bx
legal-answer-requires-clause-bx c =
    let P = c.args.game.now in
    rw c.requires.bx (whole_box_asked P (whole_box_of P.vars) (whole_box_is_box P.vars) refl)

pub returns-in_err-tree-clause-journal : goal.returns-in_err-tree-clause-journal
returns-in_err-tree-clause-journal c =
    asked_within c.args.game.now c.args.search.now.journal c.legal-answer.new.journal c.requires.entries
    c.legal-answer.ensures.lawful c.legal-answer.ensures.went_on c.legal-answer.ensures.limit c.entries-entries.ensures.within

pub returns-in-Illegal-clause-journal : goal.returns-in-Illegal-clause-journal
returns-in-Illegal-clause-journal c =
    asked_within c.args.game.now c.args.search.now.journal c.legal-answer.new.journal c.requires.entries
    c.legal-answer.ensures.lawful c.legal-answer.ensures.went_on c.legal-answer.ensures.limit c.entries-entries.ensures.within
