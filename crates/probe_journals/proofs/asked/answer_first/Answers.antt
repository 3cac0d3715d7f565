use Rattle.qm_legal.proofs.WholeBoxes.{whole_box_asked}
use Rattle.probe_journals.proofs.Completed.{first_legal}
use Rattle.probe_journals.proofs.asked.answer_first.Goals as goal

pub legal-requires-clause-bx : goal.legal-requires-clause-bx
legal-requires-clause-bx c = whole_box_asked c.args.game.now c.args.bx.now c.requires.is_box c.requires.whole

pub returns-clause-legal : goal.returns-clause-legal
returns-clause-legal c = first_legal c.args.game.now c.args.bx.now c.legal.result c.legal.ensures.exact
