use Rattle.qm_text.proofs.FirstEnds.{line_end_some, line_end_none}
use Rattle.qm_text.proofs.lines.line_end.Goals as goal

pub returns-in-Some : goal.returns-in-Some
returns-in-Some c = line_end_some c.args.text.now c.args.start c.in-Some.behind c.requires c.in-Some.ensures

pub returns-in-None : goal.returns-in-None
returns-in-None c = line_end_none c.args.text.now c.args.start c.requires c.in-None.ensures
