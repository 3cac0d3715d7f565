use Rattle.qm_text.proofs.Spellings.{point_cut_some, point_cut_none}
use Rattle.qm_text.proofs.decimal.cut_at_point.Goals as goal

pub returns-in-Some : goal.returns-in-Some
returns-in-Some c = point_cut_some c.args.front.now c.in-Some.at (rw c.in-Some.is at c.memchr.ensures)

pub returns-in-None : goal.returns-in-None
returns-in-None c = point_cut_none c.args.front.now (rw c.in-None.is at c.memchr.ensures)
