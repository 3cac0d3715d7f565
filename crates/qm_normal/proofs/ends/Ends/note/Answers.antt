use Rattle.qm_normal.specs.Ends.{sets_lower}
use Rattle.qm_parse.specs.Checks.{sets_upper}
use Rattle.qm_normal.proofs.LastValues.{noted_one}
use Rattle.qm_normal.proofs.ends.Ends.note.Goals as goal

pub returns : goal.returns
returns c = record {
  lower =
      noted_one sets_lower c.args.bound.now c.args.self.now.lower c.note.new.self (rw (c.given-lower.ensures, c.sets_lower.ensures) at c.in_ok-note.ensures);
  upper =
      noted_one sets_upper c.args.bound.now c.args.self.now.upper c.note-2.new.self (rw (c.given-upper.ensures, c.sets_upper.ensures) at c.in_ok-note-2.ensures);
}
