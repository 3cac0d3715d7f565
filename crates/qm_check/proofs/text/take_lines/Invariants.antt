use Rattle.std.proofs.Common.{◌≡◌, ◌-◌, length}
use Rattle.qm_certread.specs.ReadSteps.{IsIn}
use Rattle.qm_check.specs.Texts.{verdict_at}
use Rattle.qm_check.specs.Walks.{IsWalk, tasks_of}
use Rattle.qm_check.proofs.text.take_lines.Given as goal

abbrev pub invariant-lines : goal.invariant-lines
invariant-lines l = record {
  place : IsIn l.text l.cursor;
  stays : IsWalk l.game l.walk;
  long : length l.sums ≡ length l.game.vars;
  same : verdict_at l.game (tasks_of l.fn.walk) l.text l.fn.cursor ≡ verdict_at l.game (tasks_of l.walk) l.text l.cursor;
}

abbrev pub decreases-lines : goal.decreases-lines
decreases-lines l = length l.text - l.cursor.at
