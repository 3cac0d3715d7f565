use Rattle.std.proofs.Common.{◌≡◌, [], take, drop}
use Rattle.qm_parse.specs.Checks.{repeated}
use Rattle.qm_parse.specs.Marks.{IsMarksOf}
use Rattle.qm_parse.proofs.twice.repeated.Given as goal

abbrev pub invariant-loop-named : goal.invariant-loop-named
invariant-loop-named l = record {
  marks : IsMarksOf (take l.named-index l.list) l.before;
  rest : repeated (take l.named-index l.list) (drop l.named-index l.list) ≡ repeated [] l.list;
}
