use Rattle.std.proofs.Common.{take}
use Rattle.qm_parse.specs.Marks.{IsMarksOf}
use Rattle.qm_parse.proofs.marks.Marks.of.Given as goal

abbrev pub invariant-loop-named : goal.invariant-loop-named
invariant-loop-named l = IsMarksOf (take l.named-index l.list) l.marks
