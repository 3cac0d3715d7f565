-- When all lines of a judgement are right.
use Rattle.qm_trees.specs.Verdicts.{Verdict, Fine, Broken, Left}

-- no line is at fault
abbrev pub IsFine : Verdict → Type 0
IsFine (Fine n) = Unit {0}
IsFine (Broken rule n) = ⊥
IsFine (Left leaves n) = ⊥
