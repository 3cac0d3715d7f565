use Rattle.std.proofs.Common.{◌≡◌, ◌++◌, drop}
use Rattle.std.specs.List.{flat_map}
use Rattle.qm_gen.specs.WritingSteps.{more_text}
use Rattle.qm_gen.proofs.writing.write_more_terms.Given as goal

abbrev pub invariant-loop-term : goal.invariant-loop-term
invariant-loop-term l = l.out ++ flat_map more_text (drop l.term-index l.terms) ≡ l.fn.out ++ flat_map more_text l.terms
