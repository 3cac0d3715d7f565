use Rattle.std.proofs.Common.{◌≡◌, ◌++◌, map, drop}
use Rattle.qm_certfile.specs.LineSteps.{spaced}
use Rattle.qm_certfile.specs.Styles.{first_style}
use Rattle.qm_certfile.specs.TreeLines.{entry_word}
use Rattle.qm_certfile.proofs.lines.write_entries.Given as goal

abbrev pub invariant-loop-entry : goal.invariant-loop-entry
invariant-loop-entry l = l.out ++ spaced (map (entry_word first_style) (drop l.entry-index l.entries)) ≡ l.fn.out ++ spaced (map (entry_word first_style) l.entries)
