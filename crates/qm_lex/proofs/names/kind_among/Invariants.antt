use Rattle.std.proofs.Common.{◌≡◌, drop, map}
use Rattle.qm_lex.specs.Names.{kind_among}
use Rattle.qm_lex.proofs.names.kind_among.Given as goal

abbrev pub invariant-loop-entry : goal.invariant-loop-entry
invariant-loop-entry l = kind_among (map (λ entry. (entry.word.now, entry.kind)) (drop l.entry-index l.entries)) l.word ≡ kind_among (map (λ entry. (entry.word.now, entry.kind)) l.entries) l.word
