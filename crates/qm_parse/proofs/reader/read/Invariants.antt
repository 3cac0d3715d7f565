use Rattle.std.proofs.Common.{◌≡◌, drop}
use Rattle.qm_parse.specs.Reading.{empty_draft, read, start}
use Rattle.qm_parse.proofs.reader.read.Given as goal

abbrev pub invariant-loop-symbol : goal.invariant-loop-symbol
invariant-loop-symbol l =
    read l.state l.draft (drop l.symbol-index l.symbols) l.end ≡ read start (empty_draft l.fn.names) l.symbols l.end
