use Rattle.std.proofs.Common.{◌≡◌, ◌+◌, drop}
use Rattle.std.specs.List.{prefix_len}
use Rattle.qm_lex.specs.Bytes.{continues_name}
use Rattle.qm_lex.proofs.names.name_bytes.Given as goal

abbrev pub invariant-loop-i : goal.invariant-loop-i
invariant-loop-i l = l.i + prefix_len continues_name (drop l.i l.text) ≡ prefix_len continues_name l.text
