use Rattle.std.proofs.Common.{◌≡◌, ◌≤◌, ◌<◌, ◌+◌, length, drop, Err, sym, ◌∙◌, arith}
use Rattle.std.proofs.lemmas.Result.{err_from_is_err_and}
use Rattle.qm_parse.specs.Reading.{empty_draft, read, start}
use Rattle.qm_parse.proofs.ReadEnds.{IfErr-same, IfErr-stopped, IfOk-same, read-drop, read-drop_all}
use Rattle.qm_parse.proofs.reader.read.Goals as goal

pub returns-in_err-state-clause-err : goal.returns-in_err-state-clause-err
returns-in_err-state-clause-err c =
    let symbols = c.args.symbols.now in
    let fault = c.in_err-state.field-0.0 in
    let p = err_from_is_err_and c.from_residual.result c.from_residual.ensures.1 in
    let kept : c.from_residual.result ≡ Err fault = cc in
    let inside : c.loop-symbol.symbol-index < length symbols = omega arith in
    IfErr-stopped (read start (empty_draft c.args.names) symbols c.args.end) c.from_residual.result fault kept
    (λ no_memory. sym c.loop-symbol.invariant
    ∙ read-drop c.loop-symbol.state c.loop-symbol.draft symbols c.loop-symbol.symbol-index c.symbol-item.result c.args.end inside c.symbol-item.is
    ∙ c.in_err-state.ensures.err no_memory (drop (c.loop-symbol.symbol-index + 1) symbols) c.args.end)

pub returns-clause-ok : goal.returns-clause-ok
returns-clause-ok c =
    let symbols = c.args.symbols.now in
    let behind : length symbols ≤ c.loop-symbol.symbol-index = omega arith in
    IfOk-same (read start (empty_draft c.args.names) symbols c.args.end) c.finished.result
    (sym c.loop-symbol.invariant
    ∙ read-drop_all c.loop-symbol.state c.loop-symbol.draft symbols c.loop-symbol.symbol-index c.args.end behind
    ∙ sym c.finished.ensures)

pub returns-clause-err : goal.returns-clause-err
returns-clause-err c =
    let symbols = c.args.symbols.now in
    let behind : length symbols ≤ c.loop-symbol.symbol-index = omega arith in
    IfErr-same (read start (empty_draft c.args.names) symbols c.args.end) c.finished.result
    (sym c.loop-symbol.invariant
    ∙ read-drop_all c.loop-symbol.state c.loop-symbol.draft symbols c.loop-symbol.symbol-index c.args.end behind
    ∙ sym c.finished.ensures)
