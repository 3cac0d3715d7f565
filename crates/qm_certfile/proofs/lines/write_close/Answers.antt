use Rattle.std.proofs.Common.{◌++◌, map}
use Rattle.std.specs.Prelude.{codes}
use Rattle.qm_certfile.specs.LineSteps.{spaced}
use Rattle.qm_certfile.specs.Styles.{first_style}
use Rattle.qm_certfile.specs.TreeLines.{entry_word, objective_words}
use Rattle.qm_certfile.proofs.LineTexts.{line_wrote, on_ok, spaced_append, wrote}
use Rattle.qm_certfile.proofs.lines.write_close.Goals as goal

pub returns : goal.returns
returns c =
    let first = objective_words c.args.combo.now.objective in
    let entries = map (entry_word first_style) c.args.combo.now.entries in
    on_ok c.push.result
    (line_wrote c.args.out.now c.append.new.self c.write_entries.new.out c.push.new.self (codes "close") (first ++ entries) c.in_ok-append.ensures.ok
    (wrote c.append.new.self c.write_objective.new.out c.write_entries.new.out (spaced first) (spaced entries) (spaced (first ++ entries))
    (rw c.objective.ensures at c.in_ok-write_objective.ensures) (rw c.entries.ensures.value at c.in_ok-write_entries.ensures) (spaced_append first entries)))
    c.push.ensures.ok
