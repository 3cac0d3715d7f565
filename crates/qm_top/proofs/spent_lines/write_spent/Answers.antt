use Rattle.std.proofs.Common.{◌≡◌, ◌++◌, ◌∷◌, [], length, map, subst}
use Rattle.std.specs.Prelude.{codes}
use Rattle.std.specs.Fmt.{decimal}
use Rattle.std.specs.Io.KnownBytes.{Appends}
use Rattle.qm_io.specs.Bytes.{AppendsFront}
use Rattle.qm_certfile.specs.Lines.{line_text, text_of}
use Rattle.qm_certfile.proofs.LineTexts.{on_ok}
use Rattle.qm_top.specs.SpentLines.{entry_line}
use Rattle.qm_top.proofs.Underway.{ended, ended_off, front_of_more, holds_on_err, on_err, spent_parts, with_more}
use Rattle.qm_top.proofs.spent_lines.write_spent.Goals as goal

pub returns-in_err-write_entries-clause-err : goal.returns-in_err-write_entries-clause-err
returns-in_err-write_entries-clause-err g c =
    let taken = g.O.Sink.taken in
    let old = taken c.args.out.now in
    let new = taken c.write_entries.new.out in
    let text = c.append_count.new.piece ++ text_of (map entry_line c.args.entries.now) in
    let started : c.append_count.new.piece ≡ line_text (codes "spent" ∷ decimal (length c.args.entries.now) ∷ []) = rw c.new-piece.ensures at c.append_count.ensures in
    holds_on_err c.from_residual.result
    (subst (λ t. AppendsFront old new t) (spent_parts c.args.entries.now c.append_count.new.piece started)
    (front_of_more old new text (codes "end\n") c.in_err-write_entries.ensures.err))

pub returns-clause-ok : goal.returns-clause-ok
returns-clause-ok g c =
    let taken = g.O.Sink.taken in
    let old = taken c.args.out.now in
    let mid = taken c.write_entries.new.out in
    let new = taken c.write_end.new.out in
    let text = c.append_count.new.piece ++ text_of (map entry_line c.args.entries.now) in
    let left = c.write_entries.new.piece ++ codes "end\n" in
    let started : c.append_count.new.piece ≡ line_text (codes "spent" ∷ decimal (length c.args.entries.now) ∷ []) = rw c.new-piece.ensures at c.append_count.ensures in
    let underway = with_more old mid c.write_entries.new.piece (codes "end\n") text c.in_ok-write_entries.ensures.ok in
    on_ok c.write_end.result
    (λ all. subst (λ t. Appends old new t) (spent_parts c.args.entries.now c.append_count.new.piece started)
    (ended old mid new left (text ++ codes "end\n") underway all))
    c.write_end.ensures.ok

pub returns-clause-err : goal.returns-clause-err
returns-clause-err g c =
    let taken = g.O.Sink.taken in
    let old = taken c.args.out.now in
    let mid = taken c.write_entries.new.out in
    let new = taken c.write_end.new.out in
    let text = c.append_count.new.piece ++ text_of (map entry_line c.args.entries.now) in
    let left = c.write_entries.new.piece ++ codes "end\n" in
    let started : c.append_count.new.piece ≡ line_text (codes "spent" ∷ decimal (length c.args.entries.now) ∷ []) = rw c.new-piece.ensures at c.append_count.ensures in
    let underway = with_more old mid c.write_entries.new.piece (codes "end\n") text c.in_ok-write_entries.ensures.ok in
    on_err c.write_end.result
    (λ part. subst (λ t. AppendsFront old new t) (spent_parts c.args.entries.now c.append_count.new.piece started)
    (ended_off old mid new left (text ++ codes "end\n") underway part))
    c.write_end.ensures.err
