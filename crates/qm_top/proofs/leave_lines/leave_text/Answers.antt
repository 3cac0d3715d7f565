use Rattle.std.proofs.Common.{◌++◌, ◌∷◌, [], ◌∙◌, ap, refl, codes, map}
use Rattle.std.specs.Fmt.{signed_decimal}
use Rattle.qm_certfile.specs.Lines.{line_text, text_of}
use Rattle.qm_certfile.specs.CertificateLines.{alone}
use Rattle.qm_certfile.proofs.LineTexts.{text_of_append, wrote}
use Rattle.qm_top.specs.LeaveLines.{operation_words, pivot_line, place_words}
use Rattle.qm_top.proofs.leave_lines.leave_text.Goals as goal

pub returns : goal.returns
returns c =
    let leave = c.args.leave.now in
    let prefix = line_text (codes "prefix" ∷ map signed_decimal leave.prefix) in
    let pivots = map pivot_line leave.run.pivots in
    let at = codes "at" ∷ (place_words leave.run.at ++ operation_words leave.run.leaves) in
    let end = 101 ∷ 110 ∷ 100 ∷ 10 ∷ [] in
    let behind = text_of (pivots ++ at ∷ alone (codes "end") ∷ []) in
    let ended = wrote c.write_pivots.new.out c.write_at.new.out c.append-2.new.self (line_text at) end (line_text at ++ end) c.in_ok-write_at.ensures c.in_ok-append-2.ensures.ok refl in
    let ran = wrote c.write_prefix.new.out c.write_pivots.new.out c.append-2.new.self (text_of pivots) (line_text at ++ end) behind
    (rw c.as_slice-2.ensures at c.in_ok-write_pivots.ensures) ended (text_of_append pivots (at ∷ alone (codes "end") ∷ [])) in
    let told = wrote c.append.new.self c.write_prefix.new.out c.append-2.new.self prefix behind (prefix ++ behind)
    (rw c.as_slice.ensures at c.in_ok-write_prefix.ensures) ran refl in
    let begun = rw c.new-text.ensures at c.in_ok-append.ensures.ok in
    told ∙ ap (λ text. text ++ (prefix ++ behind)) begun
