use Rattle.std.proofs.Common.{◌∷◌, map, refl}
use Rattle.std.specs.Prelude.{codes}
use Rattle.std.specs.Fmt.{signed_decimal}
use Rattle.std.proofs.lemmas.Int.{to_z-of_z}
use mir.Syntax.{w64}
use Rattle.qm_certfile.specs.Lines.{line_text}
use Rattle.qm_certfile.proofs.LineTexts.{line_wrote, on_ok, wrote}
use Rattle.qm_certfile.proofs.lines.write_pick.Goals as goal

pub returns : goal.returns
returns c =
    let value = signed_decimal c.args.value in
    let values = map signed_decimal c.args.completion.now in
    on_ok c.push.result
    (λ last. wrote c.args.out.now c.append.new.self c.push.new.self (codes "pick ") (line_text (value ∷ values)) (line_text (codes "pick" ∷ value ∷ values)) c.in_ok-append.ensures.ok
    (line_wrote c.append.new.self c.write_whole.new.out c.write_wholes.new.out c.push.new.self value values (rw (to_z-of_z w64 c.args.value c.ranges.value) at c.in_ok-write_whole.ensures.ok) c.in_ok-write_wholes.ensures last) refl)
    c.push.ensures.ok
