use Rattle.std.proofs.Common.{map}
use Rattle.std.specs.Prelude.{codes}
use Rattle.std.specs.Fmt.{signed_decimal}
use Rattle.qm_certfile.proofs.LineTexts.{line_wrote, on_ok}
use Rattle.qm_top.proofs.leave_lines.write_prefix.Goals as goal

pub returns : goal.returns
returns c =
    on_ok c.push.result
    (line_wrote c.args.out.now c.append.new.self c.write_wholes.new.out c.push.new.self (codes "prefix") (map signed_decimal c.args.prefix.now) c.in_ok-append.ensures.ok c.in_ok-write_wholes.ensures)
    c.push.ensures.ok
