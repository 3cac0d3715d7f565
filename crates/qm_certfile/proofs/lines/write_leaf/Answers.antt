use Rattle.std.proofs.Common.{map}
use Rattle.std.specs.Prelude.{codes}
use Rattle.qm_text.specs.Numbers.{number_word}
use Rattle.qm_certfile.proofs.LineTexts.{line_wrote, on_ok}
use Rattle.qm_certfile.proofs.lines.write_leaf.Goals as goal

pub returns : goal.returns
returns c =
    on_ok c.push.result
    (line_wrote c.args.out.now c.append.new.self c.write_fractions.new.out c.push.new.self (codes "leaf") (map number_word c.args.point.now) c.in_ok-append.ensures.ok c.in_ok-write_fractions.ensures)
    c.push.ensures.ok
