use Rattle.std.proofs.Common.{◌+◌, ◌-◌, drop, take, refl}
use Rattle.qm_certread.proofs.NextLines.{line_missing, line_there}
use Rattle.qm_certread.proofs.cursor.next_line.Goals as goal

pub returns-in-Some : goal.returns-in-Some
returns-in-Some c = record {
  ok =
      line_there c.args.text.now c.args.cursor.now (record { at = c.in-Some.end + 1; line = c.args.cursor.now.line + 1 }) c.in-Some.end
      (take (c.in-Some.end - c.args.cursor.now.at) (drop c.args.cursor.now.at c.args.text.now)) c.requires c.in-Some.ensures refl refl refl;
  err = tt;
}

pub returns-in-None : goal.returns-in-None
returns-in-None c = record { ok = tt; err = (refl, line_missing c.args.text.now c.args.cursor.now c.requires.inside c.in-None.ensures) }
