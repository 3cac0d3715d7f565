use Rattle.std.proofs.Common.{◌≡◌, not, drop}
use Rattle.qm_parse.specs.Checks.{first_such}
use Rattle.qm_parse.specs.Marks.{is_marked}
use Rattle.qm_parse.proofs.marks.Marks.first_missing.Given as goal

abbrev pub invariant-loop-named : goal.invariant-loop-named
invariant-loop-named l =
    first_such (λ named. not (is_marked l.self named.name)) (drop l.named-index l.list) ≡ first_such (λ named. not (is_marked l.self named.name)) l.list
