use Rattle.std.proofs.Common.{◌≡◌, drop, map}
use Rattle.qm_tableau.specs.Tables.{entry_of}
use Rattle.qm_tableau.specs.Rule.{is_greater}
use Rattle.qm_tableau.specs.Wholes.{fractions_of}
use Rattle.qm_tableau.proofs.comparing.is_greater_in_wholes.Given as goal

abbrev pub invariant-loop-i : goal.invariant-loop-i
invariant-loop-i l =
    let p = entry_of (fractions_of l.leaving) l.k in
    let q = entry_of (fractions_of l.leaving) l.best in
    is_greater l.k p l.best q l.i (drop l.i (map fractions_of l.numbers.rows)) ≡ is_greater l.k p l.best q 0 (map fractions_of l.numbers.rows)
