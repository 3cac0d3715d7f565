use Rattle.std.proofs.Common.{◌∙◌, ◌++◌, ap, ℤ, List, map}
use Rattle.std.proofs.lemmas.List.{take_all}
use Rattle.qm_math.specs.Fraction.{whole}
use Rattle.qm_tableau.proofs.entries.push_wholes.Goals as goal

pub returns : goal.returns
returns c =
    c.loop-number.invariant ∙ ap (λ (xs : List ℤ). c.args.out.now.items ++ map whole xs) (take_all c.loop-number.number-index c.args.numbers.now c.loop-number-test.false)
