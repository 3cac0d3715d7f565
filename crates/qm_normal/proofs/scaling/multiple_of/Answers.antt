use Rattle.std.proofs.Common.{ℕ, ◌≤◌, ◌^◌, Option, subst}
use Rattle.std.specs.Prelude.{SomeIff}
use Rattle.qm_normal.proofs.Denominators.{none_multiple}
use Rattle.qm_normal.proofs.scaling.multiple_of.Goals as goal

pub returns-in-None : goal.returns-in-None
returns-in-None c = λ d h le.
    none_multiple c.args.value.den d c.den-positive.ensures.terms.positive (subst (λ (o : Option ℕ). SomeIff o (d ≤ 2 ^ 126) d) c.in-None.is h) le
