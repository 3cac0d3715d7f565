use Rattle.std.proofs.Common.{◌∙◌, ap}
use Rattle.std.proofs.lemmas.Bool.{ne_eqb}
use Rattle.qm_math.specs.Arithmetic.{negated}
use Rattle.qm_simplex.proofs.combination.multiplier.Goals as goal

pub returns : goal.returns
unfolding negated
returns c = rw (ne_eqb c.args.i c.args.row c.if-i-row.false) (c.neg.ensures ∙ ap negated c.number_for.ensures)
