use Rattle.std.proofs.Common.{rules, ◌≡◌, ◌+◌, refl, arith}
use Rattle.std.proofs.lemmas.Int.{to_z-of_z}
use mir.Syntax.{w128}
use mir.Val.{SFits}
use Rattle.qm_model.specs.declared.row.Term.{Term}
use Rattle.bench_large.proofs.PlainGames.{terms_more}
use Rattle.bench_large.proofs.legality.budget.Goals as goal

pub loop-number-preserved : goal.loop-number-preserved
loop-number-preserved c =
    let first = c.args.first in
    let number = c.loop-number.number in
    let term : Term = record { var = first + number; coef = c.args.coef } in
    let fits : SFits w128 c.args.coef = search rules in
    let pushed = rw (to_z-of_z w128 c.args.coef fits) at c.in_ok-push.ensures.ok in
    let up : first + (number + 1) ≡ (first + number) + 1 = omega arith in
    rw up (terms_more (first + number) number c.loop-number.terms.items c.push.new.self.items term c.loop-number.invariant pushed refl c.requires.some c.requires.small)
