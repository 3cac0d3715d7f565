use Rattle.std.proofs.Common.{◌≡◌, ◌≢◌, pos, sym, rules, arith, append-nil}
use Rattle.std.proofs.lemmas.Int.{ints}
use Rattle.qm_normal.proofs.NonzeroTerms.{nonzero-other, nonzero-zero}
use Rattle.qm_normal.proofs.scaling.push_nonzero.Goals as goal

pub returns-in_ok-push : goal.returns-in_ok-push
returns-in_ok-push c =
    let other : c.args.coef ≢ pos 0 = λ e. c.if-coef-ne0.true (omega (arith, ints, e)) in
    rw (nonzero-other c.args.var c.args.coef other) (search rules)

pub returns-else-coef-ne0 : goal.returns-else-coef-ne0
returns-else-coef-ne0 c =
    let zero : c.args.coef ≡ pos 0 = omega (arith, ints) in
    rw (nonzero-zero c.args.var c.args.coef zero) (sym (append-nil c.args.items.now.items))
