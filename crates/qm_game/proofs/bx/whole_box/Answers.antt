use Rattle.std.proofs.lemmas.List.{take_all}
use Rattle.qm_model.proofs.BoxLaws.{whole_box_is_box}
use Rattle.qm_game.proofs.bx.whole_box.Goals as goal

pub returns-clause-is_box : goal.returns-clause-is_box
returns-clause-is_box c =
    let xs = c.args.game.now.vars in
    let same = rw c.problem.ensures.value at c.as_slice-var-items.ensures in
    let all = rw same at c.loop-var-test.false in
    rw (c.loop-var.invariant, take_all c.loop-var.var-index xs all) (whole_box_is_box xs)
