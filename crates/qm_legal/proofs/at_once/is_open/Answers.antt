use Rattle.std.proofs.Common.{sym, ◌∙◌, arith}
use Rattle.std.proofs.lemmas.List.{length-take}
use Rattle.qm_model.proofs.BoxLaws.{IsBox-length}
use Rattle.qm_legal.proofs.OpenBoxes.{open_query}
use Rattle.qm_legal.proofs.at_once.is_open.Goals as goal

pub some_universal_empty-requires : goal.some_universal_empty-requires
some_universal_empty-requires c =
    let P = c.args.here.game.now in
    let wholes = rw (c.at-first.ensures.game, c.at-first.ensures.depth) at c.at-first.result.from_depth in
    rw (wholes, c.as_slice.ensures) (omega (arith, length-take P.wholes P.vars, IsBox-length P.vars c.args.bx.now c.requires.box))

pub returns-in-None : goal.returns-in-None
returns-in-None c =
    let wholes = rw (c.at-first.ensures.game, c.at-first.ensures.depth) at c.at-first.result.from_depth in
    let some = rw (wholes, c.as_slice.ensures) at c.some_universal_empty.ensures in
    λ is. open_query c.args.here.game.now c.args.here.depth c.args.bx.now c.requires (sym some ∙ c.if-some_universal_empty.false) c.in-None.ensures
