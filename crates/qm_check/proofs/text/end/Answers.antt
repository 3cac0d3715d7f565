use Rattle.std.proofs.Common.{◌+◌, ap, ◌∙◌, arith}
use Rattle.qm_check.specs.Texts.{verdict_at}
use Rattle.qm_check.proofs.Judgements.{end_fine, end_missed}
use Rattle.qm_check.proofs.text.end.Goals as goal

pub returns-then-cursor-text : goal.returns-then-cursor-text
returns-then-cursor-text c = (
  c.args.cursor.line + 0,
  ap (λ ts. verdict_at c.args.game.now ts c.args.text.now c.args.cursor) c.in-None.ensures.none ∙ end_fine c.args.game.now c.args.text.now c.args.cursor c.requires.none c.if-cursor-text.true,
)

pub returns-else-cursor-text : goal.returns-else-cursor-text
returns-else-cursor-text c =
    ap (λ ts. verdict_at c.args.game.now ts c.args.text.now c.args.cursor) c.in-None.ensures.none
    ∙ end_missed c.args.game.now c.args.text.now c.args.cursor c.requires.none (omega (arith, c.if-cursor-text.false, c.requires.place.inside))
