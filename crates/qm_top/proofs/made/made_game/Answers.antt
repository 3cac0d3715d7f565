use Rattle.std.proofs.Common.{◌≡◌, ◌∙◌}
use Rattle.qm_gen.specs.Generated.{generated_problem, generated_text}
use Rattle.qm_top.specs.Report.{status_of, text_of}
use Rattle.qm_top.specs.declared.stated.Stated.TheVariants as stating
use Rattle.qm_top.proofs.Telling.{lent}
use Rattle.qm_top.proofs.made.made_game.Goals as goal

pub unreachable-requires : goal.unreachable-requires
unreachable-requires c =
    let text = generated_text c.args.number c.args.size in
    let report = c.in-Refused.field-0 in
    let same : c.as_slice.result.now ≡ text = c.as_slice.ensures ∙ c.in_ok-text.ensures.text in
    let refused = lent text c.as_slice.result.now c.in_ok-game.field-0 (stating.Refused report) same c.in-Refused.is c.in_ok-game.ensures in
    let states = c.generated_texts_are_small.ensures.states c.args.number c.args.size c.requires.few in
    c.stated_or_refused.ensures.not_both text (generated_problem c.args.number c.args.size) (status_of report) (text_of report) states refused

pub returns : goal.returns
returns c =
    let text = generated_text c.args.number c.args.size in
    let same : c.as_slice.result.now ≡ text = c.as_slice.ensures ∙ c.in_ok-text.ensures.text in
    let states = lent text c.as_slice.result.now c.in_ok-game.field-0 (stating.Game c.in-Game.game) same c.in-Game.is c.in_ok-game.ensures in
    c.generated_texts_are_small.ensures.one c.args.number c.args.size c.in-Game.game c.requires.few states
