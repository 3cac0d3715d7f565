use Rattle.std.proofs.Common.{◌≡◌, ◌+◌, drop, ap, ◌∙◌}
use Rattle.std.proofs.lemmas.List.{drop-drop, take_rest}
use Rattle.qm_model.specs.Plays.{whole_vars}
use Rattle.qm_game.proofs.place.Place.behind.Goals as goal

pub invariant_of-result : goal.invariant_of-result
invariant_of-result c = record {
  from_depth = take_rest c.args.self.rest.now 1 ∙ ap (drop 1) c.args.self.from_depth ∙ drop-drop 1 c.args.self.depth (whole_vars c.args.self.game.now);
}
