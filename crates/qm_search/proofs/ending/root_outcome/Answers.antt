use Rattle.qm_search.proofs.RootPlaces.{root_judged, root_visited, root_within}
use Rattle.qm_search.proofs.ending.root_outcome.Goals as goal

pub judge-requires-clause-place : goal.judge-requires-clause-place
judge-requires-clause-place c = rw (c.at-here.ensures.game, c.at-here.ensures.depth) (root_judged c.args.game.now c.args.search.now c.args.play.now c.requires.place)

pub visit-outcome-requires-clause-place : goal.visit-outcome-requires-clause-place
visit-outcome-requires-clause-place c = rw (c.at-here.ensures.game, c.at-here.ensures.depth) (root_visited c.args.game.now c.args.search.now c.args.play.now c.requires.place)

pub returns-in_err-outcome-clause-journal : goal.returns-in_err-outcome-clause-journal
returns-in_err-outcome-clause-journal c = root_within c.args.game.now c.args.search.now c.args.play.now c.requires.place c.entries-entries.ensures.within

pub returns-in-Known-clause-journal : goal.returns-in-Known-clause-journal
returns-in-Known-clause-journal c = root_within c.args.game.now c.args.search.now c.args.play.now c.requires.place c.entries-entries.ensures.within

pub returns-in_err-guides-in-Open-clause-journal : goal.returns-in_err-guides-in-Open-clause-journal
returns-in_err-guides-in-Open-clause-journal c = root_within c.args.game.now c.args.search.now c.args.play.now c.requires.place c.entries-entries.ensures.within
