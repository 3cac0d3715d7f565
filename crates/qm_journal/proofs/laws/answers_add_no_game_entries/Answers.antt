-- What an answer adds is no game entry, and positions stay.
use Rattle.qm_journal.proofs.Answering.{game-stays}
use Rattle.qm_journal.proofs.laws.answers_add_no_game_entries.Goals as goal

pub returns : goal.returns
returns c = game-stays
