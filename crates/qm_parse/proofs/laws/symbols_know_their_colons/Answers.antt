use Rattle.qm_parse.proofs.SymbolColons.{colons-known}
use Rattle.qm_parse.proofs.laws.symbols_know_their_colons.Goals as goal

pub returns : goal.returns
returns c = colons-known
