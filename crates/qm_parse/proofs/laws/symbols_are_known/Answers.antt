use Rattle.qm_parse.proofs.KnownSymbols.{symbols-known}
use Rattle.qm_parse.proofs.laws.symbols_are_known.Goals as goal

pub returns : goal.returns
returns c = symbols-known
