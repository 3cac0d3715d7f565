use Rattle.qm_normal.proofs.ProperSymbols.{symbols_proper}
use Rattle.qm_normal.proofs.ProperTexts.{text_proper}
use Rattle.qm_normal.proofs.laws.numbers_of_a_text_are_proper.Goals as goal

pub returns : goal.returns
returns c = λ text names line tokens symbols ast are is. text_proper names symbols ast (symbols_proper text names line tokens symbols are) is
