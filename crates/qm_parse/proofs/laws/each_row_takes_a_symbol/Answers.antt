use Rattle.qm_parse.proofs.RowCounts.{text_few}
use Rattle.qm_parse.proofs.laws.each_row_takes_a_symbol.Goals as goal

pub returns : goal.returns
returns c = record {
  rows = λ names symbols ast colons text. (text_few names symbols ast colons text).0;
  uncertain = λ names symbols ast colons text. (text_few names symbols ast colons text).1;
}
