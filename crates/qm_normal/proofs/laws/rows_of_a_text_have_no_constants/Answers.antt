use Rattle.qm_normal.proofs.PlainRows.{text_plain}
use Rattle.qm_normal.proofs.laws.rows_of_a_text_have_no_constants.Goals as goal

pub returns : goal.returns
returns c = record {
  rows = λ names symbols ast text. (text_plain names symbols ast text).rows;
  uncertain = λ names symbols ast text. (text_plain names symbols ast text).uncertain;
}
