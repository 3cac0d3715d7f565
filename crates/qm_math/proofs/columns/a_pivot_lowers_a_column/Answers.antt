use Rattle.qm_math.proofs.Lexicographic.{IsLexBelow-reduced_row}
use Rattle.qm_math.proofs.columns.a_pivot_lowers_a_column.Goals as goal

pub returns : goal.returns
returns c = IsLexBelow-reduced_row
