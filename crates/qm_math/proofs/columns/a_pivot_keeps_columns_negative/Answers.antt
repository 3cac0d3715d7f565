use Rattle.qm_math.proofs.Lexicographic.{IsLexNegative-scaled, IsLexNegative-reduced_row_zero, IsLexNegative-reduced_row, IsLexNegative-from_below}
use Rattle.qm_math.proofs.columns.a_pivot_keeps_columns_negative.Goals as goal

pub returns-clause-scaled : goal.returns-clause-scaled
returns-clause-scaled c = IsLexNegative-scaled

pub returns-clause-zero : goal.returns-clause-zero
returns-clause-zero c = IsLexNegative-reduced_row_zero

pub returns-clause-negative : goal.returns-clause-negative
returns-clause-negative c = IsLexNegative-reduced_row

pub returns-clause-below : goal.returns-clause-below
returns-clause-below c = IsLexNegative-from_below
