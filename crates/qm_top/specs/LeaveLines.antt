-- The report of a number that leaves the range: the complete prefix, the pivots of its leaf run, and the operation.
use Rattle.std.specs.Prelude.{ℕ, List, [], ◌∷◌, ◌++◌, codes, map}
use Rattle.std.specs.Fmt.{decimal, signed_decimal}
use Rattle.qm_frac.specs.declared.leaves.Op.{Op}
use Rattle.qm_frac.specs.declared.leaves.Op.TheVariants as op
use Rattle.qm_frac.specs.declared.leaves.Leaves.{Leaves}
use Rattle.qm_text.specs.Numbers.{number_word}
use Rattle.qm_simplex.specs.declared.answers.LeavePlace.{LeavePlace}
use Rattle.qm_simplex.specs.declared.answers.LeavePlace.TheVariants as place
use Rattle.qm_simplex.specs.Runs.{Pivot}
use Rattle.qm_search.specs.declared.fault.Leave.{Leave}
use Rattle.qm_certfile.specs.Lines.{Line, Word, text_of}
use Rattle.qm_certfile.specs.CertificateLines.{alone}

abbrev pub op_word : Op → Word
op_word op.Add = codes "add"
op_word op.Sub = codes "sub"
op_word op.Mul = codes "mul"
op_word op.Div = codes "div"

-- where the operation belongs, with the numbers of the row and the column, of the variable or of the row
abbrev pub place_words : LeavePlace → Line
place_words (place.Quotient row column) = codes "quotient" ∷ decimal row ∷ decimal column ∷ []
place_words (place.Entry row column) = codes "entry" ∷ decimal row ∷ decimal column ∷ []
place_words place.Value = codes "value" ∷ []
place_words (place.Point variable) = codes "point" ∷ decimal variable ∷ []
place_words (place.RowSum row) = codes "row" ∷ decimal row ∷ []
place_words place.Objective = codes "objective" ∷ []
place_words place.Combination = codes "combination" ∷ []

-- the operation and its operands
abbrev pub operation_words : Leaves → Line
operation_words leaves = op_word leaves.op ∷ number_word leaves.left ∷ number_word leaves.right ∷ []

abbrev pub pivot_line : Pivot → Line
pivot_line pivot = codes "pivot" ∷ decimal pivot.0 ∷ decimal pivot.1 ∷ []

abbrev pub leave_lines : Leave → List Line
leave_lines leave =
    alone (codes "leaves") ∷ (codes "prefix" ∷ map signed_decimal leave.prefix) ∷ map pivot_line leave.run.pivots
    ++ (codes "at" ∷ place_words leave.run.at ++ operation_words leave.run.leaves) ∷ alone (codes "end") ∷ []

abbrev pub leave_text : Leave → List ℕ
leave_text leave = text_of (leave_lines leave)
