-- The problem that a syntax tree states, or the first reason why it states none.
use Rattle.std.specs.Prelude.{ℕ, suc, pos, List, [], ◌∷◌, ◌++◌, length, map, Option, Some, None, Result, Ok, Err}
use Rattle.qm_math.specs.Fraction.{Fraction}
use Rattle.qm_frac.specs.Arithmetic.{negated}
use Rattle.qm_model.specs.declared.game.Problem.{Problem}
use Rattle.qm_model.specs.declared.game.Sense.{Sense}
use Rattle.qm_model.specs.declared.game.Sense.TheVariants.{Max, Min}
use Rattle.qm_model.specs.declared.row.Row.{Row}
use Rattle.qm_model.specs.declared.variable.Var.{Var}
use Rattle.qm_parse.specs.declared.ast.Ast.{Ast}
use Rattle.qm_parse.specs.declared.ast.AstRow.{AstRow}
use Rattle.qm_parse.specs.declared.ast.AstTerm.{AstTerm}
use Rattle.qm_parse.specs.declared.ast.Named.{Named}
use Rattle.qm_normal.specs.declared.fault.NormalFault.{NormalFault}
use Rattle.qm_normal.specs.declared.fault.NormalFault.TheVariants as fault
use Rattle.qm_normal.specs.declared.fault.Which.{Which}
use Rattle.qm_normal.specs.declared.fault.Which.TheVariants as which
pub use Rattle.qm_normal.specs.declared.objective.Objective.{Objective}
use Rattle.qm_normal.specs.Ends.{lower_end, upper_end}
use Rattle.qm_normal.specs.Limits.{rows_fault, variables_fault}
use Rattle.qm_normal.specs.Rows.{bound_row, common_denominator, high_row, is_constant, low_row, narrow_row, normal_row, related, row_times, total, totals}
use Rattle.qm_normal.specs.Scopes.{scope_fault}
use Rattle.qm_normal.specs.Variables.{continuous_names, game_order, name_of, vars_of, whole_names}

-- the fault, or else the answer
unfoldable pub unless : {A : Type 0} → Option NormalFault → Result A NormalFault → Result A NormalFault
unless None answer = answer
unless (Some fault) answer = Err fault

-- the next part, where the one before has no fault
unfoldable pub bind : {A B : Type 0} → Result A NormalFault → (A → Result B NormalFault) → Result B NormalFault
bind (Ok x) next = next x
bind (Err fault) next = Err fault

-- a part that isn't too wide
unfoldable pub narrow : {A : Type 0} → Which → Option A → Result A NormalFault
narrow part None = Err (fault.Wide part)
narrow part (Some x) = Ok x

-- the rows of a section, the first of which has this number
unfoldable pub rows_from : (ℕ → Which) → Ast → ℕ → List AstRow → Result (List Row) NormalFault
rows_from part ast number [] = Ok []
rows_from part ast number (row ∷ rows) =
    bind (narrow (part number) (normal_row (vars_of ast) (game_order ast) row.terms row.right))
    (λ one. bind (rows_from part ast (suc number) rows) (λ others. Ok (related row.relation one ++ others)))

-- the rows of the exact bounds of one continuous variable, the lower one first
abbrev pub rows_of_bounds : Ast → ℕ → ℕ → Result (List Row) NormalFault
rows_of_bounds ast var name =
    bind (narrow (which.Bound (name_of ast name)) (bound_row (vars_of ast) (lower_end ast name) (low_row var (lower_end ast name))))
    (λ low. bind (narrow (which.Bound (name_of ast name)) (bound_row (vars_of ast) (upper_end ast name) (high_row var (upper_end ast name))))
    (λ high. Ok (low ++ high)))

-- the same of continuous variables from a number on
unfoldable pub bound_rows_from : Ast → ℕ → List Named → Result (List Row) NormalFault
bound_rows_from ast var [] = Ok []
bound_rows_from ast var (named ∷ list) =
    bind (rows_of_bounds ast var named.name) (λ rows. bind (bound_rows_from ast (suc var) list) (λ others. Ok (rows ++ others)))

-- these rows, and those of an answer behind them
abbrev pub with_front : List Row → Result (List Row) NormalFault → Result (List Row) NormalFault
with_front front answer = bind answer (λ others. Ok (front ++ others))

-- the rows of the text, and those of exact bounds behind them
abbrev pub rows_of : Ast → Result (List Row) NormalFault
rows_of ast =
    bind (rows_from which.Row ast 0 ast.rows)
    (λ rows. with_front rows (bound_rows_from ast (length (whole_names ast)) (continuous_names ast)))

abbrev pub urows_of : Ast → Result (List Row) NormalFault
urows_of ast = rows_from which.Uncertainty ast 0 ast.uncertain

-- the terms to be maximised: those of MINIMIZE are negated
unfoldable pub maximised : Sense → List AstTerm → List AstTerm
maximised Max terms = terms
maximised Min terms = map (λ term. record { coef = negated term.coef; name = term.name; at = term.at }) terms

-- the objective of these sums, times their least common denominator, which is the scale
abbrev pub objective_times : ℕ → List Fraction → Fraction → Objective
objective_times d sums constant =
    record { terms = (row_times d sums constant).terms; constant = (row_times d sums constant).right; scale = d }

unfoldable pub scaled_objective : List Var → List Fraction → Fraction → Option Objective
scaled_objective vars sums constant =
    elim (narrow_row vars sums constant) [ None ↦ None | Some row ↦ Some (objective_times (common_denominator (constant ∷ sums)) sums constant) ]

-- the objective of the terms, unless it is too wide
unfoldable pub objective_from : List Var → List Named → List AstTerm → Option Objective
objective_from vars order terms =
    elim (totals order terms) [
      | Err leaves ↦ None
      | Ok sums ↦ elim (total is_constant terms) [ Err leaves ↦ None | Ok constant ↦ scaled_objective vars sums constant ]
    ]

abbrev pub objective_form : Ast → Result Objective NormalFault
objective_form ast = narrow which.Objective (objective_from (vars_of ast) (game_order ast) (maximised ast.sense ast.objective))

abbrev pub problem_with : Ast → List Row → List Row → Objective → Problem
problem_with ast rows urows objective = record {
  sense = ast.sense;
  vars = vars_of ast;
  wholes = length (whole_names ast);
  rows = rows;
  urows = urows;
  terms = objective.terms;
  constant = objective.constant;
  scale = pos objective.scale;
}

-- the problem of a text within scope and whose variables are within limits, or the first fault of its rows and its objective
abbrev pub problem_form : Ast → Result Problem NormalFault
problem_form ast =
    bind (rows_of ast)
    (λ rows. bind (urows_of ast)
    (λ urows. bind (objective_form ast)
    (λ objective. unless (rows_fault rows urows) (Ok (problem_with ast rows urows objective)))))

-- the normal form, or the first fault: of scope, then of limits in their order
abbrev pub normal_form : Ast → Result Problem NormalFault
normal_form ast = unless (scope_fault ast) (unless (variables_fault ast) (problem_form ast))
