-- The steps to a normal form, where none has a fault.
use Rattle.std.proofs.Common.{◌≡◌, ℕ, suc, ℤ, List, [], ◌∷◌, ◌++◌, length, Option, Some, None, Result, Ok, Err, ap, sym, subst, refl, ◌∙◌}
use Rattle.std.proofs.lemmas.List.{append-nil}
use Rattle.qm_math.specs.Fraction.{Fraction}
use Rattle.qm_frac.specs.Checked.{Checked}
use Rattle.qm_model.specs.declared.game.Sense.{Sense}
use Rattle.qm_model.specs.declared.game.Sense.TheVariants.{Max}
use Rattle.qm_model.specs.declared.row.Row.{Row}
use Rattle.qm_model.specs.declared.row.Term.{Term}
use Rattle.qm_model.specs.declared.variable.Var.{Var}
use Rattle.qm_parse.specs.declared.ast.Ast.{Ast}
use Rattle.qm_parse.specs.declared.ast.AstRow.{AstRow}
use Rattle.qm_parse.specs.declared.ast.AstTerm.{AstTerm}
use Rattle.qm_parse.specs.declared.ast.Named.{Named}
use Rattle.qm_parse.specs.declared.ast.Relation.{Relation}
use Rattle.qm_parse.specs.declared.ast.Relation.TheVariants.{Less}
use Rattle.qm_normal.specs.declared.fault.NormalFault.{NormalFault}
use Rattle.qm_normal.specs.declared.fault.Which.{Which}
use Rattle.qm_normal.specs.declared.fault.Which.TheVariants as which
use Rattle.qm_normal.specs.declared.objective.Objective.{Objective}
use Rattle.qm_normal.specs.Limits.{rows_fault}
use Rattle.qm_normal.specs.Normal.{bind, bound_rows_from, maximised, narrow, objective_from, objective_form, objective_times, problem_form, problem_with, rows_from, rows_of, scaled_objective, unless, urows_of, with_front}
use Rattle.qm_normal.specs.Rows.{common_denominator, is_constant, narrow_row, normal_row, related, total, totals}
use Rattle.qm_normal.specs.Variables.{continuous_names, game_order, vars_of, whole_names}

pub bind_Ok : {A B : Type 0} (first : Result A NormalFault) (next : A → Result B NormalFault) (x : A) → first ≡ Ok x → bind first next ≡ next x
unfolding bind
bind_Ok first next x is = ap (λ (r : Result _ NormalFault). bind r next) is

pub narrow_Some : {A : Type 0} (part : Which) (found : Option A) (x : A) → found ≡ Some x → narrow part found ≡ Ok x
unfolding narrow
narrow_Some part found x is = ap (narrow part) is

pub unless_None : {A : Type 0} (fault : Option NormalFault) (answer : Result A NormalFault) → fault ≡ None → unless fault answer ≡ answer
unfolding unless
unless_None fault answer none = ap (λ (f : Option NormalFault). unless f answer) none

-- ---- rows

pub related_less : (relation : Relation) (row : Row) → relation ≡ Less → related relation row ≡ row ∷ []
unfolding related
related_less relation row is = ap (λ (r : Relation). related r row) is

pub normal_row-totals : (vars : List Var) (order : List Named) (terms : List AstTerm) (right : Fraction) (sums : List Fraction) → totals order terms ≡ Ok sums → normal_row vars order terms right ≡ narrow_row vars sums right
unfolding normal_row
normal_row-totals vars order terms right sums is =
    let P : Checked (List Fraction) → Type 0 = λ r. (elim r as (λ _. Option Row) [ Err leaves ↦ None | Ok found ↦ narrow_row vars found right ]) ≡ narrow_row vars sums right in
    subst P (sym is) refl

pub rows_from-nil : (part : ℕ → Which) (ast : Ast) (number : ℕ) → rows_from part ast number [] ≡ Ok []
unfolding rows_from
rows_from-nil part ast number = refl

rows_from-cons : (part : ℕ → Which) (ast : Ast) (number : ℕ) (row : AstRow) (rows : List AstRow)
    → rows_from part ast number (row ∷ rows)
    ≡ bind (narrow (part number) (normal_row (vars_of ast) (game_order ast) row.terms row.right)) (λ one. bind (rows_from part ast (suc number) rows) (λ others. Ok (related row.relation one ++ others)))
unfolding rows_from
rows_from-cons part ast number row rows = refl

-- a row that is at most its right side, and the rows behind it
pub rows_from-less : (part : ℕ → Which) (ast : Ast) (number : ℕ) (row : AstRow) (rows : List AstRow) (one : Row) (others : List Row) → row.relation ≡ Less
    → normal_row (vars_of ast) (game_order ast) row.terms row.right ≡ Some one → rows_from part ast (suc number) rows ≡ Ok others → rows_from part ast number (row ∷ rows) ≡ Ok (one ∷ others)
rows_from-less part ast number row rows one others less here rest =
    rows_from-cons part ast number row rows
    ∙ bind_Ok _ _ one (narrow_Some (part number) _ one here)
    ∙ bind_Ok _ _ others rest
    ∙ ap (λ (front : List Row). Ok (front ++ others)) (related_less row.relation one less)

bound_rows_none : (ast : Ast) (var : ℕ) (list : List Named) → list ≡ [] → bound_rows_from ast var list ≡ Ok []
unfolding bound_rows_from
bound_rows_none ast var list none = ap (bound_rows_from ast var) none

with_front_none : (front : List Row) (answer : Result (List Row) NormalFault) → answer ≡ Ok [] → with_front front answer ≡ Ok front
with_front_none front answer is = bind_Ok answer _ [] is ∙ ap (λ (rows : List Row). Ok rows) (append-nil front)

-- without continuous variables there are no rows of bounds
pub rows_of-whole : (ast : Ast) (rows : List Row) → rows_from which.Row ast 0 ast.rows ≡ Ok rows → continuous_names ast ≡ [] → rows_of ast ≡ Ok rows
rows_of-whole ast rows is none = bind_Ok _ _ rows is ∙ with_front_none rows _ (bound_rows_none ast (length (whole_names ast)) (continuous_names ast) none)

pub urows_of-none : (ast : Ast) → ast.uncertain ≡ [] → urows_of ast ≡ Ok []
urows_of-none ast none = ap (rows_from which.Uncertainty ast 0) none ∙ rows_from-nil which.Uncertainty ast 0

-- ---- the objective

-- an objective of these parts
abbrev pub objective_with : List Term → ℤ → ℕ → Objective
objective_with terms constant scale = record { terms = terms; constant = constant; scale = scale }

pub scaled_objective-narrow : (vars : List Var) (sums : List Fraction) (constant : Fraction) (row : Row) → narrow_row vars sums constant ≡ Some row
    → scaled_objective vars sums constant ≡ Some (objective_times (common_denominator (constant ∷ sums)) sums constant)
unfolding scaled_objective
scaled_objective-narrow vars sums constant row is =
    let objective = objective_times (common_denominator (constant ∷ sums)) sums constant in
    let P : Option Row → Type 0 = λ o. (elim o as (λ _. Option Objective) [ None ↦ None | Some r ↦ Some objective ]) ≡ Some objective in
    subst P (sym is) refl

pub objective_from-totals : (vars : List Var) (order : List Named) (terms : List AstTerm) (sums : List Fraction) (constant : Fraction) → totals order terms ≡ Ok sums → total is_constant terms ≡ Ok constant
    → objective_from vars order terms ≡ scaled_objective vars sums constant
unfolding objective_from
objective_from-totals vars order terms sums constant p q =
    let inner : List Fraction → Checked Fraction → Option Objective = λ found r. elim r as (λ _. Option Objective) [ Err leaves ↦ None | Ok c ↦ scaled_objective vars found c ] in
    let outer : Checked (List Fraction) → Option Objective = λ r. elim r as (λ _. Option Objective) [ Err leaves ↦ None | Ok found ↦ inner found (total is_constant terms) ] in
    ap outer p ∙ ap (inner sums) q

pub maximised_max : (sense : Sense) (terms : List AstTerm) → sense ≡ Max → maximised sense terms ≡ terms
unfolding maximised
maximised_max sense terms is = ap (λ (s : Sense). maximised s terms) is

-- ---- the problem

-- rows, uncertainty rows and the objective make the problem
pub problem_of_parts : (ast : Ast) (rows urows : List Row) (objective : Objective) → rows_of ast ≡ Ok rows → urows_of ast ≡ Ok urows → objective_form ast ≡ Ok objective → rows_fault rows urows ≡ None → problem_form ast ≡ Ok (problem_with ast rows urows objective)
problem_of_parts ast rows urows objective r u o fits =
    bind_Ok (rows_of ast) _ rows r ∙ bind_Ok (urows_of ast) _ urows u ∙ bind_Ok (objective_form ast) _ objective o ∙ unless_None (rows_fault rows urows) _ fits
