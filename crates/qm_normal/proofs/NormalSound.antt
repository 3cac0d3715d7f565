-- A normal form is in order.
use Rattle.std.proofs.Common.{◌≡◌, ℕ, ◌+◌, ◌<◌, ◌≤◌, ◌^◌, List, ◌∷◌, ◌++◌, length, sym, ◌∙◌, subst, arith, lit<, pos, unsigned_abs, Ok}
use Rattle.std.specs.Prelude.{All}
use Rattle.std.proofs.lemmas.Int.{ints}
use Rattle.std.proofs.lemmas.List.{length-map}
use Rattle.std.proofs.lemmas.List.Elements.{All-append, All-cons, All-map, All-same}
use Rattle.qm_math.specs.Fraction.{HasPositiveDen, whole}
use Rattle.qm_model.specs.declared.game.Problem.{Problem}
use Rattle.qm_model.specs.declared.row.Row.{Row}
use Rattle.qm_model.specs.declared.variable.Var.{Var}
use Rattle.qm_model.specs.Linear.{HasVarsBelow, IsOrdered}
use Rattle.qm_model.specs.Sizes.{reach_in_vars, terms_size}
use Rattle.qm_model.specs.Sound.{IsOverUniversal, IsRowOver, IsSound}
use Rattle.qm_parse.specs.declared.ast.Ast.{Ast}
use Rattle.qm_parse.specs.declared.ast.AstRow.{AstRow}
use Rattle.qm_normal.specs.declared.fault.Which.{Which}
use Rattle.qm_normal.specs.declared.fault.Which.TheVariants as which
use Rattle.qm_normal.specs.Normal.{Objective, bound_rows_from, maximised, normal_form, objective_from, rows_from, rows_of, urows_of}
use Rattle.qm_normal.specs.Numbers.{HasProperNumbers}
use Rattle.qm_normal.specs.Rows.{common_denominator, is_constant, negated_term, row_times}
use Rattle.qm_normal.specs.Variables.{continuous_names, game_order, vars_of, whole_names}
use Rattle.qm_normal.proofs.NormalSteps.{NormalParts, ObjectiveParts, bind-ok, each_row, narrow-ok, narrow_sizes, normal_parts, objective_parts, row_parts, same_ok}
use Rattle.qm_normal.proofs.NormalTerms.{IsRowOver-negated, IsRowOver-normal, IsRowOver-row_times, each_related, length-totals}
use Rattle.qm_normal.proofs.NormalBounds.{HasProperEnds, bound_rows_over}
use Rattle.qm_normal.proofs.NormalVars.{NamesUniversal, continuous_last, few_rows, few_vars, universal_row, universal_rows, whole_and_continuous, whole_first}
use Rattle.qm_normal.proofs.NormalDens.{common_denominator_pos, maximised_proper, proper_ends, total_den, totals_den}

-- as many names in game order as variables
same_length : (ast : Ast) → length (game_order ast) ≡ length (vars_of ast)
same_length ast = sym (length-map (game_order ast) _)

abbrev Anything : AstRow → Type 0
Anything row = Unit {0}

written_rows_over : (part : ℕ → Which) (ast : Ast) (number : ℕ) (list : List AstRow) (rows : List Row) → rows_from part ast number list ≡ Ok rows → All (IsRowOver (vars_of ast)) rows
written_rows_over part ast number list rows h =
    let Q = IsRowOver (vars_of ast) in
    each_row Q Anything part ast
    (λ row one all is.
    let over = IsRowOver-normal (vars_of ast) (game_order ast) row.terms row.right one (same_length ast) (row_parts (vars_of ast) (game_order ast) row.terms row.right one is) in
    each_related Q row.relation one over (IsRowOver-negated (vars_of ast) one over))
    number list rows (λ k d inside. tt) h

rows_over : (ast : Ast) (rows : List Row) → All (HasProperEnds ast) (continuous_names ast) → rows_of ast ≡ Ok rows → All (IsRowOver (vars_of ast)) rows
rows_over ast rows ends h =
    let Q = IsRowOver (vars_of ast) in
    let written = bind-ok (rows_from which.Row ast 0 ast.rows) _ rows h in
    let bounds = bind-ok (bound_rows_from ast (length (whole_names ast)) (continuous_names ast)) _ rows written.2 in
    let first = written_rows_over which.Row ast 0 ast.rows written.0 written.1 in
    let rest = bound_rows_over ast (length (whole_names ast)) (continuous_names ast) bounds.0 (omega (arith, whole_and_continuous ast)) ends bounds.1 in
    All-same Q rows (written.0 ++ bounds.0) (sym (same_ok (written.0 ++ bounds.0) rows bounds.2)) (All-append Q written.0 bounds.0 first rest)

urows_universal : (ast : Ast) (urows : List Row) → All (λ (row : AstRow). All (NamesUniversal ast) row.terms) ast.uncertain → urows_of ast ≡ Ok urows → All (λ (row : Row). All (IsOverUniversal (vars_of ast)) row.terms) urows
urows_universal ast urows universal h =
    let Q : Row → Type 0 = λ row. All (IsOverUniversal (vars_of ast)) row.terms in
    each_row Q (λ (row : AstRow). All (NamesUniversal ast) row.terms) which.Uncertainty ast
    (λ row one all is.
    let over = universal_row ast row.terms row.right one all is in
    each_related Q row.relation one over (All-map (IsOverUniversal (vars_of ast)) negated_term one.terms over))
    0 ast.uncertain urows universal h

pub record ObjectiveFits (xs : List Var) (objective : Objective) : Type 0 where
  pub ordered : IsOrdered objective.terms
  pub vars : HasVarsBelow (length xs) objective.terms
  pub size : unsigned_abs objective.constant + terms_size (reach_in_vars xs) objective.terms ≤ 2 ^ 126
  pub scale : objective.scale ≤ 2 ^ 126

objective_fits : (ast : Ast) (objective : Objective) → ObjectiveParts (vars_of ast) (game_order ast) (maximised ast.sense ast.objective) objective → ObjectiveFits (vars_of ast) objective
objective_fits ast objective parts =
    let xs = vars_of ast in
    let d = common_denominator (parts.constant ∷ parts.sums) in
    let small = narrow_sizes xs d (row_times d parts.sums parts.constant) parts.narrow in
    let long = length-totals (game_order ast) (maximised ast.sense ast.objective) parts.sums parts.sums_are ∙ same_length ast in
    let over = IsRowOver-row_times xs d parts.sums parts.constant long small.1 in
    subst (ObjectiveFits xs) parts.objective_is (record { ordered = over.ordered; vars = over.vars; size = over.size; scale = small.0 })

pub objective_found : (ast : Ast) (P : Problem) (parts : NormalParts ast P) → ObjectiveParts (vars_of ast) (game_order ast) (maximised ast.sense ast.objective) parts.objective
objective_found ast P parts =
    objective_parts (vars_of ast) (game_order ast) (maximised ast.sense ast.objective) parts.objective
    (narrow-ok which.Objective (objective_from (vars_of ast) (game_order ast) (maximised ast.sense ast.objective)) parts.objective parts.objective_is)

-- where the exact ends of the continuous variables have positive denominators, and the objective's scale is positive
pub sound_from : (ast : Ast) (P : Problem) (parts : NormalParts ast P) → All (HasProperEnds ast) (continuous_names ast) → 1 ≤ parts.objective.scale → IsSound P
sound_from ast P parts ends scale =
    let fits = objective_fits ast parts.objective (objective_found ast P parts) in
    let few = few_rows parts.rows parts.urows parts.few_rows in
    subst IsSound parts.problem (record {
      few_vars = few_vars ast parts.in_limits;
      few_rows = few.0;
      few_urows = few.1;
      wholes = omega (arith, whole_and_continuous ast);
      whole_first = whole_first ast;
      continuous_last = continuous_last ast parts.in_scope;
      rows = rows_over ast parts.rows ends parts.rows_are;
      urows = written_rows_over which.Uncertainty ast 0 ast.uncertain parts.urows parts.urows_are;
      urows_universal = urows_universal ast parts.urows (universal_rows ast parts.in_scope) parts.urows_are;
      objective_ordered = fits.ordered;
      objective_vars = fits.vars;
      objective_size = fits.size;
      scale_positive = omega (arith, ints, scale);
      scale_size = omega (arith, ints, fits.scale);
    })

pub normal-sound : (ast : Ast) (P : Problem) → HasProperNumbers ast → normal_form ast ≡ Ok P → IsSound P
normal-sound ast P proper h =
    let parts = normal_parts ast P h in
    let terms = maximised ast.sense ast.objective in
    let found = objective_found ast P parts in
    let proper_terms = maximised_proper ast.sense ast.objective proper.objective in
    let constant = total_den is_constant terms (whole (pos 0)) found.constant proper_terms (lit< tt) found.constant_is in
    let sums = totals_den (game_order ast) terms found.sums proper_terms found.sums_are in
    let some = common_denominator_pos (found.constant ∷ found.sums) (All-cons HasPositiveDen found.constant found.sums constant sums) in
    let scale : 0 < parts.objective.scale = subst (λ (o : Objective). 0 < o.scale) found.objective_is some in
    sound_from ast P parts (λ k d inside. proper_ends ast _ proper) (omega (arith, scale))
