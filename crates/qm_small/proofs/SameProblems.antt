-- The normal form of a small text is its problem.
use Rattle.std.proofs.Common.{◌≡◌, ℕ, suc, ◌^◌, ◌≤◌, List, [], ◌∷◌, length, map, ℤ, pos, Some, Ok, ap, ◌∙◌, arith, All}
use Rattle.std.proofs.lemmas.List.Elements.{All-head, All-tail}
use Rattle.qm_math.specs.Fraction.{whole}
use Rattle.qm_model.specs.declared.game.Problem.{Problem}
use Rattle.qm_model.specs.declared.game.Sense.TheVariants.{Max}
use Rattle.qm_model.specs.declared.row.Row.{Row}
use Rattle.qm_model.specs.declared.row.Term.{Term}
use Rattle.qm_model.specs.declared.variable.Var.{Var}
use Rattle.qm_model.specs.Sizes.{reach_in_vars, row_size}
use Rattle.qm_parse.specs.declared.ast.Ast.{Ast}
use Rattle.qm_parse.specs.declared.ast.AstRow.{AstRow}
use Rattle.qm_parse.specs.declared.ast.Named.{Named}
use Rattle.qm_normal.specs.declared.fault.Which.{Which}
use Rattle.qm_normal.specs.declared.fault.Which.TheVariants as which
use Rattle.qm_normal.specs.Limits.{variables_fault}
use Rattle.qm_normal.specs.Normal.{maximised, normal_form, objective_from, objective_form, objective_times, problem_with, rows_from, scaled_objective}
use Rattle.qm_normal.specs.Rows as normal
use Rattle.qm_normal.specs.Scopes.{scope_fault}
use Rattle.qm_normal.specs.Variables.{game_order, vars_of, whole_names}
use Rattle.qm_normal.proofs.FormSteps.{maximised_max, narrow_Some, objective_from-totals, objective_with, problem_of_parts, rows_from-less, rows_from-nil, rows_of-whole, scaled_objective-narrow, unless_None}
use Rattle.qm_small.specs.Written.{Written, WrittenRow}
use Rattle.qm_small.specs.Names as small
use Rattle.qm_small.specs.Problems.{nonzero_from, problem_of, row_of, terms_of, total, var_of}
use Rattle.qm_small.proofs.SameParts.{Both, NamedIs, RowIs, TermIs}
use Rattle.qm_small.proofs.SameSums.{denominator_one, narrow_whole, no_constant, row_normal, row_times_one, terms_small, totals_are}
use Rattle.qm_small.proofs.SameTexts.{HasFew, HasFewTerms, IsTreeOf}
use Rattle.qm_small.proofs.SameVariables.{few_in_order, all_binary, all_vars, game_order_is, in_scope, none_continuous, rows_fit, same_length, variables_fit, whole_order}

-- ---- rows

-- what a row of a text needs of its tree
pub record IsPlain (names : List (List ℕ)) (written : Written) (ast : Ast) : Type 0 where
  pub vars : vars_of ast ≡ map (var_of written.universal) written.order
  pub order : game_order ast ≡ ast.order
  pub named_are : Both (NamedIs names) written.order ast.order
  pub few : length written.order ≤ 100

row_is : (names : List (List ℕ)) (written : Written) (ast : Ast) → IsPlain names written ast → (one : WrittenRow) (row : AstRow) → RowIs names one row → length one.terms ≤ 2 ^ 64
    → normal.normal_row (vars_of ast) (game_order ast) row.terms row.right ≡ Some (row_of written.order one)
row_is names written ast plain one row is few =
    ap (λ (xs : List Var). normal.normal_row xs (game_order ast) row.terms row.right) plain.vars
    ∙ ap (λ (list : List Named). normal.normal_row (map (var_of written.universal) written.order) list row.terms row.right) plain.order
    ∙ row_normal names written.universal written.order ast.order one row plain.named_are is few plain.few

all_rows : (names : List (List ℕ)) (written : Written) (ast : Ast) → IsPlain names written ast → (part : ℕ → Which) (number : ℕ) (list : List WrittenRow) (rows : List AstRow) → Both (RowIs names) list rows → All (HasFewTerms (2 ^ 64)) list
    → rows_from part ast number rows ≡ Ok (map (row_of written.order) list)
all_rows names written ast plain part number [] [] both few = rows_from-nil part ast number
all_rows names written ast plain part number [] (row ∷ rows) both few = absurd both
all_rows names written ast plain part number (one ∷ list) [] both few = absurd both
all_rows names written ast plain part number (one ∷ list) (row ∷ rows) both few =
    let first = row_of written.order one in
    let others = map (row_of written.order) list in
    let here = row_is names written ast plain one row both.0 (All-head (HasFewTerms (2 ^ 64)) one list few) in
    let rest = all_rows names written ast plain part (suc number) list rows both.1 (All-tail (HasFewTerms (2 ^ 64)) one list few) in
    rows_from-less part ast number row rows first others both.0.relation here rest

-- ---- the objective

abbrev small_terms : List ℤ → List Term
small_terms ks = nonzero_from 0 ks

scaled : (vars : List Var) (ks : List ℤ) → row_size (reach_in_vars vars) (record { terms = small_terms ks; right = pos 0 }) ≤ 2 ^ 126
    → scaled_objective vars (map whole ks) (whole (pos 0)) ≡ Some (objective_with (small_terms ks) (pos 0) 1)
scaled vars ks small =
    scaled_objective-narrow vars (map whole ks) (whole (pos 0)) (record { terms = small_terms ks; right = pos 0 }) (narrow_whole vars ks (pos 0) small)
    ∙ ap (λ d. Some (objective_times d (map whole ks) (whole (pos 0)))) (denominator_one (pos 0 ∷ ks))
    ∙ ap (λ (r : Row). Some (objective_with r.terms r.right 1)) (row_times_one ks (pos 0))

objective_is : (names : List (List ℕ)) (written : Written) (ast : Ast) → IsPlain names written ast → ast.sense ≡ Max → Both (TermIs names) written.objective ast.objective → length written.objective ≤ 2 ^ 64
    → objective_form ast ≡ Ok (objective_with (terms_of written.order written.objective) (pos 0) 1)
objective_is names written ast plain sense both few =
    let vars = map (var_of written.universal) written.order in
    let ks = map (total written.objective) written.order in
    let size = terms_small names written.universal written.order written.objective ast.objective both few plain.few in
    narrow_Some which.Objective _ (objective_with (terms_of written.order written.objective) (pos 0) 1)
    (ap (λ (xs : List Var). objective_from xs (game_order ast) (maximised ast.sense ast.objective)) plain.vars
    ∙ ap (λ (list : List Named). objective_from vars list (maximised ast.sense ast.objective)) plain.order
    ∙ ap (objective_from vars ast.order) (maximised_max ast.sense ast.objective sense)
    ∙ objective_from-totals vars ast.order ast.objective (map whole ks) (whole (pos 0)) (totals_are names written.objective ast.objective both few written.order ast.order plain.named_are) (no_constant names written.objective ast.objective both)
    ∙ scaled vars ks (omega arith))

-- ---- the problem

same_problem : (names : List (List ℕ)) (written : Written) (ast : Ast) → IsPlain names written ast → ast.sense ≡ Max → length (whole_names ast) ≡ length written.order
    → problem_with ast (map (row_of written.order) written.rows) (map (row_of written.order) written.uncertain) (objective_with (terms_of written.order written.objective) (pos 0) 1) ≡ problem_of written
same_problem names written ast plain sense wholes =
    let vars = plain.vars in
    λ i. record {
      sense = sense i;
      vars = vars i;
      wholes = wholes i;
      rows = map (row_of written.order) written.rows;
      urows = map (row_of written.order) written.uncertain;
      terms = terms_of written.order written.objective;
      constant = pos 0;
      scale = pos 1;
    }

pub normal_is : (names : List (List ℕ)) (written : Written) (ast : Ast) → IsTreeOf names written ast → small.NamesFit written → HasFew (2 ^ 64) written → normal_form ast ≡ Ok (problem_of written)
normal_is names written ast tree right few =
    let fit = right.lists in
    let binary = all_binary names written ast tree fit in
    let few_names = few_in_order written fit in
    let plain : IsPlain names written ast = record { vars = all_vars names written ast tree binary; order = game_order_is ast binary; named_are = tree.order; few = few_names } in
    let list = map (row_of written.order) written.rows in
    let ulist = map (row_of written.order) written.uncertain in
    let rows = rows_of-whole ast list (all_rows names written ast plain which.Row 0 written.rows ast.rows tree.rows few.rows) (none_continuous ast binary) in
    let urows = all_rows names written ast plain which.Uncertainty 0 written.uncertain ast.uncertain tree.uncertain few.uncertain in
    let objective = objective_is names written ast plain tree.sense tree.objective few.objective in
    let wholes : length (whole_names ast) ≡ length written.order = ap (length {A = Named}) (whole_order ast binary) ∙ same_length names written.order ast.order tree.order in
    unless_None (scope_fault ast) _ (in_scope names written ast tree right binary)
    ∙ unless_None (variables_fault ast) _ (variables_fit names written ast tree fit binary)
    ∙ problem_of_parts ast list ulist (objective_with (terms_of written.order written.objective) (pos 0) 1) rows urows objective (rows_fit written.order written.rows written.uncertain few_names right.few_rows)
    ∙ ap (λ (P : Problem). Ok P) (same_problem names written ast plain tree.sense wholes)
