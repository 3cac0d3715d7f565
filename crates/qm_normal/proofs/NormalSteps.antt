-- What an answer of the normal form tells of its parts.
use Rattle.std.proofs.Common.{◌≡◌, ℕ, suc, ◌≤◌, ◌^◌, cond, Bool, true, false, ◌&&◌, List, [], ◌∷◌, ◌++◌, Option, Some, None, Result, Ok, Err, refl, sym}
use Rattle.std.specs.Prelude.{All, nat_le}
use Rattle.std.proofs.lemmas.Bool.{and_parts}
use Rattle.std.proofs.lemmas.Bool.Decides.{nat_tests}
use Rattle.std.proofs.lemmas.List.Elements.{All-append, All-head, All-nil, All-same, All-tail}
use Rattle.std.proofs.Common.{arith}
use Rattle.std.proofs.lemmas.Option.{cond_some}
use Rattle.qm_math.specs.Fraction.{Fraction}
use Rattle.qm_frac.specs.Checked.{Checked}
use Rattle.qm_model.specs.declared.game.Problem.{Problem}
use Rattle.qm_model.specs.declared.row.Row.{Row}
use Rattle.qm_model.specs.declared.variable.Var.{Var}
use Rattle.qm_model.specs.Sizes.{reach_in_vars, row_size}
use Rattle.qm_parse.specs.declared.ast.Ast.{Ast}
use Rattle.qm_parse.specs.declared.ast.AstRow.{AstRow}
use Rattle.qm_parse.specs.declared.ast.AstTerm.{AstTerm}
use Rattle.qm_parse.specs.declared.ast.Named.{Named}
use Rattle.qm_normal.specs.declared.fault.NormalFault.{NormalFault}
use Rattle.qm_normal.specs.declared.fault.Which.{Which}
use Rattle.qm_normal.specs.Limits.{rows_fault, variables_fault}
use Rattle.qm_normal.specs.Normal.{Objective, bind, narrow, normal_form, objective_from, objective_form, objective_times, problem_with, rows_from, rows_of, scaled_objective, unless, urows_of}
use Rattle.qm_normal.specs.Rows.{common_denominator, is_constant, is_narrow, narrow_row, normal_row, related, row_times, total, totals}
use Rattle.qm_normal.specs.Scopes.{scope_fault}
use Rattle.qm_normal.specs.Variables.{game_order, vars_of}

-- ---- steps

pub unless-ok : {A : Type 0} (fault : Option NormalFault) (answer : Result A NormalFault) (x : A) → unless fault answer ≡ Ok x → (fault ≡ None) × (answer ≡ Ok x)
unfolding unless
unless-ok None answer x h = (refl, h)
unless-ok (Some fault) answer x h = absurd (cc)

pub bind-ok : {A B : Type 0} (first : Result A NormalFault) (next : A → Result B NormalFault) (y : B) → bind first next ≡ Ok y → (x : A) × (first ≡ Ok x) × (next x ≡ Ok y)
unfolding bind
bind-ok (Ok x) next y h = (x, refl, h)
bind-ok (Err fault) next y h = absurd (cc)

pub narrow-ok : {A : Type 0} (part : Which) (found : Option A) (x : A) → narrow part found ≡ Ok x → found ≡ Some x
unfolding narrow
narrow-ok part None x h = absurd (cc)
narrow-ok part (Some y) x h = cc

pub same_ok : {A : Type 0} (x y : A) → (let z : Result A NormalFault = Ok x in z) ≡ Ok y → x ≡ y
same_ok x y h = cc

-- ---- the parts of a normal form

pub record NormalParts (ast : Ast) (P : Problem) : Type 0 where
  pub rows : List Row
  pub urows : List Row
  pub objective : Objective
  pub in_scope : scope_fault ast ≡ None
  pub in_limits : variables_fault ast ≡ None
  pub rows_are : rows_of ast ≡ Ok rows
  pub urows_are : urows_of ast ≡ Ok urows
  pub objective_is : objective_form ast ≡ Ok objective
  pub few_rows : rows_fault rows urows ≡ None
  pub problem : problem_with ast rows urows objective ≡ P

pub normal_parts : (ast : Ast) (P : Problem) → normal_form ast ≡ Ok P → NormalParts ast P
normal_parts ast P h =
    let scoped = unless-ok (scope_fault ast) _ P h in
    let limited = unless-ok (variables_fault ast) _ P scoped.1 in
    let rows = bind-ok (rows_of ast) _ P limited.1 in
    let urows = bind-ok (urows_of ast) _ P rows.2 in
    let objective = bind-ok (objective_form ast) _ P urows.2 in
    let few = unless-ok (rows_fault rows.0 urows.0) _ P objective.2 in
    record {
      rows = rows.0;
      urows = urows.0;
      objective = objective.0;
      in_scope = scoped.0;
      in_limits = limited.0;
      rows_are = rows.1;
      urows_are = urows.1;
      objective_is = objective.1;
      few_rows = few.0;
      problem = same_ok (problem_with ast rows.0 urows.0 objective.0) P few.1;
    }

-- ---- rows

-- the sums of a row that isn't too wide
pub record RowParts (vars : List Var) (order : List Named) (terms : List AstTerm) (right : Fraction) (row : Row) : Type 0 where
  pub sums : List Fraction
  pub sums_are : totals order terms ≡ Ok sums
  pub narrow : is_narrow vars (common_denominator (right ∷ sums)) (row_times (common_denominator (right ∷ sums)) sums right) ≡ true
  pub row_is : row_times (common_denominator (right ∷ sums)) sums right ≡ row

sums_narrow : (vars : List Var) (right : Fraction) (answer : Checked (List Fraction)) (row : Row)
    → (let z : Option Row = elim answer [ Err leaves ↦ None | Ok sums ↦ narrow_row vars sums right ] in z) ≡ Some row → (sums : List Fraction) × (answer ≡ Ok sums) × (narrow_row vars sums right ≡ Some row)
sums_narrow vars right (Ok sums) row h = (sums, refl, h)
sums_narrow vars right (Err leaves) row h = absurd (cc)

pub row_parts : (vars : List Var) (order : List Named) (terms : List AstTerm) (right : Fraction) (row : Row) → normal_row vars order terms right ≡ Some row → RowParts vars order terms right row
unfolding normal_row
row_parts vars order terms right row h =
    let sums = sums_narrow vars right (totals order terms) row h in
    let made = cond_some (is_narrow vars (common_denominator (right ∷ sums.0)) (row_times (common_denominator (right ∷ sums.0)) sums.0 right)) (row_times (common_denominator (right ∷ sums.0)) sums.0 right) row sums.2 in
    record { sums = sums.0; sums_are = sums.1; narrow = made.0; row_is = made.1 }

both_le : (a b n : ℕ) → (nat_le a n && nat_le b n) ≡ true → (a ≤ n) × (b ≤ n)
both_le a b n h =
    let both = and_parts (nat_le a n) (nat_le b n) h in
    let one : a ≤ n = grind (arith, nat_tests, both.0) in
    let other : b ≤ n = grind (arith, nat_tests, both.1) in
    (one, other)

-- neither is too large
pub narrow_sizes : (vars : List Var) (d : ℕ) (row : Row) → is_narrow vars d row ≡ true → (d ≤ 2 ^ 126) × (row_size (reach_in_vars vars) row ≤ 2 ^ 126)
narrow_sizes vars d row h = both_le d (row_size (reach_in_vars vars) row) (2 ^ 126) h

-- what holds of each row that a written one gives holds of all rows of a section
pub each_row : (Q : Row → Type 0) (R : AstRow → Type 0) (part : ℕ → Which) (ast : Ast)
    → ((row : AstRow) (one : Row) → R row → normal_row (vars_of ast) (game_order ast) row.terms row.right ≡ Some one → All Q (related row.relation one))
    → (number : ℕ) (list : List AstRow) (rows : List Row) → All R list → rows_from part ast number list ≡ Ok rows → All Q rows
unfolding rows_from
each_row Q R part ast each number [] rows all h = All-same Q rows [] (sym (same_ok [] rows h)) (All-nil Q)
each_row Q R part ast each number (row ∷ list) rows all h =
    let one = bind-ok (narrow (part number) (normal_row (vars_of ast) (game_order ast) row.terms row.right)) _ rows h in
    let others = bind-ok (rows_from part ast (suc number) list) _ rows one.2 in
    let here = each row one.0 (All-head R row list all) (narrow-ok (part number) (normal_row (vars_of ast) (game_order ast) row.terms row.right) one.0 one.1) in
    let rest = each_row Q R part ast each (suc number) list others.0 (All-tail R row list all) others.1 in
    All-same Q rows (related row.relation one.0 ++ others.0) (sym (same_ok (related row.relation one.0 ++ others.0) rows others.2))
    (All-append Q (related row.relation one.0) others.0 here rest)

-- ---- the objective

pub record ObjectiveParts (vars : List Var) (order : List Named) (terms : List AstTerm) (objective : Objective) : Type 0 where
  pub sums : List Fraction
  pub constant : Fraction
  pub sums_are : totals order terms ≡ Ok sums
  pub constant_is : total is_constant terms ≡ Ok constant
  pub narrow : is_narrow vars (common_denominator (constant ∷ sums)) (row_times (common_denominator (constant ∷ sums)) sums constant) ≡ true
  pub objective_is : objective_times (common_denominator (constant ∷ sums)) sums constant ≡ objective

abbrev next_constant : List Var → List AstTerm → List Fraction → Option Objective
next_constant vars terms sums = elim (total is_constant terms) [ Err leaves ↦ None | Ok constant ↦ scaled_objective vars sums constant ]

first_sums : (vars : List Var) (terms : List AstTerm) (answer : Checked (List Fraction)) (objective : Objective)
    → (let z : Option Objective = elim answer [ Err leaves ↦ None | Ok sums ↦ next_constant vars terms sums ] in z) ≡ Some objective
    → (sums : List Fraction) × (answer ≡ Ok sums) × (next_constant vars terms sums ≡ Some objective)
first_sums vars terms (Ok sums) objective h = (sums, refl, h)
first_sums vars terms (Err leaves) objective h = absurd (cc)

then_constant : (vars : List Var) (sums : List Fraction) (answer : Checked Fraction) (objective : Objective)
    → (let z : Option Objective = elim answer [ Err leaves ↦ None | Ok constant ↦ scaled_objective vars sums constant ] in z) ≡ Some objective
    → (constant : Fraction) × (answer ≡ Ok constant) × (scaled_objective vars sums constant ≡ Some objective)
then_constant vars sums (Ok constant) objective h = (constant, refl, h)
then_constant vars sums (Err leaves) objective h = absurd (cc)

then_scaled : (b : Bool) (row : Row) (made objective : Objective)
    → (let z : Option Objective = elim (let y : Option Row = cond b (Some row) None in y) [ None ↦ None | Some one ↦ Some made ] in z) ≡ Some objective → (b ≡ true) × (made ≡ objective)
then_scaled true row made objective h = (refl, cc)
then_scaled false row made objective h = absurd (cc)

scaled_parts : (vars : List Var) (sums : List Fraction) (constant : Fraction) (objective : Objective) → scaled_objective vars sums constant ≡ Some objective
    → (is_narrow vars (common_denominator (constant ∷ sums)) (row_times (common_denominator (constant ∷ sums)) sums constant) ≡ true)
    × (objective_times (common_denominator (constant ∷ sums)) sums constant ≡ objective)
unfolding scaled_objective
scaled_parts vars sums constant objective h =
    then_scaled (is_narrow vars (common_denominator (constant ∷ sums)) (row_times (common_denominator (constant ∷ sums)) sums constant)) (row_times (common_denominator (constant ∷ sums)) sums constant)
    (objective_times (common_denominator (constant ∷ sums)) sums constant) objective h

pub objective_parts : (vars : List Var) (order : List Named) (terms : List AstTerm) (objective : Objective) → objective_from vars order terms ≡ Some objective
    → ObjectiveParts vars order terms objective
unfolding objective_from
objective_parts vars order terms objective h =
    let sums = first_sums vars terms (totals order terms) objective h in
    let constant = then_constant vars sums.0 (total is_constant terms) objective sums.2 in
    let scaled = scaled_parts vars sums.0 constant.0 objective constant.2 in
    record { sums = sums.0; constant = constant.0; sums_are = sums.1; constant_is = constant.1; narrow = scaled.0; objective_is = scaled.1 }
