-- Want of memory is no fault of a tree.
use Rattle.std.proofs.Common.{◌≢◌, ℕ, suc, ◌+◌, ◌++◌, Bool, true, false, not, cond, List, [], ◌∷◌, length, Option, Some, None, Result, Ok, Err}
use Rattle.std.specs.Prelude.{nat_le}
use Rattle.qm_lex.specs.declared.place.Place.{Place}
use Rattle.qm_model.specs.declared.row.Row.{Row}
use Rattle.qm_parse.specs.declared.ast.Ast.{Ast}
use Rattle.qm_parse.specs.declared.ast.AstRow.{AstRow}
use Rattle.qm_parse.specs.declared.ast.Named.{Named}
use Rattle.qm_normal.specs.declared.fault.NormalFault.{NormalFault}
use Rattle.qm_normal.specs.declared.fault.NormalFault.TheVariants as fault
use Rattle.qm_normal.specs.declared.fault.Which.{Which}
use Rattle.qm_normal.specs.declared.fault.Which.TheVariants as which
use Rattle.qm_normal.specs.Ends.{lower_end, upper_end}
use Rattle.qm_normal.specs.Limits.{domain_fault, large_domain, rows_fault, terms_in, variables_fault}
use Rattle.qm_normal.specs.Normal.{bind, bound_rows_from, narrow, normal_form, objective_form, problem_form, problem_with, rows_from, rows_of, rows_of_bounds, unless, urows_of}
use Rattle.qm_normal.specs.Rows.{bound_row, high_row, low_row, normal_row, related}
use Rattle.qm_normal.specs.Scopes.{continuous_early, continuous_universal, exists_in_uncertainty, scope_fault, told}
use Rattle.qm_normal.specs.Variables.{continuous_names, game_order, name_of, vars_of, whole_names}

-- memory didn't run out
abbrev IsTold : {A : Type 0} → Result A NormalFault → Type 0
IsTold form = form ≢ Err fault.Memory

abbrev IsFault : Option NormalFault → Type 0
IsFault found = found ≢ Some fault.Memory

unless_told : {A : Type 0} (found : Option NormalFault) (form : Result A NormalFault) → IsFault found → IsTold form → IsTold (unless found form)
unfolding unless
unless_told None form first next same = next same
unless_told (Some is) form first next same = first cc

bind_told : {A B : Type 0} (form : Result A NormalFault) (next : A → Result B NormalFault) → IsTold form → ((x : A) → IsTold (next x)) → IsTold (bind form next)
unfolding bind
bind_told (Ok x) next first then_told same = then_told x same
bind_told (Err is) next first then_told same = first cc

narrow_told : {A : Type 0} (part : Which) (found : Option A) → IsTold (narrow part found)
unfolding narrow
narrow_told part None same = cc
narrow_told part (Some x) same = cc

ok_told : {A : Type 0} (x : A) → IsTold (Ok x)
ok_told x same = cc

rows_told : (part : ℕ → Which) (ast : Ast) (number : ℕ) (rows : List AstRow) → IsTold (rows_from part ast number rows)
unfolding rows_from
rows_told part ast number [] = ok_told []
rows_told part ast number (row ∷ rows) =
    bind_told (narrow (part number) (normal_row (vars_of ast) (game_order ast) row.terms row.right)) _ (narrow_told (part number) _)
    (λ one. bind_told (rows_from part ast (suc number) rows) _ (rows_told part ast (suc number) rows) (λ others. ok_told (related row.relation one ++ others)))

bounds_told : (ast : Ast) (var name : ℕ) → IsTold (rows_of_bounds ast var name)
bounds_told ast var name =
    let part = which.Bound (name_of ast name) in
    bind_told (narrow part (bound_row (vars_of ast) (lower_end ast name) (low_row var (lower_end ast name)))) _ (narrow_told part _)
    (λ low. bind_told (narrow part (bound_row (vars_of ast) (upper_end ast name) (high_row var (upper_end ast name)))) _ (narrow_told part _) (λ high. ok_told (low ++ high)))

bound_rows_told : (ast : Ast) (var : ℕ) (list : List Named) → IsTold (bound_rows_from ast var list)
unfolding bound_rows_from
bound_rows_told ast var [] = ok_told []
bound_rows_told ast var (named ∷ list) =
    bind_told (rows_of_bounds ast var named.name) _ (bounds_told ast var named.name)
    (λ rows. bind_told (bound_rows_from ast (suc var) list) _ (bound_rows_told ast (suc var) list) (λ others. ok_told (rows ++ others)))

all_rows_told : (ast : Ast) → IsTold (rows_of ast)
all_rows_told ast =
    let behind = bound_rows_from ast (length (whole_names ast)) (continuous_names ast) in
    bind_told (rows_from which.Row ast 0 ast.rows) _ (rows_told which.Row ast 0 ast.rows)
    (λ rows. bind_told behind _ (bound_rows_told ast _ (continuous_names ast)) (λ others. ok_told (rows ++ others)))

few_or_many : (b : Bool) (few many : Option NormalFault) → IsFault few → IsFault many → IsFault (cond b few many)
few_or_many true few many one other = one
few_or_many false few many one other = other

none_told : IsFault None
none_told same = cc

rows_fault_told : (rows urows : List Row) → IsFault (rows_fault rows urows)
rows_fault_told rows urows =
    few_or_many (not (nat_le (length rows + length urows) 2000)) _ _ (λ same. cc)
    (few_or_many (not (nat_le (terms_in rows + terms_in urows) 200000)) _ _ (λ same. cc) none_told)

problem_told : (ast : Ast) → IsTold (problem_form ast)
problem_told ast =
    bind_told (rows_of ast) _ (all_rows_told ast)
    (λ rows. bind_told (urows_of ast) _ (rows_told which.Uncertainty ast 0 ast.uncertain)
    (λ urows. bind_told (objective_form ast) _ (narrow_told which.Objective _)
    (λ objective. unless_told (rows_fault rows urows) (Ok (problem_with ast rows urows objective)) (rows_fault_told rows urows) (ok_told _))))

domain_told : (ast : Ast) (found : Option Named) → IsFault (domain_fault ast found)
unfolding domain_fault
domain_told ast None same = cc
domain_told ast (Some named) same = cc

variables_told : (ast : Ast) → IsFault (variables_fault ast)
variables_told ast = few_or_many (nat_le (length ast.order) 1000) _ _ (domain_told ast (large_domain ast)) (λ same. cc)

name_told : (kind : List ℕ → Place → NormalFault) (ast : Ast) (found : Option Named) (next : Option NormalFault)
    → ((name : List ℕ) (at : Place) → kind name at ≢ fault.Memory) → IsFault next → IsFault (told kind ast found next)
unfolding told
name_told kind ast None next apart behind same = behind same
name_told kind ast (Some named) next apart behind same = apart (name_of ast named.name) named.at cc

scope_told : (ast : Ast) → IsFault (scope_fault ast)
scope_told ast =
    name_told fault.ContinuousUniversal ast (continuous_universal ast) _ (λ name at same. cc)
    (name_told fault.ContinuousEarly ast (continuous_early ast) _ (λ name at same. cc)
    (name_told fault.ExistsInUncertainty ast (exists_in_uncertainty ast) None (λ name at same. cc) none_told))

pub form_told : (ast : Ast) → normal_form ast ≢ Err fault.Memory
form_told ast = unless_told (scope_fault ast) _ (scope_told ast) (unless_told (variables_fault ast) (problem_form ast) (variables_told ast) (problem_told ast))
