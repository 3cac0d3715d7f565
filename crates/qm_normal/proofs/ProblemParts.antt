-- The parts of a problem, put together.
use Rattle.std.proofs.Common.{◌≡◌, ◌≤◌, ◌^◌, List, ◌∷◌, Option, Some, None, Result, Ok, Err, sym, ap, subst, ◌∙◌}
use Rattle.qm_model.specs.declared.game.Problem.{Problem}
use Rattle.qm_model.specs.declared.row.Row.{Row}
use Rattle.qm_parse.specs.declared.ast.Ast.{Ast}
use Rattle.qm_normal.specs.declared.fault.NormalFault.{NormalFault}
use Rattle.qm_normal.specs.declared.fault.NormalFault.TheVariants as fault
use Rattle.qm_normal.specs.declared.fault.Which.TheVariants as which
use Rattle.qm_normal.specs.declared.objective.Objective.{Objective}
use Rattle.qm_normal.specs.Answers.{Gives}
use Rattle.qm_normal.specs.Limits.{rows_fault, variables_fault}
use Rattle.qm_normal.specs.Normal.{bind, maximised, normal_form, objective_from, objective_form, problem_form, problem_with, rows_of, unless, urows_of}
use Rattle.qm_normal.specs.Rows.{common_denominator, row_times}
use Rattle.qm_normal.specs.Scopes.{scope_fault}
use Rattle.qm_normal.specs.Variables.{game_order, vars_of}
use Rattle.qm_normal.proofs.NormalSteps.{narrow-ok, narrow_sizes, objective_parts}

-- an answer whose first part has this value
pub gives-first : {A B : Type 0} (first : Result A NormalFault) (x : A) (next : A → Result B NormalFault) (result : Result B NormalFault)
    → first ≡ Ok x → Gives result (next x) → Gives result (bind first next)
unfolding bind
gives-first first x next result is gives = subst (λ r. Gives result (bind r next)) (sym is) gives

-- an answer whose first part has this fault
pub gives-wrong : {A B : Type 0} (wrong : NormalFault) (first : Result A NormalFault) (next : A → Result B NormalFault)
    → Gives {A = A} (Err wrong) first → Gives {A = B} (Err wrong) (bind first next)
unfolding bind
gives-wrong fault.Memory first next gives = tt
gives-wrong wrong first next gives = ap (λ r. bind r next) gives

-- the same of what the function returns
pub gives-returned : {A B : Type 0} (wrong : NormalFault) (result : Result B NormalFault) (first : Result A NormalFault) (next : A → Result B NormalFault)
    → result ≡ Err wrong → Gives {A = A} (Err wrong) first → Gives result (bind first next)
gives-returned wrong result first next is gives = subst (λ r. Gives r (bind first next)) (sym is) (gives-wrong wrong first next gives)

-- an answer that is this fault
pub gives-fault : {A : Type 0} (wrong : NormalFault) (answer : Result A NormalFault) → answer ≡ Err wrong → Gives (Err wrong) answer
gives-fault fault.Memory answer is = tt
gives-fault wrong answer is = is

unless-some : {A : Type 0} (found : Option NormalFault) (wrong : NormalFault) (answer : Result A NormalFault) → found ≡ Some wrong → unless found answer ≡ Err wrong
unfolding unless
unless-some found wrong answer is = ap (λ o. unless o answer) is

unless-none : {A : Type 0} (found : Option NormalFault) (answer : Result A NormalFault) → found ≡ None → unless found answer ≡ answer
unfolding unless
unless-none found answer is = ap (λ o. unless o answer) is

-- ---- the parts of a text's problem

abbrev with_objective : Ast → List Row → List Row → Objective → Result Problem NormalFault
with_objective ast rows urows objective = unless (rows_fault rows urows) (Ok (problem_with ast rows urows objective))

abbrev with_urows : Ast → List Row → List Row → Result Problem NormalFault
with_urows ast rows urows = bind (objective_form ast) (λ objective. with_objective ast rows urows objective)

abbrev with_rows : Ast → List Row → Result Problem NormalFault
with_rows ast rows = bind (urows_of ast) (λ urows. with_urows ast rows urows)

pub rows_wrong : (ast : Ast) (wrong : NormalFault) (result : Result Problem NormalFault) → result ≡ Err wrong → Gives (Err wrong) (rows_of ast) → Gives result (problem_form ast)
rows_wrong ast wrong result is gives = gives-returned wrong result (rows_of ast) (with_rows ast) is gives

pub urows_wrong : (ast : Ast) (rows : List Row) (wrong : NormalFault) (result : Result Problem NormalFault)
    → rows_of ast ≡ Ok rows → result ≡ Err wrong → Gives (Err wrong) (urows_of ast) → Gives result (problem_form ast)
urows_wrong ast rows wrong result first is gives =
    gives-first (rows_of ast) rows (with_rows ast) result first (gives-returned wrong result (urows_of ast) (with_urows ast rows) is gives)

pub objective_wrong : (ast : Ast) (rows urows : List Row) (wrong : NormalFault) (result : Result Problem NormalFault)
    → rows_of ast ≡ Ok rows → urows_of ast ≡ Ok urows → result ≡ Err wrong → Gives (Err wrong) (objective_form ast) → Gives result (problem_form ast)
objective_wrong ast rows urows wrong result first second is gives =
    gives-first (rows_of ast) rows (with_rows ast) result first
    (gives-first (urows_of ast) urows (with_urows ast rows) result second (gives-returned wrong result (objective_form ast) (with_objective ast rows urows) is gives))

all_parts : (ast : Ast) (rows urows : List Row) (objective : Objective)
    → rows_of ast ≡ Ok rows → urows_of ast ≡ Ok urows → objective_form ast ≡ Ok objective → problem_form ast ≡ with_objective ast rows urows objective
unfolding bind
all_parts ast rows urows objective first second third =
    ap (λ r. bind r (with_rows ast)) first ∙ ap (λ r. bind r (with_urows ast rows)) second ∙ ap (λ r. bind r (with_objective ast rows urows)) third

pub too_many : (ast : Ast) (rows urows : List Row) (objective : Objective) (wrong : NormalFault)
    → rows_of ast ≡ Ok rows → urows_of ast ≡ Ok urows → objective_form ast ≡ Ok objective → rows_fault rows urows ≡ Some wrong → Gives (Err wrong) (problem_form ast)
too_many ast rows urows objective wrong first second third is =
    gives-fault wrong (problem_form ast) (all_parts ast rows urows objective first second third ∙ unless-some (rows_fault rows urows) wrong (Ok (problem_with ast rows urows objective)) is)

pub problem_made : (ast : Ast) (rows urows : List Row) (objective : Objective)
    → rows_of ast ≡ Ok rows → urows_of ast ≡ Ok urows → objective_form ast ≡ Ok objective → rows_fault rows urows ≡ None → problem_form ast ≡ Ok (problem_with ast rows urows objective)
problem_made ast rows urows objective first second third is =
    all_parts ast rows urows objective first second third ∙ unless-none (rows_fault rows urows) (Ok (problem_with ast rows urows objective)) is

-- the scale of an objective is a number of 128 bits with a sign
pub narrow_scale : (ast : Ast) (objective : Objective) → objective_form ast ≡ Ok objective → objective.scale ≤ 2 ^ 126
narrow_scale ast objective is =
    let terms = maximised ast.sense ast.objective in
    let parts = objective_parts (vars_of ast) (game_order ast) terms objective (narrow-ok which.Objective (objective_from (vars_of ast) (game_order ast) terms) objective is) in
    let d = common_denominator (parts.constant ∷ parts.sums) in
    subst (λ (o : Objective). o.scale ≤ 2 ^ 126) parts.objective_is (narrow_sizes (vars_of ast) d (row_times d parts.sums parts.constant) parts.narrow).0

-- ---- the parts before it

pub out_of_scope : (ast : Ast) (wrong : NormalFault) → scope_fault ast ≡ Some wrong → Gives (Err wrong) (normal_form ast)
out_of_scope ast wrong is = gives-fault wrong (normal_form ast) (unless-some (scope_fault ast) wrong (unless (variables_fault ast) (problem_form ast)) is)

in_scope : (ast : Ast) → scope_fault ast ≡ None → normal_form ast ≡ unless (variables_fault ast) (problem_form ast)
in_scope ast none = unless-none (scope_fault ast) (unless (variables_fault ast) (problem_form ast)) none

pub out_of_limits : (ast : Ast) (wrong : NormalFault) → scope_fault ast ≡ None → variables_fault ast ≡ Some wrong → Gives (Err wrong) (normal_form ast)
out_of_limits ast wrong none is = gives-fault wrong (normal_form ast) (in_scope ast none ∙ unless-some (variables_fault ast) wrong (problem_form ast) is)

pub in_limits : (ast : Ast) → scope_fault ast ≡ None → variables_fault ast ≡ None → normal_form ast ≡ problem_form ast
in_limits ast none few = in_scope ast none ∙ unless-none (variables_fault ast) (problem_form ast) few

pub form_wrong : (ast : Ast) (wrong : NormalFault) (result : Result Problem NormalFault) → scope_fault ast ≡ None → variables_fault ast ≡ None
    → result ≡ Err wrong → Gives (Err wrong) (problem_form ast) → Gives result (normal_form ast)
form_wrong ast wrong result none few is gives =
    subst (Gives result) (sym (in_limits ast none few)) (subst (λ r. Gives r (problem_form ast)) (sym is) gives)
