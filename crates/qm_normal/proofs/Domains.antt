-- Where no variable of ORDER has too large a domain, none in game order has.
use Rattle.std.proofs.Common.{◌≡◌, Bool, true, false, not, List, [], ◌∷◌, length, map, Option, Some, None, refl, sym, ap, ◌∙◌, subst, if◌then◌else◌}
use Rattle.std.specs.Prelude.{All, IsTrue, nat_le}
use Rattle.std.specs.List.{filter}
use Rattle.std.proofs.lemmas.List.Elements.{All-append, All-cons, All-filter, All-head, All-nil, All-tail}
use Rattle.qm_model.specs.declared.variable.Var.{Var}
use Rattle.qm_parse.specs.Checks.{first_such}
use Rattle.qm_parse.specs.declared.ast.Ast.{Ast}
use Rattle.qm_parse.specs.declared.ast.Named.{Named}
use Rattle.qm_parse.proofs.FirstSuch.{first_such-here, first_such-later}
use Rattle.qm_normal.specs.Limits.{domain_fault, fits_domain, large_domain, variables_fault}
use Rattle.qm_normal.specs.TableSteps.{IsEndsOf, IsRolesOf, var_by}
use Rattle.qm_normal.specs.Variables.{game_order, is_whole, var_of}
use Rattle.qm_normal.specs.declared.ends.Ends.{Ends}
use Rattle.qm_normal.specs.declared.fault.NormalFault.{NormalFault}
use Rattle.qm_normal.specs.declared.roles.Roles.{Roles}
use Rattle.qm_normal.proofs.TableLaws.{var_same}

abbrev Fits : (Named → Bool) → Named → Type 0
Fits test named = IsTrue (test named)

none_more : (test : Named → Bool) (named : Named) (list : List Named) (b : Bool) → test named ≡ b → first_such (λ named. not (test named)) (named ∷ list) ≡ None → (first_such (λ named. not (test named)) list ≡ None → All (Fits test) list) → All (Fits test) (named ∷ list)
none_more test named list true here none rest =
    All-cons (Fits test) named list here (rest (sym (first_such-later (λ named. not (test named)) named list (ap not here)) ∙ none))
none_more test named list false here none rest =
    let found = first_such-here (λ named. not (test named)) named list (ap not here) in absurd (cc)

all_pass : (test : Named → Bool) (list : List Named) → first_such (λ named. not (test named)) list ≡ None → All (Fits test) list
all_pass test [] none = All-nil (Fits test)
all_pass test (named ∷ list) none = none_more test named list (test named) refl none (all_pass test list)

no_domain_fault : (ast : Ast) (found : Option Named) → domain_fault ast found ≡ None → found ≡ None
unfolding domain_fault
no_domain_fault ast None none = refl
no_domain_fault ast (Some named) none = absurd (cc)

few : (b : Bool) (fault : NormalFault) (found : Option NormalFault) → (if b then found else Some fault) ≡ None → found ≡ None
few true fault found none = none
few false fault found none = absurd (cc)

no_large_domain : (ast : Ast) → variables_fault ast ≡ None → large_domain ast ≡ None
no_large_domain ast none = no_domain_fault ast (large_domain ast) (few (nat_le (length ast.order) 1000) _ (domain_fault ast (large_domain ast)) none)

abbrev HasDomain : Ast → Named → Type 0
HasDomain ast named = IsTrue (fits_domain (var_of ast named))

pub domains_fit : (ast : Ast) → variables_fault ast ≡ None → All (HasDomain ast) (game_order ast)
domains_fit ast none =
    let each : All (HasDomain ast) ast.order = all_pass (λ named. fits_domain (var_of ast named)) ast.order (no_large_domain ast none) in
    All-append (HasDomain ast) (filter (λ (named : Named). is_whole ast named.name) ast.order) (filter (λ (named : Named). not (is_whole ast named.name)) ast.order)
    (All-filter (λ (named : Named). is_whole ast named.name) (HasDomain ast) ast.order each)
    (All-filter (λ (named : Named). not (is_whole ast named.name)) (HasDomain ast) ast.order each)

all_same : {X : Type 0} (P Q : X → Type 0) → ((x : X) → P x → Q x) → (list : List X) → All P list → All Q list
all_same P Q each [] all = All-nil Q
all_same P Q each (x ∷ list) all = All-cons Q x list (each x (All-head P x list all)) (all_same P Q each list (All-tail P x list all))

pub domains_fit-by : (ast : Ast) (roles : Roles) (ends : Ends) (order : List Named) → IsRolesOf ast roles → IsEndsOf ast ends → variables_fault ast ≡ None → order ≡ game_order ast → All (λ named. IsTrue (fits_domain (var_by ast roles ends named))) order
domains_fit-by ast roles ends order is_roles is_ends none is =
    all_same (HasDomain ast) (λ named. IsTrue (fits_domain (var_by ast roles ends named)))
    (λ named fits. subst (λ (x : Var). IsTrue (fits_domain x)) (sym (var_same ast roles ends is_roles is_ends named)) fits)
    order (subst (All (HasDomain ast)) (sym is) (domains_fit ast none))

map_same : {X Y : Type 0} (f g : X → Y) → ((x : X) → f x ≡ g x) → (list : List X) → map f list ≡ map g list
map_same f g each [] = refl
map_same f g each (x ∷ list) = rw (each x, map_same f g each list) refl

pub vars_same : (ast : Ast) (roles : Roles) (ends : Ends) (order : List Named) → IsRolesOf ast roles → IsEndsOf ast ends → order ≡ game_order ast → map (var_by ast roles ends) order ≡ map (var_of ast) (game_order ast)
vars_same ast roles ends order is_roles is_ends is =
    map_same (var_by ast roles ends) (var_of ast) (var_same ast roles ends is_roles is_ends) order ∙ ap (map (var_of ast)) is
