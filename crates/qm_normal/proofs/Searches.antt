-- Searches through ORDER that ask the tables.
use Rattle.std.proofs.Common.{◌≡◌, ℕ, ◌+◌, ◌<◌, ◌≤◌, true, false, not, ◌&&◌, List, drop, length, get_or, Some, None, sym, ap, ◌∙◌}
use Rattle.qm_parse.specs.Checks.{first_such, row_uses}
use Rattle.qm_parse.specs.declared.ast.Ast.{Ast}
use Rattle.qm_parse.specs.declared.ast.AstRow.{AstRow}
use Rattle.qm_parse.specs.declared.ast.Named.{Named}
use Rattle.qm_parse.proofs.FirstSuch.{first_such-same, found_here, found_later, found_nowhere}
use Rattle.qm_normal.specs.Limits.{fits_domain, large_domain}
use Rattle.qm_normal.specs.Scopes.{continuous_universal, exists_in_uncertainty}
use Rattle.qm_normal.specs.TableSteps.{IsEndsOf, IsRolesOf, fits_by, universal_by, whole_by}
use Rattle.qm_normal.specs.Variables.{is_universal, is_whole, var_of}
use Rattle.qm_normal.specs.declared.ends.Ends.{Ends}
use Rattle.qm_normal.specs.declared.roles.Roles.{Roles}
use Rattle.qm_normal.proofs.TableLaws.{fits_same, unset_same}

-- what is left of the list has the same first one as ORDER
abbrev pub LargeFrom : Ast → List Named → Type 0
LargeFrom ast list = first_such (λ named. not (fits_domain (var_of ast named))) list ≡ large_domain ast

pub large_here : (ast : Ast) (roles : Roles) (ends : Ends) (list : List Named) (i : ℕ) (d : Named) → IsRolesOf ast roles → IsEndsOf ast ends → i < length list → false ≡ fits_by roles ends (get_or list i d).name → LargeFrom ast (drop i list) → Some (get_or list i d) ≡ large_domain ast
large_here ast roles ends list i d is_roles is_ends inside fits rest =
    found_here (λ named. not (fits_domain (var_of ast named))) list i d (large_domain ast) inside
    (ap not (sym (fits_same ast roles ends is_roles is_ends (get_or list i d)) ∙ sym fits)) rest

pub large_later : (ast : Ast) (roles : Roles) (ends : Ends) (list : List Named) (i : ℕ) (d : Named) → IsRolesOf ast roles → IsEndsOf ast ends → i < length list → true ≡ fits_by roles ends (get_or list i d).name → LargeFrom ast (drop i list) → LargeFrom ast (drop (i + 1) list)
large_later ast roles ends list i d is_roles is_ends inside fits rest =
    found_later (λ named. not (fits_domain (var_of ast named))) list i d (large_domain ast) inside
    (ap not (sym (fits_same ast roles ends is_roles is_ends (get_or list i d)) ∙ sym fits)) rest

pub large_nowhere : (ast : Ast) (list : List Named) (i : ℕ) → length list ≤ i → LargeFrom ast (drop i list) → None ≡ large_domain ast
large_nowhere ast list i outside rest = found_nowhere (λ named. not (fits_domain (var_of ast named))) list i (large_domain ast) outside rest

abbrev pub UnsetFrom : Ast → List Named → Type 0
UnsetFrom ast list = first_such (λ named. not (is_whole ast named.name) && is_universal ast named.name) list ≡ continuous_universal ast

pub unset_here : (ast : Ast) (roles : Roles) (list : List Named) (i : ℕ) (d : Named) → IsRolesOf ast roles → i < length list → true ≡ (not (whole_by roles (get_or list i d).name) && universal_by roles (get_or list i d).name) → UnsetFrom ast (drop i list) → Some (get_or list i d) ≡ continuous_universal ast
unset_here ast roles list i d is_roles inside is rest =
    found_here (λ named. not (is_whole ast named.name) && is_universal ast named.name) list i d (continuous_universal ast) inside
    (sym (unset_same ast roles is_roles (get_or list i d).name) ∙ sym is) rest

pub unset_later : (ast : Ast) (roles : Roles) (list : List Named) (i : ℕ) (d : Named) → IsRolesOf ast roles → i < length list → false ≡ (not (whole_by roles (get_or list i d).name) && universal_by roles (get_or list i d).name) → UnsetFrom ast (drop i list) → UnsetFrom ast (drop (i + 1) list)
unset_later ast roles list i d is_roles inside is rest =
    found_later (λ named. not (is_whole ast named.name) && is_universal ast named.name) list i d (continuous_universal ast) inside
    (sym (unset_same ast roles is_roles (get_or list i d).name) ∙ sym is) rest

pub unset_nowhere : (ast : Ast) (list : List Named) (i : ℕ) → length list ≤ i → UnsetFrom ast (drop i list) → None ≡ continuous_universal ast
unset_nowhere ast list i outside rest =
    found_nowhere (λ named. not (is_whole ast named.name) && is_universal ast named.name) list i (continuous_universal ast) outside rest

-- the existential variables of rows, by the tables
pub existential_same : (ast : Ast) (roles : Roles) (rows : List AstRow) → IsRolesOf ast roles → rows ≡ ast.uncertain → first_such (λ named. not (universal_by roles named.name)) (row_uses rows) ≡ exists_in_uncertainty ast
existential_same ast roles rows is_roles is =
    ap (λ (rows : List AstRow). first_such (λ named. not (universal_by roles named.name)) (row_uses rows)) is
    ∙ first_such-same (λ named. not (universal_by roles named.name)) (λ named. not (is_universal ast named.name)) (λ named. ap not (is_roles.universal named.name)) (row_uses ast.uncertain)
