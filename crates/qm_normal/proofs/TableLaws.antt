-- What the tables of a text say is what the text says.
use Rattle.std.proofs.Common.{◌≡◌, ℕ, ℤ, Bool, not, ◌&&◌, ◌≤◌, List, ◌++◌, drop, length, Option, pos, ap, ap₂, ◌∙◌, arith, if◌then◌else◌}
use Rattle.std.specs.Prelude.{unwrap_or}
use Rattle.std.proofs.Math.Seq.{drop-append_seam}
use Rattle.std.proofs.lemmas.List.{length-append}
use Rattle.std.proofs.lemmas.List.Elements.{filter_agree}
use Rattle.std.specs.List.{filter}
use Rattle.qm_math.specs.Rounding.{ceil_of, floor_of}
use Rattle.qm_math.specs.Fraction.{Fraction, whole}
use Rattle.qm_model.specs.declared.variable.Player.TheVariants.{Exists, All as Universal}
use Rattle.qm_model.specs.declared.variable.Var.{Var}
use Rattle.qm_parse.specs.declared.ast.Ast.{Ast}
use Rattle.qm_parse.specs.declared.ast.Named.{Named}
use Rattle.qm_normal.specs.BoundSteps.{bounds_by, bounds_of}
use Rattle.qm_normal.specs.Ends.{greater_of, is_binary, lesser_of, lower_end, upper_end}
use Rattle.qm_normal.specs.Limits.{fits_domain}
use Rattle.qm_normal.specs.TableSteps.{IsEndsOf, IsGameOrderOf, IsRolesOf, fits_by, lower_by, universal_by, upper_by, value_by, var_by, whole_by}
use Rattle.qm_normal.specs.Variables.{continuous_names, is_universal, is_whole, name_of, var_of, whole_names}
use Rattle.qm_normal.specs.declared.ends.Ends.{Ends}
use Rattle.qm_normal.specs.declared.order.GameOrder.{GameOrder}
use Rattle.qm_normal.specs.declared.roles.Roles.{Roles}

abbrev lower_with : Bool → Option Fraction → Fraction
lower_with binary value = if binary then greater_of (whole (pos 0)) (unwrap_or value (whole (pos 0))) else unwrap_or value (whole (pos 0))

abbrev upper_with : Bool → Option Fraction → Fraction
upper_with binary value = if binary then lesser_of (whole (pos 1)) (unwrap_or value (whole (pos 1))) else unwrap_or value (whole (pos 1))

pub lower_same : (ast : Ast) (roles : Roles) (ends : Ends) → IsRolesOf ast roles → IsEndsOf ast ends → (name : ℕ) → lower_by roles ends name ≡ lower_end ast name
lower_same ast roles ends is_roles is_ends name =
    ap (λ (b : Bool). lower_with b (value_by ends.lower name)) (is_roles.binary name)
    ∙ ap (λ (value : Option Fraction). lower_with (is_binary ast name) value) (is_ends.lower name)

pub upper_same : (ast : Ast) (roles : Roles) (ends : Ends) → IsRolesOf ast roles → IsEndsOf ast ends → (name : ℕ) → upper_by roles ends name ≡ upper_end ast name
upper_same ast roles ends is_roles is_ends name =
    ap (λ (b : Bool). upper_with b (value_by ends.upper name)) (is_roles.binary name)
    ∙ ap (λ (value : Option Fraction). upper_with (is_binary ast name) value) (is_ends.upper name)

pub bounds_same : (ast : Ast) (roles : Roles) (ends : Ends) → IsRolesOf ast roles → IsEndsOf ast ends → (named : Named) → bounds_by roles ends named.name ≡ bounds_of ast named
bounds_same ast roles ends is_roles is_ends named =
    λ j. record { lower = lower_same ast roles ends is_roles is_ends named.name j; upper = upper_same ast roles ends is_roles is_ends named.name j }

abbrev low_with : Bool → Fraction → ℤ
low_with is_whole bound = if is_whole then ceil_of bound else floor_of bound

abbrev high_with : Bool → Fraction → ℤ
high_with is_whole bound = if is_whole then floor_of bound else ceil_of bound

abbrev var_with : List ℕ → Bool → Bool → Fraction → Fraction → Var
var_with name universal is_whole low high = record {
  name = name;
  player = if universal then Universal else Exists;
  whole = is_whole;
  low = low_with is_whole low;
  high = high_with is_whole high;
}

pub var_same : (ast : Ast) (roles : Roles) (ends : Ends) → IsRolesOf ast roles → IsEndsOf ast ends → (named : Named) → var_by ast roles ends named ≡ var_of ast named
var_same ast roles ends is_roles is_ends named =
    let name = name_of ast named.name in
    ap (λ (b : Bool). var_with name b (whole_by roles named.name) (lower_by roles ends named.name) (upper_by roles ends named.name)) (is_roles.universal named.name)
    ∙ ap (λ (b : Bool). var_with name (is_universal ast named.name) b (lower_by roles ends named.name) (upper_by roles ends named.name)) (is_roles.whole named.name)
    ∙ ap (λ (bound : Fraction). var_with name (is_universal ast named.name) (is_whole ast named.name) bound (upper_by roles ends named.name)) (lower_same ast roles ends is_roles is_ends named.name)
    ∙ ap (λ (bound : Fraction). var_with name (is_universal ast named.name) (is_whole ast named.name) (lower_end ast named.name) bound) (upper_same ast roles ends is_roles is_ends named.name)

pub fits_same : (ast : Ast) (roles : Roles) (ends : Ends) → IsRolesOf ast roles → IsEndsOf ast ends → (named : Named) → fits_by roles ends named.name ≡ fits_domain (var_of ast named)
fits_same ast roles ends is_roles is_ends named = ap fits_domain (var_same ast roles ends is_roles is_ends named)

pub whole_names-same : (ast : Ast) (roles : Roles) → IsRolesOf ast roles → filter (λ named. whole_by roles named.name) ast.order ≡ whole_names ast
whole_names-same ast roles is_roles =
    filter_agree (λ (named : Named). whole_by roles named.name) (λ named. is_whole ast named.name) (λ named. is_roles.whole named.name) ast.order

pub continuous_names-same : (ast : Ast) (roles : Roles) → IsRolesOf ast roles → filter (λ named. not (whole_by roles named.name)) ast.order ≡ continuous_names ast
continuous_names-same ast roles is_roles =
    filter_agree (λ (named : Named). not (whole_by roles named.name)) (λ named. not (is_whole ast named.name)) (λ named. ap not (is_roles.whole named.name)) ast.order

pub game_order_made : (ast : Ast) (roles : Roles) (order front names : List Named) (wholes : ℕ) → IsRolesOf ast roles → order ≡ ast.order → front ≡ filter (λ named. whole_by roles named.name) order
    → names ≡ front ++ filter (λ named. not (whole_by roles named.name)) order → wholes ≡ length front → IsGameOrderOf ast (record { names = names; wholes = wholes })
game_order_made ast roles order front names wholes is_roles is first all count =
    let whole : front ≡ whole_names ast = first ∙ ap (filter (λ (named : Named). whole_by roles named.name)) is ∙ whole_names-same ast roles is_roles in
    let continuous = ap (filter (λ (named : Named). not (whole_by roles named.name))) is ∙ continuous_names-same ast roles is_roles in
    record { names = all ∙ ap₂ (λ xs ys. xs ++ ys) whole continuous; wholes = count ∙ ap (length {A = Named}) whole }

-- behind the whole variables stand the continuous ones
pub continuous_behind : (ast : Ast) (order : GameOrder) → IsGameOrderOf ast order → drop order.wholes order.names ≡ continuous_names ast
continuous_behind ast order is = ap₂ (λ n (xs : List Named). drop n xs) is.wholes is.names ∙ drop-append_seam (whole_names ast) (continuous_names ast)

pub wholes_inside : (ast : Ast) (order : GameOrder) → IsGameOrderOf ast order → order.wholes ≤ length order.names
wholes_inside ast order is =
    let all = ap (length {A = Named}) is.names ∙ length-append (whole_names ast) (continuous_names ast) in
    omega (arith, is.wholes, all)

pub unset_same : (ast : Ast) (roles : Roles) → IsRolesOf ast roles → (name : ℕ) → (not (whole_by roles name) && universal_by roles name) ≡ (not (is_whole ast name) && is_universal ast name)
unset_same ast roles is_roles name =
    ap (λ (b : Bool). not b && universal_by roles name) (is_roles.whole name) ∙ ap (λ (b : Bool). not (is_whole ast name) && b) (is_roles.universal name)
