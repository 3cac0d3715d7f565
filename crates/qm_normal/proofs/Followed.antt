-- The first continuous variable that a universal one follows, in a walk from behind.
use Rattle.std.proofs.Common.{◌≡◌, ℕ, ◌+◌, ◌<◌, Bool, false, not, ◌&&◌, ◌||◌, List, ◌∷◌, drop, length, get_or, Option, Some, None, sym, ap, ◌∙◌, subst, arith, if◌then◌else◌}
use Rattle.std.specs.List.{list_any}
use Rattle.std.proofs.lemmas.List.{at_drop_more, at_drop_all}
use Rattle.qm_parse.specs.declared.ast.Ast.{Ast}
use Rattle.qm_parse.specs.declared.ast.Named.{Named}
use Rattle.qm_normal.specs.Scopes.{followed_by_universal}
use Rattle.qm_normal.specs.TableSteps.{IsRolesOf, universal_by, whole_by}
use Rattle.qm_normal.specs.Variables.{is_universal, is_whole}
use Rattle.qm_normal.specs.declared.roles.Roles.{Roles}

abbrev has_universal : Ast → List Named → Bool
has_universal ast list = list_any (λ (other : Named). is_universal ast other.name) list

-- what is known behind a place
pub record IsKnownBehind (ast : Ast) (list : List Named) (found : Option Named) (follows : Bool) : Type 0 where
  pub early : found ≡ followed_by_universal ast list
  pub is_followed : follows ≡ has_universal ast list

pub known_at_end : (ast : Ast) (list : List Named) → IsKnownBehind ast (drop (length list) list) None false
unfolding followed_by_universal
known_at_end ast list = record {
  early = sym (at_drop_all (followed_by_universal ast) list (length list) (omega arith));
  is_followed = sym (at_drop_all (has_universal ast) list (length list) (omega arith));
}

known_more : (ast : Ast) (roles : Roles) (named : Named) (list : List Named) (early : Option Named) (is_followed : Bool) → IsRolesOf ast roles → IsKnownBehind ast list early is_followed → IsKnownBehind ast (named ∷ list) (if not (whole_by roles named.name) && is_followed then Some named else early) (universal_by roles named.name || is_followed)
unfolding followed_by_universal
known_more ast roles named list early is_followed is_roles known = record {
  early =
      ap (λ (b : Bool). if not b && is_followed then Some named else early) (is_roles.whole named.name)
      ∙ ap (λ (b : Bool). if not (is_whole ast named.name) && b then Some named else early) known.is_followed
      ∙ ap (λ (behind : Option Named). if not (is_whole ast named.name) && has_universal ast list then Some named else behind) known.early;
  is_followed =
      ap (λ (b : Bool). b || is_followed) (is_roles.universal named.name)
      ∙ ap (λ (b : Bool). is_universal ast named.name || b) known.is_followed;
}

-- one place further to the front
pub known_before : (ast : Ast) (roles : Roles) (list : List Named) (i j : ℕ) (d : Named) (early now : Option Named) (is_followed is_universal : Bool) → i < length list → j ≡ i + 1 → IsRolesOf ast roles → now ≡ (if not (whole_by roles (get_or list i d).name) && is_followed then Some (get_or list i d) else early) → is_universal ≡ (universal_by roles (get_or list i d).name || is_followed) → IsKnownBehind ast (drop j list) early is_followed → IsKnownBehind ast (drop i list) now is_universal
known_before ast roles list i j d early now is_followed is_universal inside next is_roles now_is universal_is known =
    let behind = subst (λ (j : ℕ). IsKnownBehind ast (drop j list) early is_followed) next known in
    let more = known_more ast roles (get_or list i d) (drop (i + 1) list) early is_followed is_roles behind in
    record {
      early = now_is ∙ more.early ∙ sym (at_drop_more (followed_by_universal ast) list i d inside);
      is_followed = universal_is ∙ more.is_followed ∙ sym (at_drop_more (has_universal ast) list i d inside);
    }

-- behind the front there is the whole list
pub known_at_start : (ast : Ast) (list : List Named) (i : ℕ) (early : Option Named) (is_followed : Bool) → i ≡ 0 → IsKnownBehind ast (drop i list) early is_followed → early ≡ followed_by_universal ast list
known_at_start ast list i early is_followed zero known =
    let front = subst (λ (i : ℕ). IsKnownBehind ast (drop i list) early is_followed) zero known in
    front.early
