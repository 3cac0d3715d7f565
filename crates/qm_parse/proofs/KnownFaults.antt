-- What is found among names is one of them, so that the name of an offence has a number as each name in the tree.
use Rattle.std.proofs.Common.{cond, ◌≡◌, ℕ, ◌<◌, Bool, true, false, List, [], ◌∷◌, ◌++◌, Option, Some, None, subst}
use Rattle.std.specs.Prelude.{All, IfSome}
use Rattle.std.specs.List.{flat_map}
use Rattle.std.proofs.lemmas.List.Elements.{All-append, All-cons, All-filter, All-head, All-map, All-nil, All-tail}
use Rattle.std.proofs.lemmas.Bool.{cond_both}
use Rattle.qm_parse.specs.Checks.{bound_use, bound_uses, both_players, earlier, earliest, first_such, has_name, infinite, is_before, is_infinite, name_fault, offended, or_else, repeated, row_uses, term_use, term_uses, twice, unknown, unordered, uses, without_upper}
use Rattle.qm_parse.specs.declared.ast.Ast.{Ast}
use Rattle.qm_parse.specs.declared.ast.AstBound.{AstBound}
use Rattle.qm_parse.specs.declared.ast.AstRow.{AstRow}
use Rattle.qm_parse.specs.declared.ast.AstTerm.{AstTerm}
use Rattle.qm_parse.specs.declared.ast.Named.{Named}
use Rattle.qm_parse.specs.declared.offence.NameFault.{NameFault}
use Rattle.qm_parse.specs.declared.offence.Offence.{Offence}
use Rattle.qm_parse.specs.Known.{AreBoundsBelow, AreNamesBelow, AreRowsBelow, AreTermsBelow, HasNumbersBelow, IsTermBelow}

one_or_other : {A : Type 0} (P : A → Type 0) (b : Bool) (one other : Option A) → IfSome one P → IfSome other P → IfSome (cond b one other) P
one_or_other P true one other a b = a
one_or_other P false one other a b = b

-- what is found first
pub found-first_such : (P : Named → Type 0) (test : Named → Bool) (list : List Named) → All P list → IfSome (first_such test list) P
unfolding first_such
found-first_such P test [] all = tt
found-first_such P test (named ∷ list) all =
    one_or_other P (test named) (Some named) (first_such test list) (All-head P named list all) (found-first_such P test list (All-tail P named list all))

pub found-repeated : (P : Named → Type 0) (others list : List Named) → All P list → IfSome (repeated others list) P
unfolding repeated
found-repeated P others [] all = tt
found-repeated P others (named ∷ list) all =
    one_or_other P (has_name others named.name) (Some named) (repeated (named ∷ others) list) (All-head P named list all) (found-repeated P (named ∷ others) list (All-tail P named list all))

found-earlier : (P : Named → Type 0) (one : Named) (other : Option Named) → P one → IfSome other P → P (earlier one other)
unfolding earlier
found-earlier P one None a b = a
found-earlier P one (Some other) a b = cond_both (is_before other.at one.at) other one P (λ _. b) (λ _. a)

pub found-earliest : (P : Named → Type 0) (list : List Named) → All P list → IfSome (earliest list) P
unfolding earliest
found-earliest P [] all = tt
found-earliest P (named ∷ list) all = found-earlier P named (earliest list) (All-head P named list all) (found-earliest P list (All-tail P named list all))

all-flat_map : {A B : Type 0} (P : A → Type 0) (Q : B → Type 0) (f : A → List B) → ((x : A) → P x → All Q (f x)) → (list : List A) → All P list → All Q (flat_map f list)
all-flat_map P Q f each [] all = All-nil Q
all-flat_map P Q f each (x ∷ list) all =
    All-append Q (f x) (flat_map f list) (each x (All-head P x list all)) (all-flat_map P Q f each list (All-tail P x list all))

abbrev NameBelow : ℕ → Named → Type 0
NameBelow n named = named.name < n

below-use : (n : ℕ) (term : AstTerm) → IsTermBelow n term → AreNamesBelow n (term_use term)
unfolding term_use
below-use n term below =
    elim term.name as (λ (o : Option ℕ). IfSome o (λ name. name < n) → AreNamesBelow n (elim o as (λ _. List Named) [ None ↦ [] | Some name ↦ record { name = name; at = term.at } ∷ [] ])) [
      | None ↦ λ _. All-nil (NameBelow n)
      | Some name ↦ λ is. All-cons (NameBelow n) (record { name = name; at = term.at }) [] is (All-nil (NameBelow n))
    ] below

below-term_uses : (n : ℕ) (terms : List AstTerm) → AreTermsBelow n terms → AreNamesBelow n (term_uses terms)
below-term_uses n terms below = all-flat_map (IsTermBelow n) (NameBelow n) term_use (below-use n) terms below

below-row_uses : (n : ℕ) (rows : List AstRow) → AreRowsBelow n rows → AreNamesBelow n (row_uses rows)
below-row_uses n rows below =
    all-flat_map (λ (row : AstRow). AreTermsBelow n row.terms) (NameBelow n) (λ (row : AstRow). term_uses row.terms) (λ row is. below-term_uses n row.terms is) rows below

below-bound_uses : (n : ℕ) (bounds : List AstBound) → AreBoundsBelow n bounds → AreNamesBelow n (bound_uses bounds)
below-bound_uses n bounds below = All-map (NameBelow n) bound_use bounds below

below-++ : (n : ℕ) (one other : List Named) → AreNamesBelow n one → AreNamesBelow n other → AreNamesBelow n (one ++ other)
below-++ n one other = All-append (NameBelow n) one other

-- each place of a variable names one of them
pub below-uses : (n : ℕ) (ast : Ast) → HasNumbersBelow n ast → AreNamesBelow n (uses ast)
below-uses n ast below =
    below-++ n _ _ (below-++ n _ _ (below-++ n _ _ (below-++ n _ _ (below-++ n _ _ (below-++ n _ _ (below-++ n _ _
    (below-term_uses n ast.objective below.objective)
    (below-row_uses n ast.rows below.rows))
    (below-row_uses n ast.uncertain below.uncertain))
    (below-bound_uses n ast.bounds below.bounds))
    below.generals)
    below.binaries)
    below.existential)
    below.universal

abbrev FaultBelow : ℕ → Option NameFault → Type 0
FaultBelow n found = IfSome found (λ fault. fault.name < n)

below-offended : (n : ℕ) (kind : Offence) (found : Option Named) → IfSome found (NameBelow n) → FaultBelow n (offended kind found)
unfolding offended
below-offended n kind None below = tt
below-offended n kind (Some named) below = below

below-or_else : (n : ℕ) (one other : Option NameFault) → FaultBelow n one → FaultBelow n other → FaultBelow n (or_else one other)
unfolding or_else
below-or_else n None other a b = b
below-or_else n (Some fault) other a b = a

found_below : (n : ℕ) (ast : Ast) → HasNumbersBelow n ast → FaultBelow n (name_fault ast)
found_below n ast below =
    below-or_else n _ _ (below-offended n _ (both_players ast) (found-first_such (NameBelow n) _ ast.universal below.universal))
    (below-or_else n _ _ (below-offended n _ (twice ast) (found-repeated (NameBelow n) [] ast.order below.order))
    (below-or_else n _ _ (below-offended n _ (unknown ast) (found-first_such (NameBelow n) _ ast.order below.order))
    (below-or_else n _ _ (below-offended n _ (unordered ast) (found-earliest (NameBelow n) _ (All-filter _ (NameBelow n) (uses ast) (below-uses n ast below))))
    (below-or_else n _ _ (below-offended n _ (infinite ast)
    (found-first_such (NameBelow n) _ _ (below-bound_uses n _ (All-filter is_infinite (λ (bound : AstBound). bound.name < n) ast.bounds below.bounds))))
    (below-offended n _ (without_upper ast) (found-first_such (NameBelow n) _ ast.order below.order))))))

pub below-name_fault : (n : ℕ) (ast : Ast) (fault : NameFault) → HasNumbersBelow n ast → name_fault ast ≡ Some fault → fault.name < n
below-name_fault n ast fault below is = subst (FaultBelow n) is (found_below n ast below)
