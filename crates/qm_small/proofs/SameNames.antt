-- A small text that names its variables right does so as a text.
use Rattle.std.proofs.Common.{◌≡◌, ◌≢◌, ℕ, Bool, true, false, ◌||◌, eqb, List, [], ◌∷◌, ◌++◌, Some, None, refl, ap, sym, subst, ◌∙◌, All, AllPairs}
use Rattle.std.specs.Prelude.{Contains}
use Rattle.std.specs.Str.{bytes_eq}
use Rattle.std.proofs.lemmas.List.Elements.{All-append, All-cons, All-contains, All-contains_itself, All-head, All-nil, All-tail}
use Rattle.std.proofs.lemmas.List.Kept.{AllPairs-cons}
use Rattle.std.proofs.lemmas.Bool.{or_left, or_right}
use Rattle.qm_parse.specs.Checks.{Has, NamesRight, bound_uses, has_name, has_upper, name_fault, row_uses, term_use, term_uses, uses}
use Rattle.qm_parse.specs.declared.ast.Ast.{Ast}
use Rattle.qm_parse.specs.declared.ast.AstBound.{AstBound}
use Rattle.qm_parse.specs.declared.ast.AstRow.{AstRow}
use Rattle.qm_parse.specs.declared.ast.AstTerm.{AstTerm}
use Rattle.qm_parse.specs.declared.ast.Named.{Named}
use Rattle.qm_parse.proofs.NameLaws.{None-from_NamesRight}
use Rattle.qm_parse.proofs.OnceOnly.{AllPairs-head, AllPairs-nil, AllPairs-tail, OtherName}
use Rattle.qm_small.specs.Written.{Written, WrittenRow, WrittenTerm}
use Rattle.qm_small.specs.Names as small
use Rattle.qm_small.specs.Problems.{stands_in}
use Rattle.qm_parse.proofs.Standing.{Decides-stands_in}
use Rattle.qm_small.proofs.Numbering.{Held, number_of, number_test_turned, same_number}
use Rattle.qm_small.proofs.SameParts.{Both, NamedIs, RowIs, TermIs}
use Rattle.qm_small.proofs.SameTexts.{IsTreeOf}

either_same : (a b c d : Bool) → a ≡ c → b ≡ d → (a || b) ≡ (c || d)
either_same a b c d p q = ap (λ x. x || b) p ∙ ap (λ x. c || x) q

-- a number stands in a list exactly where its name stands among the written ones
pub has_is : (names written : List (List ℕ)) (list : List Named) (name : List ℕ) → Held names name → Both (NamedIs names) written list → has_name list (number_of names name) ≡ stands_in written name
has_is names [] [] name held both = refl
has_is names [] (named ∷ list) name held both = absurd both
has_is names (other ∷ written) [] name held both = absurd both
has_is names (other ∷ written) (named ∷ list) name held both =
    let n = number_of names name in
    either_same (eqb named.name n) (has_name list n) (bytes_eq name other) (stands_in written name)
    (ap (λ k. eqb k n) both.0.name ∙ number_test_turned names other name both.0.held held) (has_is names written list name held both.1)

-- what holds of the written names holds of their numbers
pub all_named : (names : List (List ℕ)) (P : List ℕ → Type 0) (Q : Named → Type 0) → ((name : List ℕ) (named : Named) → NamedIs names name named → P name → Q named)
    → (written : List (List ℕ)) (list : List Named) → All P written → Both (NamedIs names) written list → All Q list
all_named names P Q step [] [] all both = All-nil Q
all_named names P Q step [] (named ∷ list) all both = absurd both
all_named names P Q step (name ∷ written) [] all both = absurd both
all_named names P Q step (name ∷ written) (named ∷ list) all both =
    All-cons Q named list (step name named both.0 (All-head P name written all)) (all_named names P Q step written list (All-tail P name written all) both.1)

-- a name that is known has its number in the list
pub has_from : (names written : List (List ℕ)) (list : List Named) (name : List ℕ) → Held names name → Both (NamedIs names) written list → Contains written name → Has list (number_of names name)
has_from names written list name held both there = has_is names written list name held both ∙ (Decides-stands_in written name).1 there

numbered : (names : List (List ℕ)) (name : List ℕ) (named : Named) (list : List Named) → NamedIs names name named → Has list (number_of names name) → Has list named.name
numbered names name named list is has = subst (Has list) (sym is.name) has

named_apart : (names : List (List ℕ)) (one other : List ℕ) (named next : Named) → NamedIs names one named → NamedIs names other next → one ≢ other → named.name ≢ next.name
named_apart names one other named next p q apart same = apart (same_number names one other p.held q.held (sym p.name ∙ same ∙ q.name))

pub once_each : (names written : List (List ℕ)) (list : List Named) → small.AreDistinct written → Both (NamedIs names) written list → AllPairs OtherName list
once_each names [] [] apart both = AllPairs-nil OtherName
once_each names [] (named ∷ list) apart both = absurd both
once_each names (name ∷ written) [] apart both = absurd both
once_each names (name ∷ written) (named ∷ list) apart both =
    let R : List ℕ → List ℕ → Type 0 = λ one other. one ≢ other in
    AllPairs-cons OtherName named list
    (all_named names (R name) (OtherName named) (λ other next is differs. named_apart names name other named next both.0 is differs) written list (AllPairs-head R name written apart) both.1)
    (once_each names written list (AllPairs-tail R name written apart) both.1)

-- ---- terms and rows

term_use-some : (term : AstTerm) (n : ℕ) → term.name ≡ Some n → term_use term ≡ record { name = n; at = term.at } ∷ []
unfolding term_use
term_use-some term n is = rw is refl

-- each term's name stands in the list
terms_have : (names known : List (List ℕ)) (list : List Named) → Both (NamedIs names) known list → (written : List WrittenTerm) (terms : List AstTerm) → small.AreOver known written → Both (TermIs names) written terms
    → All (λ named. Has list named.name) (term_uses terms)
terms_have names known list both [] [] over is = All-nil (λ named. Has list named.name)
terms_have names known list both [] (t ∷ terms) over is = absurd is
terms_have names known list both (w ∷ written) [] over is = absurd is
terms_have names known list both (w ∷ written) (t ∷ terms) over is =
    let Q : Named → Type 0 = λ named. Has list named.name in
    let P : WrittenTerm → Type 0 = λ term. Contains known term.name in
    let n = number_of names w.name in
    let has = has_from names known list w.name is.0.held both (All-head P w written over) in
    let one : All Q (record { name = n; at = t.at } ∷ []) = All-cons Q (record { name = n; at = t.at }) [] has (All-nil Q) in
    All-append Q (term_use t) (term_uses terms) (subst (All Q) (sym (term_use-some t n is.0.name)) one)
    (terms_have names known list both written terms (All-tail P w written over) is.1)

pub rows_have : (names known : List (List ℕ)) (list : List Named) → Both (NamedIs names) known list → (written : List WrittenRow) (rows : List AstRow) → small.AreRowsOver known written → Both (RowIs names) written rows
    → All (λ named. Has list named.name) (row_uses rows)
rows_have names known list both [] [] over is = All-nil (λ named. Has list named.name)
rows_have names known list both [] (r ∷ rows) over is = absurd is
rows_have names known list both (w ∷ written) [] over is = absurd is
rows_have names known list both (w ∷ written) (r ∷ rows) over is =
    let Q : Named → Type 0 = λ named. Has list named.name in
    let P : WrittenRow → Type 0 = λ row. small.AreOver known row.terms in
    All-append Q (term_uses r.terms) (row_uses rows) (terms_have names known list both w.terms r.terms (All-head P w written over) is.0.terms)
    (rows_have names known list both written rows (All-tail P w written over) is.1)

-- terms over known names are over those that hold these
over_more : (known more : List (List ℕ)) (terms : List WrittenTerm) → small.AreKnown more known → small.AreOver known terms → small.AreOver more terms
over_more known more terms all over = λ k d below. All-contains (Contains more) known _ all (over k d below)

rows_over_more : (known more : List (List ℕ)) (rows : List WrittenRow) → small.AreKnown more known → small.AreRowsOver known rows → small.AreRowsOver more rows
rows_over_more known more rows all over = λ k d below. over_more known more _ all (over k d below)

known_order : (written : Written) (names : List (List ℕ)) → small.ListsFit written → small.AreKnown written.binaries names → small.AreKnown written.order names
known_order written names fit known = λ k d below. All-contains (Contains written.order) written.binaries _ fit.binaries_ordered (known k d below)

-- names of a list that are known stand in ORDER
pub names_have : (names known written : List (List ℕ)) (order list : List Named) → Both (NamedIs names) known order → small.AreKnown known written → Both (NamedIs names) written list → All (λ named. Has order named.name) list
names_have names known written order list both all is =
    all_named names (Contains known) (λ named. Has order named.name) (λ name named numbers there. numbered names name named order numbers (has_from names known order name numbers.held both there)) written list all is

has-append : (xs ys : List Named) (n : ℕ) → has_name (xs ++ ys) n ≡ (has_name xs n || has_name ys n)
has-append [] ys n = refl
has-append (x ∷ xs) ys n = ap (λ b. eqb x.name n || b) (has-append xs ys n) ∙ sym (assoc (eqb x.name n) (has_name xs n) (has_name ys n))
  where
    assoc : (a b c : Bool) → ((a || b) || c) ≡ (a || (b || c))
    assoc true b c = refl
    assoc false b c = refl

has_right : (xs ys : List Named) (n : ℕ) → Has ys n → Has (xs ++ ys) n
has_right xs ys n has = has-append xs ys n ∙ or_right (has_name xs n) (has_name ys n) has

has_left : (xs ys : List Named) (n : ℕ) → Has xs n → Has (xs ++ ys) n
has_left xs ys n has = has-append xs ys n ∙ or_left (has_name xs n) (has_name ys n) has

binaries_used : (ast : Ast) (n : ℕ) → Has ast.binaries n → Has (uses ast) n
binaries_used ast n has =
    let front = term_uses ast.objective ++ row_uses ast.rows ++ row_uses ast.uncertain ++ bound_uses ast.bounds ++ ast.generals in
    has_left (front ++ ast.binaries ++ ast.existential) ast.universal n (has_left (front ++ ast.binaries) ast.existential n (has_right front ast.binaries n has))

no_names : (Q : Named → Type 0) (list : List Named) → list ≡ [] → All Q list
no_names Q list none = subst (All Q) (sym none) (All-nil Q)

pub right_names : (names : List (List ℕ)) (written : Written) (ast : Ast) → IsTreeOf names written ast → small.NamesFit written → NamesRight ast
right_names names written ast tree right =
    let fit = right.lists in
    let Q : Named → Type 0 = λ named. Has ast.order named.name in
    let InBinaries : Named → Type 0 = λ named. Has ast.binaries named.name in
    let IsFinite : AstBound → Type 0 = λ bound. bound.value ≢ None in
    let binary : All InBinaries ast.order = names_have names written.binaries written.order ast.binaries ast.order tree.binaries fit.order_known tree.order in
    let objective = terms_have names written.order ast.order tree.order written.objective ast.objective (over_more written.binaries written.order written.objective fit.binaries_ordered right.objective_known) tree.objective in
    let rows = rows_have names written.order ast.order tree.order written.rows ast.rows (rows_over_more written.binaries written.order written.rows fit.binaries_ordered right.rows_known) tree.rows in
    let all_ordered = known_order written written.universal fit fit.universal_known in
    let uncertain = rows_have names written.order ast.order tree.order written.uncertain ast.uncertain (rows_over_more written.universal written.order written.uncertain all_ordered right.uncertain_known) tree.uncertain in
    let bounds = no_names Q (bound_uses ast.bounds) (ap bound_uses tree.bounds) in
    let generals = no_names Q ast.generals tree.generals in
    let binaries = names_have names written.order written.binaries ast.order ast.binaries tree.order fit.binaries_ordered tree.binaries in
    let existential = names_have names written.order written.exists ast.order ast.existential tree.order (known_order written written.exists fit fit.exists_known) tree.existential in
    let universal = names_have names written.order written.universal ast.order ast.universal tree.order all_ordered tree.universal in
    record {
      apart =
          all_named names (Contains written.universal) (λ named. ¬ Has ast.existential named.name)
          (λ name named numbers there has.
          let stands = sym (has_is names written.exists ast.existential name numbers.held tree.existential) ∙ subst (Has ast.existential) numbers.name has in
          All-contains (λ other. ¬ Contains written.universal other) written.exists name fit.apart ((Decides-stands_in written.exists name).0 stands) there)
          written.universal ast.universal (All-contains_itself written.universal) tree.universal;
      once = once_each names written.order ast.order fit.order_once tree.order;
      known = λ k d below. binaries_used ast _ (binary k d below);
      ordered =
          All-append Q _ ast.universal
          (All-append Q _ ast.existential
          (All-append Q _ ast.binaries
          (All-append Q _ ast.generals
          (All-append Q _ (bound_uses ast.bounds)
          (All-append Q _ (row_uses ast.uncertain) (All-append Q (term_uses ast.objective) (row_uses ast.rows) objective rows) uncertain) bounds) generals) binaries) existential) universal;
      finite = subst (All IsFinite) (sym tree.bounds) (All-nil IsFinite);
      bounded = λ k d below. or_left (has_name ast.binaries _) (has_upper ast.bounds _) (binary k d below);
    }

pub no_fault : (names : List (List ℕ)) (written : Written) (ast : Ast) → IsTreeOf names written ast → small.NamesFit written → name_fault ast ≡ None
no_fault names written ast tree right = None-from_NamesRight ast (right_names names written ast tree right)
