-- What is read as a list of names is written so.
use Rattle.std.proofs.Common.{◌≡◌, ℕ, ◌≤◌, length, Bool, List, [], ◌∷◌, ◌++◌, refl, sym, ap, arith, ◌∙◌}
use Rattle.std.specs.Prelude.{Ok}
use Rattle.std.proofs.lemmas.List.{append_assoc, append-nil}
use Rattle.qm_lex.specs.declared.place.Place.{Place}
use Rattle.qm_parse.specs.declared.ast.Ast.{Ast}
use Rattle.qm_parse.specs.declared.ast.Named.{Named}
use Rattle.qm_parse.specs.declared.draft.Draft.{Draft}
use Rattle.qm_parse.specs.declared.stage.NameList.{NameList}
use Rattle.qm_parse.specs.declared.stage.NameList.TheVariants.{Generals, Binaries, Exists, All, Order}
use Rattle.qm_parse.specs.declared.stage.Seen.{Seen}
use Rattle.qm_parse.specs.declared.stage.Stage.TheVariants.{Names}
use Rattle.qm_parse.specs.declared.word.Symbol.{Symbol}
use Rattle.qm_parse.specs.declared.word.Word.{Word}
use Rattle.qm_parse.specs.declared.word.Word.TheVariants.{Name, Keyword as Reserved}
use Rattle.qm_parse.specs.Drafts.{listed, list_noted, noted, with_listed}
use Rattle.qm_parse.specs.Parts.{Each, ListedName}
use Rattle.qm_parse.specs.Reading.{finished, read}
use Rattle.qm_parse.specs.Stages.{followed, may_end, moved, step}
use Rattle.qm_parse.proofs.WrittenSteps.{state, symbol, Goes, goes, goes_to, IsClean, SectionFollows}

-- the tree with further names in a list
abbrev pub with_listed_names : NameList → List Named → Ast → Ast
with_listed_names Generals names ast = record ast { generals = ast.generals ++ names }
with_listed_names Binaries names ast = record ast { binaries = ast.binaries ++ names }
with_listed_names Exists names ast = record ast { existential = ast.existential ++ names }
with_listed_names All names ast = record ast { universal = ast.universal ++ names }
with_listed_names Order names ast = record ast { order = ast.order ++ names }

-- names of a list, and then a section or END
pub record NamesPast (seen : Seen) (list : NameList) (before : Draft) (symbols : List Symbol) (end : Place) (ast : Ast) : Type 0 where
  pub names : List Named
  pub draft : Draft
  pub rest : List Symbol
  pub within : length rest ≤ length symbols
  pub written : Each ListedName names symbols rest
  pub tree : draft.ast ≡ with_listed_names list names before.ast
  pub clean : IsClean draft
  pub follows : SectionFollows seen draft rest end ast

no_name : (list : NameList) (ast : Ast) → ast ≡ with_listed_names list [] ast
no_name Generals ast = λ i. record ast { generals = sym (append-nil ast.generals) i }
no_name Binaries ast = λ i. record ast { binaries = sym (append-nil ast.binaries) i }
no_name Exists ast = λ i. record ast { existential = sym (append-nil ast.existential) i }
no_name All ast = λ i. record ast { universal = sym (append-nil ast.universal) i }
no_name Order ast = λ i. record ast { order = sym (append-nil ast.order) i }

one_name : (list : NameList) (named : Named) (ast : Ast) → listed list named ast ≡ with_listed_names list (named ∷ []) ast
unfolding listed
one_name Generals named ast = refl
one_name Binaries named ast = refl
one_name Exists named ast = refl
one_name All named ast = refl
one_name Order named ast = refl

more_names : (list : NameList) (named : Named) (names : List Named) (ast : Ast)
    → with_listed_names list names (with_listed_names list (named ∷ []) ast) ≡ with_listed_names list (named ∷ names) ast
more_names Generals named names ast = λ i. record ast { generals = append_assoc ast.generals (named ∷ []) names i }
more_names Binaries named names ast = λ i. record ast { binaries = append_assoc ast.binaries (named ∷ []) names i }
more_names Exists named names ast = λ i. record ast { existential = append_assoc ast.existential (named ∷ []) names i }
more_names All named names ast = λ i. record ast { universal = append_assoc ast.universal (named ∷ []) names i }
more_names Order named names ast = λ i. record ast { order = append_assoc ast.order (named ∷ []) names i }

clean_listed : (list : NameList) (n : ℕ) (place : Place) (draft : Draft) → IsClean draft → IsClean (with_listed list n place draft)
unfolding with_listed
clean_listed list n place draft clean = record { terms = clean.terms; plain = clean.plain }

tree_listed : (list : NameList) (n : ℕ) (place : Place) (names : List Named) (draft after : Draft)
    → after.ast ≡ with_listed_names list names (with_listed list n place draft).ast
    → after.ast ≡ with_listed_names list (record { name = n; at = place } ∷ names) draft.ast
unfolding with_listed
tree_listed list n place names draft after e =
    e ∙ ap (λ (a : Ast). with_listed_names list names a) (one_name list (record { name = n; at = place }) draft.ast)
    ∙ more_names list (record { name = n; at = place }) names draft.ast

names_by_word : (word : Word) (place : Place) (line : Bool) (seen : Seen) (list : NameList) (before : Draft) (symbols : List Symbol) (end : Place) (ast : Ast)
    → ((draft : Draft) → IsClean draft → read (state (Names list) seen) draft symbols end ≡ Ok ast → NamesPast seen list draft symbols end ast)
    → IsClean before → Goes (Names list) seen before (symbol word place line) symbols end ast
    → NamesPast seen list before (symbol word place line ∷ symbols) end ast
unfolding moved step may_end noted list_noted followed
names_by_word (Name n labels) place line seen list before symbols end ast again clean g =
    let first = symbol (Name n labels) place line in
    let p = again (with_listed list n place before) (clean_listed list n place before clean)
    (goes_to (Names list) seen before first symbols end ast g (state (Names list) seen) refl) in
    record {
      names = record { name = n; at = place } ∷ p.names;
      draft = p.draft;
      rest = p.rest;
      within = (let h : length p.rest ≤ length symbols = p.within in omega arith);
      written = (symbols, ((labels, refl), refl, refl), p.written);
      tree = tree_listed list n place p.names before p.draft p.tree;
      clean = p.clean;
      follows = p.follows;
    }
names_by_word (Reserved k) place line seen list before symbols end ast again clean g =
    let first = symbol (Reserved k) place line in
    record {
      names = [];
      draft = before;
      rest = first ∷ symbols;
      within = omega arith;
      written = refl;
      tree = no_name list before.ast;
      clean = clean;
      follows = record { first = first; rest = symbols; parts = refl; next = g.next; moves = g.moves; reads = g.reads };
    }
names_by_word word place line seen list before symbols end ast again clean g = absurd (let e = g.moves in cc)

pub names_read : (seen : Seen) (list : NameList) (before : Draft) (symbols : List Symbol) (end : Place) (ast : Ast)
    → IsClean before → read (state (Names list) seen) before symbols end ≡ Ok ast → NamesPast seen list before symbols end ast
unfolding read finished
names_read seen list before [] end ast clean e = absurd cc
names_read seen list before (first ∷ symbols) end ast clean e =
    names_by_word first.word first.place first.begins_line seen list before symbols end ast
    (λ draft c r. names_read seen list draft symbols end ast c r)
    clean (goes (Names list) seen before first symbols end ast e)
