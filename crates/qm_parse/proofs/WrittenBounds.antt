-- What is read as bounds is written so.
use Rattle.std.proofs.Common.{◌≡◌, ℕ, zero, suc, ◌<◌, ◌≤◌, length, Bool, true, false, List, [], ◌∷◌, ◌++◌, Option, Some, None, refl, sym, ap, subst, arith, ◌∙◌, ◌⊎◌, inl, inr}
use Rattle.std.specs.Prelude.{Ok}
use Rattle.std.specs.List.{flat_map}
use Rattle.std.proofs.lemmas.List.{append_assoc, append-nil}
use Rattle.qm_math.specs.Fraction.{Fraction}
use Rattle.qm_lex.specs.declared.place.Place.{Place}
use Rattle.qm_parse.specs.declared.ast.Ast.{Ast}
use Rattle.qm_parse.specs.declared.ast.AstBound.{AstBound}
use Rattle.qm_parse.specs.declared.draft.Draft.{Draft}
use Rattle.qm_parse.specs.declared.stage.Seen.{Seen}
use Rattle.qm_parse.specs.declared.stage.Stage.{Stage}
use Rattle.qm_parse.specs.declared.stage.Stage.TheVariants.{BoundsBegin, BoundSigned, BoundValue, BoundNamed, BoundName, BoundRelation, BoundEnd}
use Rattle.qm_parse.specs.declared.word.Symbol.{Symbol}
use Rattle.qm_parse.specs.declared.word.Word.{Word}
use Rattle.qm_parse.specs.declared.word.Word.TheVariants.{Name, Number, Sign, Related, Keyword as Reserved, Infinite}
use Rattle.qm_parse.specs.Drafts.{noted, bound_noted, with_name}
use Rattle.qm_parse.specs.Parts.{BoundOf, BoundEnds, Each, Either, OneBound, Value, ValueFirst}
use Rattle.qm_parse.specs.Reading.{finished, read}
use Rattle.qm_parse.specs.Stages.{bound_begun, fits_line, followed, may_end, may_share_line, moved, step}
use Rattle.qm_parse.proofs.WrittenSteps.{state, symbol, Goes, goes, goes_to, whole, any_line, Past, IsClean, SectionFollows}
use Rattle.qm_parse.proofs.WrittenValues.{with_bounds, AddsBounds, value_plain, Compared, ComparedFound, compared_read, FreeTail, name_read, FrontFound, front_by_word, front_read, AddsTurned, value_read}

-- what may stand behind a bound on its line
bound_end_by_word : (word : Word) (place : Place) (line : Bool) (symbols : List Symbol)
    → fits_line BoundEnd (symbol word place line) ≡ true → BoundEnds (symbol word place line ∷ symbols) (symbol word place line ∷ symbols)
unfolding fits_line may_share_line
bound_end_by_word word place true symbols e = (inl refl, refl)
bound_end_by_word (Reserved k) place false symbols e = (inr (k, refl), refl)
bound_end_by_word word place false symbols e = absurd cc

bound_end : (seen : Seen) (draft : Draft) (symbols : List Symbol) (end : Place) (ast : Ast) → read (state BoundEnd seen) draft symbols end ≡ Ok ast → BoundEnds symbols symbols
unfolding read finished
bound_end seen draft [] end ast e = refl
bound_end seen draft (first ∷ symbols) end ast e =
    bound_end_by_word first.word first.place first.begins_line symbols (let g = goes BoundEnd seen draft first symbols end ast e in g.fits)

-- a whole bound
abbrev BoundFound : Draft → List Symbol → Draft → List Symbol → Type 0
BoundFound before symbols after rest = (bounds : List AstBound) × BoundOf bounds symbols rest × AddsBounds before bounds after

-- a name, and what is behind it
named_bound : (n : ℕ) (labels : Bool) (place : Place) (line : Bool) (bound : AstBound) (symbols rest : List Symbol)
    → bound.name ≡ n → bound.at ≡ place → Either (Compared bound) (FreeTail bound) symbols rest → OneBound bound (symbol (Name n labels) place line ∷ symbols) rest
named_bound n labels place line bound symbols rest same_name same_at (inl compared) =
    inl (symbols, ((labels, ap (λ (m : ℕ). Name m labels) (sym same_name)), sym same_at, refl), compared)
named_bound n labels place line bound symbols rest same_name same_at (inr free) =
    inr (inl (free.0, free.1, (symbols, ((labels, ap (λ (m : ℕ). Name m labels) (sym same_name)), sym same_at, refl), free.2)))

name_first : (n : ℕ) (labels : Bool) (place : Place) (line : Bool) (seen : Seen) (before : Draft) (symbols : List Symbol) (end : Place) (ast : Ast)
    → before.negative ≡ false → read (state BoundName seen) (with_name n place before) symbols end ≡ Ok ast
    → Past BoundEnd seen (BoundFound before (symbol (Name n labels) place line ∷ symbols)) (symbol (Name n labels) place line ∷ symbols) end ast
unfolding with_name
name_first n labels place line seen before symbols end ast plain e =
    let first = symbol (Name n labels) place line in
    let p = name_read seen (with_name n place before) symbols end ast plain e in
    let bound = p.found.0 in
    record {
      draft = p.draft;
      rest = p.rest;
      shorter = (let h : length p.rest < length symbols = p.shorter in omega arith);
      found = (
        bound ∷ [],
        (p.rest, inl (bound, refl, named_bound n labels place line bound symbols p.rest p.found.1 p.found.2 p.found.3), bound_end seen p.draft p.rest end ast p.reads),
        record { ast = p.found.4.ast; terms = p.found.4.terms; plain = p.found.4.plain },
      );
      reads = p.reads;
    }

-- a value, a relation and a name
abbrev FirstFound : Draft → List Symbol → Draft → List Symbol → Type 0
FirstFound before symbols after rest = (bound : AstBound) × ValueFirst bound symbols rest × AddsTurned before bound after

adds_joined : (before between after : Draft) (items more : List AstBound) → AddsBounds before items between → AddsBounds between more after → AddsBounds before (items ++ more) after
adds_joined before between after items more one other = record {
  ast = other.ast ∙ ap (λ (a : Ast). with_bounds more a) one.ast ∙ (λ i. record before.ast { bounds = append_assoc before.ast.bounds items more i });
  terms = other.terms ∙ one.terms;
  plain = other.plain;
}

value_first : (seen : Seen) (before : Draft) (symbols : List Symbol) (end : Place) (ast : Ast)
    → before.negative ≡ false → Past BoundValue seen (FrontFound before symbols) symbols end ast → Past BoundNamed seen (FirstFound before symbols) symbols end ast
value_first seen before symbols end ast plain p =
    let q = value_read seen p.draft p.rest end ast p.reads in
    let bound = q.found.0 in
    let set = p.found.2 in
    let left : Value p.found.0 symbols p.rest = value_plain before.negative p.found.0 symbols p.rest plain p.found.1 in
    let same : p.found.0 ≡ bound.value = sym (q.found.1 ∙ set.value) in
    let added = q.found.3.added in
    record {
      draft = q.draft;
      rest = q.rest;
      shorter = (let h : length p.rest < length symbols = p.shorter in let k : length q.rest < length p.rest = q.shorter in omega arith);
      found = (
        bound,
        (p.rest, subst (λ (v : Option Fraction). Value v symbols p.rest) same left, q.found.2),
        record {
          added = record { ast = added.ast ∙ ap (λ (a : Ast). with_bounds (bound ∷ []) a) set.ast; terms = added.terms ∙ set.terms; plain = added.plain };
          name = q.found.3.name;
          place = q.found.3.place;
        },
      );
      reads = q.reads;
    }

-- it is the whole bound
value_alone : (seen : Seen) (before : Draft) (symbols : List Symbol) (end : Place) (ast : Ast)
    → (p : Past BoundNamed seen (FirstFound before symbols) symbols end ast) → read (state BoundEnd seen) p.draft p.rest end ≡ Ok ast
    → Past BoundEnd seen (BoundFound before symbols) symbols end ast
value_alone seen before symbols end ast p e =
    let bound = p.found.0 in
    record {
      draft = p.draft;
      rest = p.rest;
      shorter = p.shorter;
      found = (bound ∷ [], (p.rest, inl (bound, refl, inr (inr p.found.1)), bound_end seen p.draft p.rest end ast e), p.found.2.added);
      reads = e;
    }

-- a further relation behind it
value_further : (seen : Seen) (before : Draft) (symbols : List Symbol) (end : Place) (ast : Ast)
    → (p : Past BoundNamed seen (FirstFound before symbols) symbols end ast) → Past BoundEnd seen (ComparedFound p.draft p.rest) p.rest end ast
    → Past BoundEnd seen (BoundFound before symbols) symbols end ast
value_further seen before symbols end ast p q =
    let bound = p.found.0 in
    let further = q.found.0 in
    record {
      draft = q.draft;
      rest = q.rest;
      shorter = (let h : length p.rest < length symbols = p.shorter in let k : length q.rest < length p.rest = q.shorter in omega arith);
      found = (
        bound ∷ further ∷ [],
        (
          q.rest,
          inr (bound, further, refl, (p.rest, p.found.1, (q.found.1 ∙ p.found.2.name, q.found.2 ∙ p.found.2.place, q.found.3))),
          bound_end seen q.draft q.rest end ast q.reads,
        ),
        adds_joined before p.draft q.draft (bound ∷ []) (further ∷ []) p.found.2.added q.found.4,
      );
      reads = q.reads;
    }

-- behind the name a further relation, or what may stand behind any bound
abbrev NextNamed : Seen → Draft → List Symbol → Place → Ast → Type 0
NextNamed seen before symbols end ast = Past BoundEnd seen (ComparedFound before symbols) symbols end ast ⊎ (read (state BoundEnd seen) before symbols end ≡ Ok ast)

as_end : (word : Word) (place : Place) (line : Bool) (seen : Seen) (before : Draft) (symbols : List Symbol) (end : Place) (ast : Ast)
    → moved (state BoundNamed seen) word (step BoundNamed word) ≡ moved (state BoundEnd seen) word (step BoundEnd word)
    → fits_line BoundNamed (symbol word place line) ≡ fits_line BoundEnd (symbol word place line)
    → Goes BoundNamed seen before (symbol word place line) symbols end ast
    → Goes BoundEnd seen before (symbol word place line) symbols end ast
unfolding noted
as_end word place line seen before symbols end ast same_step same_line g =
    record { next = g.next; fits = sym same_line ∙ g.fits; moves = sym same_step ∙ g.moves; stays = g.stays; reads = g.reads }

named_by_word : (word : Word) (place : Place) (line : Bool) (seen : Seen) (before : Draft) (symbols : List Symbol) (end : Place) (ast : Ast)
    → before.negative ≡ false → Goes BoundNamed seen before (symbol word place line) symbols end ast
    → NextNamed seen before (symbol word place line ∷ symbols) end ast
unfolding moved step bound_begun may_end noted bound_noted fits_line may_share_line
named_by_word (Related relation) place line seen before symbols end ast plain g =
    inl (compared_read relation place line seen before symbols end ast plain
    (goes_to BoundNamed seen before (symbol (Related relation) place line) symbols end ast g (state BoundRelation seen) refl))
named_by_word word place line seen before symbols end ast plain g =
    inr (whole BoundEnd seen before (symbol word place line) symbols end ast (as_end word place line seen before symbols end ast refl refl g))

named_read : (seen : Seen) (before : Draft) (symbols : List Symbol) (end : Place) (ast : Ast)
    → before.negative ≡ false → read (state BoundNamed seen) before symbols end ≡ Ok ast → NextNamed seen before symbols end ast
unfolding read finished
named_read seen before [] end ast plain e = absurd cc
named_read seen before (first ∷ symbols) end ast plain e =
    named_by_word first.word first.place first.begins_line seen before symbols end ast plain (goes BoundNamed seen before first symbols end ast e)

value_ended : (seen : Seen) (before : Draft) (symbols : List Symbol) (end : Place) (ast : Ast)
    → (p : Past BoundNamed seen (FirstFound before symbols) symbols end ast) → NextNamed seen p.draft p.rest end ast
    → Past BoundEnd seen (BoundFound before symbols) symbols end ast
value_ended seen before symbols end ast p (inl q) = value_further seen before symbols end ast p q
value_ended seen before symbols end ast p (inr e) = value_alone seen before symbols end ast p e

value_bound : (word : Word) (place : Place) (line : Bool) (seen : Seen) (before : Draft) (symbols : List Symbol) (end : Place) (ast : Ast)
    → before.negative ≡ false → Goes BoundSigned seen before (symbol word place line) symbols end ast
    → Past BoundEnd seen (BoundFound before (symbol word place line ∷ symbols)) (symbol word place line ∷ symbols) end ast
value_bound word place line seen before symbols end ast plain g =
    let p = value_first seen before (symbol word place line ∷ symbols) end ast plain
    (front_by_word word place line seen before symbols end ast (λ draft r. front_read seen draft symbols end ast r) g) in
    value_ended seen before (symbol word place line ∷ symbols) end ast p (named_read seen p.draft p.rest end ast p.found.2.added.plain p.reads)

-- a bound may begin like a value behind a sign
as_signed : (word : Word) (place : Place) (line : Bool) (seen : Seen) (before : Draft) (symbols : List Symbol) (end : Place) (ast : Ast)
    → moved (state BoundsBegin seen) word (step BoundsBegin word) ≡ moved (state BoundSigned seen) word (step BoundSigned word)
    → Goes BoundsBegin seen before (symbol word place line) symbols end ast
    → Goes BoundSigned seen before (symbol word place line) symbols end ast
unfolding fits_line may_share_line noted
as_signed word place line seen before symbols end ast same_step g =
    record { next = g.next; fits = any_line line; moves = sym same_step ∙ g.moves; stays = g.stays; reads = g.reads }

abbrev BoundOrEnd : Seen → Draft → List Symbol → Place → Ast → Type 0
BoundOrEnd seen before symbols end ast = Past BoundEnd seen (BoundFound before symbols) symbols end ast ⊎ SectionFollows seen before symbols end ast

begin_by_word : (word : Word) (place : Place) (line : Bool) (seen : Seen) (before : Draft) (symbols : List Symbol) (end : Place) (ast : Ast)
    → before.negative ≡ false → Goes BoundsBegin seen before (symbol word place line) symbols end ast
    → BoundOrEnd seen before (symbol word place line ∷ symbols) end ast
unfolding moved step bound_begun may_end noted bound_noted followed
begin_by_word (Name n labels) place line seen before symbols end ast plain g =
    inl (name_first n labels place line seen before symbols end ast plain
    (goes_to BoundsBegin seen before (symbol (Name n labels) place line) symbols end ast g (state BoundName seen) refl))
begin_by_word (Sign minus) place line seen before symbols end ast plain g =
    inl (value_bound (Sign minus) place line seen before symbols end ast plain (as_signed (Sign minus) place line seen before symbols end ast refl g))
begin_by_word (Number value) place line seen before symbols end ast plain g =
    inl (value_bound (Number value) place line seen before symbols end ast plain (as_signed (Number value) place line seen before symbols end ast refl g))
begin_by_word Infinite place line seen before symbols end ast plain g =
    inl (value_bound Infinite place line seen before symbols end ast plain (as_signed Infinite place line seen before symbols end ast refl g))
begin_by_word (Reserved k) place line seen before symbols end ast plain g =
    inr (record { first = symbol (Reserved k) place line; rest = symbols; parts = refl; next = g.next; moves = g.moves; reads = g.reads })
begin_by_word word place line seen before symbols end ast plain g = absurd (let e = g.moves in cc)

-- behind a bound as behind the heading
moved_same : (o : Option Stage) (seen : Seen) (word : Word) → moved (state BoundEnd seen) word o ≡ moved (state BoundsBegin seen) word o
unfolding moved may_end
moved_same (Some stage) seen word = refl
moved_same None seen word = refl

as_begin : (word : Word) (place : Place) (line : Bool) (seen : Seen) (before : Draft) (symbols : List Symbol) (end : Place) (ast : Ast)
    → Goes BoundEnd seen before (symbol word place line) symbols end ast → Goes BoundsBegin seen before (symbol word place line) symbols end ast
unfolding fits_line may_share_line step noted
as_begin word place line seen before symbols end ast g = record {
  next = g.next;
  fits = any_line line;
  moves = sym (moved_same (bound_begun word) seen word) ∙ g.moves;
  stays = g.stays;
  reads = g.reads;
}

-- bounds, and then a section or END
abbrev pub joined : List (List AstBound) → List AstBound
joined bounds = flat_map (λ bound. bound) bounds

pub record BoundsPast (seen : Seen) (before : Draft) (symbols : List Symbol) (end : Place) (ast : Ast) : Type 0 where
  pub bounds : List (List AstBound)
  pub draft : Draft
  pub rest : List Symbol
  pub within : length rest ≤ length symbols
  pub written : Each BoundOf bounds symbols rest
  pub tree : draft.ast ≡ with_bounds (joined bounds) before.ast
  pub clean : IsClean draft
  pub follows : SectionFollows seen draft rest end ast

no_bounds : (seen : Seen) (before : Draft) (symbols : List Symbol) (end : Place) (ast : Ast) → IsClean before → SectionFollows seen before symbols end ast → BoundsPast seen before symbols end ast
no_bounds seen before symbols end ast clean f = record {
  bounds = [];
  draft = before;
  rest = symbols;
  within = omega arith;
  written = refl;
  tree = λ i. record before.ast { bounds = sym (append-nil before.ast.bounds) i };
  clean = clean;
  follows = f;
}

still_clean : (before : Draft) (items : List AstBound) (after : Draft) → IsClean before → AddsBounds before items after → IsClean after
still_clean before items after clean a = record { terms = a.terms ∙ clean.terms; plain = a.plain }

bounds_joined : (seen : Seen) (before : Draft) (symbols : List Symbol) (end : Place) (ast : Ast)
    → (p : Past BoundEnd seen (BoundFound before symbols) symbols end ast) → BoundsPast seen p.draft p.rest end ast
    → BoundsPast seen before symbols end ast
bounds_joined seen before symbols end ast p q =
    let bound = p.found.0 in
    record {
      bounds = bound ∷ q.bounds;
      draft = q.draft;
      rest = q.rest;
      within = (let h : length p.rest < length symbols = p.shorter in let k : length q.rest ≤ length p.rest = q.within in omega arith);
      written = (p.rest, p.found.1, q.written);
      tree = q.tree ∙ ap (λ (a : Ast). with_bounds (joined q.bounds) a) p.found.2.ast
          ∙ (λ i. record before.ast { bounds = append_assoc before.ast.bounds bound (joined q.bounds) i });
      clean = q.clean;
      follows = q.follows;
    }

bounds_behind : (seen : Seen) (before : Draft) (symbols : List Symbol) (end : Place) (ast : Ast)
    → ((draft : Draft) (rest : List Symbol) → length rest < length symbols → IsClean draft → read (state BoundEnd seen) draft rest end ≡ Ok ast → BoundsPast seen draft rest end ast)
    → IsClean before → BoundOrEnd seen before symbols end ast → BoundsPast seen before symbols end ast
bounds_behind seen before symbols end ast again clean (inl p) =
    bounds_joined seen before symbols end ast p (again p.draft p.rest p.shorter (still_clean before p.found.0 p.draft clean p.found.2) p.reads)
bounds_behind seen before symbols end ast again clean (inr f) = no_bounds seen before symbols end ast clean f

bounds_within : (n : ℕ) (seen : Seen) (before : Draft) (symbols : List Symbol) (end : Place) (ast : Ast)
    → length symbols ≤ n → IsClean before → read (state BoundEnd seen) before symbols end ≡ Ok ast → BoundsPast seen before symbols end ast
unfolding read finished
bounds_within n seen before [] end ast within clean e = absurd cc
bounds_within zero seen before (first ∷ symbols) end ast within clean e = absurd (omega arith)
bounds_within (suc n) seen before (first ∷ symbols) end ast within clean e =
    bounds_behind seen before (first ∷ symbols) end ast
    (λ draft rest short c r. bounds_within n seen draft rest end ast (omega arith) c r)
    clean
    (begin_by_word first.word first.place first.begins_line seen before symbols end ast clean.plain
    (as_begin first.word first.place first.begins_line seen before symbols end ast (goes BoundEnd seen before first symbols end ast e)))

pub bounds_read : (seen : Seen) (before : Draft) (symbols : List Symbol) (end : Place) (ast : Ast)
    → IsClean before → read (state BoundsBegin seen) before symbols end ≡ Ok ast → BoundsPast seen before symbols end ast
unfolding read finished
bounds_read seen before [] end ast clean e = absurd cc
bounds_read seen before (first ∷ symbols) end ast clean e =
    bounds_behind seen before (first ∷ symbols) end ast
    (λ draft rest short c r. bounds_within (length rest) seen draft rest end ast (omega arith) c r)
    clean
    (begin_by_word first.word first.place first.begins_line seen before symbols end ast clean.plain (goes BoundsBegin seen before first symbols end ast e))
