-- One symbol of a reading that ends well, and what a part leaves of it.
use Rattle.std.proofs.Common.{◌≡◌, ◌<◌, length, Bool, true, false, not, List, [], ◌∷◌, Option, Some, None, refl, subst, arith, inl, inr}
use Rattle.std.specs.Prelude.{if◌then◌else◌, ◌||◌, Result, Ok, Err}
use Rattle.qm_lex.specs.declared.place.Place.{Place}
use Rattle.qm_parse.specs.declared.ast.Ast.{Ast}
use Rattle.qm_parse.specs.declared.draft.Draft.{Draft}
use Rattle.qm_parse.specs.declared.stage.Seen.{Seen}
use Rattle.qm_parse.specs.declared.stage.Stage.{Stage}
use Rattle.qm_parse.specs.declared.stage.State.{State}
use Rattle.qm_parse.specs.declared.unread.Unread.{Unread}
use Rattle.qm_parse.specs.declared.unread.Unread.TheVariants as unread
use Rattle.qm_parse.specs.declared.word.Symbol.{Symbol}
use Rattle.qm_parse.specs.declared.word.Word.{Word}
use Rattle.qm_parse.specs.declared.word.Word.TheVariants.{Number, Sign}
use Rattle.qm_math.specs.Fraction.{Fraction}
use Rattle.qm_parse.specs.Drafts.{noted, signed_by}
use Rattle.qm_parse.specs.Parts.{◌then◌, Part, Each, Says, SignOf, is_odd, SignedTerm}
use Rattle.qm_parse.specs.Reading.{leaves, read}
use Rattle.qm_parse.specs.Stages.{expected, fits_line, followed, moved, next_state, step}

abbrev pub state : Stage → Seen → State
state stage seen = record { stage = stage; seen = seen }

abbrev pub symbol : Word → Place → Bool → Symbol
symbol word place line = record { word = word; place = place; begins_line = line }

pub some_is : {A : Type 0} (x y : A) (o : Option A) → o ≡ Some x → o ≡ Some y → x ≡ y
some_is x y o e f = cc

-- the reading goes on behind its first symbol
pub record Goes (stage : Stage) (seen : Seen) (draft : Draft) (first : Symbol) (symbols : List Symbol) (end : Place) (ast : Ast) : Type 0 where
  pub next : State
  pub fits : fits_line stage first ≡ true
  pub moves : moved (state stage seen) first.word (step stage first.word) ≡ Some next
  pub stays : leaves first.word ≡ false
  pub reads : read next (noted stage seen.uncertainty first.word first.place draft) symbols end ≡ Ok ast

pub if_some : (b : Bool) (o : Option State) (next : State) → (if b then o else None) ≡ Some next → (b ≡ true) × (o ≡ Some next)
if_some true o next e = (refl, e)
if_some false o next e = absurd cc

if_ok : (b : Bool) (fault : Unread) (r : Result Ast Unread) (ast : Ast) → (if b then Err fault else r) ≡ Ok ast → (b ≡ false) × (r ≡ Ok ast)
if_ok true fault r ast e = absurd cc
if_ok false fault r ast e = (refl, e)

taken : (o : Option State) (stage : Stage) (uncertain : Bool) (draft : Draft) (first : Symbol) (symbols : List Symbol) (end : Place) (ast : Ast)
    → ◌≡◌ {A = Result Ast Unread} (elim o [
      | None ↦ Err (unread.Expected first.place (expected stage first))
      | Some next ↦ if leaves first.word then Err (unread.Number first.place) else read next (noted stage uncertain first.word first.place draft) symbols end
    ]) (Ok ast)
    → (next : State) × (o ≡ Some next) × (leaves first.word ≡ false) × (read next (noted stage uncertain first.word first.place draft) symbols end ≡ Ok ast)
taken None stage uncertain draft first symbols end ast e = absurd cc
taken (Some next) stage uncertain draft first symbols end ast e =
    let found = if_ok (leaves first.word) (unread.Number first.place) (read next (noted stage uncertain first.word first.place draft) symbols end) ast e in
    (next, refl, found.0, found.1)

pub goes : (stage : Stage) (seen : Seen) (draft : Draft) (first : Symbol) (symbols : List Symbol) (end : Place) (ast : Ast)
    → read (state stage seen) draft (first ∷ symbols) end ≡ Ok ast → Goes stage seen draft first symbols end ast
unfolding read next_state
goes stage seen draft first symbols end ast e =
    let found = taken (next_state (state stage seen) first) stage seen.uncertainty draft first symbols end ast e in
    let may = if_some (fits_line stage first) (moved (state stage seen) first.word (step stage first.word)) found.0 found.1 in
    record { next = found.0; fits = may.0; moves = may.1; stays = found.2; reads = found.3 }

-- it goes on in the state that the symbol leads to
pub goes_to : (stage : Stage) (seen : Seen) (draft : Draft) (first : Symbol) (symbols : List Symbol) (end : Place) (ast : Ast)
    → Goes stage seen draft first symbols end ast
    → (next : State) → moved (state stage seen) first.word (step stage first.word) ≡ Some next
    → read next (noted stage seen.uncertainty first.word first.place draft) symbols end ≡ Ok ast
goes_to stage seen draft first symbols end ast g next e =
    subst (λ (s : State). read s (noted stage seen.uncertainty first.word first.place draft) symbols end ≡ Ok ast)
    (some_is g.next next (moved (state stage seen) first.word (step stage first.word)) g.moves e) g.reads

if_back : (b : Bool) (fault : Unread) (r : Result Ast Unread) (ast : Ast) → b ≡ false → r ≡ Ok ast → (if b then Err fault else r) ≡ Ok ast
if_back true fault r ast e f = absurd cc
if_back false fault r ast e f = f

put_back : (o : Option State) (stage : Stage) (uncertain : Bool) (draft : Draft) (first : Symbol) (symbols : List Symbol) (end : Place) (ast : Ast) (next : State)
    → o ≡ Some next → leaves first.word ≡ false → read next (noted stage uncertain first.word first.place draft) symbols end ≡ Ok ast
    → ◌≡◌ {A = Result Ast Unread} (elim o [
      | None ↦ Err (unread.Expected first.place (expected stage first))
      | Some next ↦ if leaves first.word then Err (unread.Number first.place) else read next (noted stage uncertain first.word first.place draft) symbols end
    ]) (Ok ast)
put_back None stage uncertain draft first symbols end ast next e stays r = absurd cc
put_back (Some other) stage uncertain draft first symbols end ast next e stays r =
    let same : next ≡ other = cc in
    if_back (leaves first.word) (unread.Number first.place) (read other (noted stage uncertain first.word first.place draft) symbols end) ast stays
    (subst (λ (s : State). read s (noted stage uncertain first.word first.place draft) symbols end ≡ Ok ast) same r)

if_to : (b : Bool) (o : Option State) (next : State) → b ≡ true → o ≡ Some next → (if b then o else None) ≡ Some next
if_to true o next e f = f
if_to false o next e f = absurd cc

-- and so the whole is read
pub whole : (stage : Stage) (seen : Seen) (draft : Draft) (first : Symbol) (symbols : List Symbol) (end : Place) (ast : Ast)
    → Goes stage seen draft first symbols end ast → read (state stage seen) draft (first ∷ symbols) end ≡ Ok ast
unfolding read next_state
whole stage seen draft first symbols end ast g =
    put_back (next_state (state stage seen) first) stage seen.uncertainty draft first symbols end ast g.next
    (if_to (fits_line stage first) (moved (state stage seen) first.word (step stage first.word)) g.next g.fits g.moves) g.stays g.reads

pub any_line : (line : Bool) → (line || true) ≡ true
any_line true = refl
any_line false = refl

-- Reading has passed a part: from there on it is in this stage, and the part's symbols and the draft are as found.
pub record Past (stage : Stage) (seen : Seen) (Found : Draft → List Symbol → Type 0) (symbols : List Symbol) (end : Place) (ast : Ast) : Type 0 where
  pub draft : Draft
  pub rest : List Symbol
  pub shorter : length rest < length symbols
  pub found : Found draft rest
  pub reads : read (state stage seen) draft rest end ≡ Ok ast

-- the same, seen from a symbol earlier
pub past_before : (stage : Stage) (seen : Seen) (Found More : Draft → List Symbol → Type 0) (first : Symbol) (symbols : List Symbol) (end : Place) (ast : Ast)
    → Past stage seen Found symbols end ast → ((draft : Draft) (rest : List Symbol) → Found draft rest → More draft rest)
    → Past stage seen More (first ∷ symbols) end ast
past_before stage seen Found More first symbols end ast p more =
    record { draft = p.draft; rest = p.rest; shorter = (let h : length p.rest < length symbols = p.shorter in omega arith); found = more p.draft p.rest p.found; reads = p.reads }

-- right behind a symbol
pub past_one : (stage : Stage) (seen : Seen) (Found : Draft → List Symbol → Type 0) (draft : Draft) (first : Symbol) (symbols : List Symbol) (end : Place) (ast : Ast)
    → Found draft symbols → read (state stage seen) draft symbols end ≡ Ok ast → Past stage seen Found (first ∷ symbols) end ast
past_one stage seen Found draft first symbols end ast found e = record { draft = draft; rest = symbols; shorter = omega arith; found = found; reads = e }

-- whether the signs negate, where what stands before them negates or not
abbrev pub odd_from : Bool → List Bool → Bool
odd_from true signs = not (is_odd signs)
odd_from false signs = is_odd signs

not_not : (b : Bool) → b ≡ not (not b)
not_not true = refl
not_not false = refl

odd_from_sign : (minus negative : Bool) (signs : List Bool) → odd_from (if minus then not negative else negative) signs ≡ odd_from negative (minus ∷ signs)
odd_from_sign true true signs = not_not (is_odd signs)
odd_from_sign true false signs = refl
odd_from_sign false true signs = refl
odd_from_sign false false signs = refl

odd_from_none : (negative : Bool) → negative ≡ odd_from negative []
odd_from_none true = refl
odd_from_none false = refl

-- signs, of which some were read already
abbrev pub SignedFrom : Bool → (Bool → Part) → Part
SignedFrom negative Body symbols rest = (signs : List Bool) × (Each SignOf signs then Body (odd_from negative signs)) symbols rest

pub no_sign : (negative : Bool) (Body : Bool → Part) (symbols rest : List Symbol) → Body negative symbols rest → SignedFrom negative Body symbols rest
no_sign negative Body symbols rest body = ([], (symbols, refl, subst (λ (b : Bool). Body b symbols rest) (odd_from_none negative) body))

pub one_sign : (minus negative : Bool) (Body : Bool → Part) (place : Place) (line : Bool) (symbols rest : List Symbol)
    → SignedFrom (if minus then not negative else negative) Body symbols rest → SignedFrom negative Body (symbol (Sign minus) place line ∷ symbols) rest
one_sign minus negative Body place line symbols rest s =
    (minus ∷ s.0, (s.1.0, (symbols, (refl, refl), s.1.1), subst (λ (b : Bool). Body b s.1.0 rest) (odd_from_sign minus negative s.0) s.1.2))

-- a term that a sign begins, and one that may be without
pub sign_begins : (is_first minus : Bool) (Body : Bool → Part) (place : Place) (line : Bool) (symbols rest : List Symbol)
    → SignedFrom (if minus then true else false) Body symbols rest → SignedTerm is_first Body (symbol (Sign minus) place line ∷ symbols) rest
unfolding one_sign
sign_begins is_first minus Body place line symbols rest s =
    let more = one_sign minus false Body place line symbols rest s in
    (minus ∷ s.0, inr (λ e. cc), more.1)

pub first_begins : (Body : Bool → Part) (symbols rest : List Symbol) → SignedFrom false Body symbols rest → SignedTerm true Body symbols rest
first_begins Body symbols rest s = (s.0, inl refl, s.1)

-- no row has begun, and no sign was read
pub record IsClean (draft : Draft) : Type 0 where
  pub terms : draft.terms ≡ []
  pub plain : draft.negative ≡ false

-- a number behind signs
abbrev pub number_body : Fraction → Bool → Part
number_body value negative symbols rest = (q : Fraction) × (value ≡ signed_by negative q) × Says (Number (Some q)) symbols rest

-- a section or END comes next
pub record SectionFollows (seen : Seen) (draft : Draft) (symbols : List Symbol) (end : Place) (ast : Ast) : Type 0 where
  pub first : Symbol
  pub rest : List Symbol
  pub parts : symbols ≡ first ∷ rest
  pub next : State
  pub moves : followed seen first.word ≡ Some next
  pub reads : read next draft rest end ≡ Ok ast
