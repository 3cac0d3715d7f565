-- What is read as a part of a bound is written so.
use Rattle.std.proofs.Common.{◌≡◌, Bool, false, List, [], ◌∷◌, ◌++◌, Option, Some, None, refl, sym, ap, subst, ◌∙◌, inl, inr}
use Rattle.std.specs.Prelude.{if◌then◌else◌, Ok}
use Rattle.qm_math.specs.Fraction.{Fraction}
use Rattle.qm_lex.specs.declared.place.Place.{Place}
use Rattle.qm_parse.specs.declared.ast.Ast.{Ast}
use Rattle.qm_parse.specs.declared.ast.AstBound.{AstBound}
use Rattle.qm_parse.specs.declared.ast.Relation.{Relation}
use Rattle.qm_parse.specs.declared.ast.Relation.TheVariants.{Less, Greater, Equal}
use Rattle.qm_parse.specs.declared.draft.Draft.{Draft}
use Rattle.qm_parse.specs.declared.stage.Seen.{Seen}
use Rattle.qm_parse.specs.declared.stage.Stage.TheVariants.{BoundSigned, BoundValue, BoundTurned, BoundNamed, BoundName, BoundRelation, BoundEnd}
use Rattle.qm_parse.specs.declared.word.Symbol.{Symbol}
use Rattle.qm_parse.specs.declared.word.Word.{Word}
use Rattle.qm_parse.specs.declared.word.Word.TheVariants.{Name, Number, Sign, Related, Infinite, Free}
use Rattle.qm_parse.specs.Drafts.{noted, bound_noted, bounded_noted, signed, signed_by, turned, turned_noted, value_by, with_bound, with_bounded, with_free, with_name, with_relation, with_turned, with_value}
use Rattle.qm_parse.specs.Parts.{◌then◌, Part, Either, NameAt, Says, Value}
use Rattle.qm_parse.specs.Reading.{finished, leaves, read}
use Rattle.qm_parse.specs.Stages.{may_end, moved, step}
use Rattle.qm_parse.proofs.WrittenSteps.{state, symbol, Goes, goes, goes_to, Past, past_before, past_one, SignedFrom, no_sign, one_sign, number_body}

-- the tree with further bounds
abbrev pub with_bounds : List AstBound → Ast → Ast
with_bounds bounds ast = record ast { bounds = ast.bounds ++ bounds }

-- further bounds, and nothing else
pub record AddsBounds (before : Draft) (items : List AstBound) (after : Draft) : Type 0 where
  pub ast : after.ast ≡ with_bounds items before.ast
  pub terms : after.terms ≡ before.terms
  pub plain : after.negative ≡ false

-- a number or an infinite value behind signs
abbrev pub value_body : Option Fraction → Bool → Part
value_body (Some value) = number_body value
value_body None = λ negative. Says Infinite

value_written : (value : Option Fraction) (symbols rest : List Symbol) → SignedFrom false (value_body value) symbols rest → Value value symbols rest
value_written (Some value) symbols rest s = s
value_written None symbols rest s = s

pub value_plain : (negative : Bool) (value : Option Fraction) (symbols rest : List Symbol) → negative ≡ false → SignedFrom negative (value_body value) symbols rest → Value value symbols rest
value_plain negative value symbols rest plain s = value_written value symbols rest (subst (λ (b : Bool). SignedFrom b (value_body value) symbols rest) plain s)

-- the value behind a name and a relation
abbrev pub bound_read_of : Option Fraction → Draft → AstBound
bound_read_of value draft = record { name = draft.name; relation = draft.relation; value = value; at = draft.at }

abbrev BehindFound : Draft → List Symbol → Draft → List Symbol → Type 0
BehindFound before symbols after rest =
    (value : Option Fraction) × SignedFrom before.negative (value_body value) symbols rest × AddsBounds before (bound_read_of value before ∷ []) after

behind_by_word : (word : Word) (place : Place) (line : Bool) (seen : Seen) (before : Draft) (symbols : List Symbol) (end : Place) (ast : Ast)
    → ((draft : Draft) → read (state BoundRelation seen) draft symbols end ≡ Ok ast → Past BoundEnd seen (BehindFound draft symbols) symbols end ast)
    → Goes BoundRelation seen before (symbol word place line) symbols end ast
    → Past BoundEnd seen (BehindFound before (symbol word place line ∷ symbols)) (symbol word place line ∷ symbols) end ast
unfolding moved step may_end noted bounded_noted signed leaves with_bounded with_bound value_by
behind_by_word (Sign minus) place line seen before symbols end ast again g =
    let first = symbol (Sign minus) place line in
    let next = signed minus before in
    past_before BoundEnd seen (BehindFound next symbols) (BehindFound before (first ∷ symbols)) first symbols end ast
    (again next (goes_to BoundRelation seen before first symbols end ast g (state BoundRelation seen) refl))
    (λ after rest f. (f.0, one_sign minus before.negative (value_body f.0) place line symbols rest f.1, record { ast = f.2.ast; terms = f.2.terms; plain = f.2.plain }))
behind_by_word (Number (Some value)) place line seen before symbols end ast again g =
    let first = symbol (Number (Some value)) place line in
    let right : Fraction = signed_by before.negative value in
    past_one BoundEnd seen (BehindFound before (first ∷ symbols)) (with_bounded (Some value) before) first symbols end ast
    (Some right, no_sign before.negative (value_body (Some right)) (first ∷ symbols) symbols (value, refl, (refl, refl)), record { ast = refl; terms = refl; plain = refl })
    (goes_to BoundRelation seen before first symbols end ast g (state BoundEnd seen) refl)
behind_by_word (Number None) place line seen before symbols end ast again g = absurd (let e = g.stays in cc)
behind_by_word Infinite place line seen before symbols end ast again g =
    let first = symbol Infinite place line in
    past_one BoundEnd seen (BehindFound before (first ∷ symbols)) (with_bounded None before) first symbols end ast
    (None, no_sign before.negative (value_body None) (first ∷ symbols) symbols (refl, refl), record { ast = refl; terms = refl; plain = refl })
    (goes_to BoundRelation seen before first symbols end ast g (state BoundEnd seen) refl)
behind_by_word word place line seen before symbols end ast again g = absurd (let e = g.moves in cc)

behind_read : (seen : Seen) (before : Draft) (symbols : List Symbol) (end : Place) (ast : Ast)
    → read (state BoundRelation seen) before symbols end ≡ Ok ast → Past BoundEnd seen (BehindFound before symbols) symbols end ast
unfolding read finished
behind_read seen before [] end ast e = absurd cc
behind_read seen before (first ∷ symbols) end ast e =
    behind_by_word first.word first.place first.begins_line seen before symbols end ast
    (λ draft r. behind_read seen draft symbols end ast r)
    (goes BoundRelation seen before first symbols end ast e)

-- a relation and a value behind a name
abbrev pub Compared : AstBound → Part
Compared bound = Says (Related bound.relation) then Value bound.value

abbrev pub ComparedFound : Draft → List Symbol → Draft → List Symbol → Type 0
ComparedFound before symbols after rest =
    (bound : AstBound) × (bound.name ≡ before.name) × (bound.at ≡ before.at) × Compared bound symbols rest × AddsBounds before (bound ∷ []) after

pub compared_read : (relation : Relation) (place : Place) (line : Bool) (seen : Seen) (before : Draft) (symbols : List Symbol) (end : Place) (ast : Ast)
    → before.negative ≡ false → read (state BoundRelation seen) (with_relation relation before) symbols end ≡ Ok ast
    → Past BoundEnd seen (ComparedFound before (symbol (Related relation) place line ∷ symbols)) (symbol (Related relation) place line ∷ symbols) end ast
unfolding with_relation
compared_read relation place line seen before symbols end ast plain e =
    let first = symbol (Related relation) place line in
    past_before BoundEnd seen (BehindFound (with_relation relation before) symbols) (ComparedFound before (first ∷ symbols)) first symbols end ast
    (behind_read seen (with_relation relation before) symbols end ast e)
    (λ after rest f. (
      record { name = before.name; relation = relation; value = f.0; at = before.at },
      refl,
      refl,
      (symbols, (refl, refl), value_plain before.negative f.0 symbols rest plain f.1),
      record { ast = f.2.ast; terms = f.2.terms; plain = f.2.plain },
    ))

-- behind a name: a relation and a value, or FREE
abbrev pub FreeTail : AstBound → Part
FreeTail bound symbols rest = (bound.relation ≡ Less) × (bound.value ≡ None) × Says Free symbols rest

abbrev NameFound : Draft → List Symbol → Draft → List Symbol → Type 0
NameFound before symbols after rest =
    (bound : AstBound) × (bound.name ≡ before.name) × (bound.at ≡ before.at) × Either (Compared bound) (FreeTail bound) symbols rest × AddsBounds before (bound ∷ []) after

name_by_word : (word : Word) (place : Place) (line : Bool) (seen : Seen) (before : Draft) (symbols : List Symbol) (end : Place) (ast : Ast)
    → before.negative ≡ false → Goes BoundName seen before (symbol word place line) symbols end ast
    → Past BoundEnd seen (NameFound before (symbol word place line ∷ symbols)) (symbol word place line ∷ symbols) end ast
unfolding moved step may_end noted bound_noted with_free with_bound
name_by_word (Related relation) place line seen before symbols end ast plain g =
    let first = symbol (Related relation) place line in
    let p = compared_read relation place line seen before symbols end ast plain (goes_to BoundName seen before first symbols end ast g (state BoundRelation seen) refl) in
    record { draft = p.draft; rest = p.rest; shorter = p.shorter; found = (p.found.0, p.found.1, p.found.2, inl p.found.3, p.found.4); reads = p.reads }
name_by_word Free place line seen before symbols end ast plain g =
    let first = symbol Free place line in
    let bound : AstBound = record { name = before.name; relation = Less; value = None; at = before.at } in
    past_one BoundEnd seen (NameFound before (first ∷ symbols)) (with_free before) first symbols end ast
    (bound, refl, refl, inr (refl, refl, (refl, refl)), record { ast = refl; terms = refl; plain = refl })
    (goes_to BoundName seen before first symbols end ast g (state BoundEnd seen) refl)
name_by_word word place line seen before symbols end ast plain g = absurd (let e = g.moves in cc)

pub name_read : (seen : Seen) (before : Draft) (symbols : List Symbol) (end : Place) (ast : Ast)
    → before.negative ≡ false → read (state BoundName seen) before symbols end ≡ Ok ast → Past BoundEnd seen (NameFound before symbols) symbols end ast
unfolding read finished
name_read seen before [] end ast plain e = absurd cc
name_read seen before (first ∷ symbols) end ast plain e =
    name_by_word first.word first.place first.begins_line seen before symbols end ast plain (goes BoundName seen before first symbols end ast e)

-- the value that begins a bound
pub record SetsValue (before : Draft) (given : Option Fraction) (after : Draft) : Type 0 where
  pub ast : after.ast ≡ before.ast
  pub terms : after.terms ≡ before.terms
  pub plain : after.negative ≡ false
  pub value : after.value ≡ given

abbrev pub FrontFound : Draft → List Symbol → Draft → List Symbol → Type 0
FrontFound before symbols after rest = (value : Option Fraction) × SignedFrom before.negative (value_body value) symbols rest × SetsValue before value after

pub front_by_word : (word : Word) (place : Place) (line : Bool) (seen : Seen) (before : Draft) (symbols : List Symbol) (end : Place) (ast : Ast)
    → ((draft : Draft) → read (state BoundSigned seen) draft symbols end ≡ Ok ast → Past BoundValue seen (FrontFound draft symbols) symbols end ast)
    → Goes BoundSigned seen before (symbol word place line) symbols end ast
    → Past BoundValue seen (FrontFound before (symbol word place line ∷ symbols)) (symbol word place line ∷ symbols) end ast
unfolding moved step may_end noted bound_noted signed leaves with_value value_by
front_by_word (Sign minus) place line seen before symbols end ast again g =
    let first = symbol (Sign minus) place line in
    let next = signed minus before in
    past_before BoundValue seen (FrontFound next symbols) (FrontFound before (first ∷ symbols)) first symbols end ast
    (again next (goes_to BoundSigned seen before first symbols end ast g (state BoundSigned seen) refl))
    (λ after rest f. (
      f.0,
      one_sign minus before.negative (value_body f.0) place line symbols rest f.1,
      record { ast = f.2.ast; terms = f.2.terms; plain = f.2.plain; value = f.2.value },
    ))
front_by_word (Number (Some value)) place line seen before symbols end ast again g =
    let first = symbol (Number (Some value)) place line in
    let left : Fraction = signed_by before.negative value in
    past_one BoundValue seen (FrontFound before (first ∷ symbols)) (with_value (Some value) before) first symbols end ast
    (Some left, no_sign before.negative (value_body (Some left)) (first ∷ symbols) symbols (value, refl, (refl, refl)), record { ast = refl; terms = refl; plain = refl; value = refl })
    (goes_to BoundSigned seen before first symbols end ast g (state BoundValue seen) refl)
front_by_word (Number None) place line seen before symbols end ast again g = absurd (let e = g.stays in cc)
front_by_word Infinite place line seen before symbols end ast again g =
    let first = symbol Infinite place line in
    past_one BoundValue seen (FrontFound before (first ∷ symbols)) (with_value None before) first symbols end ast
    (None, no_sign before.negative (value_body None) (first ∷ symbols) symbols (refl, refl), record { ast = refl; terms = refl; plain = refl; value = refl })
    (goes_to BoundSigned seen before first symbols end ast g (state BoundValue seen) refl)
front_by_word word place line seen before symbols end ast again g = absurd (let e = g.moves in cc)

pub front_read : (seen : Seen) (before : Draft) (symbols : List Symbol) (end : Place) (ast : Ast)
    → read (state BoundSigned seen) before symbols end ≡ Ok ast → Past BoundValue seen (FrontFound before symbols) symbols end ast
unfolding read finished
front_read seen before [] end ast e = absurd cc
front_read seen before (first ∷ symbols) end ast e =
    front_by_word first.word first.place first.begins_line seen before symbols end ast
    (λ draft r. front_read seen draft symbols end ast r)
    (goes BoundSigned seen before first symbols end ast e)

-- a relation and a name behind that value
pub turned_twice : (relation : Relation) → relation ≡ turned (turned relation)
unfolding turned
turned_twice Less = refl
turned_twice Greater = refl
turned_twice Equal = refl

-- the bound of that value, whose name is kept
pub record AddsTurned (before : Draft) (bound : AstBound) (after : Draft) : Type 0 where
  pub added : AddsBounds before (bound ∷ []) after
  pub name : after.name ≡ bound.name
  pub place : after.at ≡ bound.at

abbrev TurnedFound : Draft → List Symbol → Draft → List Symbol → Type 0
TurnedFound before symbols after rest =
    (bound : AstBound) × (bound.relation ≡ turned before.relation) × (bound.value ≡ before.value) × NameAt bound.name bound.at symbols rest × AddsTurned before bound after

turned_by_word : (word : Word) (place : Place) (line : Bool) (seen : Seen) (before : Draft) (symbols : List Symbol) (end : Place) (ast : Ast)
    → Goes BoundTurned seen before (symbol word place line) symbols end ast
    → Past BoundNamed seen (TurnedFound before (symbol word place line ∷ symbols)) (symbol word place line ∷ symbols) end ast
unfolding moved step may_end noted turned_noted with_turned with_name with_bound
turned_by_word (Name n labels) place line seen before symbols end ast g =
    let first = symbol (Name n labels) place line in
    let bound : AstBound = record { name = n; relation = turned before.relation; value = before.value; at = place } in
    past_one BoundNamed seen (TurnedFound before (first ∷ symbols)) (with_turned n place before) first symbols end ast
    (bound, refl, refl, ((labels, refl), refl, refl), record { added = record { ast = refl; terms = refl; plain = refl }; name = refl; place = refl })
    (goes_to BoundTurned seen before first symbols end ast g (state BoundNamed seen) refl)
turned_by_word word place line seen before symbols end ast g = absurd (let e = g.moves in cc)

turned_read : (seen : Seen) (before : Draft) (symbols : List Symbol) (end : Place) (ast : Ast)
    → read (state BoundTurned seen) before symbols end ≡ Ok ast → Past BoundNamed seen (TurnedFound before symbols) symbols end ast
unfolding read finished
turned_read seen before [] end ast e = absurd cc
turned_read seen before (first ∷ symbols) end ast e =
    turned_by_word first.word first.place first.begins_line seen before symbols end ast (goes BoundTurned seen before first symbols end ast e)

abbrev NamedFound : Draft → List Symbol → Draft → List Symbol → Type 0
NamedFound before symbols after rest =
    (bound : AstBound) × (bound.value ≡ before.value) × (Says (Related (turned bound.relation)) then NameAt bound.name bound.at) symbols rest × AddsTurned before bound after

value_by_word : (word : Word) (place : Place) (line : Bool) (seen : Seen) (before : Draft) (symbols : List Symbol) (end : Place) (ast : Ast)
    → Goes BoundValue seen before (symbol word place line) symbols end ast
    → Past BoundNamed seen (NamedFound before (symbol word place line ∷ symbols)) (symbol word place line ∷ symbols) end ast
unfolding moved step may_end noted bound_noted with_relation
value_by_word (Related relation) place line seen before symbols end ast g =
    let first = symbol (Related relation) place line in
    let next = with_relation relation before in
    past_before BoundNamed seen (TurnedFound next symbols) (NamedFound before (first ∷ symbols)) first symbols end ast
    (turned_read seen next symbols end ast (goes_to BoundValue seen before first symbols end ast g (state BoundTurned seen) refl))
    (λ after rest f. (
      f.0,
      f.2,
      (symbols, (ap (λ (r : Relation). Related r) (turned_twice relation ∙ ap turned (sym f.1)), refl), f.3),
      record { added = record { ast = f.4.added.ast; terms = f.4.added.terms; plain = f.4.added.plain }; name = f.4.name; place = f.4.place },
    ))
value_by_word word place line seen before symbols end ast g = absurd (let e = g.moves in cc)

pub value_read : (seen : Seen) (before : Draft) (symbols : List Symbol) (end : Place) (ast : Ast)
    → read (state BoundValue seen) before symbols end ≡ Ok ast → Past BoundNamed seen (NamedFound before symbols) symbols end ast
unfolding read finished
value_read seen before [] end ast e = absurd cc
value_read seen before (first ∷ symbols) end ast e =
    value_by_word first.word first.place first.begins_line seen before symbols end ast (goes BoundValue seen before first symbols end ast e)
