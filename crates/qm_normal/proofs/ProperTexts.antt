-- The numbers of a text are over positive denominators, where those of its symbols are.
use Rattle.std.proofs.Common.{◌≡◌, ℕ, Bool, true, false, List, [], ◌∷◌, inl, inr, Option, Some, None, refl, sym, subst}
use Rattle.std.specs.Prelude.{All, IfSome, fold}
use Rattle.std.specs.List.{flat_map}
use Rattle.std.proofs.lemmas.List.Elements.{All-append, All-cons, All-head, All-nil, All-tail}
use Rattle.qm_math.specs.Fraction.{Fraction, HasPositiveDen}
use Rattle.qm_lex.specs.declared.token.Keyword.{Keyword}
use Rattle.qm_lex.specs.declared.token.Keyword.TheVariants as keyword
use Rattle.qm_model.specs.declared.game.Sense.{Sense}
use Rattle.qm_model.specs.declared.game.Sense.TheVariants.{Max, Min}
use Rattle.qm_parse.specs.declared.ast.Ast.{Ast}
use Rattle.qm_parse.specs.declared.ast.AstBound.{AstBound}
use Rattle.qm_parse.specs.declared.ast.AstRow.{AstRow}
use Rattle.qm_parse.specs.declared.ast.AstTerm.{AstTerm}
use Rattle.qm_parse.specs.declared.ast.Named.{Named}
use Rattle.qm_parse.specs.declared.stage.NameList.{NameList}
use Rattle.qm_parse.specs.declared.stage.NameList.TheVariants.{Generals, Binaries, Exists, All as Universal, Order}
use Rattle.qm_parse.specs.declared.word.Symbol.{Symbol}
use Rattle.qm_parse.specs.declared.word.Word.TheVariants.{Number, Related, Colon, Keyword as Reserved, Infinite, Free}
use Rattle.qm_parse.specs.Drafts.{turned}
use Rattle.qm_parse.specs.Parts.{◌then◌, BoundOf, BoundBody, BoundEnds, Constant, Each, Either, FreeName, Further, Label, ListHeading, ListedName, Multiple, NameFirst, ObjectiveOf, ObjectiveTerm, OneBound, OneOf, OptionalLabel, Part, RowOf, RowEnds, RowTerm, RowsHeading, Says, SenseWord, SignedNumber, Terms, Value, ValueFirst}
use Rattle.qm_parse.specs.Reading.{empty_ast}
use Rattle.qm_parse.specs.Texts.{IsText, SectionOf, TextOf, Written, WrittenText, with_names, with_written}
use Rattle.qm_parse.specs.Texts.Written.{Uncertain, Bounded, Listed}
use Rattle.qm_parse.proofs.KnownRows.{second}
use Rattle.qm_normal.specs.Numbers.{HasProperNumbers, IsProperRow, IsProperTerm}
use Rattle.qm_normal.proofs.ProperParts.{AreProper, Given, Gives, first, gives-Each, gives-Either, gives-NameAt, gives-Nothing, gives-NumberAt, gives-Says, gives-Signed, gives-SignedNumber, gives-SignedTerm, gives-one, gives-then, signed_is}

-- ---- terms and rows

multiple_given : (term : AstTerm) (negative : Bool) (symbols rest : List Symbol) → AreProper symbols → Multiple term negative symbols rest → Given rest (IsProperTerm term)
multiple_given term negative symbols rest proper h =
    let said = (gives-then (gives-Either (gives-Says (Number (Some h.0))) (gives-one h.0)) (gives-NameAt h.1 term.at) first).given symbols rest proper h.4 in
    record { proper = said.proper; fact = signed_is negative h.0 term.coef h.3 said.fact }

gives-Multiple : (term : AstTerm) (negative : Bool) → Gives (Multiple term negative) (IsProperTerm term)
gives-Multiple term negative = record { given = multiple_given term negative }

constant_given : (term : AstTerm) (negative : Bool) (symbols rest : List Symbol) → AreProper symbols → Constant term negative symbols rest → Given rest (IsProperTerm term)
constant_given term negative symbols rest proper h =
    let said = (gives-NumberAt h.0 term.at).given symbols rest proper h.3 in
    record { proper = said.proper; fact = signed_is negative h.0 term.coef h.2 said.fact }

gives-Constant : (term : AstTerm) (negative : Bool) → Gives (Constant term negative) (IsProperTerm term)
gives-Constant term negative = record { given = constant_given term negative }

gives-ObjectiveTerm : (is_first : Bool) (term : AstTerm) → Gives (ObjectiveTerm is_first term) (IsProperTerm term)
gives-ObjectiveTerm is_first term =
    gives-SignedTerm is_first (λ negative. Either (Multiple term negative) (Constant term negative)) (λ negative. gives-Either (gives-Multiple term negative) (gives-Constant term negative))

gives-RowTerm : (is_first : Bool) (term : AstTerm) → Gives (RowTerm is_first term) (IsProperTerm term)
gives-RowTerm is_first term = gives-SignedTerm is_first (Multiple term) (gives-Multiple term)

gives-Terms : (Term : Bool → AstTerm → Part) → ((is_first : Bool) (term : AstTerm) → Gives (Term is_first term) (IsProperTerm term)) → (terms : List AstTerm) → Gives (Terms Term terms) (All IsProperTerm terms)
gives-Terms Term term_gives [] = record { given = λ symbols rest proper same. record { proper = subst AreProper same proper; fact = All-nil IsProperTerm } }
gives-Terms Term term_gives (term ∷ terms) =
    gives-then (term_gives true term) (gives-Each (Term false) IsProperTerm (term_gives false) terms) (λ a b. All-cons IsProperTerm term terms a b)

gives-Label : Gives Label (Unit {0})
gives-Label = record { given = λ symbols rest proper h. (gives-then (gives-NameAt h.0 h.1) (gives-Says Colon) second).given symbols rest proper h.2 }

gives-OptionalLabel : Gives OptionalLabel (Unit {0})
gives-OptionalLabel = gives-Either gives-Label gives-Nothing

gives-OneOf : (a b : Keyword) → Gives (OneOf a b) (Unit {0})
gives-OneOf a b = gives-Either (gives-Says (Reserved a)) (gives-Says (Reserved b))

gives-SenseWord : (sense : Sense) → Gives (SenseWord sense) (Unit {0})
gives-SenseWord Max = gives-OneOf keyword.Maximize keyword.Max
gives-SenseWord Min = gives-OneOf keyword.Minimize keyword.Min

gives-Objective : (terms : List AstTerm) → Gives (ObjectiveOf terms) (All IsProperTerm terms)
gives-Objective terms = gives-then gives-OptionalLabel (gives-Terms ObjectiveTerm gives-ObjectiveTerm terms) second

gives-RowsHeading : Gives RowsHeading (Unit {0})
gives-RowsHeading = gives-Either (gives-then (gives-Says (Reserved keyword.Subject)) (gives-Says (Reserved keyword.To)) second) (gives-Says (Reserved keyword.St))

row_end_given : (symbols rest : List Symbol) → AreProper symbols → RowEnds symbols rest → Given rest (Unit {0})
row_end_given [] rest proper same = record { proper = subst AreProper same proper; fact = tt }
row_end_given (symbol ∷ symbols) rest proper h = record { proper = subst AreProper h.1 proper; fact = tt }

gives-RowEnds : Gives RowEnds (Unit {0})
gives-RowEnds = record { given = row_end_given }

row_body_gives : (row : AstRow) → Gives (OptionalLabel then Terms RowTerm row.terms then Says (Related row.relation) then SignedNumber row.right then RowEnds) (IsProperRow row)
row_body_gives row =
    gives-then gives-OptionalLabel
    (gives-then (gives-Terms RowTerm gives-RowTerm row.terms)
    (gives-then (gives-Says (Related row.relation)) (gives-then (gives-SignedNumber row.right) gives-RowEnds first) second)
    (λ terms right. record { terms = terms; right = right }))
    second

gives-Row : (row : AstRow) → Gives (RowOf row) (IsProperRow row)
gives-Row row = record { given = λ symbols rest proper h. (row_body_gives row).given symbols rest proper h.2 }

gives-rows : (rows : List AstRow) → Gives (Each RowOf rows) (All IsProperRow rows)
gives-rows rows = gives-Each RowOf IsProperRow gives-Row rows

-- ---- bounds

abbrev IsProperBound : AstBound → Type 0
IsProperBound bound = IfSome bound.value HasPositiveDen

gives-Value : (value : Option Fraction) → Gives (Value value) (IfSome value HasPositiveDen)
gives-Value (Some value) = gives-SignedNumber value
gives-Value None = gives-Signed (λ negative. Says Infinite) (λ negative. gives-Says Infinite)

gives-NameFirst : (bound : AstBound) → Gives (NameFirst bound) (IsProperBound bound)
gives-NameFirst bound = gives-then (gives-NameAt bound.name bound.at) (gives-then (gives-Says (Related bound.relation)) (gives-Value bound.value) second) second

free_given : (bound : AstBound) (symbols rest : List Symbol) → AreProper symbols → FreeName bound symbols rest → Given rest (IsProperBound bound)
free_given bound symbols rest proper h =
    let said = (gives-then (gives-NameAt bound.name bound.at) (gives-Says Free) second).given symbols rest proper h.2 in
    record { proper = said.proper; fact = subst (λ (o : Option Fraction). IfSome o HasPositiveDen) (sym h.1) tt }

gives-FreeName : (bound : AstBound) → Gives (FreeName bound) (IsProperBound bound)
gives-FreeName bound = record { given = free_given bound }

gives-ValueFirst : (bound : AstBound) → Gives (ValueFirst bound) (IsProperBound bound)
gives-ValueFirst bound = gives-then (gives-Value bound.value) (gives-then (gives-Says (Related (turned bound.relation))) (gives-NameAt bound.name bound.at) second) first

gives-Further : (before bound : AstBound) → Gives (Further before bound) (IsProperBound bound)
gives-Further before bound = record {
  given = λ symbols rest proper h. (gives-then (gives-Says (Related bound.relation)) (gives-Value bound.value) second).given symbols rest proper h.2;
}

gives-OneBound : (bound : AstBound) → Gives (OneBound bound) (IsProperBound bound)
gives-OneBound bound = gives-Either (gives-NameFirst bound) (gives-Either (gives-FreeName bound) (gives-ValueFirst bound))

one_proper : (bounds : List AstBound) (bound : AstBound) → bounds ≡ bound ∷ [] → IsProperBound bound → All IsProperBound bounds
one_proper bounds bound are proper = subst (All IsProperBound) (sym are) (All-cons IsProperBound bound [] proper (All-nil IsProperBound))

two_proper : (bounds : List AstBound) (bound further : AstBound) → bounds ≡ bound ∷ further ∷ [] → IsProperBound bound → IsProperBound further → All IsProperBound bounds
two_proper bounds bound further are proper more = subst (All IsProperBound) (sym are) (All-cons IsProperBound bound (further ∷ []) proper (one_proper (further ∷ []) further refl more))

body_given : (bounds : List AstBound) (symbols rest : List Symbol) → AreProper symbols → BoundBody bounds symbols rest → Given rest (All IsProperBound bounds)
body_given bounds symbols rest proper (inl h) =
    let said = (gives-OneBound h.0).given symbols rest proper h.2 in record { proper = said.proper; fact = one_proper bounds h.0 h.1 said.fact }
body_given bounds symbols rest proper (inr h) =
    (gives-then (gives-ValueFirst h.0) (gives-Further h.0 h.1) (two_proper bounds h.0 h.1 h.2)).given symbols rest proper h.3

bound_end_given : (symbols rest : List Symbol) → AreProper symbols → BoundEnds symbols rest → Given rest (Unit {0})
bound_end_given [] rest proper same = record { proper = subst AreProper same proper; fact = tt }
bound_end_given (symbol ∷ symbols) rest proper h = record { proper = subst AreProper h.1 proper; fact = tt }

gives-BoundBody : (bounds : List AstBound) → Gives (BoundBody bounds) (All IsProperBound bounds)
gives-BoundBody bounds = record { given = body_given bounds }

gives-BoundEnds : Gives BoundEnds (Unit {0})
gives-BoundEnds = record { given = bound_end_given }

gives-Bound : (bounds : List AstBound) → Gives (BoundOf bounds) (All IsProperBound bounds)
gives-Bound bounds = gives-then (gives-BoundBody bounds) gives-BoundEnds first

-- ---- sections and texts

gives-ListHeading : (list : NameList) → Gives (ListHeading list) (Unit {0})
gives-ListHeading Generals = gives-OneOf keyword.Generals keyword.General
gives-ListHeading Binaries = gives-OneOf keyword.Binaries keyword.Binary
gives-ListHeading Exists = gives-Says (Reserved keyword.Exists)
gives-ListHeading Universal = gives-Says (Reserved keyword.All)
gives-ListHeading Order = gives-Says (Reserved keyword.Order)

gives-names : (names : List Named) → Gives (Each ListedName names) (All (λ _. Unit {0}) names)
gives-names names = gives-Each ListedName (λ _. Unit {0}) (λ named. gives-NameAt named.name named.at) names

abbrev IsProperSection : Written → Type 0
IsProperSection (Uncertain rows) = All IsProperRow rows
IsProperSection (Bounded bounds) = All (All IsProperBound) bounds
IsProperSection (Listed list names) = All (λ _. Unit {0}) names

gives-SectionOf : (written : Written) → Gives (SectionOf written) (IsProperSection written)
gives-SectionOf (Uncertain rows) = gives-then (gives-Says (Reserved keyword.Uncertainty)) (gives-then gives-RowsHeading (gives-rows rows) second) second
gives-SectionOf (Bounded bounds) = gives-then (gives-Says (Reserved keyword.Bounds)) (gives-Each BoundOf (All IsProperBound) gives-Bound bounds) second
gives-SectionOf (Listed list names) = gives-then (gives-ListHeading list) (gives-names names) second

record IsProperText (text : WrittenText) : Type 0 where
  objective : All IsProperTerm text.objective
  rows : All IsProperRow text.rows
  sections : All IsProperSection text.sections

gives-sections : (sections : List Written) → Gives (Each SectionOf sections then Says (Reserved keyword.End)) (All IsProperSection sections)
gives-sections sections = gives-then (gives-Each SectionOf IsProperSection gives-SectionOf sections) (gives-Says (Reserved keyword.End)) first

gives-TextOf : (text : WrittenText) → Gives (TextOf text) (IsProperText text)
gives-TextOf text =
    gives-then (gives-SenseWord text.sense)
    (gives-then {Q = All IsProperRow text.rows × All IsProperSection text.sections} (gives-Objective text.objective)
    (gives-then gives-RowsHeading (gives-then (gives-rows text.rows) (gives-sections text.sections) (λ rows sections. (rows, sections))) second)
    (λ objective behind. record { objective = objective; rows = behind.0; sections = behind.1 }))
    second

all_joined : (lists : List (List AstBound)) → All (All IsProperBound) lists → All IsProperBound (flat_map (λ list. list) lists)
all_joined [] all = All-nil IsProperBound
all_joined (list ∷ lists) all = All-append IsProperBound list _ (All-head (All IsProperBound) list lists all) (all_joined lists (All-tail (All IsProperBound) list lists all))

with_names_proper : (list : NameList) (names : List Named) (ast : Ast) → HasProperNumbers ast → HasProperNumbers (with_names list names ast)
with_names_proper Generals names ast p = record { objective = p.objective; rows = p.rows; uncertain = p.uncertain; bounds = p.bounds }
with_names_proper Binaries names ast p = record { objective = p.objective; rows = p.rows; uncertain = p.uncertain; bounds = p.bounds }
with_names_proper Exists names ast p = record { objective = p.objective; rows = p.rows; uncertain = p.uncertain; bounds = p.bounds }
with_names_proper Universal names ast p = record { objective = p.objective; rows = p.rows; uncertain = p.uncertain; bounds = p.bounds }
with_names_proper Order names ast p = record { objective = p.objective; rows = p.rows; uncertain = p.uncertain; bounds = p.bounds }

with_written_proper : (ast : Ast) (written : Written) → IsProperSection written → HasProperNumbers ast → HasProperNumbers (with_written ast written)
with_written_proper ast (Uncertain rows) is p = record { objective = p.objective; rows = p.rows; uncertain = is; bounds = p.bounds }
with_written_proper ast (Bounded bounds) is p = record { objective = p.objective; rows = p.rows; uncertain = p.uncertain; bounds = all_joined bounds is }
with_written_proper ast (Listed list names) is p = with_names_proper list names ast p

sections_proper : (ast : Ast) (sections : List Written) → All IsProperSection sections → HasProperNumbers ast → HasProperNumbers (fold with_written ast sections)
sections_proper ast [] all p = p
sections_proper ast (written ∷ sections) all p =
    sections_proper (with_written ast written) sections (All-tail IsProperSection written sections all) (with_written_proper ast written (All-head IsProperSection written sections all) p)

front_proper : (names : List (List ℕ)) (text : WrittenText) → IsProperText text → HasProperNumbers (record (empty_ast names) { sense = text.sense; objective = text.objective; rows = text.rows })
unfolding empty_ast
front_proper names text p = record { objective = p.objective; rows = p.rows; uncertain = All-nil IsProperRow; bounds = All-nil IsProperBound }

pub text_proper : (names : List (List ℕ)) (symbols : List Symbol) (ast : Ast) → AreProper symbols → IsText names symbols ast → HasProperNumbers ast
text_proper names symbols ast proper text =
    let said = ((gives-TextOf text.text).given symbols [] proper text.spelled).fact in
    subst HasProperNumbers (sym text.tree) (sections_proper _ text.text.sections said.sections (front_proper names text.text said))
