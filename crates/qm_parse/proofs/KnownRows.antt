-- What terms and rows of a text say, where the names among its symbols are known.
use Rattle.std.proofs.Common.{◌≡◌, ℕ, ◌<◌, Bool, true, false, List, [], ◌∷◌, Option, Some, None, subst, sym}
use Rattle.std.specs.Prelude.{All, IfSome}
use Rattle.std.proofs.lemmas.List.Elements.{All-cons, All-nil}
use Rattle.qm_math.specs.Fraction.{Fraction}
use Rattle.qm_lex.specs.declared.token.Keyword.{Keyword}
use Rattle.qm_lex.specs.declared.token.Keyword.TheVariants as keyword
use Rattle.qm_model.specs.declared.game.Sense.{Sense}
use Rattle.qm_model.specs.declared.game.Sense.TheVariants.{Max, Min}
use Rattle.qm_parse.specs.declared.ast.AstRow.{AstRow}
use Rattle.qm_parse.specs.declared.ast.AstTerm.{AstTerm}
use Rattle.qm_parse.specs.declared.word.Symbol.{Symbol}
use Rattle.qm_parse.specs.declared.word.Word.TheVariants.{Number, Sign, Related, Colon, Keyword as Reserved}
use Rattle.qm_parse.specs.Drafts.{one}
use Rattle.qm_parse.specs.Known.{AreKnown, AreRowsBelow, AreTermsBelow, IsTermBelow}
use Rattle.qm_parse.specs.Parts.{◌then◌, Constant, Each, Either, Label, Multiple, ObjectiveOf, ObjectiveTerm, OneOf, OptionalLabel, Part, RowOf, RowEnds, RowTerm, RowsHeading, Says, SenseWord, SignOf, Signed, SignedNumber, SignedTerm, Terms}
use Rattle.qm_parse.proofs.KnownParts.{Given, Gives, gives-Each, gives-Either, gives-NameAt, gives-Nothing, gives-NothingIf, gives-NumberAt, gives-Says, gives-then}
use Rattle.qm_parse.proofs.WrittenSteps.{number_body}

-- the fact of the part behind
pub second : {A : Type 0} {B : Type 0} → A → B → B
second a b = b

-- signs say nothing of names
signs-give : (n : ℕ) (signs : List Bool) → Gives n (Each SignOf signs) (All (λ _. Unit) signs)
signs-give n signs = gives-Each n SignOf (λ _. Unit) (λ minus. gives-Says n (Sign minus)) signs

-- what stands behind signs
pub gives-Signed : {Fact : Type 0} (n : ℕ) (Body : Bool → Part) → ((negative : Bool) → Gives n (Body negative) Fact) → Gives n (Signed Body) Fact
gives-Signed n Body body = record {
  given = λ symbols rest known h. (gives-then (signs-give n h.0) (body _) second).given symbols rest known h.1;
}

gives-SignedTerm : {Fact : Type 0} (n : ℕ) (is_first : Bool) (Body : Bool → Part) → ((negative : Bool) → Gives n (Body negative) Fact) → Gives n (SignedTerm is_first Body) Fact
gives-SignedTerm n is_first Body body = record {
  given = λ symbols rest known h. (gives-then (signs-give n h.0) (body _) second).given symbols rest known h.2;
}

named_below : (n name : ℕ) (o : Option ℕ) → o ≡ Some name → name < n → IfSome o (λ name. name < n)
named_below n name o is below = subst (λ (o : Option ℕ). IfSome o (λ name. name < n)) (sym is) below

unnamed_below : (n : ℕ) (o : Option ℕ) → o ≡ None → IfSome o (λ name. name < n)
unnamed_below n o is = subst (λ (o : Option ℕ). IfSome o (λ name. name < n)) (sym is) tt

gives-Multiple : (n : ℕ) (term : AstTerm) (negative : Bool) → Gives n (Multiple term negative) (IsTermBelow n term)
gives-Multiple n term negative = record {
  given = λ symbols rest known h.
      (gives-then (gives-Either (gives-Says n (Number (Some h.0))) (gives-NothingIf n (h.0 ≡ one))) (gives-NameAt n h.1 term.at)
      (λ _ below. named_below n h.1 term.name h.2 below)).given symbols rest known h.4;
}

constant_given : {n : ℕ} {rest : List Symbol} (term : AstTerm) → term.name ≡ None → Given n rest Unit → Given n rest (IsTermBelow n term)
constant_given {n} term none given = record { known = given.known; fact = unnamed_below n term.name none }

gives-Constant : (n : ℕ) (term : AstTerm) (negative : Bool) → Gives n (Constant term negative) (IsTermBelow n term)
gives-Constant n term negative = record {
  given = λ symbols rest known h. constant_given term h.1 ((gives-NumberAt n h.0 term.at).given symbols rest known h.3);
}

gives-ObjectiveTerm : (n : ℕ) (is_first : Bool) (term : AstTerm) → Gives n (ObjectiveTerm is_first term) (IsTermBelow n term)
gives-ObjectiveTerm n is_first term =
    gives-SignedTerm n is_first (λ negative. Either (Multiple term negative) (Constant term negative))
    (λ negative. gives-Either (gives-Multiple n term negative) (gives-Constant n term negative))

gives-RowTerm : (n : ℕ) (is_first : Bool) (term : AstTerm) → Gives n (RowTerm is_first term) (IsTermBelow n term)
gives-RowTerm n is_first term = gives-SignedTerm n is_first (Multiple term) (gives-Multiple n term)

gives-Terms : (n : ℕ) (Term : Bool → AstTerm → Part) → ((is_first : Bool) (term : AstTerm) → Gives n (Term is_first term) (IsTermBelow n term))
    → (terms : List AstTerm) → Gives n (Terms Term terms) (AreTermsBelow n terms)
gives-Terms n Term term_gives [] = record { given = λ symbols rest known same. record { known = subst (AreKnown n) same known; fact = All-nil (IsTermBelow n) } }
gives-Terms n Term term_gives (term ∷ terms) =
    gives-then (term_gives true term) (gives-Each n (Term false) (IsTermBelow n) (term_gives false) terms) (λ a b. All-cons (IsTermBelow n) term terms a b)

gives-Label : (n : ℕ) → Gives n Label Unit
gives-Label n = record {
  given = λ symbols rest known h. (gives-then (gives-NameAt n h.0 h.1) (gives-Says n Colon) second).given symbols rest known h.2;
}

gives-OptionalLabel : (n : ℕ) → Gives n OptionalLabel Unit
gives-OptionalLabel n = gives-Either (gives-Label n) (gives-Nothing n)

pub gives-OneOf : (n : ℕ) (one other : Keyword) → Gives n (OneOf one other) Unit
gives-OneOf n one other = gives-Either (gives-Says n (Reserved one)) (gives-Says n (Reserved other))

pub gives-SenseWord : (n : ℕ) (sense : Sense) → Gives n (SenseWord sense) Unit
gives-SenseWord n Max = gives-OneOf n keyword.Maximize keyword.Max
gives-SenseWord n Min = gives-OneOf n keyword.Minimize keyword.Min

pub gives-Objective : (n : ℕ) (terms : List AstTerm) → Gives n (ObjectiveOf terms) (AreTermsBelow n terms)
gives-Objective n terms = gives-then (gives-OptionalLabel n) (gives-Terms n ObjectiveTerm (gives-ObjectiveTerm n) terms) second

pub gives-RowsHeading : (n : ℕ) → Gives n RowsHeading Unit
gives-RowsHeading n =
    gives-Either (gives-then (gives-Says n (Reserved keyword.Subject)) (gives-Says n (Reserved keyword.To)) second) (gives-Says n (Reserved keyword.St))

gives-number_body : (n : ℕ) (value : Fraction) (negative : Bool) → Gives n (number_body value negative) Unit
gives-number_body n value negative = record { given = λ symbols rest known h. (gives-Says n (Number (Some h.0))).given symbols rest known h.2 }

pub gives-SignedNumber : (n : ℕ) (value : Fraction) → Gives n (SignedNumber value) Unit
gives-SignedNumber n value = gives-Signed n (number_body value) (gives-number_body n value)

row_end_given : (n : ℕ) (symbols rest : List Symbol) → AreKnown n symbols → RowEnds symbols rest → Given n rest Unit
row_end_given n [] rest known same = record { known = subst (AreKnown n) same known; fact = tt }
row_end_given n (symbol ∷ symbols) rest known h = record { known = subst (AreKnown n) h.1 known; fact = tt }

gives-RowEnds : (n : ℕ) → Gives n RowEnds Unit
gives-RowEnds n = record { given = row_end_given n }

row_body_gives : (n : ℕ) (row : AstRow) → Gives n (OptionalLabel then Terms RowTerm row.terms then Says (Related row.relation) then SignedNumber row.right then RowEnds) (AreTermsBelow n row.terms)
row_body_gives n row =
    gives-then (gives-OptionalLabel n)
    (gives-then (gives-Terms n RowTerm (gives-RowTerm n) row.terms)
    (gives-then (gives-Says n (Related row.relation)) (gives-then (gives-SignedNumber n row.right) (gives-RowEnds n) second) second)
    (λ below _. below))
    second

gives-Row : (n : ℕ) (row : AstRow) → Gives n (RowOf row) (AreTermsBelow n row.terms)
gives-Row n row = record { given = λ symbols rest known h. (row_body_gives n row).given symbols rest known h.2 }

pub gives-rows : (n : ℕ) (rows : List AstRow) → Gives n (Each RowOf rows) (AreRowsBelow n rows)
gives-rows n rows = gives-Each n RowOf (λ row. AreTermsBelow n row.terms) (gives-Row n) rows
