-- The rows of a text have multiples of variables alone, and its tree has the names of the text.
use Rattle.std.proofs.Common.{◌≡◌, ◌≢◌, ℕ, Bool, true, false, List, [], ◌∷◌, Some, None, refl, sym, ◌∙◌, subst}
use Rattle.std.specs.Prelude.{All, fold}
use Rattle.std.proofs.lemmas.List.Elements.{All-cons, All-head, All-nil, All-tail}
use Rattle.qm_parse.specs.declared.ast.Ast.{Ast}
use Rattle.qm_parse.specs.declared.ast.AstRow.{AstRow}
use Rattle.qm_parse.specs.declared.ast.AstTerm.{AstTerm}
use Rattle.qm_parse.specs.declared.ast.Named.{Named}
use Rattle.qm_parse.specs.declared.stage.NameList.{NameList}
use Rattle.qm_parse.specs.declared.stage.NameList.TheVariants.{Generals, Binaries, Exists, All as Universal, Order}
use Rattle.qm_parse.specs.declared.word.Symbol.{Symbol}
use Rattle.qm_parse.specs.Parts.{Each, Part, RowOf, RowTerm, Terms}
use Rattle.qm_parse.specs.Reading.{empty_ast}
use Rattle.qm_parse.specs.Texts.{IsText, SectionOf, Written, WrittenText, with_names, with_written}
use Rattle.qm_parse.specs.Texts.Written.{Uncertain, Bounded, Listed}
use Rattle.qm_normal.specs.Meaning.{HasNoConstant}

abbrev IsNamed : AstTerm → Type 0
IsNamed term = term.name ≢ None

-- what each item says
each_says : {A : Type 0} (P : A → Type 0) (Item : A → Part) → ((item : A) (symbols rest : List Symbol) → Item item symbols rest → P item)
    → (items : List A) (symbols rest : List Symbol) → Each Item items symbols rest → All P items
each_says P Item says [] symbols rest h = All-nil P
each_says P Item says (item ∷ items) symbols rest h = All-cons P item items (says item symbols h.0 h.1) (each_says P Item says items h.0 rest h.2)

term_named : (is_first : Bool) (term : AstTerm) (symbols rest : List Symbol) → RowTerm is_first term symbols rest → IsNamed term
term_named is_first term symbols rest h = λ none. absurd (let e : Some h.2.2.1 ≡ None = sym h.2.2.2 ∙ none in cc)

terms_named : (terms : List AstTerm) (symbols rest : List Symbol) → Terms RowTerm terms symbols rest → All IsNamed terms
terms_named [] symbols rest h = All-nil IsNamed
terms_named (term ∷ terms) symbols rest h =
    All-cons IsNamed term terms (term_named true term symbols h.0 h.1) (each_says IsNamed (RowTerm false) (term_named false) terms h.0 rest h.2)

row_plain : (row : AstRow) (symbols rest : List Symbol) → RowOf row symbols rest → HasNoConstant row
row_plain row symbols rest h = terms_named row.terms h.2.0 h.2.2.0 h.2.2.1

rows_plain : (rows : List AstRow) (symbols rest : List Symbol) → Each RowOf rows symbols rest → All HasNoConstant rows
rows_plain rows symbols rest h = each_says HasNoConstant RowOf row_plain rows symbols rest h

abbrev IsPlain : Written → Type 0
IsPlain (Uncertain rows) = All HasNoConstant rows
IsPlain (Bounded bounds) = Unit {0}
IsPlain (Listed list names) = Unit {0}

section_plain : (written : Written) (symbols rest : List Symbol) → SectionOf written symbols rest → IsPlain written
section_plain (Uncertain rows) symbols rest h = rows_plain rows h.2.0 rest h.2.2
section_plain (Bounded bounds) symbols rest h = tt
section_plain (Listed list names) symbols rest h = tt

-- both kinds of rows are so, and these are the names
pub record IsPlainTree (all : List (List ℕ)) (ast : Ast) : Type 0 where
  pub names : ast.names ≡ all
  pub rows : All HasNoConstant ast.rows
  pub uncertain : All HasNoConstant ast.uncertain

with_names_plain : (all : List (List ℕ)) (list : NameList) (names : List Named) (ast : Ast) → IsPlainTree all ast → IsPlainTree all (with_names list names ast)
with_names_plain all Generals names ast plain = record { names = plain.names; rows = plain.rows; uncertain = plain.uncertain }
with_names_plain all Binaries names ast plain = record { names = plain.names; rows = plain.rows; uncertain = plain.uncertain }
with_names_plain all Exists names ast plain = record { names = plain.names; rows = plain.rows; uncertain = plain.uncertain }
with_names_plain all Universal names ast plain = record { names = plain.names; rows = plain.rows; uncertain = plain.uncertain }
with_names_plain all Order names ast plain = record { names = plain.names; rows = plain.rows; uncertain = plain.uncertain }

with_written_plain : (all : List (List ℕ)) (ast : Ast) (written : Written) → IsPlain written → IsPlainTree all ast → IsPlainTree all (with_written ast written)
with_written_plain all ast (Uncertain rows) is plain = record { names = plain.names; rows = plain.rows; uncertain = is }
with_written_plain all ast (Bounded bounds) is plain = record { names = plain.names; rows = plain.rows; uncertain = plain.uncertain }
with_written_plain all ast (Listed list names) is plain = with_names_plain all list names ast plain

sections_plain : (all : List (List ℕ)) (ast : Ast) (sections : List Written) → All IsPlain sections → IsPlainTree all ast → IsPlainTree all (fold with_written ast sections)
sections_plain all ast [] each plain = plain
sections_plain all ast (written ∷ sections) each plain =
    sections_plain all (with_written ast written) sections (All-tail IsPlain written sections each) (with_written_plain all ast written (All-head IsPlain written sections each) plain)

front_plain : (names : List (List ℕ)) (text : WrittenText) → All HasNoConstant text.rows → IsPlainTree names (record (empty_ast names) { sense = text.sense; objective = text.objective; rows = text.rows })
unfolding empty_ast
front_plain names text rows = record { names = refl; rows = rows; uncertain = All-nil HasNoConstant }

pub text_plain : (names : List (List ℕ)) (symbols : List Symbol) (ast : Ast) → IsText names symbols ast → IsPlainTree names ast
text_plain names symbols ast text =
    let behind_sense = text.spelled.2 in
    let behind_objective = behind_sense.2 in
    let behind_heading = behind_objective.2 in
    let rows = rows_plain text.text.rows behind_objective.0 behind_heading.0 behind_heading.1 in
    let sections = each_says IsPlain SectionOf section_plain text.text.sections behind_heading.0 behind_heading.2.0 behind_heading.2.1 in
    subst (IsPlainTree names) (sym text.tree) (sections_plain names _ text.text.sections sections (front_plain names text.text rows))
