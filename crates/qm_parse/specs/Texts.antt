-- Which symbols are a text, and what it says.
use Rattle.std.specs.Prelude.{◌≡◌, ◌≢◌, ℕ, Bool, true, false, List, [], ◌∷◌, ◌⊎◌, AllPairs, Contains, map, fold}
use Rattle.std.specs.List.{flat_map}
use Rattle.qm_lex.specs.declared.token.Keyword.TheVariants as keyword
use Rattle.qm_model.specs.declared.game.Sense.{Sense}
use Rattle.qm_parse.specs.declared.ast.Ast.{Ast}
use Rattle.qm_parse.specs.declared.ast.AstBound.{AstBound}
use Rattle.qm_parse.specs.declared.ast.AstRow.{AstRow}
use Rattle.qm_parse.specs.declared.ast.AstTerm.{AstTerm}
use Rattle.qm_parse.specs.declared.ast.Named.{Named}
use Rattle.qm_parse.specs.declared.stage.NameList.{NameList}
use Rattle.qm_parse.specs.declared.stage.NameList.TheVariants.{Generals, Binaries, Exists, All, Order}
use Rattle.qm_parse.specs.declared.stage.Section.{Section}
use Rattle.qm_parse.specs.declared.stage.Section.TheVariants as section
use Rattle.qm_parse.specs.declared.word.Symbol.{Symbol}
use Rattle.qm_parse.specs.declared.word.Word.TheVariants.{Name, Colon, Keyword as Reserved}
use Rattle.qm_parse.specs.Parts.{◌then◌, BoundOf, Each, ListHeading, ListedName, ObjectiveOf, Part, RowOf, RowsHeading, Says, SenseWord}
use Rattle.qm_parse.specs.Reading.{empty_ast}

-- what a section holds
pub data Written : Type 0 where
  Uncertain : List AstRow → Written
  Bounded : List (List AstBound) → Written
  Listed : NameList → List Named → Written

-- which section it is
abbrev pub section_written : Written → Section
section_written (Uncertain rows) = section.Uncertainty
section_written (Bounded bounds) = section.Bounds
section_written (Listed list names) = section.Names list

-- its heading, and what it holds
abbrev pub SectionOf : Written → Part
SectionOf (Uncertain rows) = Says (Reserved keyword.Uncertainty) then RowsHeading then Each RowOf rows
SectionOf (Bounded bounds) = Says (Reserved keyword.Bounds) then Each BoundOf bounds
SectionOf (Listed list names) = ListHeading list then Each ListedName names

-- the sections, each once at most, and ORDER among them
pub record AreSections (sections : List Written) : Type 0 where
  pub once : AllPairs (λ one other. section_written one ≢ section_written other) sections
  pub ordered : Contains (map section_written sections) (section.Names Order)

-- all that a text says, in its order
pub record WrittenText : Type 0 where
  pub sense : Sense
  pub objective : List AstTerm
  pub rows : List AstRow
  pub sections : List Written

-- the parts of a text, one behind the other
abbrev pub TextOf : WrittenText → Part
TextOf text =
    SenseWord text.sense then ObjectiveOf text.objective then RowsHeading then Each RowOf text.rows
    then Each SectionOf text.sections then Says (Reserved keyword.End)

-- the tree with what a list of names holds
abbrev pub with_names : NameList → List Named → Ast → Ast
with_names Generals names ast = record ast { generals = names }
with_names Binaries names ast = record ast { binaries = names }
with_names Exists names ast = record ast { existential = names }
with_names All names ast = record ast { universal = names }
with_names Order names ast = record ast { order = names }

-- the tree with what a section holds
abbrev pub with_written : Ast → Written → Ast
with_written ast (Uncertain rows) = record ast { uncertain = rows }
with_written ast (Bounded bounds) = record ast { bounds = flat_map (λ bound. bound) bounds }
with_written ast (Listed list names) = with_names list names ast

-- the syntax tree of what a text says
abbrev pub ast_of : List (List ℕ) → WrittenText → Ast
ast_of names text =
    fold with_written
    (record (empty_ast names) { sense = text.sense; objective = text.objective; rows = text.rows })
    text.sections

-- The symbols are a text, from the first to the last, and this is its syntax tree. The names are those that the numbers stand for.
pub record IsText (names : List (List ℕ)) (symbols : List Symbol) (ast : Ast) : Type 0 where
  pub text : WrittenText
  pub spelled : TextOf text symbols []
  pub sections : AreSections text.sections
  pub tree : ast ≡ ast_of names text

-- a colon stands first
abbrev pub is_colon_next : List Symbol → Type 0
is_colon_next [] = ⊥
is_colon_next (symbol ∷ symbols) = symbol.word ≡ Colon

-- a name knows whether a colon follows it
abbrev pub KnowsColon : Symbol → List Symbol → Type 0
KnowsColon symbol symbols =
    (n : ℕ) (labels : Bool) → symbol.word ≡ Name n labels →
    ((labels ≡ true) × is_colon_next symbols) ⊎ ((labels ≡ false) × ¬ is_colon_next symbols)

-- each name does
abbrev pub KnowColons : List Symbol → Type 0
KnowColons [] = Unit
KnowColons (symbol ∷ symbols) = KnowsColon symbol symbols × KnowColons symbols
