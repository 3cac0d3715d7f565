-- What a text says, where the names among its symbols are known.
use Rattle.std.proofs.Common.{ℕ, ◌<◌, List, [], ◌∷◌, subst, sym}
use Rattle.std.specs.Prelude.{All, fold}
use Rattle.std.specs.List.{flat_map}
use Rattle.std.proofs.lemmas.List.Elements.{All-append, All-head, All-nil, All-tail}
use Rattle.qm_lex.specs.declared.token.Keyword.TheVariants as keyword
use Rattle.qm_parse.specs.declared.ast.Ast.{Ast}
use Rattle.qm_parse.specs.declared.ast.AstRow.{AstRow}
use Rattle.qm_parse.specs.declared.ast.Named.{Named}
use Rattle.qm_parse.specs.declared.stage.NameList.{NameList}
use Rattle.qm_parse.specs.declared.stage.NameList.TheVariants.{Generals, Binaries, Exists, All as Universal, Order}
use Rattle.qm_parse.specs.declared.word.Symbol.{Symbol}
use Rattle.qm_parse.specs.declared.word.Word.TheVariants.{Keyword as Reserved}
use Rattle.qm_parse.specs.Known.{AreBoundsBelow, AreKnown, AreNamesBelow, AreRowsBelow, AreTermsBelow, HasNumbersBelow}
use Rattle.qm_parse.specs.Parts.{◌then◌, BoundOf, Each, ListHeading, ListedName, Says}
use Rattle.qm_parse.specs.Reading.{empty_ast}
use Rattle.qm_parse.specs.Texts.{IsText, SectionOf, TextOf, Written, WrittenText, with_names, with_written}
use Rattle.qm_parse.specs.Texts.Written.{Uncertain, Bounded, Listed}
use Rattle.qm_parse.proofs.KnownParts.{Gives, gives-Each, gives-NameAt, gives-Says, gives-then}
use Rattle.qm_parse.proofs.KnownRows.{second, gives-OneOf, gives-SenseWord, gives-Objective, gives-RowsHeading, gives-rows}
use Rattle.qm_parse.proofs.KnownBounds.{BoundBelow, gives-Bound}

gives-ListHeading : (n : ℕ) (list : NameList) → Gives n (ListHeading list) Unit
gives-ListHeading n Generals = gives-OneOf n keyword.Generals keyword.General
gives-ListHeading n Binaries = gives-OneOf n keyword.Binaries keyword.Binary
gives-ListHeading n Exists = gives-Says n (Reserved keyword.Exists)
gives-ListHeading n Universal = gives-Says n (Reserved keyword.All)
gives-ListHeading n Order = gives-Says n (Reserved keyword.Order)

gives-names : (n : ℕ) (names : List Named) → Gives n (Each ListedName names) (AreNamesBelow n names)
gives-names n names = gives-Each n ListedName (λ named. named.name < n) (λ named. gives-NameAt n named.name named.at) names

-- the numbers of names in what a section holds
abbrev SectionBelow : ℕ → Written → Type 0
SectionBelow n (Uncertain rows) = AreRowsBelow n rows
SectionBelow n (Bounded bounds) = All (AreBoundsBelow n) bounds
SectionBelow n (Listed list names) = AreNamesBelow n names

gives-SectionOf : (n : ℕ) (written : Written) → Gives n (SectionOf written) (SectionBelow n written)
gives-SectionOf n (Uncertain rows) = gives-then (gives-Says n (Reserved keyword.Uncertainty)) (gives-then (gives-RowsHeading n) (gives-rows n rows) second) second
gives-SectionOf n (Bounded bounds) = gives-then (gives-Says n (Reserved keyword.Bounds)) (gives-Each n BoundOf (AreBoundsBelow n) (gives-Bound n) bounds) second
gives-SectionOf n (Listed list names) = gives-then (gives-ListHeading n list) (gives-names n names) second

record TextBelow (n : ℕ) (text : WrittenText) : Type 0 where
  objective : AreTermsBelow n text.objective
  rows : AreRowsBelow n text.rows
  sections : All (SectionBelow n) text.sections

gives-sections : (n : ℕ) (sections : List Written) → Gives n (Each SectionOf sections then Says (Reserved keyword.End)) (All (SectionBelow n) sections)
gives-sections n sections =
    gives-then (gives-Each n SectionOf (SectionBelow n) (gives-SectionOf n) sections) (gives-Says n (Reserved keyword.End)) (λ below _. below)

gives-TextOf : (n : ℕ) (text : WrittenText) → Gives n (TextOf text) (TextBelow n text)
gives-TextOf n text =
    gives-then (gives-SenseWord n text.sense)
    (gives-then {Q = AreRowsBelow n text.rows × All (SectionBelow n) text.sections} (gives-Objective n text.objective)
    (gives-then (gives-RowsHeading n) (gives-then (gives-rows n text.rows) (gives-sections n text.sections) (λ rows sections. (rows, sections))) second)
    (λ objective behind. record { objective = objective; rows = behind.0; sections = behind.1 }))
    second

all_joined : {A : Type 0} (P : A → Type 0) (lists : List (List A)) → All (All P) lists → All P (flat_map (λ list. list) lists)
all_joined P [] all = All-nil P
all_joined P (list ∷ lists) all = All-append P list _ (All-head (All P) list lists all) (all_joined P lists (All-tail (All P) list lists all))

below-with_names : (n : ℕ) (list : NameList) (names : List Named) (ast : Ast) → AreNamesBelow n names → HasNumbersBelow n ast → HasNumbersBelow n (with_names list names ast)
below-with_names n Generals names ast is below = record { objective = below.objective; rows = below.rows; uncertain = below.uncertain; bounds = below.bounds; generals = is; binaries = below.binaries; existential = below.existential; universal = below.universal; order = below.order }
below-with_names n Binaries names ast is below = record { objective = below.objective; rows = below.rows; uncertain = below.uncertain; bounds = below.bounds; generals = below.generals; binaries = is; existential = below.existential; universal = below.universal; order = below.order }
below-with_names n Exists names ast is below = record { objective = below.objective; rows = below.rows; uncertain = below.uncertain; bounds = below.bounds; generals = below.generals; binaries = below.binaries; existential = is; universal = below.universal; order = below.order }
below-with_names n Universal names ast is below = record { objective = below.objective; rows = below.rows; uncertain = below.uncertain; bounds = below.bounds; generals = below.generals; binaries = below.binaries; existential = below.existential; universal = is; order = below.order }
below-with_names n Order names ast is below = record { objective = below.objective; rows = below.rows; uncertain = below.uncertain; bounds = below.bounds; generals = below.generals; binaries = below.binaries; existential = below.existential; universal = below.universal; order = is }

below-with_written : (n : ℕ) (ast : Ast) (written : Written) → SectionBelow n written → HasNumbersBelow n ast → HasNumbersBelow n (with_written ast written)
below-with_written n ast (Uncertain rows) is below = record { objective = below.objective; rows = below.rows; uncertain = is; bounds = below.bounds; generals = below.generals; binaries = below.binaries; existential = below.existential; universal = below.universal; order = below.order }
below-with_written n ast (Bounded bounds) is below = record { objective = below.objective; rows = below.rows; uncertain = below.uncertain; bounds = all_joined (BoundBelow n) bounds is; generals = below.generals; binaries = below.binaries; existential = below.existential; universal = below.universal; order = below.order }
below-with_written n ast (Listed list names) is below = below-with_names n list names ast is below

below-sections : (n : ℕ) (ast : Ast) (sections : List Written) → All (SectionBelow n) sections → HasNumbersBelow n ast → HasNumbersBelow n (fold with_written ast sections)
below-sections n ast [] all below = below
below-sections n ast (written ∷ sections) all below =
    below-sections n (with_written ast written) sections (All-tail (SectionBelow n) written sections all)
    (below-with_written n ast written (All-head (SectionBelow n) written sections all) below)

front_below : (names : List (List ℕ)) (n : ℕ) (text : WrittenText) → TextBelow n text
    → HasNumbersBelow n (record (empty_ast names) { sense = text.sense; objective = text.objective; rows = text.rows })
unfolding empty_ast
front_below names n text below =
    let none : AreNamesBelow n [] = All-nil (λ (named : Named). named.name < n) in
    record {
      objective = below.objective;
      rows = below.rows;
      uncertain = All-nil (λ (row : AstRow). AreTermsBelow n row.terms);
      bounds = All-nil (BoundBelow n);
      generals = none;
      binaries = none;
      existential = none;
      universal = none;
      order = none;
    }

-- each number of a name in what a text says is that of a known name
pub below-IsText : (names : List (List ℕ)) (n : ℕ) (symbols : List Symbol) (ast : Ast) → AreKnown n symbols → IsText names symbols ast → HasNumbersBelow n ast
below-IsText names n symbols ast known text =
    let below = ((gives-TextOf n text.text).given symbols [] known text.spelled).fact in
    subst (HasNumbersBelow n) (sym text.tree) (below-sections n _ text.text.sections below.sections (front_below names n text.text below))
