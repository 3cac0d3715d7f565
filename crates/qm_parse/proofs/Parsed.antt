-- The answer to symbols that were read, or were not.
use Rattle.std.proofs.Common.{◌≡◌, ℕ, List, [], ◌∷◌, Result, Ok, Err, length, ◌<◌, refl, sym, ap, subst, ◌∙◌, Some}
use Rattle.std.specs.Prelude.{fold, ◌≢◌}
use Rattle.qm_lex.specs.declared.place.Place.{Place}
use Rattle.qm_lex.specs.declared.token.Token.{Token}
use Rattle.qm_lex.specs.Places.{place_of}
use Rattle.qm_parse.specs.declared.ast.Ast.{Ast}
use Rattle.qm_parse.specs.declared.fault.ParseFault.{ParseFault}
use Rattle.qm_parse.specs.declared.fault.What.{What}
use Rattle.qm_parse.specs.declared.fault.ParseFault.TheVariants as fault
use Rattle.qm_parse.specs.declared.unread.Unread.{Unread}
use Rattle.qm_parse.specs.declared.unread.Unread.TheVariants as unread
use Rattle.qm_parse.specs.declared.word.Symbol.{Symbol}
use Rattle.qm_parse.specs.Faults.{IsFirstFault}
use Rattle.qm_parse.specs.Parsing.{fault_of, IsJudged, IsParsed}
use Rattle.qm_parse.specs.Reading.{empty_ast, empty_draft, read, start}
use Rattle.qm_parse.specs.Symbols.{AreSymbols, names_of}
use Rattle.qm_parse.specs.Wants.{Wants}
use Rattle.qm_parse.specs.Texts.{IsText, Written, with_names, with_written}
use Rattle.qm_parse.specs.Texts.Written.{Uncertain, Bounded, Listed}
use Rattle.qm_parse.specs.Checks.{name_fault}
use Rattle.qm_parse.specs.declared.ast.Named.{Named}
use Rattle.qm_parse.specs.declared.offence.NameFault.{NameFault}
use Rattle.qm_parse.specs.declared.stage.NameList.{NameList}
use Rattle.qm_parse.specs.declared.stage.NameList.TheVariants.{Generals, Binaries, Exists, All, Order}
use Rattle.qm_parse.proofs.KnownFaults.{below-name_fault}
use Rattle.qm_parse.proofs.KnownSymbols.{symbols-known}
use Rattle.qm_parse.proofs.KnownReading.{below-read}
use Rattle.qm_parse.proofs.FirstFaults.{first_fault}
use Rattle.qm_parse.proofs.SymbolColons.{colons-known}
use Rattle.qm_parse.proofs.Wanted.{wanted_at_fault}
use Rattle.qm_parse.proofs.WrittenTexts.{text_read}

-- the reading of the symbols of a text
abbrev pub reading : List ℕ → List Token → List Symbol → Result Ast Unread
reading text tokens symbols = read start (empty_draft (names_of text tokens)) symbols (place_of text (length text))

-- the symbols are those of the tokens
abbrev pub AreOf : List ℕ → List Token → List Symbol → Type 0
AreOf text tokens symbols = AreSymbols text (names_of text tokens) 0 tokens symbols

pub tree-parsed : (text : List ℕ) (tokens : List Token) (symbols : List Symbol) (ast : Ast) (answer : Result Ast ParseFault)
    → AreOf text tokens symbols → reading text tokens symbols ≡ Ok ast → IsJudged ast answer → IsParsed text tokens answer
tree-parsed text tokens symbols ast (Ok right) are is judged = record { symbols = symbols; spelled = are; answered = (ast, text_read _ symbols _ ast is, judged) }
tree-parsed text tokens symbols ast (Err (fault.Expected at what)) are is judged = absurd judged
tree-parsed text tokens symbols ast (Err (fault.Number at)) are is judged = absurd judged
tree-parsed text tokens symbols ast (Err (fault.BothPlayers name at)) are is judged = record { symbols = symbols; spelled = are; answered = (ast, text_read _ symbols _ ast is, judged) }
tree-parsed text tokens symbols ast (Err (fault.Twice name at)) are is judged = record { symbols = symbols; spelled = are; answered = (ast, text_read _ symbols _ ast is, judged) }
tree-parsed text tokens symbols ast (Err (fault.Unknown name at)) are is judged = record { symbols = symbols; spelled = are; answered = (ast, text_read _ symbols _ ast is, judged) }
tree-parsed text tokens symbols ast (Err (fault.Unordered name at)) are is judged = record { symbols = symbols; spelled = are; answered = (ast, text_read _ symbols _ ast is, judged) }
tree-parsed text tokens symbols ast (Err (fault.Infinite name at)) are is judged = record { symbols = symbols; spelled = are; answered = (ast, text_read _ symbols _ ast is, judged) }
tree-parsed text tokens symbols ast (Err (fault.NoUpper name at)) are is judged = record { symbols = symbols; spelled = are; answered = (ast, text_read _ symbols _ ast is, judged) }
tree-parsed text tokens symbols ast (Err fault.Memory) are is judged = tt

-- the reading, by equal names and an equal end
same-reading : (text : List ℕ) (tokens : List Token) (names : List (List ℕ)) (symbols : List Symbol) (end : Place)
    → names ≡ names_of text tokens → end ≡ place_of text (length text) → reading text tokens symbols ≡ read start (empty_draft names) symbols end
same-reading text tokens names symbols end named ends =
    ap (λ (ns : List (List ℕ)). read start (empty_draft ns) symbols (place_of text (length text))) (sym named)
    ∙ ap (λ (p : Place). read start (empty_draft names) symbols p) (sym ends)

pub is-first : (text : List ℕ) (tokens : List Token) (symbols : List Symbol) (wrong : Unread)
    → AreOf text tokens symbols → reading text tokens symbols ≡ Err wrong → IsFirstFault symbols (place_of text (length text)) wrong
is-first text tokens symbols wrong are is =
    first_fault (λ names symbols ast end colons is. text_read names symbols end ast is) (names_of text tokens) symbols (place_of text (length text)) wrong (colons-known text (names_of text tokens) 0 tokens symbols are) is

-- a first fault with the word that its unfinished part wants
pub expected-first : (text : List ℕ) (tokens : List Token) (symbols : List Symbol) (at : Place) (what : What)
    → AreOf text tokens symbols → reading text tokens symbols ≡ Err (unread.Expected at what)
    → (first : IsFirstFault symbols (place_of text (length text)) (unread.Expected at what)) × Wants what symbols first.behind
expected-first text tokens symbols at what are is =
    let first = is-first text tokens symbols (unread.Expected at what) are is in
    (first, wanted_at_fault symbols (place_of text (length text)) at what (colons-known text (names_of text tokens) 0 tokens symbols are) first)

pub wrong-parsed : (text : List ℕ) (tokens : List Token) (names : List (List ℕ)) (symbols : List Symbol) (end : Place) (wrong : Unread)
    → names ≡ names_of text tokens → AreOf text tokens symbols → end ≡ place_of text (length text)
    → (wrong ≢ unread.Memory → read start (empty_draft names) symbols end ≡ Err wrong) → IsParsed text tokens (Err (fault_of wrong))
unfolding fault_of
wrong-parsed text tokens names symbols end (unread.Expected at what) named are ends is =
    record { symbols = symbols; spelled = are; answered = expected-first text tokens symbols at what are (same-reading text tokens names symbols end named ends ∙ is (λ e. cc)) }
wrong-parsed text tokens names symbols end (unread.Number at) named are ends is =
    record { symbols = symbols; spelled = are; answered = is-first text tokens symbols (unread.Number at) are (same-reading text tokens names symbols end named ends ∙ is (λ e. cc)) }
wrong-parsed text tokens names symbols end unread.Memory named are ends is = tt

pub right-parsed : (text : List ℕ) (tokens : List Token) (names : List (List ℕ)) (symbols : List Symbol) (end : Place) (ast : Ast) (answer : Result Ast ParseFault)
    → names ≡ names_of text tokens → AreOf text tokens symbols → end ≡ place_of text (length text)
    → read start (empty_draft names) symbols end ≡ Ok ast → IsJudged ast answer → IsParsed text tokens answer
right-parsed text tokens names symbols end ast answer named are ends is judged =
    tree-parsed text tokens symbols ast answer are (same-reading text tokens names symbols end named ends ∙ is) judged

names-with_names : (list : NameList) (named : List Named) (ast : Ast) → (with_names list named ast).names ≡ ast.names
names-with_names Generals named ast = refl
names-with_names Binaries named ast = refl
names-with_names Exists named ast = refl
names-with_names All named ast = refl
names-with_names Order named ast = refl

names-with_written : (ast : Ast) (written : Written) → (with_written ast written).names ≡ ast.names
names-with_written ast (Uncertain rows) = refl
names-with_written ast (Bounded bounds) = refl
names-with_written ast (Listed list named) = names-with_names list named ast

names-kept : (sections : List Written) (ast : Ast) → (fold with_written ast sections).names ≡ ast.names
names-kept [] ast = refl
names-kept (written ∷ sections) ast = names-kept sections (with_written ast written) ∙ names-with_written ast written

-- the tree of a text has its names
names-of-tree : (names : List (List ℕ)) (symbols : List Symbol) (ast : Ast) → IsText names symbols ast → ast.names ≡ names
unfolding empty_ast
names-of-tree names symbols ast text =
    ap (λ (a : Ast). a.names) text.tree
    ∙ names-kept text.text.sections (record (empty_ast names) { sense = text.text.sense; objective = text.text.objective; rows = text.text.rows })

-- an offence is of a name of the tree
pub known-parsed : (text : List ℕ) (tokens : List Token) (names : List (List ℕ)) (symbols : List Symbol) (end : Place) (ast : Ast) (fault : NameFault)
    → names ≡ names_of text tokens → AreOf text tokens symbols → read start (empty_draft names) symbols end ≡ Ok ast → name_fault ast ≡ Some fault
    → fault.name < length ast.names
known-parsed text tokens names symbols end ast fault named are is first =
    let written = text_read names symbols end ast is in
    let known = symbols-known text (names_of text tokens) 0 tokens symbols are in
    let inside : fault.name < length (names_of text tokens) = below-name_fault (length (names_of text tokens)) ast fault (below-read (length (names_of text tokens)) names symbols end ast known is) first in
    let same : ast.names ≡ names_of text tokens = names-of-tree names symbols ast written ∙ named in
    subst (λ (ns : List (List ℕ)). fault.name < length ns) (sym same) inside
