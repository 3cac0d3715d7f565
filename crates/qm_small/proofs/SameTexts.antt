-- A small text is a text: its sections, and its syntax tree.
use Rattle.std.proofs.Common.{◌≡◌, ◌≢◌, ℕ, suc, ◌≤◌, Bool, true, false, List, [], ◌∷◌, ◌++◌, length, fold, refl, ap, sym, ◌∙◌, subst, inl, inr, arith, All, AllPairs}
use Rattle.std.specs.Prelude.{codes}
use Rattle.std.proofs.lemmas.List.Elements.{All-append, All-cons, All-nil, All-weaker}
use Rattle.std.proofs.lemmas.List.Kept.{AllPairs-cons}
use Rattle.std.proofs.lemmas.Bool.{true≢false}
use Rattle.qm_lex.specs.declared.token.Keyword.{Keyword}
use Rattle.qm_lex.specs.declared.token.Keyword.TheVariants as keyword
use Rattle.qm_lex.specs.declared.token.Kind.TheVariants as kind
use Rattle.qm_model.specs.declared.game.Sense.TheVariants.{Max}
use Rattle.qm_parse.specs.declared.ast.Ast.{Ast}
use Rattle.qm_parse.specs.declared.ast.AstRow.{AstRow}
use Rattle.qm_parse.specs.declared.ast.AstTerm.{AstTerm}
use Rattle.qm_parse.specs.declared.ast.Named.{Named}
use Rattle.qm_parse.specs.declared.stage.NameList.{NameList}
use Rattle.qm_parse.specs.declared.stage.NameList.TheVariants.{Binaries, Exists, All as Universal, Order}
use Rattle.qm_parse.specs.declared.stage.Section.TheVariants as section
use Rattle.qm_parse.specs.declared.word.Symbol.{Symbol}
use Rattle.qm_parse.specs.declared.word.Word.TheVariants.{Keyword as Reserved}
use Rattle.qm_parse.specs.Parts.{◌then◌, Constant, Each, Either, ListHeading, ListedName, Multiple, ObjectiveOf, Part, RowOf, RowsHeading, Says, SenseWord}
use Rattle.qm_parse.specs.Reading.{empty_ast}
use Rattle.qm_parse.specs.Texts.{AreSections, IsText, Listed, SectionOf, TextOf, Uncertain, Written, WrittenText, ast_of, section_written, with_written}
use Rattle.qm_parse.proofs.OnceOnly.{AllPairs-nil}
use Rattle.qm_small.specs.Written.{Word as Spelling, Written as SmallWritten, WrittenRow, WrittenTerm}
use Rattle.qm_small.specs.Grammar as small
use Rattle.qm_small.proofs.PieceSymbols.{AreMeant}
use Rattle.qm_small.proofs.SameParts.{Behind, Both, Finds, NamedIs, RowIs, TermIs, a_row, each, heading, listed_name, literal_takes, row_takes, terms, terms_take}
use Rattle.qm_small.proofs.WordTokens.{kind_of, kind_of-all, kind_of-binaries, kind_of-end, kind_of-exists, kind_of-maximize, kind_of-order, kind_of-subject, kind_of-to, kind_of-uncertainty}

-- ---- the front of a text

maximize : (names : List (List ℕ)) (ws rest : List Spelling) (symbols : List Symbol) → small.Literal (codes "MAXIMIZE") ws rest → AreMeant names ws symbols → Behind names rest (SenseWord Max) symbols
maximize names ws rest symbols p meant =
    let found = heading names (codes "MAXIMIZE") keyword.Maximize kind_of-maximize ws rest symbols p meant in (found.0, inl found.1, found.2)

objective : (names : List (List ℕ)) (written : List WrittenTerm) (ws rest : List Spelling) (symbols : List Symbol) → small.Terms written ws rest → AreMeant names ws symbols → Finds names rest (Both (TermIs names) written) ObjectiveOf symbols
objective names written ws rest symbols p meant =
    let found = terms names (λ t n. Either (Multiple t n) (Constant t n)) (λ t n ss r m. inl m) written ws rest symbols p meant in
    (found.0, found.1, found.2, (symbols, inr refl, found.3), found.4)

rows_heading : (names : List (List ℕ)) (ws between rest : List Spelling) (symbols : List Symbol) → small.Literal (codes "SUBJECT") ws between → small.Literal (codes "TO") between rest → AreMeant names ws symbols → Behind names rest RowsHeading symbols
rows_heading names ws between rest symbols p q meant =
    let subject = heading names (codes "SUBJECT") keyword.Subject kind_of-subject ws between symbols p meant in
    let to = heading names (codes "TO") keyword.To kind_of-to between rest subject.0 q subject.2 in
    (to.0, inl (subject.0, subject.1, to.1), to.2)

rows_below : (names : List (List ℕ)) (written : List WrittenRow) (ws rest : List Spelling) (symbols : List Symbol) → small.Rows written ws rest → AreMeant names ws symbols
    → Finds names rest (Both (RowIs names) written) (λ rows. RowsHeading then Each RowOf rows) symbols
rows_below names written ws rest symbols p meant =
    let head = rows_heading names ws p.0 p.2.0 symbols p.1 p.2.1 meant in
    let found = each names (RowIs names) small.Row RowOf (a_row names) written p.2.0 rest head.0 p.2.2 head.2 in
    (found.0, found.1, found.2, (head.0, head.1, found.3), found.4)

-- ---- sections that may be left out

-- a section, where it is written
abbrev pub where_written : Bool → Written → List Written
where_written true section = section ∷ []
where_written false section = []

-- what a section holds that may be left out
pub record IsOptional {A B : Type 0} (Is : A → B → Type 0) (written : List A) (is_written : Bool) (found : List B) : Type 0 where
  pub items_are : Both Is written found
  pub none : is_written ≡ false → found ≡ []

abbrev OptionalRows : Bool × List AstRow → Part
OptionalRows found = Each SectionOf (where_written found.0 (Uncertain found.1))

uncertain_section : (names : List (List ℕ)) (written : List WrittenRow) (ws rest : List Spelling) (symbols : List Symbol) → small.UncertainRows written ws rest → AreMeant names ws symbols
    → Finds names rest (λ (found : Bool × List AstRow). IsOptional (RowIs names) written found.0 found.1) OptionalRows symbols
uncertain_section names written ws rest symbols (inl p) meant =
    let head = heading names (codes "UNCERTAINTY") keyword.Uncertainty kind_of-uncertainty ws p.0 symbols p.1 meant in
    let found = rows_below names written p.0 rest head.0 p.2 head.2 in
    ((true, found.0), record { items_are = found.1; none = λ e. absurd (true≢false e) }, found.2, (found.2, (head.0, head.1, found.3), refl), found.4)
uncertain_section names written ws rest symbols (inr p) meant =
    let P : List WrittenRow → Type 0 = λ w. Both (RowIs names) w [] in
    ((false, []), record { items_are = subst P (sym p.0) tt; none = λ e. refl }, symbols, refl, subst (λ r. AreMeant names r symbols) p.1 meant)

-- ---- lists of names

abbrev IsHeading : NameList → Keyword → Type 0
IsHeading list word = (symbols rest : List Symbol) → Says (Reserved word) symbols rest → ListHeading list symbols rest

abbrev NameSection : NameList → List Named → Part
NameSection list named = SectionOf (Listed list named)

name_section : (names : List (List ℕ)) (spelling : List ℕ) (word : Keyword) (list : NameList) → kind_of spelling ≡ kind.Keyword word → IsHeading list word → (written : List (List ℕ)) (ws rest : List Spelling) (symbols : List Symbol)
    → small.Names spelling written ws rest → AreMeant names ws symbols → Finds names rest (Both (NamedIs names) written) (NameSection list) symbols
name_section names spelling word list is heads written ws rest symbols p meant =
    let head = heading names spelling word is ws p.0 symbols p.1 meant in
    let found = each names (NamedIs names) small.Name ListedName (listed_name names) written p.0 rest head.0 p.2 head.2 in
    (found.0, found.1, found.2, (head.0, heads symbols head.0 head.1, found.3), found.4)

abbrev OptionalSection : NameList → Bool × List Named → Part
OptionalSection list found = Each SectionOf (where_written found.0 (Listed list found.1))

optional_section : (names : List (List ℕ)) (spelling : List ℕ) (word : Keyword) (list : NameList) → kind_of spelling ≡ kind.Keyword word → IsHeading list word → (written : List (List ℕ)) (ws rest : List Spelling) (symbols : List Symbol)
    → small.OptionalNames spelling written ws rest → AreMeant names ws symbols → Finds names rest (λ (found : Bool × List Named). IsOptional (NamedIs names) written found.0 found.1) (OptionalSection list) symbols
optional_section names spelling word list is heads written ws rest symbols (inl p) meant =
    let found = name_section names spelling word list is heads written ws rest symbols p meant in
    ((true, found.0), record { items_are = found.1; none = λ e. absurd (true≢false e) }, found.2, (found.2, found.3, refl), found.4)
optional_section names spelling word list is heads written ws rest symbols (inr p) meant =
    let P : List (List ℕ) → Type 0 = λ w. Both (NamedIs names) w [] in
    ((false, []), record { items_are = subst P (sym p.0) tt; none = λ e. refl }, symbols, refl, subst (λ r. AreMeant names r symbols) p.1 meant)

each_join : (xs ys : List Written) (a b c : List Symbol) → Each SectionOf xs a b → Each SectionOf ys b c → Each SectionOf (xs ++ ys) a c
each_join [] ys a b c p q = subst (λ s. Each SectionOf ys s c) (sym p) q
each_join (x ∷ xs) ys a b c p q = (p.0, p.1, each_join xs ys p.0 b c p.2 q)

-- ---- the sections

-- the lists of names that are written, in their order
abbrev pub lists_of : List Named → Bool × List Named → Bool × List Named → List Named → List Written
lists_of binaries exists universal order =
    Listed Binaries binaries ∷ (where_written exists.0 (Listed Exists exists.1) ++ (where_written universal.0 (Listed Universal universal.1) ++ (Listed Order order ∷ [])))

-- the same behind the uncertainty rows, where they are written
abbrev pub sections_of : Bool × List AstRow → List Written → List Written
sections_of uncertain lists = where_written uncertain.0 (Uncertain uncertain.1) ++ lists

abbrev Other : Written → Written → Type 0
Other one other = section_written one ≢ section_written other

one_of : (a b : Written) → Other a b → All (Other a) (b ∷ [])
one_of a b ab = All-cons (Other a) b [] ab (All-nil (Other a))

two_of : (a b c : Written) → Other a b → Other a c → All (Other a) (b ∷ c ∷ [])
two_of a b c ab ac = All-cons (Other a) b (c ∷ []) ab (one_of a c ac)

three_of : (a b c d : Written) → Other a b → Other a c → Other a d → All (Other a) (b ∷ c ∷ d ∷ [])
three_of a b c d ab ac ad = All-cons (Other a) b (c ∷ d ∷ []) ab (two_of a c d ac ad)

alone : (a : Written) → AllPairs Other (a ∷ [])
alone a = AllPairs-cons Other a [] (All-nil (Other a)) (AllPairs-nil Other)

pair : (a b : Written) → Other a b → AllPairs Other (a ∷ b ∷ [])
pair a b ab = AllPairs-cons Other a (b ∷ []) (one_of a b ab) (alone b)

triple : (a b c : Written) → Other a b → Other a c → Other b c → AllPairs Other (a ∷ b ∷ c ∷ [])
triple a b c ab ac bc = AllPairs-cons Other a (b ∷ c ∷ []) (two_of a b c ab ac) (pair b c bc)

binaries_exists : section.Names Binaries ≢ section.Names Exists
binaries_exists e = absurd cc

binaries_universal : section.Names Binaries ≢ section.Names Universal
binaries_universal e = absurd cc

binaries_order : section.Names Binaries ≢ section.Names Order
binaries_order e = absurd cc

exists_universal : section.Names Exists ≢ section.Names Universal
exists_universal e = absurd cc

exists_order : section.Names Exists ≢ section.Names Order
exists_order e = absurd cc

universal_order : section.Names Universal ≢ section.Names Order
universal_order e = absurd cc

are_lists : (binaries : List Named) (e u : Bool) (exists universal order : List Named) → AreSections (lists_of binaries (e, exists) (u, universal) order)
are_lists binaries true true exists universal order = record {
  once =
      AllPairs-cons Other (Listed Binaries binaries) (Listed Exists exists ∷ Listed Universal universal ∷ Listed Order order ∷ [])
      (three_of (Listed Binaries binaries) (Listed Exists exists) (Listed Universal universal) (Listed Order order) binaries_exists binaries_universal binaries_order)
      (triple (Listed Exists exists) (Listed Universal universal) (Listed Order order) exists_universal exists_order universal_order);
  ordered = (3, omega arith, refl);
}
are_lists binaries true false exists universal order = record {
  once = triple (Listed Binaries binaries) (Listed Exists exists) (Listed Order order) binaries_exists binaries_order exists_order;
  ordered = (2, omega arith, refl);
}
are_lists binaries false true exists universal order = record {
  once = triple (Listed Binaries binaries) (Listed Universal universal) (Listed Order order) binaries_universal binaries_order universal_order;
  ordered = (2, omega arith, refl);
}
are_lists binaries false false exists universal order = record {
  once = pair (Listed Binaries binaries) (Listed Order order) binaries_order;
  ordered = (1, omega arith, refl);
}

apart_from_names : (rows : List AstRow) (list : NameList) (named : List Named) → Other (Uncertain rows) (Listed list named)
apart_from_names rows list named e = absurd cc

all_where : (P : Written → Type 0) (is_written : Bool) (section : Written) → P section → All P (where_written is_written section)
all_where P true section here = All-cons P section [] here (All-nil P)
all_where P false section here = All-nil P

apart_from_lists : (rows : List AstRow) (binaries : List Named) (exists universal : Bool × List Named) (order : List Named) → All (Other (Uncertain rows)) (lists_of binaries exists universal order)
apart_from_lists rows binaries exists universal order =
    let P = Other (Uncertain rows) in
    let last = Listed Order order ∷ [] in
    let all = where_written universal.0 (Listed Universal universal.1) in
    let some = where_written exists.0 (Listed Exists exists.1) in
    All-cons P (Listed Binaries binaries) (some ++ (all ++ last)) (apart_from_names rows Binaries binaries)
    (All-append P some (all ++ last) (all_where P exists.0 (Listed Exists exists.1) (apart_from_names rows Exists exists.1))
    (All-append P all last (all_where P universal.0 (Listed Universal universal.1) (apart_from_names rows Universal universal.1))
    (All-cons P (Listed Order order) [] (apart_from_names rows Order order) (All-nil P))))

are_sections : (is_written : Bool) (rows : List AstRow) (lists : List Written) → AreSections lists → All (Other (Uncertain rows)) lists → AreSections (sections_of (is_written, rows) lists)
are_sections true rows lists are apart = record {
  once = AllPairs-cons Other (Uncertain rows) lists apart are.once;
  ordered = (suc are.ordered.0, omega (arith, are.ordered.1), are.ordered.2);
}
are_sections false rows lists are apart = are

-- ---- the syntax tree

-- the tree holds what is written, and nothing else
pub record IsTreeOf (names : List (List ℕ)) (written : SmallWritten) (ast : Ast) : Type 0 where
  pub sense : ast.sense ≡ Max
  pub objective : Both (TermIs names) written.objective ast.objective
  pub rows : Both (RowIs names) written.rows ast.rows
  pub uncertain : Both (RowIs names) written.uncertain ast.uncertain
  pub bounds : ast.bounds ≡ []
  pub generals : ast.generals ≡ []
  pub binaries : Both (NamedIs names) written.binaries ast.binaries
  pub existential : Both (NamedIs names) written.exists ast.existential
  pub universal : Both (NamedIs names) written.universal ast.universal
  pub order : Both (NamedIs names) written.order ast.order
  pub names_are : ast.names ≡ names

abbrev text_of : List AstTerm → List AstRow → List Written → WrittenText
text_of objective rows sections = record { sense = Max; objective = objective; rows = rows; sections = sections }

-- a section that holds nothing may be left out
left_out : (is_written : Bool) (section : Written) (ast : Ast) (others : List Written) → (is_written ≡ false → with_written ast section ≡ ast)
    → fold with_written ast (where_written is_written section ++ others) ≡ fold with_written (with_written ast section) others
left_out true section ast others same = refl
left_out false section ast others same = ap (λ (a : Ast). fold with_written a others) (sym (same refl))

-- the tree of these parts
abbrev tree_with : List (List ℕ) → List AstTerm → List AstRow → List AstRow → List Named → List Named → List Named → List Named → Ast
tree_with names terms rows uncertain binaries exists universal order = record (empty_ast names) {
  sense = Max;
  objective = terms;
  rows = rows;
  uncertain = uncertain;
  binaries = binaries;
  existential = exists;
  universal = universal;
  order = order;
}

-- all sections are as good as written
all_written : (names : List (List ℕ)) (terms : List AstTerm) (rows : List AstRow) (r e u : Bool) (uncertain : List AstRow) (binaries exists universal order : List Named)
    → (r ≡ false → uncertain ≡ []) → (e ≡ false → exists ≡ []) → (u ≡ false → universal ≡ [])
    → ast_of names (text_of terms rows (sections_of (r, uncertain) (lists_of binaries (e, exists) (u, universal) order))) ≡ tree_with names terms rows uncertain binaries exists universal order
unfolding empty_ast
all_written names terms rows r e u uncertain binaries exists universal order no_rows no_exists no_universal =
    let last = Listed Order order ∷ [] in
    let all = where_written u (Listed Universal universal) in
    let some = where_written e (Listed Exists exists) in
    left_out r (Uncertain uncertain) (tree_with names terms rows [] [] [] [] []) (Listed Binaries binaries ∷ (some ++ (all ++ last))) (λ f. ap (λ (us : List AstRow). tree_with names terms rows us [] [] [] []) (no_rows f))
    ∙ left_out e (Listed Exists exists) (tree_with names terms rows uncertain binaries [] [] []) (all ++ last) (λ f. ap (λ (xs : List Named). tree_with names terms rows uncertain binaries xs [] []) (no_exists f))
    ∙ left_out u (Listed Universal universal) (tree_with names terms rows uncertain binaries exists [] []) last (λ f. ap (λ (xs : List Named). tree_with names terms rows uncertain binaries exists xs []) (no_universal f))

is_tree : (names : List (List ℕ)) (written : SmallWritten) (terms : List AstTerm) (rows uncertain : List AstRow) (binaries exists universal order : List Named)
    → Both (TermIs names) written.objective terms → Both (RowIs names) written.rows rows → Both (RowIs names) written.uncertain uncertain → Both (NamedIs names) written.binaries binaries
    → Both (NamedIs names) written.exists exists → Both (NamedIs names) written.universal universal → Both (NamedIs names) written.order order → IsTreeOf names written (tree_with names terms rows uncertain binaries exists universal order)
unfolding empty_ast
is_tree names written terms rows uncertain binaries exists universal order t r n b x a o = record {
  sense = refl;
  objective = t;
  rows = r;
  uncertain = n;
  bounds = refl;
  generals = refl;
  binaries = b;
  existential = x;
  universal = a;
  order = o;
  names_are = refl;
}

-- ---- the whole text

no_more : (names : List (List ℕ)) (symbols : List Symbol) → AreMeant names [] symbols → symbols ≡ []
no_more names [] meant = refl
no_more names (symbol ∷ symbols) meant = absurd meant

-- the symbols are a text, and its tree holds what is written
pub record HasTree (names : List (List ℕ)) (written : SmallWritten) (symbols : List Symbol) : Type 0 where
  pub ast : Ast
  pub text : IsText names symbols ast
  pub tree : IsTreeOf names written ast

pub has_tree : (names : List (List ℕ)) (written : SmallWritten) (ws : List Spelling) (symbols : List Symbol) → small.SmallText written ws [] → AreMeant names ws symbols → HasTree names written symbols
has_tree names written ws symbols p meant =
    let sense = maximize names ws p.1.0 symbols p.1.1 meant in
    let left = objective names written.objective p.1.0 p.0 sense.0 p.1.2 sense.2 in
    let rows = rows_below names written.rows p.0 p.2.0 left.2 p.2.1 left.4 in
    let part = p.2.2 in
    let uncertain = uncertain_section names written.uncertain p.2.0 part.0 rows.2 part.1 rows.4 in
    let lists = part.2 in
    let binaries = name_section names (codes "BINARIES") keyword.Binaries Binaries kind_of-binaries (λ ss r h. inl h) written.binaries part.0 lists.0 uncertain.2 lists.1 uncertain.4 in
    let exists = optional_section names (codes "EXISTS") keyword.Exists Exists kind_of-exists (λ ss r h. h) written.exists lists.0 lists.2.0 binaries.2 lists.2.1 binaries.4 in
    let universal = optional_section names (codes "ALL") keyword.All Universal kind_of-all (λ ss r h. h) written.universal lists.2.0 lists.2.2.0 exists.2 lists.2.2.1 exists.4 in
    let order = name_section names (codes "ORDER") keyword.Order Order kind_of-order (λ ss r h. h) written.order lists.2.2.0 lists.2.2.2.0 universal.2 lists.2.2.2.1 universal.4 in
    let end = heading names (codes "END") keyword.End kind_of-end lists.2.2.2.0 [] order.2 lists.2.2.2.2 order.4 in
    let listed = lists_of binaries.0 exists.0 universal.0 order.0 in
    let sections = sections_of uncertain.0 listed in
    let behind : Each SectionOf listed uncertain.2 order.2 =
    (binaries.2, binaries.3, each_join _ _ binaries.2 exists.2 order.2 exists.3 (each_join _ _ exists.2 universal.2 order.2 universal.3 (order.2, order.3, refl))) in
    let whole : Each SectionOf sections rows.2 order.2 = each_join _ _ rows.2 uncertain.2 order.2 uncertain.3 behind in
    let text = text_of left.0 rows.0 sections in
    let spelled : TextOf text symbols end.0 = (sense.0, sense.1, (left.2, left.3, (rows.3.0, rows.3.1, (rows.2, rows.3.2, (order.2, whole, end.1))))) in
    record {
      ast = tree_with names left.0 rows.0 uncertain.0.1 binaries.0 exists.0.1 universal.0.1 order.0;
      text = record {
        text = text;
        spelled = subst (TextOf text symbols) (no_more names end.0 end.2) spelled;
        sections = are_sections uncertain.0.0 uncertain.0.1 listed (are_lists binaries.0 exists.0.0 universal.0.0 exists.0.1 universal.0.1 order.0) (apart_from_lists uncertain.0.1 binaries.0 exists.0 universal.0 order.0);
        tree = sym (all_written names left.0 rows.0 uncertain.0.0 exists.0.0 universal.0.0 uncertain.0.1 binaries.0 exists.0.1 universal.0.1 order.0 uncertain.1.none exists.1.none universal.1.none);
      };
      tree = is_tree names written left.0 rows.0 uncertain.0.1 binaries.0 exists.0.1 universal.0.1 order.0 left.1 rows.1 uncertain.1.items_are binaries.1 exists.1.items_are universal.1.items_are order.1;
    }

-- ---- how many terms there are

-- no more terms stand in a row than there are words
abbrev pub HasFewTerms : ℕ → WrittenRow → Type 0
HasFewTerms n row = length row.terms ≤ n

fewer : (m n : ℕ) → m ≤ n → (rows : List WrittenRow) → All (HasFewTerms m) rows → All (HasFewTerms n) rows
fewer m n h rows all = All-weaker (HasFewTerms m) (HasFewTerms n) (λ row few. omega arith) rows all

-- what is written has few terms
pub record HasFew (n : ℕ) (written : SmallWritten) : Type 0 where
  pub objective : length written.objective ≤ n
  pub rows : All (HasFewTerms n) written.rows
  pub uncertain : All (HasFewTerms n) written.uncertain

each_few : (rows : List WrittenRow) (ws rest : List Spelling) → small.Each small.Row rows ws rest → All (HasFewTerms (length ws)) rows × (length rest ≤ length ws)
each_few [] ws rest p = (All-nil (HasFewTerms (length ws)), omega (arith, ap (length {A = Spelling}) p))
each_few (row ∷ rows) ws rest p =
    let first = row_takes row ws p.0 p.1 in
    let others = each_few rows p.0 rest p.2 in
    (All-cons (HasFewTerms (length ws)) row rows (omega arith) (fewer (length p.0) (length ws) (omega arith) rows others.0), omega (arith, others.1))

rows_few : (rows : List WrittenRow) (ws rest : List Spelling) → small.Rows rows ws rest → All (HasFewTerms (length ws)) rows × (length rest ≤ length ws)
rows_few rows ws rest p =
    let subject = literal_takes (codes "SUBJECT") ws p.0 p.1 in
    let to = literal_takes (codes "TO") p.0 p.2.0 p.2.1 in
    let found = each_few rows p.2.0 rest p.2.2 in
    (fewer (length p.2.0) (length ws) (omega arith) rows found.0, omega (arith, found.1))

uncertain_few : (rows : List WrittenRow) (ws rest : List Spelling) → small.UncertainRows rows ws rest → All (HasFewTerms (length ws)) rows
uncertain_few rows ws rest (inl p) =
    let heading = literal_takes (codes "UNCERTAINTY") ws p.0 p.1 in
    fewer (length p.0) (length ws) (omega arith) rows (rows_few rows p.0 rest p.2).0
uncertain_few rows ws rest (inr p) = subst (All (HasFewTerms (length ws))) (sym p.0) (All-nil (HasFewTerms (length ws)))

pub few_terms : (written : SmallWritten) (ws : List Spelling) → small.SmallText written ws [] → HasFew (length ws) written
few_terms written ws p =
    let sense = literal_takes (codes "MAXIMIZE") ws p.1.0 p.1.1 in
    let left = terms_take written.objective p.1.0 p.0 p.1.2 in
    let rows = rows_few written.rows p.0 p.2.0 p.2.1 in
    record {
      objective = omega arith;
      rows = fewer (length p.0) (length ws) (omega arith) written.rows rows.0;
      uncertain = fewer (length p.2.0) (length ws) (omega (arith, rows.1)) written.uncertain (uncertain_few written.uncertain p.2.0 p.2.2.0 p.2.2.1);
    }
