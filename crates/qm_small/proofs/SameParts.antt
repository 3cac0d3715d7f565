-- The parts of small texts are parts of texts: words, terms and rows.
use Rattle.std.proofs.Common.{◌≡◌, ◌≢◌, ℕ, zero, suc, ◌+◌, ◌^◌, ◌<◌, ◌≤◌, Bool, true, false, cond, List, [], ◌∷◌, ◌⊎◌, length, ℤ, pos, neg_ℤ, unsigned_abs, Some, refl, ap, sym, subst, ◌∙◌, inl, inr, arith}
use Rattle.std.specs.Prelude.{codes, IsTrue}
use Rattle.qm_math.specs.Fraction.{whole}
use Rattle.qm_math.proofs.Lists.{cons-nonempty}
use Rattle.qm_lex.specs.declared.place.Place.{Place}
use Rattle.qm_lex.specs.declared.token.Keyword.{Keyword}
use Rattle.qm_lex.specs.declared.token.Kind.{Kind}
use Rattle.qm_lex.specs.declared.token.Kind.TheVariants as kind
use Rattle.qm_parse.specs.declared.ast.AstRow.{AstRow}
use Rattle.qm_parse.specs.declared.ast.AstTerm.{AstTerm}
use Rattle.qm_parse.specs.declared.ast.Named.{Named}
use Rattle.qm_parse.specs.declared.ast.Relation.TheVariants.{Less}
use Rattle.qm_parse.specs.declared.word.Symbol.{Symbol}
use Rattle.qm_parse.specs.declared.word.Word.{Word}
use Rattle.qm_parse.specs.declared.word.Word.TheVariants.{Name, Number, Sign, Related, Keyword as Reserved}
use Rattle.qm_parse.specs.Drafts.{one, signed_by}
use Rattle.qm_parse.specs.Parts.{Each, Either, ListedName, Multiple, NameAt, NothingIf, Part, RowOf, RowEnds, Says, SignOf, SignedNumber, SignedTerm, StandsAt, Terms, is_odd}
use Rattle.qm_small.specs.Written.{Word as Spelling, WrittenRow, WrittenTerm}
use Rattle.qm_small.specs.Grammar as small
use Rattle.qm_small.specs.Problems.{signed_factor}
use Rattle.qm_small.specs.Spelling.{is_name}
use Rattle.qm_small.proofs.Numbering.{Held, number_of}
use Rattle.qm_small.proofs.PieceSymbols.{AreMeant, number_small, word_for}
use Rattle.qm_small.proofs.WordTokens.{kind_of, kind_of-minus, kind_of-most, kind_of-name, kind_of-number, kind_of-plus}

-- each item of a list is related to the one at its place in the other
abbrev pub Both : {A B : Type 0} → (A → B → Type 0) → List A → List B → Type 0
Both R [] [] = Unit {0}
Both R [] (y ∷ ys) = ⊥
Both R (x ∷ xs) [] = ⊥
Both R (x ∷ xs) (y ∷ ys) = R x y × Both R xs ys

-- a term is the one that is written
pub record TermIs (names : List (List ℕ)) (written : WrittenTerm) (term : AstTerm) : Type 0 where
  pub name : term.name ≡ Some (number_of names written.name)
  pub coef : term.coef ≡ whole (signed_factor written)
  pub held : Held names written.name
  pub small : written.factor < 2 ^ 32

pub record RowIs (names : List (List ℕ)) (written : WrittenRow) (row : AstRow) : Type 0 where
  pub terms : Both (TermIs names) written.terms row.terms
  pub relation : row.relation ≡ Less
  pub right : row.right ≡ whole written.right
  pub small : unsigned_abs written.right ≤ 2 ^ 63

pub record NamedIs (names : List (List ℕ)) (written : List ℕ) (named : Named) : Type 0 where
  pub name : named.name ≡ number_of names written
  pub held : Held names written

-- symbols begin with this part, and what is behind it means the rest of the words
abbrev pub Behind : List (List ℕ) → List Spelling → Part → List Symbol → Type 0
Behind names rest part symbols = (behind : List Symbol) × part symbols behind × AreMeant names rest behind

-- the same of a part that depends on something
abbrev pub Finds : {A : Type 0} → List (List ℕ) → List Spelling → (A → Type 0) → (A → Part) → List Symbol → Type 0
Finds names rest Is part symbols = (x : _) × Is x × (behind : List Symbol) × part x symbols behind × AreMeant names rest behind

-- ---- single words

pub literal : (names : List (List ℕ)) (spelling : List ℕ) (of : Kind) (word : Word) → kind_of spelling ≡ of → ((labels : Bool) → word_for names spelling labels of ≡ word) → (ws rest : List Spelling) (symbols : List Symbol)
    → small.Literal spelling ws rest → AreMeant names ws symbols → Behind names rest (Says word) symbols
literal names spelling of word is says [] rest symbols p meant = absurd p
literal names spelling of word is says (w ∷ ws) rest [] p meant = absurd meant
literal names spelling of word is says (w ∷ ws) rest (s ∷ symbols) p meant =
    let labels = meant.0.labels in
    let said : s.word ≡ word = meant.0.says ∙ ap (λ b. word_for names b labels (kind_of b)) p.0 ∙ ap (word_for names spelling labels) is ∙ says labels in
    (symbols, (said, refl), subst (λ r. AreMeant names r symbols) p.1 meant.1)

pub heading : (names : List (List ℕ)) (spelling : List ℕ) (word : Keyword) → kind_of spelling ≡ kind.Keyword word → (ws rest : List Spelling) (symbols : List Symbol) → small.Literal spelling ws rest → AreMeant names ws symbols
    → Behind names rest (Says (Reserved word)) symbols
heading names spelling word is = literal names spelling (kind.Keyword word) (Reserved word) is (λ labels. refl)

-- a name
abbrev IsNameAt : List (List ℕ) → List ℕ → Place → Part
IsNameAt names name at = NameAt (number_of names name) at

pub a_name : (names : List (List ℕ)) (name : List ℕ) (ws rest : List Spelling) (symbols : List Symbol) → small.Name name ws rest → AreMeant names ws symbols → Finds names rest (λ (at : Place). Held names name) (IsNameAt names name) symbols
a_name names name [] rest symbols p meant = absurd p
a_name names name (w ∷ ws) rest [] p meant = absurd meant
a_name names name (w ∷ ws) rest (s ∷ symbols) p meant =
    let labels = meant.0.labels in
    let of : kind_of w.bytes ≡ kind.Name = kind_of-name w.bytes (ap is_name p.0 ∙ p.1) in
    let said : s.word ≡ Name (number_of names name) labels = meant.0.says ∙ ap (word_for names w.bytes labels) of ∙ ap (λ b. Name (number_of names b) labels) p.0 in
    (s.place, subst (Held names) p.0 (meant.0.held of), symbols, ((labels, said), refl, refl), subst (λ r. AreMeant names r symbols) p.2 meant.1)

pub a_number : (names : List (List ℕ)) (n : ℕ) (ws rest : List Spelling) (symbols : List Symbol) → small.Number n ws rest → AreMeant names ws symbols → (n < 2 ^ 32) × Behind names rest (Says (Number (Some (whole (pos n))))) symbols
a_number names n [] rest symbols p meant = absurd p
a_number names n (w ∷ ws) rest [] p meant = absurd meant
a_number names n (w ∷ ws) rest (s ∷ symbols) p meant =
    let labels = meant.0.labels in
    let is = p.0.0 in
    let said : s.word ≡ Number (Some (whole (pos n))) = meant.0.says ∙ ap (word_for names w.bytes labels) (kind_of-number w.bytes is) ∙ ap (λ (k : ℕ). Number (Some (whole (pos k)))) (sym p.0.1) in
    (rw p.0.1 (number_small w.bytes is), (symbols, (said, refl), subst (λ r. AreMeant names r symbols) p.1 meant.1))

-- ---- terms

-- signs of which an odd number is a minus, or not
abbrev pub AreSigns : Bool → Bool → List Bool → Type 0
AreSigns is_first negative signs = (IsTrue is_first ⊎ (signs ≢ [])) × (is_odd signs ≡ negative)

one_sign : (names : List (List ℕ)) (is_first minus : Bool) (rest : List Spelling) (symbols : List Symbol) → Behind names rest (Says (Sign minus)) symbols → Finds names rest (AreSigns is_first minus) (Each SignOf) symbols
one_sign names is_first true rest symbols found = (true ∷ [], (inr (cons-nonempty true []), refl), found.0, (found.0, found.1, refl), found.2)
one_sign names is_first false rest symbols found = (false ∷ [], (inr (cons-nonempty false []), refl), found.0, (found.0, found.1, refl), found.2)

plus : (names : List (List ℕ)) (ws rest : List Spelling) (symbols : List Symbol) → small.Literal (codes "+") ws rest → AreMeant names ws symbols → Behind names rest (Says (Sign false)) symbols
plus names = literal names (codes "+") kind.Plus (Sign false) kind_of-plus (λ labels. refl)

minus : (names : List (List ℕ)) (ws rest : List Spelling) (symbols : List Symbol) → small.Literal (codes "-") ws rest → AreMeant names ws symbols → Behind names rest (Says (Sign true)) symbols
minus names = literal names (codes "-") kind.Minus (Sign true) kind_of-minus (λ labels. refl)

sign : (names : List (List ℕ)) (is_first negative : Bool) (ws rest : List Spelling) (symbols : List Symbol) → small.Sign is_first negative ws rest → AreMeant names ws symbols → Finds names rest (AreSigns is_first negative) (Each SignOf) symbols
sign names is_first true ws rest symbols p meant = one_sign names is_first true rest symbols (minus names ws rest symbols p meant)
sign names true false ws rest symbols (inl p) meant = one_sign names true false rest symbols (plus names ws rest symbols p meant)
sign names true false ws rest symbols (inr none) meant = ([], (inl refl, refl), symbols, refl, subst (λ r. AreMeant names r symbols) none meant)
sign names false false ws rest symbols p meant = one_sign names false false rest symbols (plus names ws rest symbols p meant)

abbrev FactorOf : ℕ → Part
FactorOf n = Either (Says (Number (Some (whole (pos n))))) (NothingIf (whole (pos n) ≡ one))

factor : (names : List (List ℕ)) (n : ℕ) (ws rest : List Spelling) (symbols : List Symbol) → small.Factor n ws rest → AreMeant names ws symbols → (n < 2 ^ 32) × Behind names rest (FactorOf n) symbols
factor names n ws rest symbols (inl p) meant = let found = a_number names n ws rest symbols p meant in (found.0, (found.1.0, inl found.1.1, found.1.2))
factor names n ws rest symbols (inr none) meant =
    let is = none.0 in
    (omega arith, (symbols, inr (ap (λ (k : ℕ). whole (pos k)) none.0, refl), subst (λ r. AreMeant names r symbols) none.1 meant))

coef_is : (negative : Bool) (n : ℕ) → whole (cond negative (neg_ℤ (pos n)) (pos n)) ≡ signed_by negative (whole (pos n))
unfolding signed_by
coef_is true n = refl
coef_is false n = refl

abbrev term_for : List (List ℕ) → WrittenTerm → Place → AstTerm
term_for names written at = record { coef = whole (signed_factor written); name = Some (number_of names written.name); at = at }

-- what may hold a multiple
abbrev pub Holds : (AstTerm → Bool → Part) → Type 0
Holds Body = (term : AstTerm) (negative : Bool) (symbols rest : List Symbol) → Multiple term negative symbols rest → Body term negative symbols rest

pub a_term : (names : List (List ℕ)) (Body : AstTerm → Bool → Part) → Holds Body → (is_first : Bool) (written : WrittenTerm) (ws rest : List Spelling) (symbols : List Symbol) → small.Term is_first written ws rest → AreMeant names ws symbols
    → Finds names rest (TermIs names written) (λ term. SignedTerm is_first (Body term)) symbols
a_term names Body holds is_first written ws rest symbols p meant =
    let signs = sign names is_first written.negative ws p.0 symbols p.1 meant in
    let number = factor names written.factor p.0 p.2.0 signs.2 p.2.1 signs.4 in
    let name = a_name names written.name p.2.0 rest number.1.0 p.2.2 number.1.2 in
    let term = term_for names written name.0 in
    let multiple : Multiple term written.negative signs.2 name.2 =
    (whole (pos written.factor), number_of names written.name, refl, coef_is written.negative written.factor, (number.1.0, number.1.1, name.3)) in
    let body = subst (λ b. Body term b signs.2 name.2) (sym signs.1.1) (holds term written.negative signs.2 name.2 multiple) in
    (term, record { name = refl; coef = refl; held = name.1; small = number.0 }, name.2, (signs.0, signs.1.0, (signs.2, signs.3, body)), name.4)

-- ---- one behind the other

pub each : {A B : Type 0} (names : List (List ℕ)) (Is : A → B → Type 0) (Small : A → List Spelling → List Spelling → Type 0) (Large : B → Part)
    → ((x : A) (ws rest : List Spelling) (symbols : List Symbol) → Small x ws rest → AreMeant names ws symbols → Finds names rest (Is x) Large symbols)
    → (xs : List A) (ws rest : List Spelling) (symbols : List Symbol) → small.Each Small xs ws rest → AreMeant names ws symbols → Finds names rest (Both Is xs) (Each Large) symbols
each names Is Small Large item [] ws rest symbols p meant = ([], tt, symbols, refl, subst (λ r. AreMeant names r symbols) p meant)
each names Is Small Large item (x ∷ xs) ws rest symbols p meant =
    let first = item x ws p.0 symbols p.1 meant in
    let others = each names Is Small Large item xs p.0 rest first.2 p.2 first.4 in
    (first.0 ∷ others.0, (first.1, others.1), others.2, (first.2, first.3, others.3), others.4)

pub terms : (names : List (List ℕ)) (Body : AstTerm → Bool → Part) → Holds Body → (written : List WrittenTerm) (ws rest : List Spelling) (symbols : List Symbol) → small.Terms written ws rest → AreMeant names ws symbols
    → Finds names rest (Both (TermIs names) written) (Terms (λ is_first term. SignedTerm is_first (Body term))) symbols
terms names Body holds [] ws rest symbols p meant = ([], tt, symbols, refl, subst (λ r. AreMeant names r symbols) p meant)
terms names Body holds (term ∷ written) ws rest symbols p meant =
    let first = a_term names Body holds true term ws p.0 symbols p.1 meant in
    let others = each names (TermIs names) (small.Term false) (λ t. SignedTerm false (Body t)) (a_term names Body holds false) written p.0 rest first.2 p.2 first.4 in
    (first.0 ∷ others.0, (first.1, others.1), others.2, (first.2, first.3, others.3), others.4)

-- ---- rows

small_positive : (n : ℕ) → n < 2 ^ 32 → unsigned_abs (pos n) ≤ 2 ^ 63
small_positive n h = omega arith

small_negative : (n : ℕ) → n < 2 ^ 32 → unsigned_abs (neg_ℤ (pos n)) ≤ 2 ^ 63
small_negative zero h = omega arith
small_negative (suc n) h = omega arith

right : (names : List (List ℕ)) (value : ℤ) (ws rest : List Spelling) (symbols : List Symbol) → small.Right value ws rest → AreMeant names ws symbols → (unsigned_abs value ≤ 2 ^ 63) × Behind names rest (SignedNumber (whole value)) symbols
unfolding signed_by
right names value ws rest symbols (n, inl p) meant =
    let found = a_number names n ws rest symbols p.1 meant in
    (rw p.0 (small_positive n found.0), (found.1.0, ([], (symbols, refl, (whole (pos n), ap whole p.0, found.1.1))), found.1.2))
right names value ws rest symbols (n, inr p) meant =
    let below = minus names ws p.1.0 symbols p.1.1 meant in
    let found = a_number names n p.1.0 rest below.0 p.1.2 below.2 in
    (rw p.0 (small_negative n found.0), (found.1.0, (true ∷ [], (below.0, (below.0, below.1, refl), (whole (pos n), ap whole p.0, found.1.1))), found.1.2))

row_ends : (names : List (List ℕ)) (ws rest : List Spelling) (symbols : List Symbol) → small.NewLine ws rest → AreMeant names ws symbols → Behind names rest RowEnds symbols
row_ends names [] rest symbols p meant = absurd p
row_ends names (w ∷ ws) rest [] p meant = absurd meant
row_ends names (w ∷ ws) rest (s ∷ symbols) p meant =
    (s ∷ symbols, (inl (meant.0.line p.0), refl), subst (λ r. AreMeant names r (s ∷ symbols)) p.1 meant)

-- ---- how many words parts take

pub literal_takes : (spelling : List ℕ) (ws rest : List Spelling) → small.Literal spelling ws rest → length rest < length ws
literal_takes spelling [] rest p = absurd p
literal_takes spelling (w ∷ ws) rest p = omega (arith, ap (length {A = Spelling}) p.1)

name_takes : (name : List ℕ) (ws rest : List Spelling) → small.Name name ws rest → length rest < length ws
name_takes name [] rest p = absurd p
name_takes name (w ∷ ws) rest p = omega (arith, ap (length {A = Spelling}) p.2)

number_takes : (n : ℕ) (ws rest : List Spelling) → small.Number n ws rest → length rest < length ws
number_takes n [] rest p = absurd p
number_takes n (w ∷ ws) rest p = omega (arith, ap (length {A = Spelling}) p.1)

line_takes : (ws rest : List Spelling) → small.NewLine ws rest → length rest ≤ length ws
line_takes [] rest p = absurd p
line_takes (w ∷ ws) rest p = omega (arith, ap (length {A = Spelling}) p.1)

sign_takes : (is_first negative : Bool) (ws rest : List Spelling) → small.Sign is_first negative ws rest → length rest ≤ length ws
sign_takes is_first true ws rest p = let less = literal_takes (codes "-") ws rest p in omega arith
sign_takes true false ws rest (inl p) = let less = literal_takes (codes "+") ws rest p in omega arith
sign_takes true false ws rest (inr none) = omega (arith, ap (length {A = Spelling}) none)
sign_takes false false ws rest p = let less = literal_takes (codes "+") ws rest p in omega arith

factor_takes : (n : ℕ) (ws rest : List Spelling) → small.Factor n ws rest → length rest ≤ length ws
factor_takes n ws rest (inl p) = let less = number_takes n ws rest p in omega arith
factor_takes n ws rest (inr none) = omega (arith, ap (length {A = Spelling}) none.1)

term_takes : (is_first : Bool) (term : WrittenTerm) (ws rest : List Spelling) → small.Term is_first term ws rest → length rest < length ws
term_takes is_first term ws rest p =
    let sign = sign_takes is_first term.negative ws p.0 p.1 in
    let number = factor_takes term.factor p.0 p.2.0 p.2.1 in
    let name = name_takes term.name p.2.0 rest p.2.2 in
    omega arith

more_terms_take : (terms : List WrittenTerm) (ws rest : List Spelling) → small.Each (small.Term false) terms ws rest → length terms + length rest ≤ length ws
more_terms_take [] ws rest p = omega (arith, ap (length {A = Spelling}) p)
more_terms_take (term ∷ terms) ws rest p =
    let first = term_takes false term ws p.0 p.1 in
    let others = more_terms_take terms p.0 rest p.2 in
    omega arith

pub terms_take : (terms : List WrittenTerm) (ws rest : List Spelling) → small.Terms terms ws rest → length terms + length rest ≤ length ws
terms_take [] ws rest p = omega (arith, ap (length {A = Spelling}) p)
terms_take (term ∷ terms) ws rest p =
    let first = term_takes true term ws p.0 p.1 in
    let others = more_terms_take terms p.0 rest p.2 in
    omega arith

right_takes : (value : ℤ) (ws rest : List Spelling) → small.Right value ws rest → length rest < length ws
right_takes value ws rest (n, inl p) = number_takes n ws rest p.1
right_takes value ws rest (n, inr p) =
    let sign = literal_takes (codes "-") ws p.1.0 p.1.1 in
    let number = number_takes n p.1.0 rest p.1.2 in
    omega arith

-- a row takes a word for each term, and more
pub row_takes : (row : WrittenRow) (ws rest : List Spelling) → small.Row row ws rest → length row.terms + length rest < length ws
row_takes row ws rest p =
    let front = terms_take row.terms ws p.1.0 p.1.1 in
    let most = literal_takes (codes "<=") p.1.0 p.1.2.0 p.1.2.1 in
    let value = right_takes row.right p.1.2.0 p.1.2.2.0 p.1.2.2.1 in
    let line = line_takes p.1.2.2.0 rest p.1.2.2.2 in
    omega arith

-- ---- whole rows

first_place : (names : List (List ℕ)) (ws : List Spelling) (symbols : List Symbol) → 0 < length ws → AreMeant names ws symbols → (at : Place) × StandsAt at symbols
first_place names [] symbols some meant = absurd (omega arith)
first_place names (w ∷ ws) [] some meant = absurd meant
first_place names (w ∷ ws) (s ∷ symbols) some meant = (s.place, refl)

no_terms : (names : List (List ℕ)) (written : List WrittenTerm) (found : List AstTerm) → written ≢ [] → Both (TermIs names) written found → found ≢ []
no_terms names [] found some both = absurd (some refl)
no_terms names (term ∷ written) [] some both = absurd both
no_terms names (term ∷ written) (t ∷ found) some both = λ e. absurd cc

pub a_row : (names : List (List ℕ)) (written : WrittenRow) (ws rest : List Spelling) (symbols : List Symbol) → small.Row written ws rest → AreMeant names ws symbols → Finds names rest (RowIs names written) RowOf symbols
a_row names written ws rest symbols p meant =
    let takes = row_takes written ws rest p in
    let at = first_place names ws symbols (omega arith) meant in
    let left = terms names Multiple (λ t n ss r m. m) written.terms ws p.1.0 symbols p.1.1 meant in
    let most = literal names (codes "<=") kind.Less (Related Less) kind_of-most (λ labels. refl) p.1.0 p.1.2.0 left.2 p.1.2.1 left.4 in
    let value = right names written.right p.1.2.0 p.1.2.2.0 most.0 p.1.2.2.1 most.2 in
    let line = row_ends names p.1.2.2.0 rest value.1.0 p.1.2.2.2 value.1.2 in
    let row : AstRow = record { terms = left.0; relation = Less; right = whole written.right; at = at.0 } in (
      row,
      record { terms = left.1; relation = refl; right = refl; small = value.0 },
      line.0,
      (no_terms names written.terms left.0 p.0 left.1, at.1, (symbols, inr refl, (left.2, left.3, (most.0, most.1, (value.1.0, value.1.1, line.1))))),
      line.2,
    )

pub listed_name : (names : List (List ℕ)) (name : List ℕ) (ws rest : List Spelling) (symbols : List Symbol) → small.Name name ws rest → AreMeant names ws symbols → Finds names rest (NamedIs names name) ListedName symbols
listed_name names name ws rest symbols p meant =
    let found = a_name names name ws rest symbols p meant in
    (record { name = number_of names name; at = found.0 }, record { name = refl; held = found.1 }, found.2, found.3, found.4)
