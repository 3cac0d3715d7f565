-- What is expected within rows.
use Rattle.std.proofs.Common.{◌≡◌, ℕ, Bool, false, true, ◌||◌, List, [], ◌∷◌, Some, None, inl, inr, refl, sym, subst}
use Rattle.qm_math.specs.Fraction.{Fraction}
use Rattle.qm_lex.specs.declared.place.Place.{Place}
use Rattle.qm_parse.specs.declared.ast.AstRow.{AstRow}
use Rattle.qm_parse.specs.declared.ast.AstTerm.{AstTerm}
use Rattle.qm_parse.specs.declared.ast.Relation.{Relation}
use Rattle.qm_parse.specs.declared.fault.What.{What}
use Rattle.qm_parse.specs.declared.fault.What.TheVariants as what
use Rattle.qm_parse.specs.declared.stage.Stage.TheVariants as stage
use Rattle.qm_parse.specs.declared.stage.Seen.{Seen}
use Rattle.qm_parse.specs.declared.word.Symbol.{Symbol}
use Rattle.qm_parse.specs.declared.word.Word.{Word}
use Rattle.qm_parse.specs.declared.word.Word.TheVariants.{Name, Number, Sign, Related, Colon, Keyword as Reserved}
use Rattle.qm_parse.specs.Drafts.{signed_by}
use Rattle.qm_parse.specs.Parts.{◌then◌, Each, Label, OptionalLabel, RowEnds, RowOf, RowTerm, Says, SignOf, SignedNumber, StandsAt, is_odd}
use Rattle.qm_parse.specs.Reading.{leaves}
use Rattle.qm_parse.specs.Stages.{may_end, may_share_line, moved, row_begun, step}
use Rattle.qm_parse.specs.Texts.{KnowsColon, is_colon_next}
use Rattle.qm_parse.specs.Wants.{AnySigns, RowWants, Signs}
use Rattle.qm_parse.proofs.WrittenSteps.{state, symbol}
use Rattle.qm_parse.proofs.WantedFronts.{Front, FrontOf, RightFront, RowBodyFront, RowEndFront, RowMore, RowNumbered, RowSigned, RowTail, RowsFront}
use Rattle.qm_parse.proofs.WantedObjectives.{label_next, name_body, number_body, signs_more}
use Rattle.qm_parse.proofs.WantedSections.{followed_front}

-- ---- the right side

signed_right : (e : What) (minus : Bool) (symbols between rest : List Symbol) → Says (Sign minus) symbols between → RightFront e between rest → RightFront e symbols rest
signed_right e minus symbols between rest first (inl (is, (signs, each))) = inl (is, (minus ∷ signs, (between, first, each)))
signed_right e minus symbols between rest first (inr (b, (value, (signs, (c, each, (q, equal, number)))), ended)) =
    inr (b, (signed_by (is_odd (minus ∷ signs)) q, (minus ∷ signs, (c, (between, first, each), (q, refl, number)))), ended)

pub right : (word : Word) (at : Place) (line : Bool) (seen : Seen) (e : What) (symbols rest : List Symbol) → leaves word ≡ false
    → FrontOf (moved (state stage.RowRelation seen) word (step stage.RowRelation word)) e symbols rest → RightFront e (symbol word at line ∷ symbols) rest
unfolding moved step may_end leaves
right (Sign minus) at line seen e symbols rest stays p = signed_right e minus (symbol (Sign minus) at line ∷ symbols) symbols rest (refl, refl) p
right (Number (Some value)) at line seen e symbols rest stays p =
    inr (symbols, (signed_by false value, ([], (symbol (Number (Some value)) at line ∷ symbols, refl, (value, refl, (refl, refl))))), p)
right (Number None) at line seen e symbols rest stays p = absurd cc
right word at line seen e symbols rest stays p = absurd p

-- ---- terms

-- further signs before a term
signed_more : (e : What) (minus : Bool) (symbols between rest : List Symbol) → Says (Sign minus) symbols between → RowSigned e between rest → RowMore e symbols rest
signed_more e minus symbols between rest first (b, (signs, each), inl (is, nothing)) =
    (symbols, ([], refl), inr (inl (is, signs_more minus symbols between b rest signs first each nothing)))
signed_more e minus symbols between rest first (b, (signs, each), inr (inl (is, number))) =
    (symbols, ([], refl), inr (inr (inl (is, (b, signs_more minus symbols between b b signs first each refl, number)))))
signed_more e minus symbols between rest first (b, (signs, each), inr (inr (c, body, (d, (terms, others), tail)))) =
    let term = body (is_odd (minus ∷ signs)) in
    (d, (term.0 ∷ terms, (c, (minus ∷ signs, inr (λ none. cc), (b, (between, first, each), term.1)), others)), tail)

signed_signed : (e : What) (minus : Bool) (symbols between rest : List Symbol) → Says (Sign minus) symbols between → RowSigned e between rest → RowSigned e symbols rest
signed_signed e minus symbols between rest first (b, (signs, each), tail) = (b, (minus ∷ signs, (between, first, each)), tail)

unsigned : (e : What) (symbols rest : List Symbol) → RowBodyFront e symbols rest → RowSigned e symbols rest
unsigned e symbols rest front = (symbols, ([], refl), inr front)

pub numbered_body : (e : What) (value : Fraction) (at : Place) (line : Bool) (symbols rest : List Symbol) → RowNumbered e symbols rest → RowBodyFront e (symbol (Number (Some value)) at line ∷ symbols) rest
numbered_body e value at line symbols rest (inl (is, nothing)) = inl (is, (value, (refl, nothing)))
numbered_body e value at line symbols rest (inr (b, name, more)) = inr (b, number_body value at line symbols b name, more)

pub named_body : (e : What) (n : ℕ) (labels : Bool) (at : Place) (line : Bool) (symbols rest : List Symbol) → RowMore e symbols rest → RowBodyFront e (symbol (Name n labels) at line ∷ symbols) rest
named_body e n labels at line symbols rest more = inr (symbols, name_body n labels at line symbols, more)

pub colon : (word : Word) (at : Place) (line : Bool) (seen : Seen) (e : What) (symbols rest : List Symbol)
    → FrontOf (moved (state stage.RowLabel seen) word (step stage.RowLabel word)) e symbols rest → Front stage.RowLabel e (symbol word at line ∷ symbols) rest
unfolding moved step may_end
colon Colon at line seen e symbols rest p = λ next. (symbols, (refl, refl), p)
colon word at line seen e symbols rest p = absurd p

-- behind the label or signs
pub behind_signs : (word : Word) (at : Place) (line : Bool) (seen : Seen) (e : What) (symbols rest : List Symbol) → leaves word ≡ false
    → FrontOf (moved (state stage.RowSigned seen) word (step stage.RowSigned word)) e symbols rest → RowSigned e (symbol word at line ∷ symbols) rest
unfolding moved step may_end leaves
behind_signs (Sign minus) at line seen e symbols rest stays p = signed_signed e minus (symbol (Sign minus) at line ∷ symbols) symbols rest (refl, refl) p
behind_signs (Number (Some value)) at line seen e symbols rest stays p = unsigned e (symbol (Number (Some value)) at line ∷ symbols) rest (numbered_body e value at line symbols rest p)
behind_signs (Number None) at line seen e symbols rest stays p = absurd cc
behind_signs (Name n labels) at line seen e symbols rest stays p = unsigned e (symbol (Name n labels) at line ∷ symbols) rest (named_body e n labels at line symbols rest p)
behind_signs word at line seen e symbols rest stays p = absurd p

-- behind a number
pub behind_number : (word : Word) (at : Place) (line : Bool) (seen : Seen) (e : What) (symbols rest : List Symbol)
    → FrontOf (moved (state stage.RowNumber seen) word (step stage.RowNumber word)) e symbols rest → RowNumbered e (symbol word at line ∷ symbols) rest
unfolding moved step may_end
behind_number (Name n labels) at line seen e symbols rest p = inr (symbols, (n, at, ((labels, refl), refl, refl)), p)
behind_number word at line seen e symbols rest p = absurd p

-- behind a term
pub behind_term : (word : Word) (at : Place) (line : Bool) (seen : Seen) (e : What) (symbols rest : List Symbol)
    → FrontOf (moved (state stage.RowTerm seen) word (step stage.RowTerm word)) e symbols rest → RowMore e (symbol word at line ∷ symbols) rest
unfolding moved step may_end
behind_term (Sign minus) at line seen e symbols rest p = signed_more e minus (symbol (Sign minus) at line ∷ symbols) symbols rest (refl, refl) p
behind_term (Related relation) at line seen e symbols rest p =
    (symbol (Related relation) at line ∷ symbols, ([], refl), inr (inr (inr (symbols, (relation, (refl, refl)), p))))
behind_term word at line seen e symbols rest p = absurd p

-- ---- a row, from where it begins

-- what was read of a row up to a term
record RowBegun (symbols between : List Symbol) : Type 0 where
  labelled : List Symbol
  label : OptionalLabel symbols labelled
  first_end : List Symbol
  term : AstTerm
  first : RowTerm true term labelled first_end
  terms : List AstTerm
  others : Each (RowTerm false) terms first_end between

no_rows : (e : What) (symbols rest : List Symbol) → RowWants e symbols rest → RowsFront e symbols rest
no_rows e symbols rest wants = (symbols, ([], refl), inl wants)

all_signs : (symbols rest : List Symbol) → Signs symbols rest → AnySigns symbols rest
all_signs symbols rest (b, (minus, sign), (signs, each)) = (minus ∷ signs, (b, sign, each))

-- behind its right side
row_ended : (e : What) (at : Place) (symbols d f g rest : List Symbol) (begun : RowBegun symbols d) (relation : Relation) (value : Fraction) → StandsAt at symbols
    → Says (Related relation) d f → SignedNumber value f g → RowEndFront e g rest → RowsFront e symbols rest
row_ended e at symbols d f g rest begun relation value stands related number (inl (is, unless)) =
    no_rows e symbols rest
    (subst (λ w. RowWants w symbols rest) (sym is)
    (begun.labelled, begun.label, (begun.first_end, (begun.term, begun.first), (d, (begun.terms, begun.others), (f, (relation, related), (g, (value, number), unless))))))
row_ended e at symbols d f g rest begun relation value stands related number (inr (h, ends, (i, (rows, others), more))) =
    let row : AstRow = record { terms = begun.term ∷ begun.terms; relation = relation; right = value; at = at } in
    let written : RowOf row symbols h = (
      (λ none. cc),
      stands,
      (begun.labelled, begun.label, (d, (begun.first_end, begun.first, begun.others), (f, related, (g, number, ends)))),
    ) in
    (i, (row ∷ rows, (h, written, others)), more)

-- behind its relation
row_related : (e : What) (at : Place) (symbols d f rest : List Symbol) (begun : RowBegun symbols d) (relation : Relation) → StandsAt at symbols
    → Says (Related relation) d f → RightFront e f rest → RowsFront e symbols rest
row_related e at symbols d f rest begun relation stands related (inl (is, signs)) =
    no_rows e symbols rest
    (subst (λ w. RowWants w symbols rest) (sym is)
    (begun.labelled, begun.label, (begun.first_end, (begun.term, begun.first), (d, (begun.terms, begun.others), (f, (relation, related), signs)))))
row_related e at symbols d f rest begun relation stands related (inr (g, (value, number), ended)) =
    row_ended e at symbols d f g rest begun relation value stands related number ended

-- behind a term
row_tail : (e : What) (at : Place) (symbols d rest : List Symbol) (begun : RowBegun symbols d) → StandsAt at symbols → RowTail e d rest → RowsFront e symbols rest
row_tail e at symbols d rest begun stands (inl (is, nothing)) =
    no_rows e symbols rest
    (subst (λ w. RowWants w symbols rest) (sym is)
    (begun.labelled, begun.label, (begun.first_end, (begun.term, begun.first), (begun.terms, subst (λ xs. Each (RowTerm false) begun.terms begun.first_end xs) nothing begun.others))))
row_tail e at symbols d rest begun stands (inr (inl (is, signs))) =
    no_rows e symbols rest
    (subst (λ w. RowWants w symbols rest) (sym is)
    (inr (begun.labelled, begun.label, (d, (begun.term ∷ begun.terms, (begun.first_end, begun.first, begun.others)), signs))))
row_tail e at symbols d rest begun stands (inr (inr (inl (is, (f, signs, number))))) =
    no_rows e symbols rest
    (subst (λ w. RowWants w symbols rest) (sym is)
    (begun.labelled, begun.label, (d, (begun.term ∷ begun.terms, (begun.first_end, begun.first, begun.others)), (f, all_signs d f signs, number))))
row_tail e at symbols d rest begun stands (inr (inr (inr (f, (relation, related), behind)))) =
    row_related e at symbols d f rest begun relation stands related behind

-- behind its label and signs
row_opened : (e : What) (at : Place) (symbols between rest : List Symbol) → StandsAt at symbols → OptionalLabel symbols between
    → (AnySigns between rest → RowWants what.Term symbols rest) → RowSigned e between rest → RowsFront e symbols rest
row_opened e at symbols between rest stands label signed (b, (signs, each), inl (is, nothing)) =
    no_rows e symbols rest
    (subst (λ w. RowWants w symbols rest) (sym is) (signed (signs, subst (λ xs. Each SignOf signs between xs) nothing each)))
row_opened e at symbols between rest stands label signed (b, (signs, each), inr (inl (is, number))) =
    no_rows e symbols rest
    (subst (λ w. RowWants w symbols rest) (sym is) (between, label, (between, ([], refl), (b, (signs, each), number))))
row_opened e at symbols between rest stands label signed (b, (signs, each), inr (inr (c, body, (d, (terms, others), tail)))) =
    let term = body (is_odd signs) in
    row_tail e at symbols d rest
    (record { labelled = between; label = label; first_end = c; term = term.0; first = (signs, inl refl, (b, each, term.1)); terms = terms; others = others })
    stands tail

-- behind a label alone, or with signs
labelled_signs : (symbols between rest : List Symbol) → Label symbols between → AnySigns between rest → RowWants what.Term symbols rest
labelled_signs symbols between rest label ([], nothing) = inl (subst (λ xs. Label symbols xs) nothing label)
labelled_signs symbols between rest label (minus ∷ signs, (b, sign, each)) =
    inr (between, inl label, (between, ([], refl), (b, (minus, sign), (signs, each))))

-- a row that begins with its label
pub row_labelled : (e : What) (n : ℕ) (at : Place) (line : Bool) (symbols rest : List Symbol) → (Says Colon then RowSigned e) symbols rest → RowsFront e (symbol (Name n true) at line ∷ symbols) rest
row_labelled e n at line symbols rest (b, colon, signed) =
    let all = symbol (Name n true) at line ∷ symbols in
    let label : Label all b = (n, at, (symbols, ((true, refl), refl, refl), colon)) in
    row_opened e at all b rest refl (inl label) (labelled_signs all b rest label) signed

-- a row that begins with signs
pub row_signed : (e : What) (minus : Bool) (at : Place) (line : Bool) (symbols rest : List Symbol) → RowSigned e symbols rest → RowsFront e (symbol (Sign minus) at line ∷ symbols) rest
row_signed e minus at line symbols rest (b, (signs, each), inl (is, nothing)) =
    let all = symbol (Sign minus) at line ∷ symbols in
    no_rows e all rest
    (subst (λ w. RowWants w all rest) (sym is)
    (inr (all, inr refl, (all, ([], refl), signs_more minus all symbols b rest signs (refl, refl) each nothing))))
row_signed e minus at line symbols rest (b, (signs, each), inr (inl (is, number))) =
    let all = symbol (Sign minus) at line ∷ symbols in
    no_rows e all rest
    (subst (λ w. RowWants w all rest) (sym is) (all, inr refl, (all, ([], refl), (b, (minus ∷ signs, (symbols, (refl, refl), each)), number))))
row_signed e minus at line symbols rest (b, (signs, each), inr (inr (c, body, (d, (terms, others), tail)))) =
    let all = symbol (Sign minus) at line ∷ symbols in
    let term = body (is_odd (minus ∷ signs)) in
    row_tail e at all d rest
    (record { labelled = all; label = inr refl; first_end = c; term = term.0; first = (minus ∷ signs, inl refl, (b, (symbols, (refl, refl), each), term.1)); terms = terms; others = others })
    refl tail

-- a row that begins with its term
pub row_unsigned : (e : What) (at : Place) (symbols rest : List Symbol) → StandsAt at symbols → RowBodyFront e symbols rest → RowsFront e symbols rest
row_unsigned e at symbols rest stands (inl (is, number)) =
    no_rows e symbols rest (subst (λ w. RowWants w symbols rest) (sym is) (symbols, inr refl, (symbols, ([], refl), (symbols, ([], refl), number))))
row_unsigned e at symbols rest stands (inr (c, body, (d, (terms, others), tail))) =
    let term = body false in
    row_tail e at symbols d rest
    (record { labelled = symbols; label = inr refl; first_end = c; term = term.0; first = ([], inl refl, (symbols, refl, term.1)); terms = terms; others = others })
    stands tail

-- ---- where a row begins

colon_behind : (symbols : List Symbol) → is_colon_next symbols → (rest : List Symbol) × Says Colon symbols rest
colon_behind [] next = absurd next
colon_behind (first ∷ symbols) next = (symbols, (next, refl))

-- a row, or what follows rows
pub begun : (word : Word) (at : Place) (line : Bool) (seen : Seen) (e : What) (symbols rest : List Symbol) → leaves word ≡ false → KnowsColon (symbol word at line) symbols
    → FrontOf (moved (state stage.RowsBegin seen) word (step stage.RowsBegin word)) e symbols rest → RowsFront e (symbol word at line ∷ symbols) rest
unfolding moved step row_begun may_end leaves
begun (Name n true) at line seen e symbols rest stays knows p = row_labelled e n at line symbols rest (p (label_next n at line symbols knows))
begun (Name n false) at line seen e symbols rest stays knows p = row_unsigned e at (symbol (Name n false) at line ∷ symbols) rest refl (named_body e n false at line symbols rest p)
begun (Sign minus) at line seen e symbols rest stays knows p = row_signed e minus at line symbols rest p
begun (Number (Some value)) at line seen e symbols rest stays knows p =
    row_unsigned e at (symbol (Number (Some value)) at line ∷ symbols) rest refl (numbered_body e value at line symbols rest p)
begun (Number None) at line seen e symbols rest stays knows p = absurd cc
begun word at line seen e symbols rest stays knows p = (symbol word at line ∷ symbols, ([], refl), inr (followed_front word at line seen e symbols rest p))

end_step : (word : Word) (seen : Seen) (e : What) (symbols rest : List Symbol) → FrontOf (moved (state stage.RowEnd seen) word (step stage.RowEnd word)) e symbols rest
    → FrontOf (moved (state stage.RowsBegin seen) word (step stage.RowsBegin word)) e symbols rest
unfolding moved step row_begun may_end
end_step (Name n true) seen e symbols rest p = p
end_step word seen e symbols rest p = p

pub row_ends : (word : Word) (at : Place) (line : Bool) (symbols : List Symbol) → KnowsColon (symbol word at line) symbols → (line || may_share_line stage.RowEnd word) ≡ true
    → RowEnds (symbol word at line ∷ symbols) (symbol word at line ∷ symbols)
unfolding may_share_line
row_ends word at true symbols knows fits = (inl refl, refl)
row_ends (Reserved k) at false symbols knows fits = (inr (inl (k, refl)), refl)
row_ends (Name n true) at false symbols knows fits =
    let behind = colon_behind symbols (label_next n at false symbols knows) in
    (inr (inr (behind.0, (n, at, (symbols, ((true, refl), refl, refl), behind.1)))), refl)
row_ends word at false symbols knows fits = absurd cc

-- behind a row
pub behind_row : (word : Word) (at : Place) (line : Bool) (seen : Seen) (e : What) (symbols rest : List Symbol) → leaves word ≡ false → KnowsColon (symbol word at line) symbols
    → (line || may_share_line stage.RowEnd word) ≡ true
    → FrontOf (moved (state stage.RowEnd seen) word (step stage.RowEnd word)) e symbols rest → RowEndFront e (symbol word at line ∷ symbols) rest
behind_row word at line seen e symbols rest stays knows fits p =
    inr (symbol word at line ∷ symbols, row_ends word at line symbols knows fits, begun word at line seen e symbols rest stays knows (end_step word seen e symbols rest p))
