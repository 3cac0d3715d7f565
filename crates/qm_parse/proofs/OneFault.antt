-- Symbols have one first fault at most, and none where they are a text.
use Rattle.std.proofs.Common.{◌≡◌, ℕ, true, false, List, [], ◌∷◌, ◌++◌, ◌⊎◌, inl, inr, Some, None, refl, sym, ap, subst, ◌∙◌, append_assoc, append-nil}
use Rattle.std.proofs.lemmas.Bool.{true≢false}
use Rattle.qm_lex.specs.declared.place.Place.{Place}
use Rattle.qm_parse.specs.declared.ast.Ast.{Ast}
use Rattle.qm_parse.specs.declared.stage.State.{State}
use Rattle.qm_parse.specs.declared.unread.Unread.{Unread}
use Rattle.qm_parse.specs.declared.word.Symbol.{Symbol}
use Rattle.qm_parse.specs.declared.word.Word.{Word}
use Rattle.qm_parse.specs.declared.word.Word.TheVariants.{Name, Number, Sign, Related, Colon, Keyword as Reserved, Infinite, Free}
use Rattle.qm_parse.specs.Faults.{CanGoOn, IsFaultBehind, IsFirstFault, in_range, number_in_range, state_behind, unlabelled}
use Rattle.qm_parse.specs.Reading.{empty_draft, leaves, start}
use Rattle.qm_parse.specs.Texts.{IsText, KnowColons}
use Rattle.qm_parse.proofs.ReadTexts.{text_reads}
use Rattle.qm_parse.proofs.Beginnings.{AreInRange, in_range-behind, read_in_range, state_is}
use Rattle.qm_parse.proofs.FirstFaults.{no_label-leaves}

-- no number of a text leaves
pub text_in_range : (names : List (List ℕ)) (symbols : List Symbol) (ast : Ast) → KnowColons symbols → IsText names symbols ast → AreInRange symbols
text_in_range names symbols ast colons text =
    let end : Place = record { line = 1; column = 1 } in
    read_in_range start (empty_draft names) symbols end ast (text_reads names symbols ast end colons text)

-- ---- a longer beginning

-- the symbols before the last ones are as they were written
written_front : (front : List Symbol) (last : Symbol) (behind written : List Symbol) → (written ≡ front ++ last ∷ behind) ⊎ (written ≡ unlabelled (front ++ last ∷ behind))
    → (end : List Symbol) × (written ≡ front ++ end) × ((end ≡ last ∷ behind) ⊎ (end ≡ unlabelled (last ∷ behind)))
written_front [] last behind written same = (written, refl, same)
written_front (first ∷ []) last behind written (inl same) = (last ∷ behind, same, inl refl)
written_front (first ∷ []) last behind written (inr same) = (unlabelled (last ∷ behind), same, inr refl)
written_front (first ∷ next ∷ front) last behind written (inl same) = (last ∷ behind, same, inl refl)
written_front (first ∷ next ∷ front) last behind written (inr same) =
    let others = written_front (next ∷ front) last behind (unlabelled ((next ∷ front) ++ last ∷ behind)) (inr refl) in
    (others.0, same ∙ ap (λ xs. first ∷ xs) others.1, others.2)

-- what was cut off may be put back
cut : (front end more written : List Symbol) → written ≡ front ++ end → written ++ more ≡ front ++ (end ++ more)
cut front end more written same = ap (λ xs. xs ++ more) same ∙ append_assoc front end more

-- a beginning of a beginning is one
shorter : (front : List Symbol) (last : Symbol) (behind : List Symbol) → CanGoOn (front ++ last ∷ behind) → CanGoOn front
shorter front last behind further =
    let parts = written_front front last behind further.written further.same in
    let whole = cut front parts.0 further.more further.written parts.1 in record {
      written = front;
      same = inl refl;
      more = parts.0 ++ further.more;
      names = further.names;
      ast = further.ast;
      colons = subst KnowColons whole further.colons;
      text = subst (λ xs. IsText further.names xs further.ast) whole further.text;
    }

up_to : (front : List Symbol) (symbol : Symbol) (behind : List Symbol) → CanGoOn (front ++ symbol ∷ behind) → CanGoOn (front ++ symbol ∷ [])
up_to front symbol [] further = further
up_to front symbol (next ∷ behind) further = shorter (front ++ symbol ∷ []) next behind (subst CanGoOn (sym (append_assoc front (symbol ∷ []) (next ∷ behind))) further)

first_in_range : (symbol : Symbol) (behind end more : List Symbol) → (end ≡ symbol ∷ behind) ⊎ (end ≡ unlabelled (symbol ∷ behind)) → AreInRange (end ++ more) → leaves symbol.word ≡ false
first_in_range symbol behind end more (inl same) ranges = (subst (λ xs. AreInRange (xs ++ more)) same ranges).0
first_in_range symbol [] end more (inr same) ranges = sym (no_label-leaves symbol.word) ∙ (subst (λ xs. AreInRange (xs ++ more)) same ranges).0
first_in_range symbol (next ∷ behind) end more (inr same) ranges = (subst (λ xs. AreInRange (xs ++ more)) same ranges).0

-- no number of a beginning leaves
beginning_in_range : (front : List Symbol) (symbol : Symbol) (behind : List Symbol) → CanGoOn (front ++ symbol ∷ behind) → leaves symbol.word ≡ false
beginning_in_range front symbol behind further =
    let parts = written_front front symbol behind further.written further.same in
    let whole = cut front parts.0 further.more further.written parts.1 in
    let ranges = text_in_range further.names (further.written ++ further.more) further.ast further.colons further.text in
    first_in_range symbol behind parts.0 further.more parts.2 (in_range-behind front (parts.0 ++ further.more) (subst AreInRange whole ranges))

leaving_word : (word : Word) → word ≡ Number None → leaves word ≡ true
unfolding leaves
leaving_word word is = ap leaves is

pub stays-range : (word : Word) → leaves word ≡ false → number_in_range word ≡ word
unfolding leaves
stays-range (Number None) e = absurd cc
stays-range (Number (Some value)) e = refl
stays-range (Name n labels) e = refl
stays-range (Sign minus) e = refl
stays-range (Related relation) e = refl
stays-range Colon e = refl
stays-range (Reserved word) e = refl
stays-range Infinite e = refl
stays-range Free e = refl

-- where a beginning goes on with a symbol there is no fault
no_fault_within : (front : List Symbol) (state : State) (symbol : Symbol) (behind rest : List Symbol) (end : Place) (fault : Unread) → CanGoOn (front ++ symbol ∷ behind)
    → IsFaultBehind front state (symbol ∷ rest) end fault → ⊥
no_fault_within front state symbol behind rest end fault further (inl number) =
    true≢false (sym (leaving_word symbol.word number.1) ∙ beginning_in_range front symbol behind further)
no_fault_within front state symbol behind rest end fault further (inr other) =
    let stays = beginning_in_range front symbol behind further in
    let same : in_range symbol ≡ symbol = ap (λ w. record symbol { word = w }) (stays-range symbol.word stays) in
    other.1 (subst (λ s. CanGoOn (front ++ s ∷ [])) (sym same) (up_to front symbol behind further))

-- ---- two faults

-- one front is the beginning of the other
data Fronts (one other behind rest : List Symbol) : Type 0 where
  Same : one ≡ other → behind ≡ rest → Fronts one other behind rest
  Shorter : (symbol : Symbol) (between : List Symbol) → other ≡ one ++ symbol ∷ between → behind ≡ symbol ∷ between ++ rest → Fronts one other behind rest
  Longer : (symbol : Symbol) (between : List Symbol) → one ≡ other ++ symbol ∷ between → rest ≡ symbol ∷ between ++ behind → Fronts one other behind rest

abbrev first_of : Symbol → List Symbol → Symbol
first_of default [] = default
first_of default (symbol ∷ symbols) = symbol

abbrev others_of : List Symbol → List Symbol
others_of [] = []
others_of (symbol ∷ symbols) = symbols

cons_first : (one other : Symbol) (ones others : List Symbol) → one ∷ ones ≡ other ∷ others → one ≡ other
cons_first one other ones others e = ap (first_of one) e

cons_others : (one other : Symbol) (ones others : List Symbol) → one ∷ ones ≡ other ∷ others → ones ≡ others
cons_others one other ones others e = ap others_of e

longer_fronts : (first second : Symbol) (one other behind rest : List Symbol) → first ≡ second → Fronts one other behind rest → Fronts (first ∷ one) (second ∷ other) behind rest
longer_fronts first second one other behind rest same (Same e f) = Same (ap (λ s. s ∷ one) same ∙ ap (λ xs. second ∷ xs) e) f
longer_fronts first second one other behind rest same (Shorter symbol between e f) = Shorter symbol between (ap (λ xs. second ∷ xs) e ∙ ap (λ s. s ∷ one ++ symbol ∷ between) (sym same)) f
longer_fronts first second one other behind rest same (Longer symbol between e f) = Longer symbol between (ap (λ xs. first ∷ xs) e ∙ ap (λ s. s ∷ other ++ symbol ∷ between) same) f

fronts : (one other behind rest : List Symbol) → one ++ behind ≡ other ++ rest → Fronts one other behind rest
fronts [] [] behind rest e = Same refl e
fronts [] (symbol ∷ other) behind rest e = Shorter symbol other refl e
fronts (symbol ∷ one) [] behind rest e = Longer symbol one refl (sym e)
fronts (first ∷ one) (second ∷ other) behind rest e =
    longer_fronts first second one other behind rest (cons_first first second (one ++ behind) (other ++ rest) e)
    (fronts one other behind rest (cons_others first second (one ++ behind) (other ++ rest) e))

-- a fault behind one front: there is one at most
one_behind : (front : List Symbol) (state : State) (behind : List Symbol) (end : Place) (one other : Unread) → IsFaultBehind front state behind end one → IsFaultBehind front state behind end other → one ≡ other
one_behind front state [] end one other p q = p.0 ∙ sym q.0
one_behind front state (symbol ∷ symbols) end one other (inl p) (inl q) = p.0 ∙ sym q.0
one_behind front state (symbol ∷ symbols) end one other (inl p) (inr q) = absurd (q.1 p.2)
one_behind front state (symbol ∷ symbols) end one other (inr p) (inl q) = absurd (p.1 q.2)
one_behind front state (symbol ∷ symbols) end one other (inr p) (inr q) = p.0 ∙ sym q.0

at_same : (one other behind rest : List Symbol) (state next : State) (end : Place) (fault : Unread) → one ≡ other → behind ≡ rest → state_behind start one ≡ Some state → state_behind start other ≡ Some next
    → IsFaultBehind other next rest end fault → IsFaultBehind one state behind end fault
at_same one other behind rest state next end fault same tails reached there p =
    let states : next ≡ state = state_is next state (sym there ∙ ap (state_behind start) (sym same) ∙ reached) in
    subst (λ xs. IsFaultBehind xs state behind end fault) (sym same) (
    subst (λ xs. IsFaultBehind other state xs end fault) (sym tails) (
    subst (λ s. IsFaultBehind other s rest end fault) states p))

pub one_fault : (symbols : List Symbol) (end : Place) (one other : Unread) → IsFirstFault symbols end one → IsFirstFault symbols end other → one ≡ other
one_fault symbols end one other p q =
    elim (fronts p.front q.front p.behind q.behind (sym p.parts ∙ q.parts)) [
      | Same e f ↦ one_behind p.front p.state p.behind end one other p.stops (at_same p.front q.front p.behind q.behind p.state q.state end other e f p.reached q.reached q.stops)
      | Shorter symbol between e f ↦
          absurd (no_fault_within p.front p.state symbol between (between ++ q.behind) end one (subst CanGoOn e q.goes_on) (subst (λ xs. IsFaultBehind p.front p.state xs end one) f p.stops))
      | Longer symbol between e f ↦
          absurd (no_fault_within q.front q.state symbol between (between ++ p.behind) end other (subst CanGoOn e p.goes_on) (subst (λ xs. IsFaultBehind q.front q.state xs end other) f q.stops))
    ]

-- ---- a text has none

text_goes_on : (names : List (List ℕ)) (symbols : List Symbol) (ast : Ast) → KnowColons symbols → IsText names symbols ast → CanGoOn symbols
text_goes_on names symbols ast colons text = record {
  written = symbols;
  same = inl refl;
  more = [];
  names = names;
  ast = ast;
  colons = subst KnowColons (sym (append-nil symbols)) colons;
  text = subst (λ xs. IsText names xs ast) (sym (append-nil symbols)) text;
}

no_fault_behind : (names : List (List ℕ)) (front : List Symbol) (state : State) (behind : List Symbol) (ast : Ast) (end : Place) (fault : Unread) → KnowColons (front ++ behind) → IsText names (front ++ behind) ast
    → IsFaultBehind front state behind end fault → ⊥
no_fault_behind names front state [] ast end fault colons text p = p.1 names ast (subst (λ xs. IsText names xs ast) (append-nil front) text)
no_fault_behind names front state (symbol ∷ behind) ast end fault colons text p =
    no_fault_within front state symbol behind behind end fault (text_goes_on names (front ++ symbol ∷ behind) ast colons text) p

pub text_without_fault : (names : List (List ℕ)) (symbols : List Symbol) (ast : Ast) (end : Place) (fault : Unread) → KnowColons symbols → IsText names symbols ast → ¬ IsFirstFault symbols end fault
text_without_fault names symbols ast end fault colons text p =
    no_fault_behind names p.front p.state p.behind ast end fault (subst KnowColons p.parts colons) (subst (λ xs. IsText names xs ast) p.parts text) p.stops
