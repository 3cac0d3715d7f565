-- What the numbers of a growing journal stand for, and why it stays lawful.
use Rattle.std.proofs.Common.{◌≡◌, ◌≢◌, ◌∙◌, ⊎_elim, sym, refl, ap, subst, ℕ, zero, suc, ◌<◌, ◌≤◌, arith, List, [], ◌∷◌, ◌++◌, length, length-append, get_or, take, All, Option, Some, None, ℤ}
use Rattle.std.proofs.Math.Seq.{get_or-append_seam}
use Rattle.std.proofs.lemmas.Bool.{cases_order}
use Rattle.std.proofs.lemmas.List.{get_or_append_left, length-take-le}
use Rattle.std.proofs.lemmas.List.Elements.{All-push, All-weaker}
use Rattle.qm_model.specs.declared.game.Problem.{Problem}
use Rattle.qm_journal.specs.declared.entry.JEntry.{JEntry}
use Rattle.qm_journal.specs.declared.entry.JKind.TheVariants.{Game}
use Rattle.qm_journal.specs.Lawful.{IsLawful, IsLawfulWith, IsNext, IsOpen, IsUniversalTurn}
use Rattle.qm_journal.specs.Positions.{IsOfKind, Position, next_position, position_of}
use Rattle.qm_journal.specs.Questions.{IsNewQuestion, WentOn, query_entry}
use Rattle.qm_journal.proofs.Answering.{game-stays}
use Rattle.qm_journal.proofs.Entries.{nowhere}
use Rattle.qm_journal.proofs.Growing.{IsLawful-enter, IsNext-at, IsOfKind-within, IsParent-append, IsParent-within, position_of-new, position_of-old, position_of-start}
use Rattle.qm_journal.proofs.Places.{some_at-get, some_at-of}
use Rattle.qm_legal.proofs.Asking.{query_of_game}
use Rattle.qm_search.specs.Entering.{IsEnterable, MayHold}
use Rattle.qm_search.specs.declared.state.Search.{Search}
use Rattle.qm_search.specs.VisitSteps.{IsNotEntered, IsUntried, Moved, StandsFor, WentAsked, WentAt, WentBelow, game_entry}
use Rattle.qm_search.proofs.JournalGoesOn.{asked_at}

-- ---- what a number stands for

pub parent_within : (J : List JEntry) (entry : ℕ) (prefix : List ℤ) → StandsFor J entry prefix → entry ≤ length J
parent_within J entry prefix stands = IsParent-within Game J entry stands.parent

-- it stands for the same as entries come
pub stands_later : (J added : List JEntry) (entry : ℕ) (prefix : List ℤ) → StandsFor J entry prefix → StandsFor (J ++ added) entry prefix
stands_later J added entry prefix stands = record {
  parent = IsParent-append Game J added entry stands.parent;
  is = position_of-old J added entry (parent_within J entry prefix stands) ∙ stands.is;
}

pub stands_after_below : (J K : List JEntry) (entry : ℕ) (prefix : List ℤ) (other : ℕ) → StandsFor J entry prefix → WentBelow other J K → StandsFor K entry prefix
stands_after_below J K entry prefix other stands went = subst (λ es. StandsFor es entry prefix) (sym went.behind) (stands_later J went.added entry prefix stands)

pub stands_after_at : (J K : List JEntry) (entry : ℕ) (prefix : List ℤ) (other : ℕ) (v : ℤ) → StandsFor J entry prefix → WentAt other v J K → StandsFor K entry prefix
stands_after_at J K entry prefix other v stands went = subst (λ es. StandsFor es entry prefix) (sym went.behind) (stands_later J went.added entry prefix stands)

-- a new entry stands for its parent's prefix with its value
pub stands_new : (J : List JEntry) (entry : ℕ) (prefix : List ℤ) (v : ℤ) → StandsFor J entry prefix → StandsFor (J ++ game_entry entry v ∷ []) (suc (length J)) (prefix ++ v ∷ [])
stands_new J entry prefix v stands =
    let made = game_entry entry v in
    record {
      parent = some_at-of (λ (e : JEntry). e.kind ≡ Game) (J ++ made ∷ []) (length J) nowhere (omega (arith, length-append J (made ∷ [])))
          (ap (λ (e : JEntry). e.kind) (get_or-append_seam J made [] nowhere));
      is = position_of-new J made ∙ ap (λ (p : Position). next_position Game p v) stands.is;
    }

-- ---- what is untried behind a new entry

-- no parent is a number beyond the entries
parents_within : (P : Problem) (J : List JEntry) → IsLawful P J → All (λ e. e.parent ≤ length J) J
parents_within P J lawful = λ k d less.
    let next : IsNext P (take k J) (get_or J k d) = IsNext-at P [] J k d lawful less in
    omega (arith, less, IsParent-within (get_or J k d).kind (take k J) (get_or J k d).parent next.parent, length-take-le k J (omega (arith, less)))

beyond : (last : ℕ) (d : JEntry) → d.parent ≡ suc last → (e : JEntry) → e.parent ≤ last → e ≢ d
beyond last d parent e within same = absurd (let parents : e.parent ≡ d.parent = ap (λ (c : JEntry). c.parent) same in omega (arith, parents, parent, within))

pub new_untried : (P : Problem) (J : List JEntry) (entry : ℕ) (prefix : List ℤ) (v : ℤ) → IsLawful P J → StandsFor J entry prefix → (w : ℤ) → IsUntried (J ++ game_entry entry v ∷ []) (suc (length J)) w
new_untried P J entry prefix v lawful stands w =
    let made = game_entry entry v in
    let new = suc (length J) in
    let within = All-push (λ e. e.parent ≤ length J) J made (parents_within P J lawful) (parent_within J entry prefix stands) in
    record {
      game = All-weaker (λ e. e.parent ≤ length J) (λ e. e ≢ game_entry new w) (beyond (length J) (game_entry new w) refl) (J ++ made ∷ []) within;
      query = All-weaker (λ e. e.parent ≤ length J) (λ e. e ≢ query_entry new w) (beyond (length J) (query_entry new w) refl) (J ++ made ∷ []) within;
    }

-- ---- why it stays lawful

-- an entry that stands in a longer journal at one of these numbers
kind_before : (J K : List JEntry) (n : ℕ) → n ≤ length J → IsOfKind Game (J ++ K) n → IsOfKind Game J n
kind_before J K zero within h = absurd h
kind_before J K (suc i) within h =
    let Q = λ (e : JEntry). e.kind ≡ Game in
    some_at-of Q J i nowhere (omega (arith, within))
    (subst Q (get_or_append_left J K nowhere i (omega (arith, within))) (some_at-get Q (J ++ K) i nowhere h))

module _ (P : Problem) (Such : List ℤ → Type 0) where
  -- what is asked holds of each entry and of the new one
  such_entered : (J : List JEntry) (e : JEntry) → ((number : ℕ) → IsOfKind Game J number → Such (position_of J number).prefix)
      → Such (position_of (J ++ e ∷ []) (suc (length J))).prefix → (number : ℕ) → IsOfKind Game (J ++ e ∷ []) number → Such (position_of (J ++ e ∷ []) number).prefix
  such_entered J e before new number h =
      ⊎_elim
      (λ last. old (omega (arith, last)))
      (⊎_elim
      (λ less. old (omega (arith, less)))
      (λ more. subst (λ n. Such (position_of (J ++ e ∷ []) n).prefix) (last_one more) new))
      (cases_order number (length J))
    where
      old : number ≤ length J → Such (position_of (J ++ e ∷ []) number).prefix
      old within = subst (λ (p : Position). Such p.prefix) (sym (position_of-old J (e ∷ []) number within)) (before number (kind_before J (e ∷ []) number within h))

      last_one : length J < number → suc (length J) ≡ number
      last_one more = omega (arith, more, IsOfKind-within Game (J ++ e ∷ []) number h, length-append J (e ∷ []))

  -- an answer adds no game entry
  pub lawful_asked : (J K : List JEntry) (parent : ℕ) (value : Option ℤ) → IsLawfulWith P Such J → IsLawful P K → WentOn parent value J K → IsLawfulWith P Such K
  lawful_asked J K parent value before lawful went = record {
    lawful = lawful;
    such = λ number h.
        let old = game-stays parent value J K went number h in
        subst (λ (p : Position). Such p.prefix) (sym old.1) (before.such number old.0);
  }

-- a prefix that may be entered is
pub lawful_entered : (P : Problem) (J : List JEntry) (entry : ℕ) (prefix : List ℤ) (v : ℤ) → IsLawfulWith P (MayHold P) J → StandsFor J entry prefix → IsNotEntered J entry v → IsEnterable P (prefix ++ v ∷ [])
    → IsLawfulWith P (MayHold P) (J ++ game_entry entry v ∷ [])
lawful_entered P J entry prefix v before stands untried enterable =
    let made = game_entry entry v in
    let next : IsNext P J made = record {
      parent = stands.parent;
      new = untried;
      appends = subst (λ (p : Position). IsOpen P (p.prefix ++ v ∷ [])) (sym stands.is) enterable.still_open;
    } in
    let new = subst (λ (p : Position). MayHold P p.prefix) (sym (stands_new J entry prefix v stands).is) enterable.may_hold in
    record { lawful = IsLawful-enter P J made before.lawful next; such = such_entered P (MayHold P) J made before.such new }

-- ---- after the first question

none_first : (n : ℕ) → IsOfKind Game [] n → ⊥
none_first zero h = h
none_first (suc i) h = absurd h

pub first_lawful : (P : Problem) (J : List JEntry) → IsLawful P J → WentOn 0 None [] J → IsLawfulWith P (MayHold P) J
first_lawful P J lawful went =
    lawful_asked P (MayHold P) [] J 0 None (record { lawful = tt; such = λ number h. absurd (none_first number h) }) lawful went

pub first_stands : (J : List JEntry) → StandsFor J 0 []
first_stands J = record { parent = tt; is = position_of-start J }

-- it adds steps alone
pub first_untried : (J : List JEntry) → WentOn 0 None [] J → (v : ℤ) → IsUntried J 0 v
first_untried J went v = record {
  game = subst (All (λ e. e ≢ game_entry 0 v)) (sym went.behind) (λ k d less same. absurd (let step = (went.may k d less).0 in let kinds = ap (λ (e : JEntry). e.kind) same in cc));
  query = subst (All (λ e. e ≢ query_entry 0 v)) (sym went.behind) (λ k d less same. absurd (let step = (went.may k d less).0 in let kinds = ap (λ (e : JEntry). e.kind) same in cc));
}

-- ---- questions

pub new_question : (P : Problem) (J : List JEntry) (entry : ℕ) (prefix : List ℤ) (v : ℤ) → StandsFor J entry prefix → IsUniversalTurn P prefix → All (λ e. e ≢ query_entry entry v) J → IsNewQuestion P J entry (Some v)
new_question P J entry prefix v stands turn new =
    (query_of_game J entry stands.parent, subst (λ (p : Position). IsUniversalTurn P p.prefix) (sym stands.is) turn, new)

-- the journal of a search goes on by the answer
pub moved_asked : (P : Problem) (entry : ℕ) (v : ℤ) (old new : Search) → IsLawfulWith P (MayHold P) old.journal.entries → new.bx ≡ old.bx → new.journal.limit ≡ old.journal.limit → IsLawful P new.journal.entries
    → WentOn entry (Some v) old.journal.entries new.journal.entries → Moved P (WentAsked entry v) old new
moved_asked P entry v old new before same limit lawful went = record {
  same = same;
  limit = limit;
  lawful = lawful_asked P (MayHold P) old.journal.entries new.journal.entries entry (Some v) before lawful went;
  went = asked_at entry v old.journal.entries new.journal.entries went;
}
