-- How the search's journal goes on, and which values stay untried.
use Rattle.std.proofs.Common.{◌≡◌, ◌≢◌, ◌∙◌, ◌⊎◌, inl, inr, sym, refl, ap, subst, ℕ, suc, ◌<◌, ◌≤◌, arith, List, [], ◌∷◌, ◌++◌, length, length-append, append_assoc, append-nil, All, Some, ℤ, pos, ◌+ℤ◌, ◌≤ℤ◌, ◌<ℤ◌}
use Rattle.std.proofs.lemmas.Int.{ints}
use Rattle.std.proofs.lemmas.List.Elements.{All-append, All-cons, All-nil, All-weaker}
use Rattle.qm_journal.specs.declared.entry.JEntry.{JEntry}
use Rattle.qm_journal.specs.declared.entry.JKind.TheVariants.{Step}
use Rattle.qm_journal.specs.Questions.{MayAdd, WentOn, query_entry}
use Rattle.qm_journal.proofs.Answering.{IsNoGame, added-no_game}
use Rattle.qm_search.specs.VisitSteps.{AreAt, IsUntried, WentAmong, WentAsked, WentAt, WentBelow, game_entry}

-- one of the entries below an entry
abbrev IsBelow : ℕ → ℕ → JEntry → Type 0
IsBelow entry last e = (e.parent ≡ entry) ⊎ (last < e.parent)

-- the same, where only this value is appended to the entry
abbrev IsAt : ℕ → ℤ → ℕ → JEntry → Type 0
IsAt entry v last e = ((e.parent ≡ entry) × (e.value ≡ v)) ⊎ (last < e.parent)

-- ---- going on by more and more

pub went_nowhere : (entry : ℕ) (J : List JEntry) → WentBelow entry J J
went_nowhere entry J = record { added = []; behind = sym (append-nil J); below = All-nil (IsBelow entry (length J)) }

pub at_nowhere : (entry : ℕ) (v : ℤ) (J : List JEntry) → WentAt entry v J J
at_nowhere entry v J = record { added = []; behind = sym (append-nil J); at = All-nil (IsAt entry v (length J)) }

longer : (A B added : List JEntry) → B ≡ A ++ added → length A ≤ length B
longer A B added behind = omega (arith, ap length behind, length-append A added)

both_added : (A B C more most : List JEntry) → B ≡ A ++ more → C ≡ B ++ most → C ≡ A ++ (more ++ most)
both_added A B C more most b c = c ∙ ap (λ es. es ++ most) b ∙ append_assoc A more most

below_earlier : (entry last later : ℕ) → last ≤ later → (e : JEntry) → IsBelow entry later e → IsBelow entry last e
below_earlier entry last later le e (inl is) = inl is
below_earlier entry last later le e (inr behind) = inr (omega (arith, le, behind))

pub below_then : (entry : ℕ) (A B C : List JEntry) → WentBelow entry A B → WentBelow entry B C → WentBelow entry A C
below_then entry A B C g h = record {
  added = g.added ++ h.added;
  behind = both_added A B C g.added h.added g.behind h.behind;
  below = All-append (IsBelow entry (length A)) g.added h.added g.below
      (All-weaker (IsBelow entry (length B)) (IsBelow entry (length A)) (below_earlier entry (length A) (length B) (longer A B g.added g.behind)) h.added h.below);
}

at_earlier : (entry : ℕ) (v : ℤ) (last later : ℕ) → last ≤ later → (e : JEntry) → IsAt entry v later e → IsAt entry v last e
at_earlier entry v last later le e (inl is) = inl is
at_earlier entry v last later le e (inr behind) = inr (omega (arith, le, behind))

pub at_then : (entry : ℕ) (v : ℤ) (A B C : List JEntry) → WentAt entry v A B → WentAt entry v B C → WentAt entry v A C
at_then entry v A B C g h = record {
  added = g.added ++ h.added;
  behind = both_added A B C g.added h.added g.behind h.behind;
  at = All-append (IsAt entry v (length A)) g.added h.added g.at
      (All-weaker (IsAt entry v (length B)) (IsAt entry v (length A)) (at_earlier entry v (length A) (length B) (longer A B g.added g.behind)) h.added h.at);
}

of_any_value : (entry : ℕ) (v : ℤ) (last : ℕ) (e : JEntry) → IsAt entry v last e → IsBelow entry last e
of_any_value entry v last e (inl is) = inl is.0
of_any_value entry v last e (inr behind) = inr behind

-- below the entry, where it is one value
pub at_below : (entry : ℕ) (v : ℤ) (A B : List JEntry) → WentAt entry v A B → WentBelow entry A B
at_below entry v A B g = record {
  added = g.added;
  behind = g.behind;
  below = All-weaker (IsAt entry v (length A)) (IsBelow entry (length A)) (of_any_value entry v (length A)) g.added g.at;
}

-- ---- among several values

-- one of the entries below an entry, where values from `low` up to before `next` are appended to it
abbrev IsAmong : ℕ → ℤ → ℤ → ℕ → JEntry → Type 0
IsAmong entry low next last e = ((e.parent ≡ entry) × (low ≤ℤ e.value) × (e.value <ℤ next)) ⊎ (last < e.parent)

pub among_nowhere : (entry : ℕ) (low next : ℤ) (J : List JEntry) → WentAmong entry low next J J
among_nowhere entry low next J = record { added = []; behind = sym (append-nil J); among = All-nil (IsAmong entry low next (length J)) }

among_wider : (entry : ℕ) (low next more : ℤ) (last : ℕ) → ((v : ℤ) → low ≤ℤ v → v <ℤ next → v <ℤ more) → (e : JEntry) → IsAmong entry low next last e → IsAmong entry low more last e
among_wider entry low next more last wider e (inl is) = inl (is.0, is.1, wider e.value is.1 is.2)
among_wider entry low next more last wider e (inr behind) = inr behind

pub went_wider : (entry : ℕ) (low next more : ℤ) (A B : List JEntry) → ((v : ℤ) → low ≤ℤ v → v <ℤ next → v <ℤ more) → WentAmong entry low next A B → WentAmong entry low more A B
went_wider entry low next more A B wider g = record {
  added = g.added;
  behind = g.behind;
  among = All-weaker (IsAmong entry low next (length A)) (IsAmong entry low more (length A)) (among_wider entry low next more (length A) wider) g.added g.among;
}

of_this_value : (entry : ℕ) (low v : ℤ) (last later : ℕ) → low ≤ℤ v → last ≤ later → (e : JEntry) → IsAt entry v later e → IsAmong entry low (v +ℤ pos 1) last e
of_this_value entry low v last later from le e (inl is) = inl (is.0, omega (arith, ints, from, is.1), omega (arith, ints, is.1))
of_this_value entry low v last later from le e (inr behind) = inr (omega (arith, le, behind))

-- one value more
pub among_then : (entry : ℕ) (low v : ℤ) (A B C : List JEntry) → low ≤ℤ v → WentAmong entry low v A B → WentAt entry v B C → WentAmong entry low (v +ℤ pos 1) A C
among_then entry low v A B C from g h =
    let wide =
    All-weaker (IsAmong entry low v (length A)) (IsAmong entry low (v +ℤ pos 1) (length A)) (among_wider entry low v (v +ℤ pos 1) (length A) (λ w above below. omega (arith, ints, below))) g.added g.among in
    record {
      added = g.added ++ h.added;
      behind = both_added A B C g.added h.added g.behind h.behind;
      among = All-append (IsAmong entry low (v +ℤ pos 1) (length A)) g.added h.added wide
          (All-weaker (IsAt entry v (length B)) (IsAmong entry low (v +ℤ pos 1) (length A)) (of_this_value entry low v (length A) (length B) from (longer A B g.added g.behind)) h.added h.at);
    }

of_these_values : (entry : ℕ) (low next : ℤ) (last : ℕ) (e : JEntry) → IsAmong entry low next last e → IsBelow entry last e
of_these_values entry low next last e (inl is) = inl is.0
of_these_values entry low next last e (inr behind) = inr behind

pub among_below : (entry : ℕ) (low next : ℤ) (A B : List JEntry) → WentAmong entry low next A B → WentBelow entry A B
among_below entry low next A B g = record {
  added = g.added;
  behind = g.behind;
  below = All-weaker (IsAmong entry low next (length A)) (IsBelow entry (length A)) (of_these_values entry low next (length A)) g.added g.among;
}

-- ---- by an entry, and by a question

-- what is below an entry that has just been made comes after those that stood
below_new : (entry : ℕ) (v : ℤ) (before last : ℕ) → before < last → (e : JEntry) → IsBelow (suc before) last e → IsAt entry v before e
below_new entry v before last less e (inl is) = inr (omega (arith, is))
below_new entry v before last less e (inr behind) = inr (omega (arith, less, behind))

-- the value is entered, and the journal goes on below it
pub entered_at : (entry : ℕ) (v : ℤ) (J C : List JEntry) → WentBelow (suc (length J)) (J ++ game_entry entry v ∷ []) C → WentAt entry v J C
entered_at entry v J C g =
    let made = game_entry entry v in
    let more : length J < length (J ++ made ∷ []) = omega (arith, length-append J (made ∷ [])) in
    record {
      added = made ∷ g.added;
      behind = g.behind ∙ append_assoc J (made ∷ []) g.added;
      at = All-cons (IsAt entry v (length J)) made g.added (inl (refl, refl))
          (All-weaker (IsBelow (suc (length J)) (length (J ++ made ∷ []))) (IsAt entry v (length J)) (below_new entry v (length J) (length (J ++ made ∷ [])) more) g.added g.below);
    }

-- one of the steps that lead back to the query, which stands behind so many entries
abbrev LeadsBack : ℕ → JEntry → Type 0
LeadsBack before e = (e.kind ≡ Step) × ((e.parent ≡ suc before) ⊎ (suc before < e.parent))

steps_at : (entry : ℕ) (v : ℤ) (before : ℕ) (e : JEntry) → LeadsBack before e → IsAt entry v before e
steps_at entry v before e (step, inl is) = inr (omega (arith, is))
steps_at entry v before e (step, inr later) = inr (omega (arith, later))

query_at : (entry : ℕ) (v : ℤ) (before : ℕ) (q : JEntry) → q ≡ query_entry entry v → IsAt entry v before q
query_at entry v before q is = inl (ap (λ (e : JEntry). e.parent) is, ap (λ (e : JEntry). e.value) is)

answer_at : (entry : ℕ) (v : ℤ) (J added : List JEntry) → MayAdd J entry (Some v) added → AreAt entry v (length J) added
answer_at entry v J [] may = All-nil (IsAt entry v (length J))
answer_at entry v J (q ∷ steps) may =
    All-cons (IsAt entry v (length J)) q steps (query_at entry v (length J) q may.0)
    (All-weaker (LeadsBack (length J)) (IsAt entry v (length J)) (steps_at entry v (length J)) steps may.1)

-- it went on by the answer to a question about the value
pub asked_at : (entry : ℕ) (v : ℤ) (J K : List JEntry) → WentOn entry (Some v) J K → WentAsked entry v J K
asked_at entry v J K went =
    let made = game_entry entry v in
    record {
      at = record { added = went.added; behind = went.behind; at = answer_at entry v J went.added went.may };
      game = λ before. subst (All (λ e. e ≢ made)) (sym went.behind) (All-append (λ e. e ≢ made) J went.added before
          (All-weaker IsNoGame (λ e. e ≢ made) (λ e no same. no (ap (λ (d : JEntry). d.kind) same)) went.added (added-no_game J entry (Some v) went.added went.may)));
    }

-- ---- what stays untried

-- no entry at one of several values, nor behind a later one, is this one at another
other_entry : (entry : ℕ) (low next : ℤ) (last : ℕ) (d : JEntry) → d.parent ≡ entry → (low ≤ℤ d.value → d.value <ℤ next → ⊥) → entry ≤ last → (e : JEntry) → IsAmong entry low next last e → e ≢ d
other_entry entry low next last d parent other within e (inl is) same =
    let value = ap (λ (c : JEntry). c.value) same in
    other (omega (arith, ints, value, is.1)) (omega (arith, ints, value, is.2))
other_entry entry low next last d parent other within e (inr behind) same =
    absurd (let parents : e.parent ≡ d.parent = ap (λ (c : JEntry). c.parent) same in omega (arith, parents, parent, within, behind))

-- so an entry of another value isn't made
not_made : (entry : ℕ) (low next : ℤ) (J K : List JEntry) (d : JEntry) → d.parent ≡ entry → (low ≤ℤ d.value → d.value <ℤ next → ⊥) → entry ≤ length J → WentAmong entry low next J K → All (λ e. e ≢ d) J
    → All (λ e. e ≢ d) K
not_made entry low next J K d parent other within went before =
    subst (All (λ e. e ≢ d)) (sym went.behind)
    (All-append (λ e. e ≢ d) J went.added before (All-weaker (IsAmong entry low next (length J)) (λ e. e ≢ d) (other_entry entry low next (length J) d parent other within) went.added went.among))

pub others_untried : (entry : ℕ) (low next w : ℤ) (J K : List JEntry) → IsUntried J entry w → (low ≤ℤ w → w <ℤ next → ⊥) → entry ≤ length J → WentAmong entry low next J K → IsUntried K entry w
others_untried entry low next w J K before other within went = record {
  game = not_made entry low next J K (game_entry entry w) refl other within went before.game;
  query = not_made entry low next J K (query_entry entry w) refl other within went before.query;
}
