-- Steps of the search: how its journal and its box go on.
use Rattle.std.specs.Prelude.{◌≡◌, ◌≢◌, ◌⊎◌, ℕ, ◌+◌, ◌<◌, ℤ, ◌≤ℤ◌, ◌<ℤ◌, List, [], ◌∷◌, ◌++◌, All, length, slice_set}
use Rattle.qm_math.specs.Ranges.{IsBetween}
use Rattle.qm_model.specs.declared.range.Range.{Range}
use Rattle.qm_model.specs.declared.game.Problem.{Problem}
use Rattle.qm_model.specs.Ranges.{range_at, single}
use Rattle.qm_journal.specs.declared.entry.JEntry.{JEntry}
use Rattle.qm_journal.specs.declared.entry.JKind.TheVariants.{Game}
use Rattle.qm_journal.specs.Lawful.{IsLawfulWith}
use Rattle.qm_journal.specs.Positions.{IsParent, position_of}
use Rattle.qm_journal.specs.Questions.{query_entry}
use Rattle.qm_search.specs.declared.state.Search.{Search}
use Rattle.qm_search.specs.Entering.{MayHold}
use Rattle.qm_search.specs.PlaceSteps.{AreEntered, Completes, IsSearchBox, IsSearchPlace, prefix_before}

-- ---- the journal

abbrev pub game_entry : ℕ → ℤ → JEntry
game_entry parent v = record { kind = Game; parent = parent; value = v }

-- the entry of this number stands for the prefix; 0 stands for the empty one
pub record StandsFor (J : List JEntry) (entry : ℕ) (prefix : List ℤ) : Type 0 where
  pub parent : IsParent Game J entry
  pub is : position_of J entry ≡ record { prefix = prefix; steps = [] }

-- the value hasn't been entered behind the entry
abbrev pub IsNotEntered : List JEntry → ℕ → ℤ → Type 0
IsNotEntered J entry v = All (λ e. e ≢ game_entry entry v) J

-- nor asked about
pub record IsUntried (J : List JEntry) (entry : ℕ) (v : ℤ) : Type 0 where
  pub game : IsNotEntered J entry v
  pub query : All (λ e. e ≢ query_entry entry v) J

-- Entries go on below an entry, where they stand behind the number `last`: the parent of each is that entry or one of
-- them, since no parent comes later than its entry.
abbrev pub AreBelow : ℕ → ℕ → List JEntry → Type 0
AreBelow entry last added = All (λ e. (e.parent ≡ entry) ⊎ (last < e.parent)) added

-- the same, where only this value is appended to the entry
abbrev pub AreAt : ℕ → ℤ → ℕ → List JEntry → Type 0
AreAt entry v last added = All (λ e. ((e.parent ≡ entry) × (e.value ≡ v)) ⊎ (last < e.parent)) added

-- the same, where only values from `low` up to before `next` are
abbrev pub AreAmong : ℕ → ℤ → ℤ → ℕ → List JEntry → Type 0
AreAmong entry low next last added = All (λ e. ((e.parent ≡ entry) × (low ≤ℤ e.value) × (e.value <ℤ next)) ⊎ (last < e.parent)) added

-- the journal went on below the entry
pub record WentBelow (entry : ℕ) (old new : List JEntry) : Type 0 where
  pub added : List JEntry
  pub behind : new ≡ old ++ added
  pub below : AreBelow entry (length old) added

-- the journal went on below the entry, where only this value is appended to it
pub record WentAt (entry : ℕ) (v : ℤ) (old new : List JEntry) : Type 0 where
  pub added : List JEntry
  pub behind : new ≡ old ++ added
  pub at : AreAt entry v (length old) added

-- the same, where only values from `low` up to before `next` are
pub record WentAmong (entry : ℕ) (low next : ℤ) (old new : List JEntry) : Type 0 where
  pub added : List JEntry
  pub behind : new ≡ old ++ added
  pub among : AreAmong entry low next (length old) added

-- the journal went on by a question about this value behind the entry: no game entry of it is there yet
pub record WentAsked (entry : ℕ) (v : ℤ) (old new : List JEntry) : Type 0 where
  pub at : WentAt entry v old new
  pub game : IsNotEntered old entry v → IsNotEntered new entry v

-- ---- what a visit finds, and what it leaves

-- the box is as it was, the journal went on so, within its limit, and is lawful
pub record Moved (P : Problem) (Went : List JEntry → List JEntry → Type 0) (old new : Search) : Type 0 where
  pub same : new.bx ≡ old.bx
  pub limit : new.journal.limit ≡ old.journal.limit
  pub lawful : IsLawfulWith P (MayHold P) new.journal.entries
  pub went : Went old.journal.entries new.journal.entries

-- a prefix that was entered, of which nothing below has been tried
pub record IsVisitPlace (P : Problem) (depth : ℕ) (search : Search) (entry : ℕ) (completion : List ℤ) : Type 0 where
  pub place : IsSearchPlace P depth search.bx completion
  pub entered : AreEntered P (depth + 1) search.bx
  pub lawful : IsLawfulWith P (MayHold P) search.journal.entries
  pub stands : StandsFor search.journal.entries entry (prefix_before depth search.bx)
  pub untried : (v : ℤ) → IsUntried search.journal.entries entry v

-- such a prefix, and values behind it that haven't been tried
pub record IsRunPlace (P : Problem) (depth : ℕ) (search : Search) (entry : ℕ) (completion : List ℤ) (values : Range) : Type 0 where
  pub place : IsSearchPlace P depth search.bx completion
  pub entered : AreEntered P (depth + 1) search.bx
  pub lawful : IsLawfulWith P (MayHold P) search.journal.entries
  pub stands : StandsFor search.journal.entries entry (prefix_before depth search.bx)
  pub within : (v : ℤ) → IsBetween values.low values.high v → IsBetween (range_at search.bx depth).low (range_at search.bx depth).high v
  pub untried : (v : ℤ) → IsBetween values.low values.high v → IsUntried search.journal.entries entry v

-- such a prefix, and a value behind it that hasn't been entered
pub record IsValuePlace (P : Problem) (depth : ℕ) (search : Search) (entry : ℕ) (v : ℤ) : Type 0 where
  pub box : IsSearchBox P depth search.bx
  pub within : IsBetween (range_at search.bx depth).low (range_at search.bx depth).high v
  pub entered : AreEntered P (depth + 1) search.bx
  pub lawful : IsLawfulWith P (MayHold P) search.journal.entries
  pub stands : StandsFor search.journal.entries entry (prefix_before depth search.bx)
  pub untried : IsNotEntered search.journal.entries entry v

-- nor asked about
pub record IsNewValuePlace (P : Problem) (depth : ℕ) (search : Search) (entry : ℕ) (v : ℤ) : Type 0 where
  pub value : IsValuePlace P depth search entry v
  pub query : All (λ e. e ≢ query_entry entry v) search.journal.entries

-- the values complete the prefix with this value behind it
abbrev pub CompletesNext : Problem → ℕ → List Range → ℤ → List ℤ → Type 0
CompletesNext P depth bx v completion = Completes P (depth + 1) (slice_set bx depth (single v)) completion

-- the box of such a prefix with the value behind it, before it is entered
pub record IsNewPlace (P : Problem) (depth : ℕ) (search : Search) (entry : ℕ) (v : ℤ) (completion : List ℤ) : Type 0 where
  pub place : IsSearchPlace P depth search.bx completion
  pub some : 0 < depth
  pub entered : AreEntered P depth search.bx
  pub lawful : IsLawfulWith P (MayHold P) search.journal.entries
  pub parent : List ℤ
  pub stands : StandsFor search.journal.entries entry parent
  pub is : prefix_before depth search.bx ≡ parent ++ v ∷ []
  pub untried : IsNotEntered search.journal.entries entry v
