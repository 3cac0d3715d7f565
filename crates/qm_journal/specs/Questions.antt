-- Questions whether a prefix is legal, and the entries that their answers may add.
use Rattle.std.specs.Prelude.{◌≡◌, ◌≢◌, ◌⊎◌, ℕ, suc, ◌<◌, ℤ, List, [], ◌∷◌, ◌++◌, length, All, Option, Some, None}
use Rattle.qm_model.specs.declared.game.Problem.{Problem}
use Rattle.qm_journal.specs.declared.entry.JEntry.{JEntry}
use Rattle.qm_journal.specs.declared.entry.JKind.TheVariants.{Query, Step}
use Rattle.qm_journal.specs.Positions.{IsParent, position_of}
use Rattle.qm_journal.specs.Lawful.{IsUniversalTurn}

-- what is asked about: the prefix of a game entry with a value appended, or without a value the empty prefix
abbrev pub named_prefix : List JEntry → ℕ → Option ℤ → List ℤ
named_prefix J parent None = []
named_prefix J parent (Some v) = (position_of J parent).prefix ++ v ∷ []

abbrev pub query_entry : ℕ → ℤ → JEntry
query_entry parent v = record { kind = Query; parent = parent; value = v }

-- a step entry whose parent is 0
abbrev pub IsFirstStep : JEntry → Type 0
IsFirstStep e = (e.kind ≡ Step) × (e.parent ≡ 0)

-- A question that hasn't been asked yet: about a value of the universal player behind the prefix of a game entry, or
-- behind the empty one for the parent 0; or without a value about the empty prefix.
abbrev pub IsNewQuestion : Problem → List JEntry → ℕ → Option ℤ → Type 0
IsNewQuestion P J parent None = (parent ≡ 0) × All (λ e. ¬ IsFirstStep e) J
IsNewQuestion P J parent (Some v) = IsParent Query J parent × IsUniversalTurn P (position_of J parent).prefix × All (λ e. e ≢ query_entry parent v) J

-- Steps that lead back to the number `to`, where they stand behind the number `last`: the parent of each is that number
-- or one of them, since no parent comes later than its entry.
abbrev pub LeadBack : ℕ → ℕ → List JEntry → Type 0
LeadBack to last steps = All (λ e. (e.kind ≡ Step) × ((e.parent ≡ to) ⊎ (last < e.parent))) steps

-- What the answer may add behind these entries. Without a value: steps that lead back to 0. Else nothing, or the query
-- entry of this parent and value, and steps that lead back to it.
abbrev pub MayAdd : List JEntry → ℕ → Option ℤ → List JEntry → Type 0
MayAdd J parent None added = LeadBack 0 (length J) added
MayAdd J parent (Some v) [] = Unit {0}
MayAdd J parent (Some v) (query ∷ steps) = (query ≡ query_entry parent v) × LeadBack (suc (length J)) (suc (length J)) steps

-- the journal went on from the old entries, which stay, to the new ones by an answer to this question
pub record WentOn (parent : ℕ) (value : Option ℤ) (old new : List JEntry) : Type 0 where
  pub added : List JEntry
  pub behind : new ≡ old ++ added
  pub may : MayAdd old parent value added
