-- Steps of the search in the journal: where it stands, and what it adds.
use Rattle.std.specs.Prelude.{◌≡◌, ◌⊎◌, ℕ, suc, ◌+◌, ◌<◌, ℤ, ◌≤ℤ◌, false, IsTrue, List, [], ◌∷◌, ◌++◌, All, drop, length, map, slice_set, Option, Some, None}
use Rattle.qm_math.specs.Ranges.{IsBetween}
use Rattle.qm_model.specs.declared.range.Range.{Range}
use Rattle.qm_model.specs.declared.variable.Player.TheVariants.{All as Universal}
use Rattle.qm_model.specs.declared.variable.Var.{Var}
use Rattle.qm_model.specs.declared.game.Problem.{Problem}
use Rattle.qm_model.specs.Boxes.{FollowOn, IsDead, bounds_of}
use Rattle.qm_model.specs.Plays.{whole_vars}
use Rattle.qm_model.specs.Ranges.{range_at}
use Rattle.qm_game.specs.First.{HasNone}
use Rattle.qm_journal.specs.declared.entry.JEntry.{JEntry}
use Rattle.qm_journal.specs.declared.entry.JKind.TheVariants.{Step}
use Rattle.qm_journal.specs.declared.journal.JournalFault.{JournalFault}
use Rattle.qm_journal.specs.declared.journal.JournalFault.TheVariants as journal_fault
use Rattle.qm_journal.specs.Contents.{Contents}
use Rattle.qm_journal.specs.Lawful.{IsLawful, IsNext, is_restricted}
use Rattle.qm_journal.specs.Positions.{IsAsked, IsParent, next_position, position_of, universal_values}
use Rattle.qm_journal.specs.Questions.{IsFirstStep, LeadBack, WentOn, query_entry}
use Rattle.qm_trees.specs.declared.empty.EmptyPart.{EmptyPart}
use Rattle.qm_trees.specs.EmptyJudgement.{range_of, below_of}
use Rattle.qm_legal.specs.declared.fault.LegalFault.{LegalFault}
use Rattle.qm_legal.specs.declared.fault.LegalFault.TheVariants as fault
use Rattle.qm_legal.specs.declared.named.NamedPrefix.{NamedPrefix}
use Rattle.qm_legal.specs.Queries.{Shows, set_values}
use Rattle.qm_legal.specs.SearchSteps.{IsAliveBox, IsCompleted, IsOneOf}

-- ---- entries

abbrev pub fault_of : JournalFault → LegalFault
fault_of journal_fault.Spent = fault.Spent
fault_of journal_fault.Memory = fault.Memory

abbrev pub IsFull : Contents → Type 0
IsFull J = length J.entries ≡ J.limit

-- the query entry of the named prefix
abbrev pub query_of_value : ℕ → Option ℤ → Option JEntry
query_of_value parent None = None
query_of_value parent (Some v) = Some (query_entry parent v)

abbrev pub query_of : NamedPrefix → Option JEntry
query_of named = query_of_value named.parent named.value

abbrev pub step_of : ℕ → ℤ → JEntry
step_of number v = record { kind = Step; parent = number; value = v }

-- the journal once the entry is made, if there is one, and the number that the search then goes on from
abbrev pub with_entry : Option JEntry → Contents → Contents
with_entry None J = J
with_entry (Some e) J = record { limit = J.limit; entries = J.entries ++ e ∷ [] }

abbrev pub number_after : Option JEntry → Contents → ℕ
number_after None J = 0
number_after (Some e) J = suc (length J.entries)

-- ---- where the search stands

-- each universal variable's range is its bounds, and has a value
abbrev pub AreOpen : List Var → List Range → Type 0
AreOpen [] bx = Unit {0}
AreOpen (x ∷ xs) [] = ⊥
AreOpen (x ∷ xs) (r ∷ bx) = (x.player ≡ Universal → (r ≡ bounds_of x) × (r.low ≤ℤ r.high)) × AreOpen xs bx

-- the universal variables before the depth are set, the others open, and no uncertainty row is dead
pub record IsOpenBox (P : Problem) (depth : ℕ) (bx : List Range) : Type 0 where
  pub alive : IsAliveBox P depth bx
  pub others : AreOpen (drop depth (whole_vars P)) (drop depth bx)

-- one of the next variable's values, over which no uncertainty row is dead
pub record IsAliveValue (P : Problem) (depth : ℕ) (bx : List Range) (run : Range) : Type 0 where
  pub one : IsOneOf (range_at bx depth) run
  pub alive : HasNone (IsDead (slice_set bx depth run)) P.urows

-- The values that are set are those of the entry, which may come next; without an entry none is set, and there is no
-- step behind the empty prefix yet.
abbrev pub StandsAt : Problem → ℕ → List Range → List JEntry → Option JEntry → Type 0
StandsAt P depth bx J None = (set_values P depth bx ≡ []) × All (λ e. ¬ IsFirstStep e) J
StandsAt P depth bx J (Some e) = IsNext P J e × IsAsked e.kind × (universal_values P (next_position e.kind (position_of J e.parent) e.value) ≡ set_values P depth bx)

-- the search may begin, and make the entry
pub record IsSearched (P : Problem) (depth : ℕ) (bx : List Range) (J : Contents) (entry : Option JEntry) : Type 0 where
  pub box : IsOpenBox P depth bx
  pub lawful : IsLawful P J.entries
  pub restricted : IsTrue (is_restricted P)
  pub stands : StandsAt P depth bx J.entries entry

-- the values that are set are those at the number, and steps may come behind it
pub record IsEntered (P : Problem) (depth : ℕ) (bx : List Range) (J : Contents) (number : ℕ) : Type 0 where
  pub box : IsOpenBox P depth bx
  pub lawful : IsLawful P J.entries
  pub restricted : IsTrue (is_restricted P)
  pub parent : IsParent Step J.entries number
  pub values : universal_values P (position_of J.entries number) ≡ set_values P depth bx

-- there is no step of one of these values behind the number yet
abbrev pub AreUntried : ℕ → Range → List JEntry → Type 0
AreUntried number tried J = All (λ e. e.kind ≡ Step → e.parent ≡ number → IsBetween tried.low tried.high e.value → ⊥) J

-- ---- what it adds

-- the journal went on by lawful entries that are such, and its limit is as before
pub record Grown (P : Problem) (Such : List JEntry → Type 0) (old new : Contents) : Type 0 where
  pub added : List JEntry
  pub behind : new.entries ≡ old.entries ++ added
  pub such : Such added
  pub lawful : IsLawful P new.entries
  pub limit : new.limit ≡ old.limit

-- the entry, and steps that lead back to it; without an entry steps that lead back to 0
abbrev pub IsAdded : Option JEntry → List JEntry → List JEntry → Type 0
IsAdded None J added = LeadBack 0 (length J) added
IsAdded (Some e) J [] = Unit {0}
IsAdded (Some e) J (d ∷ steps) = (d ≡ e) × LeadBack (suc (length J)) (suc (length J)) steps

-- a step of one of these values behind the number, or behind an entry after the last one
abbrev pub IsStepWithin : ℕ → Range → ℕ → JEntry → Type 0
IsStepWithin number tried last e = (e.kind ≡ Step) × (((e.parent ≡ number) × IsBetween tried.low tried.high e.value) ⊎ (last < e.parent))

abbrev pub AreStepsWithin : ℕ → Range → ℕ → List JEntry → Type 0
AreStepsWithin number tried last added = All (IsStepWithin number tried last) added

-- what is added by the whole answer, and that nothing is where no values of the universal player may be illegal
pub record Answered (P : Problem) (named : NamedPrefix) (old new : Contents) : Type 0 where
  pub went_on : WentOn named.parent named.value old.entries new.entries
  pub lawful : IsLawful P new.entries
  pub limit : new.limit ≡ old.limit
  pub unrestricted : is_restricted P ≡ false → new.entries ≡ old.entries

-- ---- parts of a range

-- a range of values of another
pub record IsPartOf (covered within : Range) : Type 0 where
  pub low : covered.low ≤ℤ within.low
  pub high : within.high ≤ℤ covered.high

-- parts that cover the range, below each of which its tree shows that no play is left
pub record AreShownParts (P : Problem) (later : List Var) (depth : ℕ) (bx : List Range) (within : Range) (parts : List EmptyPart) : Type 0 where
  pub follow : FollowOn within.low within.high (map range_of parts)
  pub below : All (λ part. Shows P later (depth + 1) (slice_set bx depth (range_of part)) (below_of part)) parts

-- such parts, and the box is as it was; or there are none, and the box is completed
abbrev pub AreFoundParts : Problem → List Var → ℕ → List Range → List Range → Range → Option (List EmptyPart) → Type 0
AreFoundParts P later depth bx after within (Some parts) = AreShownParts P later depth bx within parts × (after ≡ bx)
AreFoundParts P later depth bx after within None = IsCompleted P depth bx after
