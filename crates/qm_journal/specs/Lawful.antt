-- When a journal is lawful: each entry against those before it.
use Rattle.std.specs.Prelude.{◌≡◌, ◌≢◌, ℕ, ◌<◌, ℤ, int_lt, Bool, true, false, ◌||◌, IsTrue, List, [], ◌∷◌, ◌++◌, length, All, IsSomeAnd, slice_get, if◌then◌else◌}
use Rattle.std.specs.List.{list_any}
use Rattle.qm_model.specs.declared.range.Range.{Range}
use Rattle.qm_model.specs.declared.row.Row.{Row}
use Rattle.qm_model.specs.declared.variable.Player.TheVariants.{All as Universal}
use Rattle.qm_model.specs.declared.variable.Var.{Var}
use Rattle.qm_model.specs.declared.game.Problem.{Problem}
use Rattle.qm_model.specs.Boxes.{IsDead, bounds_of, whole_box_of}
use Rattle.qm_model.specs.Legal.{IsLegal, IsPrefix, universal_part}
use Rattle.qm_model.specs.Plays.{BeginWithin, is_universal, universal_vars, whole_vars}
use Rattle.qm_model.specs.Ranges.{single}
use Rattle.qm_journal.specs.declared.entry.JEntry.{JEntry}
use Rattle.qm_journal.specs.declared.entry.JKind.{JKind}
use Rattle.qm_journal.specs.declared.entry.JKind.TheVariants.{Game, Query, Step}
use Rattle.qm_journal.specs.Positions.{Position, IsOfKind, IsParent, position_of, universal_values}

-- the box of a prefix: the variables that it sets have their values, the others their bounds
abbrev pub prefix_box : List Var → List ℤ → List Range
prefix_box xs [] = whole_box_of xs
prefix_box [] (v ∷ vs) = []
prefix_box (x ∷ xs) (v ∷ vs) = single v ∷ prefix_box xs vs

-- the box of values of the first universal variables: these have their values, all others their bounds
abbrev pub play_box : List Var → List ℤ → List Range
play_box xs [] = whole_box_of xs
play_box [] (u ∷ us) = []
play_box (x ∷ xs) (u ∷ us) = if is_universal x then single u ∷ play_box xs us else bounds_of x ∷ play_box xs (u ∷ us)

-- no row is dead over the box
abbrev pub AreAlive : List Range → List Row → Type 0
AreAlive bx rows = All (λ row. ¬ IsDead bx row) rows

-- what every search asks of the prefix of a game entry: not empty, incomplete, within bounds, legal, and no row is dead
pub record IsOpen (P : Problem) (prefix : List ℤ) : Type 0 where
  pub some : 0 < length prefix
  pub incomplete : length prefix < length (whole_vars P)
  pub within : IsPrefix P prefix
  pub legal : IsLegal P prefix
  pub rows : AreAlive (prefix_box P.vars prefix) P.rows
  pub urows : AreAlive (prefix_box P.vars prefix) P.urows

-- these values of the first universal variables are within bounds, and no uncertainty row is dead over their box
pub record IsAlivePlay (P : Problem) (us : List ℤ) : Type 0 where
  pub within : BeginWithin (universal_vars P) us
  pub urows : AreAlive (play_box P.vars us) P.urows

-- the universal player sets the variable after the prefix
abbrev pub IsUniversalTurn : Problem → List ℤ → Type 0
IsUniversalTurn P prefix = IsSomeAnd (slice_get (whole_vars P) (length prefix)) (λ x. x.player ≡ Universal)

-- the prefix with a value of the universal player behind it is within bounds, and no uncertainty row is dead
pub record IsAskable (P : Problem) (prefix : List ℤ) (v : ℤ) : Type 0 where
  pub turn : IsUniversalTurn P prefix
  pub within : IsPrefix P (prefix ++ v ∷ [])
  pub alive : IsAlivePlay P (universal_part (whole_vars P) (prefix ++ v ∷ []))

abbrev pub has_rows : List Row → Bool
has_rows [] = false
has_rows (row ∷ rows) = true

-- there is an uncertainty row, or a universal variable has no value: some values of the universal player may be illegal
abbrev pub is_restricted : Problem → Bool
is_restricted P = has_rows P.urows || list_any (λ x. int_lt x.high x.low) (universal_vars P)

-- an entry of this kind may append the value to its parent's position
abbrev pub MayAppend : Problem → JKind → Position → ℤ → Type 0
MayAppend P Game parent v = IsOpen P (parent.prefix ++ v ∷ [])
MayAppend P Query parent v = IsTrue (is_restricted P) × IsAskable P parent.prefix v
MayAppend P Step parent v = IsTrue (is_restricted P) × IsAlivePlay P (universal_values P parent ++ v ∷ [])

-- the entry may come next: its parent is of the right kind, it is none of those before, and it appends what it may
pub record IsNext (P : Problem) (before : List JEntry) (e : JEntry) : Type 0 where
  pub parent : IsParent e.kind before e.parent
  pub new : All (λ d. d ≢ e) before
  pub appends : MayAppend P e.kind (position_of before e.parent) e.value

-- each of these entries may come next behind those before it
abbrev pub AreNext : Problem → List JEntry → List JEntry → Type 0
AreNext P before [] = Unit {0}
AreNext P before (e ∷ later) = IsNext P before e × AreNext P (before ++ e ∷ []) later

abbrev pub IsLawful : Problem → List JEntry → Type 0
IsLawful P J = AreNext P [] J

-- A lawful journal of a search that asks something of its own, besides what every search asks: that its prefixes are
-- such. A law about lawful journals holds whatever that is.
pub record IsLawfulWith (P : Problem) (Such : List ℤ → Type 0) (J : List JEntry) : Type 0 where
  pub lawful : IsLawful P J
  pub such : (number : ℕ) → IsOfKind Game J number → Such (position_of J number).prefix

-- a lawful journal that spends a budget: it has exactly so many entries
pub record SpendsBudget (P : Problem) (Such : List ℤ → Type 0) (budget : ℕ) (J : List JEntry) : Type 0 where
  pub spent : length J ≡ budget
  pub lawful : IsLawfulWith P Such J
