-- What the entries of a journal stand for. They are numbered from 1; the number 0 stands for the empty prefix.
use Rattle.std.specs.Prelude.{◌≡◌, ℕ, zero, suc, ℤ, List, [], ◌∷◌, ◌++◌, IsSomeAnd, slice_get, slice_index_or}
use Rattle.qm_model.specs.declared.game.Problem.{Problem}
use Rattle.qm_model.specs.Legal.{universal_part}
use Rattle.qm_model.specs.Plays.{whole_vars}
use Rattle.qm_journal.specs.declared.entry.JEntry.{JEntry}
use Rattle.qm_journal.specs.declared.entry.JKind.{JKind}
use Rattle.qm_journal.specs.declared.entry.JKind.TheVariants.{Game, Query, Step}

-- a prefix, and values of the next universal variables behind it, which only a step entry has
pub record Position : Type 0 where
  pub prefix : List ℤ
  pub steps : List ℤ

-- the empty prefix
abbrev pub start : Position
start = record { prefix = []; steps = [] }

-- where an entry of this kind stands that appends the value to its parent's position
abbrev pub next_position : JKind → Position → ℤ → Position
next_position Game parent v = record { prefix = parent.prefix ++ v ∷ []; steps = [] }
next_position Query parent v = record { prefix = parent.prefix ++ v ∷ []; steps = [] }
next_position Step parent v = record { prefix = parent.prefix; steps = parent.steps ++ v ∷ [] }

-- the positions of all numbers from 0 on, where those before these entries are known
abbrev pub positions_from : List Position → List JEntry → List Position
positions_from known [] = known
positions_from known (e ∷ later) = positions_from (known ++ next_position e.kind (slice_index_or known e.parent start) e.value ∷ []) later

abbrev pub positions : List JEntry → List Position
positions J = positions_from (start ∷ []) J

-- the position of the entry of this number
abbrev pub position_of : List JEntry → ℕ → Position
position_of J number = slice_index_or (positions J) number start

-- the values of the first universal variables at the position
abbrev pub universal_values : Problem → Position → List ℤ
universal_values P position = universal_part (whole_vars P) position.prefix ++ position.steps

-- the number is that of an entry of this kind
abbrev pub IsOfKind : JKind → List JEntry → ℕ → Type 0
IsOfKind kind J zero = ⊥
IsOfKind kind J (suc before) = IsSomeAnd (slice_get J before) (λ e. e.kind ≡ kind)

-- a query entry or a step entry
abbrev pub IsAsked : JKind → Type 0
IsAsked Game = ⊥
IsAsked Query = Unit {0}
IsAsked Step = Unit {0}

-- an entry of the first kind may have a parent of the second
abbrev pub MayFollow : JKind → JKind → Type 0
MayFollow Game parent = parent ≡ Game
MayFollow Query parent = parent ≡ Game
MayFollow Step parent = IsAsked parent

-- an entry of this kind may have this parent: 0, or the number of one of these entries of the right kind
abbrev pub IsParent : JKind → List JEntry → ℕ → Type 0
IsParent kind J zero = Unit {0}
IsParent kind J (suc before) = IsSomeAnd (slice_get J before) (λ e. MayFollow kind e.kind)
