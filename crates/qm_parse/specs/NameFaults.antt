-- What the first offence in the use of names says of a text.
use Rattle.std.specs.Prelude.{◌≡◌, ◌≢◌, ℕ, ◌<◌, ◌||◌, List, ◌∷◌, ◌++◌, All, AllPairs, None, IsTrue}
use Rattle.qm_parse.specs.Checks.{Has, bound_use, has_name, has_upper, is_before, uses}
use Rattle.qm_parse.specs.declared.ast.Ast.{Ast}
use Rattle.qm_parse.specs.declared.ast.AstBound.{AstBound}
use Rattle.qm_parse.specs.declared.ast.Named.{Named}
use Rattle.qm_parse.specs.declared.offence.NameFault.{NameFault}
use Rattle.qm_parse.specs.declared.offence.Offence.{Offence}
use Rattle.qm_parse.specs.declared.offence.Offence.TheVariants.{BothPlayers, Twice, Unknown, Unordered, Infinite, NoUpper}

-- The item stands in the list and has the property, and none before it has.
pub record IsFirst {X : Type 0} (P : X → Type 0) (list : List X) (item : X) : Type 0 where
  pub before : List X
  pub behind : List X
  pub stands : list ≡ before ++ item ∷ behind
  pub has : P item
  pub none_before : All (λ other. ¬ P other) before

-- The name stands in the list and stands before that too, and no name stands twice before it.
pub record IsFirstSecond (list : List Named) (named : Named) : Type 0 where
  pub before : List Named
  pub behind : List Named
  pub stands : list ≡ before ++ named ∷ behind
  pub again : Has before named.name
  pub once_before : AllPairs (λ one other. one.name ≢ other.name) before

-- The name stands in the list and has the property, and of those that have it, its place is the first in the text: later
-- ones may stand before it in the list, and none that is earlier behind it.
pub record IsEarliest (P : Named → Type 0) (list : List Named) (named : Named) : Type 0 where
  pub before : List Named
  pub behind : List Named
  pub stands : list ≡ before ++ named ∷ behind
  pub has : P named
  pub later : All (λ other. P other → IsTrue (is_before named.at other.at)) before
  pub not_earlier : All (λ other. P other → ¬ IsTrue (is_before other.at named.at)) behind

-- the name is in BINARIES or has an upper bound
abbrev pub IsBounded : Ast → Named → Type 0
IsBounded ast named = IsTrue (has_name ast.binaries named.name || has_upper ast.bounds named.name)

-- the text keeps the rule that offences of this kind break
abbrev pub Keeps : Ast → Offence → Type 0
Keeps ast BothPlayers = All (λ named. ¬ Has ast.existential named.name) ast.universal
Keeps ast Twice = AllPairs (λ one other. one.name ≢ other.name) ast.order
Keeps ast Unknown = All (λ named. Has (uses ast) named.name) ast.order
Keeps ast Unordered = All (λ named. Has ast.order named.name) (uses ast)
Keeps ast Infinite = All (λ bound. bound.value ≢ None) ast.bounds
Keeps ast NoUpper = All (IsBounded ast) ast.order

-- the name breaks the rule of this kind, at the first place where that is broken
abbrev pub BreaksFirst : Ast → Offence → Named → Type 0
BreaksFirst ast BothPlayers named = IsFirst (λ other. Has ast.existential other.name) ast.universal named
BreaksFirst ast Twice named = IsFirstSecond ast.order named
BreaksFirst ast Unknown named = IsFirst (λ other. ¬ Has (uses ast) other.name) ast.order named
BreaksFirst ast Unordered named = IsEarliest (λ other. ¬ Has ast.order other.name) (uses ast) named
BreaksFirst ast Infinite named = (bound : AstBound) × (named ≡ bound_use bound) × IsFirst (λ other. other.value ≡ None) ast.bounds bound
BreaksFirst ast NoUpper named = IsFirst (λ other. ¬ IsBounded ast other) ast.order named

-- the place of a kind in the order in which they are judged
abbrev pub rank : Offence → ℕ
rank BothPlayers = 0
rank Twice = 1
rank Unknown = 2
rank Unordered = 3
rank Infinite = 4
rank NoUpper = 5

-- The fault breaks a rule at its first place, and the text keeps the rules of all earlier kinds.
pub record IsFirstOffence (ast : Ast) (fault : NameFault) : Type 0 where
  pub breaks : BreaksFirst ast fault.offence (record { name = fault.name; at = fault.at })
  pub keeps : (kind : Offence) → rank kind < rank fault.offence → Keeps ast kind
