-- Which certificates fit a game, whatever their rules: each line is of a kind that may stand at its place, and the numbers
-- are of their types.
use Rattle.std.specs.Prelude.{◌≡◌, ◌⊎◌, ℕ, ◌+◌, ◌<◌, ◌≤◌, ◌^◌, ℤ, true, false, List, [], ◌∷◌, ◌++◌, All, codes, drop, length, map, Option, None, Some, slice_get}
use Rattle.std.specs.Fmt.{decimal, signed_decimal}
use Rattle.qm_math.specs.Fraction.{Fraction}
use Rattle.qm_frac.specs.Lowest.{IsFrac}
use Rattle.qm_text.specs.Numbers.{number_word}
use Rattle.qm_model.specs.declared.variable.Player.{Player}
use Rattle.qm_model.specs.declared.variable.Player.TheVariants.{Exists, All as Universal}
use Rattle.qm_model.specs.declared.variable.Var.{Var}
use Rattle.qm_model.specs.declared.game.Problem.{Problem}
use Rattle.qm_model.specs.Plays.{is_universal, whole_vars}
use Rattle.qm_model.specs.Points.{continuous_vars}
use Rattle.qm_trees.specs.declared.combination.Entry.{Entry}
use Rattle.qm_trees.specs.Picks.{universal_count}
use Rattle.qm_trees.specs.Entries.{AreEntries, Combination}
use Rattle.qm_certfile.specs.declared.certificate.Certificate.{Certificate}
use Rattle.qm_certfile.specs.Lines.{Line}
use Rattle.qm_certfile.specs.Numbers.{number_of_row}
use Rattle.qm_certfile.specs.Styles.{first_style}
use Rattle.qm_certfile.specs.TreeLines.{close_line}
use Rattle.qm_certfile.specs.WellFormed.{IsWhole}
use Rattle.qm_certread.specs.Nodes.{Node, Fixed, Infeasible, NoPlay, Optimal, Legal, Choose, Answer, Leaf, Split, Over, Pick, Close, Part}
use Rattle.qm_certread.specs.Dues.{Due, Claimed, Played, Policy, Below, Empty, Refute, Ranges, after, empty_line, illegal_line, infeasible_line}
use Rattle.qm_certread.specs.Dues as due
use Rattle.qm_certread.specs.Forms.{player_at}
use Rattle.qm_certread.specs.NodesOf.{nodes_of}

-- the line that says a node, in version 1
abbrev pub line_of : Node → Line
line_of (Fixed line) = line
line_of Infeasible = infeasible_line
line_of NoPlay = empty_line
line_of (Optimal value) = codes "optimal" ∷ number_word value ∷ []
line_of (Legal values) = codes "legal" ∷ map signed_decimal values
line_of (Choose value) = codes "choose" ∷ signed_decimal value ∷ []
line_of (Answer count) = codes "answer" ∷ decimal count ∷ []
line_of (Leaf point) = codes "leaf" ∷ map number_word point
line_of (Split var count) = codes "split" ∷ decimal (var + 1) ∷ decimal count ∷ []
line_of (Over count) = codes "over" ∷ decimal count ∷ []
line_of (Pick value completion) = codes "pick" ∷ signed_decimal value ∷ map signed_decimal completion
line_of (Close combo) = close_line first_style combo
line_of (Part range) = codes "range" ∷ signed_decimal range.low ∷ signed_decimal range.high ∷ []

-- ---- numbers of their types

-- from 0 to 2 ^ 32 - 1
abbrev pub IsCount : ℕ → Type 0
IsCount n = n < 2 ^ 32

-- so many values
abbrev pub AreValues : ℕ → List ℤ → Type 0
AreValues n values = (length values ≡ n) × All IsWhole values

-- a row whose number, from 1, is a count, and a fraction of the program
abbrev pub IsRowEntry : Entry → Type 0
IsRowEntry e = IsCount (number_of_row e.row) × IsFrac e.by

-- entries in the order of their rows, with multipliers above 0
abbrev pub IsCombination : Combination → Type 0
IsCombination combo = AreEntries combo.entries × All IsRowEntry combo.entries

-- the same, without the objective
abbrev pub IsPlain : Combination → Type 0
IsPlain combo = (combo.objective ≡ false) × IsCombination combo

-- a universal variable, from this position on
abbrev pub IsSplit : Problem → ℕ → ℕ → Type 0
IsSplit P least var = (x : Var) × (slice_get (whole_vars P) var ≡ Some x) × (is_universal x ≡ true) × (least ≤ var)

-- ---- what may stand where it is due

-- a node of this kind, of something that is so
abbrev pub IsOne : {A : Type 0} → (A → Node) → (A → Type 0) → Node → Type 0
IsOne {A} kind Is node = (a : A) × (kind a ≡ node) × Is a

-- a point of the continuous variables
abbrev pub IsPoint : Problem → List Fraction → Type 0
IsPoint P point = (length point ≡ length (continuous_vars P)) × All IsFrac point

-- by who sets the next variable
abbrev pub FitsMove : Problem → Option Player → Node → Type 0
FitsMove P None node = IsOne Leaf (IsPoint P) node
FitsMove P (Some Exists) node = IsOne Choose IsWhole node
FitsMove P (Some Universal) node = IsOne Answer IsCount node

abbrev pub FitsAt : Problem → Due → Node → Type 0
FitsAt P Claimed node = (Infeasible ≡ node) ⊎ ((NoPlay ≡ node) ⊎ IsOne Optimal IsFrac node)
FitsAt P Played node = IsOne Legal (AreValues (universal_count (whole_vars P))) node
FitsAt P (due.Said line) node = Fixed line ≡ node
FitsAt P (Policy depth) node = FitsMove P (player_at P depth) node
FitsAt P (Below depth) node = (Fixed illegal_line ≡ node) ⊎ FitsMove P (player_at P depth) node
FitsAt P (Empty least) node = ((var : ℕ) × IsSplit P least var × IsOne (Split var) IsCount node) ⊎ IsOne Close IsPlain node
FitsAt P (Refute depth) node =
    ((depth < length (whole_vars P)) × IsOne Over IsCount node)
    ⊎ (((player_at P depth ≡ Some Universal) × ((value : ℤ) × IsWhole value × IsOne (Pick value) (AreValues (universal_count (drop (depth + 1) (whole_vars P)))) node))
    ⊎ IsOne Close IsCombination node)
FitsAt P (Ranges n below) node = IsOne Part (λ range. IsWhole range.low × IsWhole range.high) node

-- one node after another, until nothing is due
abbrev pub AreFit : Problem → List Due → List Node → Type 0
AreFit P [] [] = Unit {0}
AreFit P [] (node ∷ nodes) = ⊥
AreFit P (d ∷ dues) [] = ⊥
AreFit P (d ∷ dues) (node ∷ nodes) = FitsAt P d node × AreFit P (after first_style d node ++ dues) nodes

-- what the certificate says, line by line, may stand where it is due
abbrev pub Fits : Problem → Certificate → Type 0
Fits P certificate = AreFit P (Claimed ∷ []) (nodes_of first_style P certificate)
