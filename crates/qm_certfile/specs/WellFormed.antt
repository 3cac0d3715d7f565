-- Certificates whose numbers and combinations are of the program's types.
use Rattle.std.specs.Prelude.{◌<◌, ◌≤◌, unsigned_abs, ℕ, ◌^◌, ℤ, pos, negsuc, List, [], ◌∷◌, ◌++◌, All, length, map}
use Rattle.qm_math.specs.Fraction.{Fraction}
use Rattle.qm_frac.specs.Lowest.{IsFrac}
use Rattle.qm_model.specs.declared.range.Range.{Range}
use Rattle.qm_model.specs.declared.game.Problem.{Problem}
use Rattle.qm_model.specs.Boxes.{bounds_of}
use Rattle.qm_model.specs.declared.row_id.RowId.{RowId}
use Rattle.qm_model.specs.declared.row_id.RowId.TheVariants as id
use Rattle.qm_trees.specs.declared.combination.Entry.{Entry}
use Rattle.qm_trees.specs.declared.empty.Empty.{Empty}
use Rattle.qm_trees.specs.declared.empty.Empty.TheOpen as none
use Rattle.qm_trees.specs.declared.empty.Empty.TheFolds.{fold-Empty, fold-EmptyPart}
use Rattle.qm_trees.specs.declared.empty.EmptyPart.{EmptyPart}
use Rattle.qm_trees.specs.declared.policy.Policy.{Policy}
use Rattle.qm_trees.specs.declared.policy.Below.{Below}
use Rattle.qm_trees.specs.declared.policy.Below.TheOpen as answer
use Rattle.qm_trees.specs.declared.policy.Below.TheFolds.{fold-Below, fold-Policy, fold-PolicyPart}
use Rattle.qm_trees.specs.declared.policy.PolicyPart.{PolicyPart}
use Rattle.qm_trees.specs.declared.refutation.Refute.{Refute}
use Rattle.qm_trees.specs.declared.refutation.Refute.TheOpen as why
use Rattle.qm_trees.specs.declared.refutation.Refute.TheFolds.{fold-Refute, fold-RefutePart}
use Rattle.qm_trees.specs.declared.refutation.RefutePart.{RefutePart}
use Rattle.qm_trees.specs.Entries.{AreEntries}
use Rattle.qm_certfile.specs.declared.certificate.Certificate.{Certificate}
use Rattle.qm_certfile.specs.declared.certificate.Certificate.TheVariants as ending

-- what a certificate is made of
pub data Piece : Type 0 where
  -- a value, of the certificate or of a leaf
  Number : Fraction → Piece
  -- a value of a whole variable, or an end of a range
  Whole : ℤ → Piece
  -- the position of a variable
  Position : ℕ → Piece
  -- how many parts there are
  Count : ℕ → Piece
  -- the entries of a combination
  Entries : List Entry → Piece

-- from -2 ^ 63 to 2 ^ 63 - 1
abbrev pub IsWhole : ℤ → Type 0
IsWhole (pos n) = n < 2 ^ 63
IsWhole (negsuc n) = n < 2 ^ 63

-- a row's number among its kind, counted from 0
abbrev pub position_of : RowId → ℕ
position_of (id.Row n) = n
position_of (id.Uncertain n) = n
position_of (id.Cut n) = n

-- the position has 32 bits, and the multiplier is a fraction of the program
abbrev pub IsEntry : Entry → Type 0
IsEntry e = (position_of e.row < 2 ^ 32) × IsFrac e.by

-- a fraction of the program, 64 bits with a sign, 32 bits, 64 bits; or such entries in the order of the rows, none of
-- them twice, with multipliers above 0
abbrev pub IsOfType : Piece → Type 0
IsOfType (Number a) = IsFrac a
IsOfType (Whole n) = IsWhole n
IsOfType (Position n) = n < 2 ^ 32
IsOfType (Count n) = n < 2 ^ 64
IsOfType (Entries es) = AreEntries es × All IsEntry es

abbrev pub AreOfType : List Piece → Type 0
AreOfType [] = Unit {0}
AreOfType (p ∷ ps) = IsOfType p × AreOfType ps

-- the ends of the range are at most 2 ^ 50 away from 0
abbrev pub IsNear : Range → Type 0
IsNear r = (unsigned_abs r.low ≤ 2 ^ 50) × (unsigned_abs r.high ≤ 2 ^ 50)

-- so are the bounds of each variable, in every problem that is read
abbrev pub HasNearBounds : Problem → Type 0
HasNearBounds P = All (λ x. IsNear (bounds_of x)) P.vars

-- those of each part, one after another
abbrev pub together : List (List Piece) → List Piece
together [] = []
together (ps ∷ pss) = ps ++ together pss

-- a range, and what stands below it
abbrev pub with_range : Range → List Piece → List Piece
with_range r below = Whole r.low ∷ Whole r.high ∷ below

-- ---- empty trees

abbrev pub empty_step : none.Empty-F (List Piece) (List Piece) → List Piece
empty_step (none.Split var parts) = Position var ∷ Count (length parts) ∷ together parts
empty_step (none.Close combo) = Entries combo.entries ∷ []

abbrev pub empty_part_step : none.EmptyPart-F (List Piece) (List Piece) → List Piece
empty_part_step part = with_range part.range part.below

abbrev pub empty_pieces : Empty → List Piece
empty_pieces = fold-Empty (List Piece) (List Piece) empty_step empty_part_step

abbrev pub empty_part_pieces : EmptyPart → List Piece
empty_part_pieces = fold-EmptyPart (List Piece) (List Piece) empty_step empty_part_step

-- ---- policies

abbrev pub policy_step : answer.Policy-F (List Piece) (List Piece) (List Piece) → List Piece
policy_step (answer.Choose value below) = Whole value ∷ below
policy_step (answer.Answer parts) = Count (length parts) ∷ together parts
policy_step (answer.Leaf point) = map Number point

abbrev pub policy_part_step : answer.PolicyPart-F (List Piece) (List Piece) (List Piece) → List Piece
policy_part_step part = with_range part.range part.below

abbrev pub below_step : answer.Below-F (List Piece) (List Piece) (List Piece) → List Piece
below_step (answer.On policy) = policy
below_step (answer.Illegal tree) = empty_pieces tree

abbrev pub policy_pieces : Policy → List Piece
policy_pieces = fold-Policy (List Piece) (List Piece) (List Piece) below_step policy_step policy_part_step

abbrev pub policy_part_pieces : PolicyPart → List Piece
policy_part_pieces = fold-PolicyPart (List Piece) (List Piece) (List Piece) below_step policy_step policy_part_step

abbrev pub below_pieces : Below → List Piece
below_pieces = fold-Below (List Piece) (List Piece) (List Piece) below_step policy_step policy_part_step

-- ---- refutations

abbrev pub refute_step : why.Refute-F (List Piece) (List Piece) → List Piece
refute_step (why.Over parts) = Count (length parts) ∷ together parts
refute_step (why.Pick value completion below) = Whole value ∷ map Whole completion ++ below
refute_step (why.Close combo) = Entries combo.entries ∷ []

abbrev pub refute_part_step : why.RefutePart-F (List Piece) (List Piece) → List Piece
refute_part_step part = with_range part.range part.below

abbrev pub refute_pieces : Refute → List Piece
refute_pieces = fold-Refute (List Piece) (List Piece) refute_step refute_part_step

abbrev pub refute_part_pieces : RefutePart → List Piece
refute_part_pieces = fold-RefutePart (List Piece) (List Piece) refute_step refute_part_step

-- ---- certificates

abbrev pub pieces_of : Certificate → List Piece
pieces_of (ending.Optimal value legal policy refute) = Number value ∷ map Whole legal ++ (policy_pieces policy ++ refute_pieces refute)
pieces_of (ending.Infeasible legal refute) = map Whole legal ++ refute_pieces refute
pieces_of (ending.Empty tree) = empty_pieces tree

-- all that the certificate is made of is of its type
abbrev pub IsWellFormed : Certificate → Type 0
IsWellFormed certificate = AreOfType (pieces_of certificate)
