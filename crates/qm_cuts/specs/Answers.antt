-- What the calls answer.
use Rattle.std.specs.Prelude.{◌≡◌, ℕ, Bool, true, false, List, [], ◌∷◌, ◌++◌, Result, Ok, Err, length}
use Rattle.qm_frac.specs.Checked.{Checked}
use Rattle.qm_frac.specs.declared.leaves.Leaves.{Leaves}
use Rattle.qm_model.specs.declared.row.Row.{Row}
use Rattle.qm_trees.specs.declared.cut_combo.CutEntry.{CutEntry}
use Rattle.qm_trees.specs.CutRules.{Derivation, Derived, Missing, Left, Broken, Wide, Gives}
use Rattle.qm_cuts.specs.declared.fault.CutFault.{CutFault}
use Rattle.qm_cuts.specs.declared.fault.CutFault.TheVariants as fault
use Rattle.qm_cuts.specs.declared.seen.Seen.{Seen}

-- the answer is what the derivation comes to, unless memory ran out
abbrev pub IsAnswer : Derivation → Result Row CutFault → Type 0
IsAnswer d (Ok row) = d ≡ Gives row
IsAnswer d (Err fault.Missing) = d ≡ Missing
IsAnswer d (Err (fault.Leaves leaves)) = d ≡ Left leaves
IsAnswer d (Err (fault.Broken var)) = d ≡ Broken var
IsAnswer d (Err fault.Wide) = d ≡ Wide
IsAnswer d (Err fault.Memory) = Unit {0}

-- the cut stands last among those that are kept
pub record IsKept (d : Derivation) (es : List CutEntry) (old new : List Derived) (place : ℕ) : Type 0 where
  pub row : Row
  pub gives : d ≡ Gives row
  pub last : new ≡ old ++ record { entries = es; row = row } ∷ []
  pub number : place ≡ length old

-- it is kept under the number that is answered, or the fault is that of the derivation, unless memory ran out, and
-- nothing changes
abbrev pub Keeps : Derivation → List CutEntry → List Derived → List Derived → Result ℕ CutFault → Type 0
Keeps d es old new (Ok place) = IsKept d es old new place
Keeps d es old new (Err e) = IsAnswer d (Err e) × (new ≡ old)

-- true exactly where the derivation gives the row, and an operation exactly where it leaves
abbrev pub IsVerdict : Derivation → Row → Checked Bool → Type 0
IsVerdict d row (Ok true) = d ≡ Gives row
IsVerdict d row (Ok false) = (d ≡ Gives row → ⊥) × ((leaves : Leaves) → d ≡ Left leaves → ⊥)
IsVerdict d row (Err leaves) = d ≡ Left leaves

-- what is seen of all variables, or the first operation that leaves, unless memory ran out
abbrev pub IsSight : Checked Seen → Result Seen CutFault → Type 0
IsSight s (Ok seen) = s ≡ Ok seen
IsSight s (Err fault.Missing) = ⊥
IsSight s (Err (fault.Leaves leaves)) = s ≡ Err leaves
IsSight s (Err (fault.Broken var)) = ⊥
IsSight s (Err fault.Wide) = ⊥
IsSight s (Err fault.Memory) = Unit {0}
