-- Rounded cuts, by Gomory and Chvátal: rows that each whole point keeps which meets the rows they are combined from.
use Rattle.std.specs.Prelude.{ℕ, suc, ◌<◌, ◌^◌, ◌==◌, pos, Bool, false, if◌then◌else◌, nat_le, List, [], ◌∷◌, ◌++◌, All, Option, Some, None, IsSome, is_some, Ok, Err, length}
use Rattle.std.specs.List.{list_all}
use Rattle.std.specs.Ordering.{int_eq}
use Rattle.qm_math.specs.Fraction.{Fraction, whole, IsSame}
use Rattle.qm_math.specs.Rounding.{IsFloor, floor_of}
use Rattle.qm_frac.specs.Checked.{Checked}
use Rattle.qm_frac.specs.declared.leaves.Leaves.{Leaves}
use Rattle.qm_model.specs.declared.row.Row.{Row}
use Rattle.qm_model.specs.declared.row.Term.{Term}
use Rattle.qm_model.specs.declared.variable.Var.{Var}
use Rattle.qm_model.specs.declared.game.Problem.{Problem}
use Rattle.qm_model.specs.Linear.{HasVarsBelow, coefficient}
use Rattle.qm_model.specs.Sizes.{reach_in_vars, row_size}
use Rattle.qm_model.specs.Sound.{IsRowOver}
use Rattle.qm_trees.specs.declared.cut_combo.CutEntry.{CutEntry}
use Rattle.qm_trees.specs.CutEntries.{AreCutEntries, row_on, rows_on}
use Rattle.qm_trees.specs.Entries.{Weighted}
use Rattle.qm_trees.specs.Evaluation.{◌>>=◌, add_coefficients, add_right_sides, combined_coefficient, right_side, zero}

-- ---- exactly

-- each entry stands on a row that is there
abbrev pub AreThere : Problem → List Row → List CutEntry → Type 0
AreThere P earlier es = All (λ e. IsSome (row_on P earlier e.on)) es

-- The row is a cut of these entries: its coefficients are theirs, combined, and so are whole, and those behind the whole
-- variables 0; its right side is theirs, rounded down; and its size is at most 2 ^ 126.
pub record IsCut (P : Problem) (earlier : List Row) (es : List CutEntry) (row : Row) : Type 0 where
  pub entries : AreCutEntries es
  pub there : AreThere P earlier es
  pub over : IsRowOver P.vars row
  pub coefficients : (var : ℕ) → var < length P.vars → IsSame (combined_coefficient P false (rows_on P earlier es) var) (whole (coefficient row.terms var))
  pub wholes : HasVarsBelow P.wholes row.terms
  pub right : IsFloor row.right (right_side P false (rows_on P earlier es))

-- a cut and the entries that it is made of
pub record Derived : Type 0 where
  pub entries : List CutEntry
  pub row : Row

-- each is a cut, made of rows, bounds and the cuts before it
abbrev pub AreCutsAfter : Problem → List Row → List Derived → Type 0
AreCutsAfter P earlier [] = Unit {0}
AreCutsAfter P earlier (c ∷ cs) = IsCut P earlier c.entries c.row × AreCutsAfter P (earlier ++ c.row ∷ []) cs

abbrev pub AreCuts : Problem → List Derived → Type 0
AreCuts P cuts = AreCutsAfter P [] cuts

-- ---- operation by operation

-- the coefficient of each of these variables, numbered from `var` on
abbrev pub add_each : List Weighted → ℕ → List Var → Checked (List Fraction)
add_each ws var [] = Ok []
add_each ws var (x ∷ xs) = add_coefficients var ws zero >>= λ c. add_each ws (suc var) xs >>= λ cs. Ok (c ∷ cs)

-- a right side, and a coefficient for each variable
pub record Form : Type 0 where
  pub right : Fraction
  pub coefficients : List Fraction

-- first the right side, then each variable's coefficient in game order
abbrev pub add_rows : List Var → List Weighted → Checked Form
add_rows xs ws = add_right_sides ws zero >>= λ r. add_each ws 0 xs >>= λ cs. Ok (record { right = r; coefficients = cs })

-- a fraction in lowest terms is whole on a whole variable, and 0 on a continuous one
abbrev pub may_stand : Var → Fraction → Bool
may_stand x c = if x.whole then c.den == 1 else int_eq c.num (pos 0)

-- the first of these variables, numbered from `var` on, whose coefficient may not stand
abbrev pub first_broken : ℕ → List Var → List Fraction → Option ℕ
first_broken var [] cs = None
first_broken var (x ∷ xs) [] = None
first_broken var (x ∷ xs) (c ∷ cs) = if may_stand x c then first_broken (suc var) xs cs else Some var

-- the whole coefficients that aren't 0, of the variables from `var` on
abbrev pub terms_from : ℕ → List Fraction → List Term
terms_from var [] = []
terms_from var (c ∷ cs) = if int_eq c.num (pos 0) then terms_from (suc var) cs else record { var = var; coef = c.num } ∷ terms_from (suc var) cs

abbrev pub rounded : Form → Row
rounded form = record { terms = terms_from 0 form.coefficients; right = floor_of form.right }

-- what a derivation comes to: the row, or the first reason why there is none
pub data Derivation : Type 0 where
  Missing : Derivation
  Left : Leaves → Derivation
  Broken : ℕ → Derivation
  Wide : Derivation
  Gives : Row → Derivation

abbrev pub sized : List Var → Row → Derivation
sized xs row = if nat_le (row_size (reach_in_vars xs) row) (2 ^ 126) then Gives row else Wide

abbrev pub unless_broken : Option ℕ → Derivation → Derivation
unless_broken None after = after
unless_broken (Some var) after = Broken var

abbrev pub judged : List Var → Checked Form → Derivation
judged xs (Err leaves) = Left leaves
judged xs (Ok form) = unless_broken (first_broken 0 xs form.coefficients) (sized xs (rounded form))

-- first whether each row is there, then all of the evaluation, the coefficients, and the size
unfoldable pub derivation : Problem → List Row → List CutEntry → Derivation
derivation P earlier es = if list_all (λ e. is_some (row_on P earlier e.on)) es then judged P.vars (add_rows P.vars (rows_on P earlier es)) else Missing
