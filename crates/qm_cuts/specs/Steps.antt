-- The steps of a derivation: what the entries stand on, and what is seen variable by variable.
use Rattle.std.specs.Prelude.{◌≡◌, ◌≤◌, ◌^◌, true, length, ℕ, suc, ℤ, pos, Bool, ◌&&◌, if◌then◌else◌, List, [], ◌∷◌, ◌++◌, All, IfSome, IsSome, IsSomeAnd, slice_get, Option, Some, None, Ok}
use Rattle.std.specs.Ordering.{int_eq}
use Rattle.qm_math.specs.Fraction.{Fraction, whole}
use Rattle.qm_math.specs.Rounding.{floor_of}
use Rattle.qm_frac.specs.Checked.{Checked, added, multiplied}
use Rattle.qm_model.specs.declared.row.Row.{Row}
use Rattle.qm_model.specs.declared.row.Term.{Term}
use Rattle.qm_model.specs.declared.variable.Var.{Var}
use Rattle.qm_model.specs.declared.game.Problem.{Problem}
use Rattle.qm_model.specs.Linear.{HasVarsBelow, coefficient}
use Rattle.qm_model.specs.Sizes.{reach_in_vars, row_size}
use Rattle.qm_trees.specs.declared.cut_combo.CutEntry.{CutEntry}
use Rattle.qm_trees.specs.declared.cut_combo.CutRow.{CutRow}
use Rattle.qm_trees.specs.declared.cut_combo.CutRow.TheVariants as on
use Rattle.qm_trees.specs.CutEntries.{row_on}
use Rattle.qm_trees.specs.CutRules.{may_stand}
use Rattle.qm_trees.specs.Entries.{Weighted}
use Rattle.qm_trees.specs.Evaluation.{◌>>=◌, add_coefficients, zero}
use Rattle.qm_combo.specs.Entries.{IsNarrow}
use Rattle.qm_cuts.specs.declared.seen.Seen.{Seen}

-- the row is there, and its numbers are fractions of the program, as those of a bound always are
abbrev pub IsUsable : Problem → List Row → CutRow → Type 0
IsUsable P earlier (on.Row n) = IsSomeAnd (slice_get P.rows n) IsNarrow
IsUsable P earlier (on.Uncertain n) = IsSomeAnd (slice_get P.urows n) IsNarrow
IsUsable P earlier (on.Cut n) = IsSomeAnd (slice_get earlier n) IsNarrow
IsUsable P earlier (on.Low n) = IsSome (slice_get P.vars n)
IsUsable P earlier (on.High n) = IsSome (slice_get P.vars n)

abbrev pub AreUsable : Problem → List Row → List CutEntry → Type 0
AreUsable P earlier es = All (λ e. IsUsable P earlier e.on) es

-- no row that an entry stands on has the variable
abbrev pub HaveNo : Problem → List Row → List CutEntry → ℕ → Type 0
HaveNo P earlier es var = All (λ e. IfSome (row_on P earlier e.on) (λ row. coefficient row.terms var ≡ pos 0)) es

-- the multiplier times the number is added
abbrev pub add_product : Fraction → ℤ → Fraction → Checked Fraction
add_product by k c = multiplied by (whole k) >>= λ p. added c p

-- where the number isn't 0
abbrev pub add_multiple : Fraction → ℤ → Fraction → Checked Fraction
add_multiple by k c = if int_eq k (pos 0) then Ok c else add_product by k c

-- ---- the variables of a cut, one by one

-- the first of two
abbrev pub or_later : Option ℕ → Option ℕ → Option ℕ
or_later None later = later
or_later (Some var) later = Some var

-- the variable, where its coefficient may not stand
abbrev pub broken_at : ℕ → Var → Fraction → Option ℕ
broken_at var x c = if may_stand x c then None else Some var

-- the term of a coefficient that isn't 0
abbrev pub term_of : ℕ → Fraction → List Term
term_of var c = if int_eq c.num (pos 0) then [] else record { var = var; coef = c.num } ∷ []

abbrev pub nothing_seen : Seen
nothing_seen = record { broken = None; terms = [] }

abbrev pub seen_with : ℕ → Var → Fraction → Seen → Seen
seen_with var x c seen = record { broken = or_later seen.broken (broken_at var x c); terms = seen.terms ++ term_of var c }

-- each of these variables, numbered from `var` on
abbrev pub see_each : List Weighted → ℕ → List Var → Seen → Checked Seen
see_each ws var [] seen = Ok seen
see_each ws var (x ∷ xs) seen = add_coefficients var ws zero >>= λ c. see_each ws (suc var) xs (seen_with var x c seen)

-- ---- the variables of a row that is tested, one by one

-- the coefficient may stand, and is that of the terms
abbrev pub fits_at : List Term → ℕ → Var → Fraction → Bool
fits_at ts var x c = may_stand x c && int_eq c.num (coefficient ts var)

abbrev pub fit_each : List Weighted → List Term → ℕ → List Var → Bool → Checked Bool
fit_each ws ts var [] fit = Ok fit
fit_each ws ts var (x ∷ xs) fit = add_coefficients var ws zero >>= λ c. fit_each ws ts (suc var) xs (fit && fits_at ts var x c)

-- the coefficients fit, the right side is rounded down to this row's, its variables are there, and it is not too wide
pub record IsFound (fit : Bool) (xs : List Var) (right : Fraction) (row : Row) : Type 0 where
  pub fits : fit ≡ true
  pub floor : row.right ≡ floor_of right
  pub vars : HasVarsBelow (length xs) row.terms
  pub size : row_size (reach_in_vars xs) row ≤ 2 ^ 126
