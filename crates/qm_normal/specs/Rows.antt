-- Rows with repeated terms added, and brought to whole numbers by their least common denominator and by nothing else.
use Rattle.std.specs.Prelude.{ℕ, suc, ◌*◌, ◌/◌, ◌^◌, ℤ, pos, neg_ℤ, ◌*ℤ◌, Bool, false, true, ◌&&◌, ◌==◌, nat_le, List, [], ◌∷◌, map, Option, Some, None, Ok, Err, if◌then◌else◌}
use Rattle.std.specs.Ordering.{int_eq}
use Rattle.qm_math.specs.Fraction.{Fraction, whole}
use Rattle.qm_frac.specs.Checked.{Checked, added, and_then}
use Rattle.qm_frac.specs.Gcd.{gcd_of}
use Rattle.qm_model.specs.declared.row.Row.{Row}
use Rattle.qm_model.specs.declared.row.Term.{Term}
use Rattle.qm_model.specs.declared.variable.Var.{Var}
use Rattle.qm_model.specs.Sizes.{reach_in_vars, row_size}
use Rattle.qm_parse.specs.declared.ast.AstTerm.{AstTerm}
use Rattle.qm_parse.specs.declared.ast.Named.{Named}
use Rattle.qm_parse.specs.declared.ast.Relation.{Relation}
use Rattle.qm_parse.specs.declared.ast.Relation.TheVariants.{Less, Greater, Equal}

-- the term is a multiple of the variable of this name
abbrev pub is_of : ℕ → AstTerm → Bool
is_of name term = elim term.name [ None ↦ false | Some other ↦ other == name ]

-- the term is a constant
abbrev pub is_constant : AstTerm → Bool
is_constant term = elim term.name [ None ↦ true | Some other ↦ false ]

-- the coefficients of the terms that the test accepts, added to a number in the order of the text, or the first addition that leaves
unfoldable pub total_from : (AstTerm → Bool) → List AstTerm → Fraction → Checked Fraction
total_from test [] sum = Ok sum
total_from test (term ∷ terms) sum =
    if test term then and_then (added sum term.coef) (total_from test terms) else total_from test terms sum

abbrev pub total : (AstTerm → Bool) → List AstTerm → Checked Fraction
total test terms = total_from test terms (whole (pos 0))

-- what the terms come to for each variable in game order, or that an addition leaves
unfoldable pub totals : List Named → List AstTerm → Checked (List Fraction)
totals [] terms = Ok []
totals (named ∷ order) terms =
    and_then (total (is_of named.name) terms) (λ sum. and_then (totals order terms) (λ sums. Ok (sum ∷ sums)))

-- the least number that both divide
abbrev pub common_multiple : ℕ → ℕ → ℕ
common_multiple a b = a * (b / gcd_of a b)

-- the least common denominator
unfoldable pub common_denominator : List Fraction → ℕ
common_denominator [] = 1
common_denominator (value ∷ values) = common_multiple value.den (common_denominator values)

-- the fraction times a number that its denominator divides
abbrev pub times : ℕ → Fraction → ℤ
times d value = value.num *ℤ pos (d / value.den)

-- the coefficients of the variables from a number on, but for zeros, as terms
unfoldable pub nonzero_from : ℕ → List ℤ → List Term
nonzero_from var [] = []
nonzero_from var (k ∷ ks) = if int_eq k (pos 0) then nonzero_from (suc var) ks else record { var = var; coef = k } ∷ nonzero_from (suc var) ks

abbrev pub row_times : ℕ → List Fraction → Fraction → Row
row_times d sums right = record { terms = nonzero_from 0 (map (times d) sums); right = times d right }

-- neither the denominator nor the size exceeds 2 ^ 126
abbrev pub is_narrow : List Var → ℕ → Row → Bool
is_narrow vars d row = nat_le d (2 ^ 126) && nat_le (row_size (reach_in_vars vars) row) (2 ^ 126)

-- a row of these sums and this right side, times their least common denominator, unless it is too wide
abbrev pub narrow_row : List Var → List Fraction → Fraction → Option Row
narrow_row vars sums right =
    if is_narrow vars (common_denominator (right ∷ sums)) (row_times (common_denominator (right ∷ sums)) sums right)
    then Some (row_times (common_denominator (right ∷ sums)) sums right) else None

-- the row of the terms and the right side, unless it is too wide
unfoldable pub normal_row : List Var → List Named → List AstTerm → Fraction → Option Row
normal_row vars order terms right = elim (totals order terms) [ Err leaves ↦ None | Ok sums ↦ narrow_row vars sums right ]

abbrev pub negated_term : Term → Term
negated_term term = record { var = term.var; coef = neg_ℤ term.coef }

abbrev pub negated_row : Row → Row
negated_row row = record { terms = map negated_term row.terms; right = neg_ℤ row.right }

-- `<=` is the row, `>=` its negated row, and `=` both
unfoldable pub related : Relation → Row → List Row
related Less row = row ∷ []
related Greater row = negated_row row ∷ []
related Equal row = row ∷ negated_row row ∷ []

-- for the exact lower bound of the variable of this number: -x is at most the negated bound
abbrev pub low_row : ℕ → Fraction → Row
low_row var bound = record { terms = record { var = var; coef = neg_ℤ (pos bound.den) } ∷ []; right = neg_ℤ bound.num }

-- for the exact upper bound: x is at most the bound
abbrev pub high_row : ℕ → Fraction → Row
high_row var bound = record { terms = record { var = var; coef = pos bound.den } ∷ []; right = bound.num }

-- a row for a bound that isn't whole, unless it is too wide; none for a whole one
abbrev pub bound_row : List Var → Fraction → Row → Option (List Row)
bound_row vars bound row =
    if bound.den == 1 then Some [] else if is_narrow vars bound.den row then Some (row ∷ []) else None
