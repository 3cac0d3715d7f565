-- The sizes of rows over a box inside the variables' bounds, and at values within them.
use Rattle.std.proofs.Common.{◌≡◌, ℕ, zero, suc, ◌+◌, ◌*◌, ◌≤◌, ◌^◌, List, [], ◌∷◌, length, get_or, All, arith, unsigned_abs, ℤ}
use Rattle.std.proofs.Math.Nat.{mul-le-mul_left}
use Rattle.std.proofs.lemmas.Int.{ints}
use Rattle.std.proofs.lemmas.List.Sums.{sum_by-cons}
use Rattle.qm_math.specs.Ranges.{reach}
use Rattle.qm_model.specs.declared.row.Term.{Term}
use Rattle.qm_model.specs.declared.row.Row.{Row}
use Rattle.qm_model.specs.declared.range.Range.{Range}
use Rattle.qm_model.specs.declared.variable.Var.{Var}
use Rattle.qm_model.specs.declared.game.Problem.{Problem}
use Rattle.qm_model.specs.Linear.{HasVarsBelow}
use Rattle.qm_model.specs.Boxes.{IsBox, IsInside, bounds_of}
use Rattle.qm_model.specs.Plays.{BeginWithin, IsWithin}
use Rattle.qm_model.specs.Sizes.{reach_in_box, reach_in_values, reach_in_vars, row_size, terms_size}
use Rattle.qm_model.specs.Sound.{IsRowOver, IsSound}

-- one variable is at least as far from 0 as another
abbrev pub ReachesNoFarther : (ℕ → ℕ) → (ℕ → ℕ) → Type 0
ReachesNoFarther near far = (var : ℕ) → near var ≤ far var

-- terms are no larger where no variable reaches farther
pub terms_size_le : (near far : ℕ → ℕ) (ts : List Term) → ReachesNoFarther near far → terms_size near ts ≤ terms_size far ts
terms_size_le near far [] le = omega arith
terms_size_le near far (t ∷ ts) le =
    let here : unsigned_abs t.coef * near t.var ≤ unsigned_abs t.coef * far t.var = mul-le-mul_left (unsigned_abs t.coef) (le t.var) in
    let rest = terms_size_le near far ts le in
    omega (
      arith,
      here,
      rest,
      sum_by-cons (λ (u : Term). unsigned_abs u.coef * near u.var) t ts,
      sum_by-cons (λ (u : Term). unsigned_abs u.coef * far u.var) t ts,
    )

-- each variable reaches at least 1
pub one_le_reach : (xs : List Var) (var : ℕ) → 1 ≤ reach_in_vars xs var
one_le_reach [] var = omega arith
one_le_reach (x ∷ xs) zero = omega arith
one_le_reach (x ∷ xs) (suc var) = one_le_reach xs var

inside_reach : (r : Range) (x : Var) → IsInside r (bounds_of x) → reach r.low r.high ≤ reach x.low x.high
inside_reach r x inside = omega (arith, inside.low_near, inside.high_near)

pub reach_in_box_le : (xs : List Var) (bx : List Range) → IsBox xs bx → ReachesNoFarther (reach_in_box bx) (reach_in_vars xs)
reach_in_box_le [] [] box var = omega arith
reach_in_box_le [] (r ∷ bx) box var = absurd box
reach_in_box_le (x ∷ xs) [] box var = absurd box
reach_in_box_le (x ∷ xs) (r ∷ bx) box zero = inside_reach r x box.0
reach_in_box_le (x ∷ xs) (r ∷ bx) box (suc var) = reach_in_box_le xs bx box.1 var

within_reach : (x : Var) (v : ℤ) → IsWithin x v → unsigned_abs v ≤ reach x.low x.high
within_reach x v h = omega (arith, ints, h.0, h.1)

pub reach_in_values_le : (xs : List Var) (values : List ℤ) → BeginWithin xs values → ReachesNoFarther (reach_in_values values) (reach_in_vars xs)
reach_in_values_le xs [] within var = one_le_reach xs var
reach_in_values_le [] (v ∷ values) within var = absurd within
reach_in_values_le (x ∷ xs) (v ∷ values) within zero = within_reach x v within.0
reach_in_values_le (x ∷ xs) (v ∷ values) within (suc var) = reach_in_values_le xs values within.1 var

-- a row in order is no larger where no variable reaches farther than its bounds
pub row_size_le : (xs : List Var) (row : Row) (near : ℕ → ℕ) → IsRowOver xs row → ReachesNoFarther near (reach_in_vars xs) → row_size near row ≤ 2 ^ 126
row_size_le xs row near over le = omega (arith, over.size, terms_size_le near (reach_in_vars xs) row.terms le)

-- rows in order are no larger than 2 ^ 126 where no variable reaches farther than its bounds
pub rows_size_le : (xs : List Var) (rows : List Row) (near : ℕ → ℕ) → All (IsRowOver xs) rows → ReachesNoFarther near (reach_in_vars xs) → All (λ row. row_size near row ≤ 2 ^ 126) rows
rows_size_le xs rows near over le k d h = row_size_le xs (get_or rows k d) near (over k d h) le

pub objective_size_le : (P : Problem) (near : ℕ → ℕ) → IsSound P → ReachesNoFarther near (reach_in_vars P.vars)
    → unsigned_abs P.constant + terms_size near P.terms ≤ 2 ^ 126
objective_size_le P near sound le = omega (arith, sound.objective_size, terms_size_le near (reach_in_vars P.vars) P.terms le)

-- rows in order name variables below as many as there are
pub rows_vars_below : (xs : List Var) (rows : List Row) (n : ℕ) → All (IsRowOver xs) rows → n ≡ length xs → All (λ row. HasVarsBelow n row.terms) rows
rows_vars_below xs rows n over count k d h = rw count (over k d h).vars
