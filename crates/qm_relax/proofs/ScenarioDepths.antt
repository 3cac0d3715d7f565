-- The box of a scenario is the same from each depth from which on as many universal variables are left as there are values.
use Rattle.std.proofs.Common.{◌≡◌, ◌∙◌, refl, sym, ap, ℕ, zero, suc, ◌≤◌, Bool, true, false, List, [], ◌∷◌, ◌++◌, length, take, drop, arith, ℤ}
use Rattle.std.specs.Prelude.{cond, nat_le, if◌then◌else◌}
use Rattle.std.proofs.lemmas.Bool.Decides.{nat_tests}
use Rattle.std.proofs.lemmas.List.Sums.{sum_by-cons}
use Rattle.qm_model.specs.declared.range.Range.{Range}
use Rattle.qm_model.specs.declared.variable.Var.{Var}
use Rattle.qm_model.specs.declared.game.Problem.{Problem}
use Rattle.qm_model.specs.Plays.{is_universal, whole_vars}
use Rattle.qm_trees.specs.Picks.{fixed, universal_count}
use Rattle.qm_relax.specs.Scenarios.{depth_of_last, fixed_last}
use Rattle.qm_relax.proofs.FixedRanges.{fixed_none}

-- ---- how many are left

count_step : (x : Var) (xs : List Var) (b : Bool) → is_universal x ≡ b → universal_count (x ∷ xs) ≡ (if b then suc (universal_count xs) else universal_count xs)
count_step x xs true e = let step = sum_by-cons (λ (y : Var). cond (is_universal y) 1 0) x xs in grind (arith, step, e)
count_step x xs false e = let step = sum_by-cons (λ (y : Var). cond (is_universal y) 1 0) x xs in grind (arith, step, e)

count_behind : (x : Var) (xs : List Var) → universal_count xs ≤ universal_count (x ∷ xs)
count_behind x xs = by_player (is_universal x) refl
  where
    by_player : (b : Bool) → is_universal x ≡ b → universal_count xs ≤ universal_count (x ∷ xs)
    by_player true e = let step = count_step x xs true e in omega (arith, step)
    by_player false e = let step = count_step x xs false e in omega (arith, step)

count_drop : (depth : ℕ) (xs : List Var) → universal_count (drop depth xs) ≤ universal_count xs
count_drop zero xs = omega arith
count_drop (suc depth) [] = omega arith
count_drop (suc depth) (x ∷ xs) = let behind = count_behind x xs in let rest = count_drop depth xs in omega (arith, behind, rest)

first_depth : (xs : List Var) (count : ℕ) → universal_count xs ≤ count → depth_of_last xs count ≡ 0
first_depth [] count h = refl
first_depth (x ∷ xs) count h = by_test (nat_le (universal_count (x ∷ xs)) count) refl
  where
    by_test : (b : Bool) → nat_le (universal_count (x ∷ xs)) count ≡ b → (let n : ℕ = if b then 0 else suc (depth_of_last xs count) in n) ≡ 0
    by_test true e = refl
    by_test false e = absurd (grind (arith, nat_tests))

-- ---- the ranges

fixed_nothing : (xs : List Var) (us : List ℤ) → fixed xs [] us ≡ []
fixed_nothing [] us = refl
fixed_nothing (x ∷ xs) us = refl

abbrev fixed_from : List Var → List Range → List ℤ → ℕ → List Range
fixed_from xs bx us depth = take depth bx ++ fixed (drop depth xs) (drop depth bx) us

existential_kept : (x : Var) (xs : List Var) (r : Range) (bx : List Range) (us : List ℤ) → is_universal x ≡ false → r ∷ fixed xs bx us ≡ fixed (x ∷ xs) (r ∷ bx) us
existential_kept x xs r bx [] e = ap (λ (rs : List Range). r ∷ rs) (fixed_none xs bx)
existential_kept x xs r bx (u ∷ us) e = rw e refl

no_variables : (depth : ℕ) (bx : List Range) → take depth bx ++ drop depth bx ≡ bx
no_variables zero bx = refl
no_variables (suc depth) [] = refl
no_variables (suc depth) (r ∷ bx) = ap (λ (rs : List Range). r ∷ rs) (no_variables depth bx)

-- one variable more before the depth
one_more : (x : Var) (xs : List Var) (r : Range) (bx : List Range) (us : List ℤ) (depth : ℕ) → universal_count (drop depth xs) ≡ length us
    → fixed_from xs bx us depth ≡ fixed_from xs bx us (depth_of_last xs (length us))
    → fixed_from (x ∷ xs) (r ∷ bx) us (suc depth) ≡ fixed_from (x ∷ xs) (r ∷ bx) us (depth_of_last (x ∷ xs) (length us))
one_more x xs r bx us depth left later = by_test (nat_le (universal_count (x ∷ xs)) (length us)) refl (is_universal x) refl
  where
    by_test : (b : Bool) → nat_le (universal_count (x ∷ xs)) (length us) ≡ b → (universal : Bool) → is_universal x ≡ universal
        → fixed_from (x ∷ xs) (r ∷ bx) us (suc depth) ≡ fixed_from (x ∷ xs) (r ∷ bx) us (if b then 0 else suc (depth_of_last xs (length us)))
    by_test false e universal f = ap (λ (rs : List Range). r ∷ rs) later
    by_test true e true f =
        let step = count_step x xs true f in
        let rest = count_drop depth xs in
        absurd (grind (arith, nat_tests, step, rest, left))
    by_test true e false f =
        let step = count_step x xs false f in
        let few : universal_count xs ≤ length us = grind (arith, nat_tests, step) in
        ap (λ (rs : List Range). r ∷ rs) (later ∙ ap (fixed_from xs bx us) (first_depth xs (length us) few)) ∙ existential_kept x xs r bx us f

empty_from : (x : Var) (xs : List Var) (us : List ℤ) (depth : ℕ) → fixed_from (x ∷ xs) [] us depth ≡ []
empty_from x xs us zero = refl
empty_from x xs us (suc depth) = fixed_nothing (drop depth xs) us

same_from : (xs : List Var) (bx : List Range) (us : List ℤ) (depth : ℕ) → universal_count (drop depth xs) ≡ length us
    → fixed_from xs bx us depth ≡ fixed_from xs bx us (depth_of_last xs (length us))
same_from xs bx us zero left = sym (ap (fixed_from xs bx us) (first_depth xs (length us) (omega (arith, left))))
same_from [] bx us (suc depth) left = no_variables (suc depth) bx
same_from (x ∷ xs) [] us (suc depth) left = empty_from x xs us (suc depth) ∙ sym (empty_from x xs us (depth_of_last (x ∷ xs) (length us)))
same_from (x ∷ xs) (r ∷ bx) us (suc depth) left = one_more x xs r bx us depth left (same_from xs bx us depth left)

pub fixed_from_depth : (P : Problem) (bx : List Range) (us : List ℤ) (depth : ℕ) → universal_count (drop depth (whole_vars P)) ≡ length us
    → take depth bx ++ fixed (drop depth (whole_vars P)) (drop depth bx) us ≡ fixed_last P bx us
fixed_from_depth P bx us depth left = same_from (whole_vars P) bx us depth left
