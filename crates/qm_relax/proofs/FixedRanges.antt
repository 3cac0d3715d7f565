-- Ranges that are fixed at values, one variable after the other.
use Rattle.std.proofs.Common.{◌≡◌, ◌∙◌, refl, ap, true, false, List, [], ◌∷◌, ◌++◌, ℤ, append_assoc}
use Rattle.qm_model.specs.declared.range.Range.{Range}
use Rattle.qm_model.specs.declared.variable.Var.{Var}
use Rattle.qm_model.specs.Plays.{is_universal}
use Rattle.qm_model.specs.Ranges.{single}
use Rattle.qm_trees.specs.Picks.{fixed}

pub fixed_none : (xs : List Var) (bx : List Range) → fixed xs bx [] ≡ bx
fixed_none [] bx = refl
fixed_none (x ∷ xs) [] = refl
fixed_none (x ∷ xs) (r ∷ bx) = refl

-- a variable that keeps its range
pub range_kept : (x : Var) (r : Range) (out : List Range) (xs : List Var) (bx : List Range) (us : List ℤ) → is_universal x ≡ false
    → (out ++ r ∷ []) ++ fixed xs bx us ≡ out ++ fixed (x ∷ xs) (r ∷ bx) us
range_kept x r out xs bx [] e = append_assoc out (r ∷ []) (fixed xs bx []) ∙ ap (λ rs. out ++ r ∷ rs) (fixed_none xs bx)
range_kept x r out xs bx (u ∷ us) e = append_assoc out (r ∷ []) (fixed xs bx (u ∷ us)) ∙ ap (λ rs. out ++ rs) (rw e refl)

-- no value is left
pub ranges_kept : (x : Var) (r : Range) (out : List Range) (xs : List Var) (bx : List Range) → (out ++ r ∷ []) ++ fixed xs bx [] ≡ out ++ fixed (x ∷ xs) (r ∷ bx) []
ranges_kept x r out xs bx = append_assoc out (r ∷ []) (fixed xs bx []) ∙ ap (λ rs. out ++ r ∷ rs) (fixed_none xs bx)

-- a variable that is fixed
pub range_fixed : (x : Var) (r : Range) (out : List Range) (xs : List Var) (bx : List Range) (u : ℤ) (us : List ℤ) → is_universal x ≡ true
    → (out ++ single u ∷ []) ++ fixed xs bx us ≡ out ++ fixed (x ∷ xs) (r ∷ bx) (u ∷ us)
range_fixed x r out xs bx u us e = append_assoc out (single u ∷ []) (fixed xs bx us) ∙ ap (λ rs. out ++ rs) (rw e refl)
