-- A box has a range for each of the last whole variables.
use Rattle.std.proofs.Common.{◌≡◌, ◌∙◌, refl, sym, ap, subst, ℕ, ◌+◌, ◌-◌, ◌≤◌, List, [], ◌∷◌, drop, length, take, arith, true, nat_eq, ℤ}
use Rattle.std.specs.Prelude.{◌↔◌}
use Rattle.std.proofs.lemmas.Bool.Decides.{nat_tests}
use Rattle.std.proofs.lemmas.List.{length-drop, length-take}
use Rattle.qm_model.specs.declared.range.Range.{Range}
use Rattle.qm_model.specs.declared.variable.Var.{Var}
use Rattle.qm_model.specs.Boxes.{IsBox}
use Rattle.qm_model.proofs.BoxLaws.{IsBox-length}
use Rattle.qm_trees.specs.Picks.{Fit}

module _ (xs : List Var) (bx : List Range) (wholes depth : ℕ) (box : IsBox xs bx) where
  pub depth_within : depth ≤ length (take wholes xs) → depth ≤ length bx
  depth_within h = omega (arith, h, length-take wholes xs, IsBox-length xs bx box)

  pub ranges_there : (left : ℕ) → left + depth ≡ length bx → length (take (length (take wholes xs) - depth) (drop depth (take wholes xs))) ≤ left
  ranges_there left e =
      omega (arith, e, length-take (length (take wholes xs) - depth) (drop depth (take wholes xs)), length-drop depth (take wholes xs), length-take wholes xs, IsBox-length xs bx box)

-- no variable is left: the values fit where all are used
pub all_used : (bx : List Range) (us : List ℤ) (used : ℕ) → used ≤ length us → (nat_eq used (length us) ≡ true) ↔ Fit [] bx (drop used us)
all_used bx us used within = by_rest (drop used us) refl
  where
    by_rest : (rest : List ℤ) → drop used us ≡ rest → (nat_eq used (length us) ≡ true) ↔ Fit [] bx (drop used us)
    by_rest [] e =
        let none : length us - used ≡ 0 = sym (length-drop used us) ∙ ap length e in
        let all : used ≡ length us = omega (arith, within, none) in
        (λ _. subst (Fit [] bx) (sym e) tt, λ _. grind (arith, nat_tests))
    by_rest (u ∷ rest) e =
        let some : length us - used ≡ length (u ∷ rest) = sym (length-drop used us) ∙ ap length e in
        (λ same. (let all : used ≡ length us = grind (arith, nat_tests) in absurd (omega (arith, all, some))), λ h. absurd (subst (Fit [] bx) e h))
