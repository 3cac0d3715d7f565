-- The value of the objective alone over a box: no operation leaves.
use Rattle.std.proofs.Common.{◌≡◌, sym, ◌∙◌, ap, true, [], List, Ok, Err}
use Rattle.qm_math.specs.Fraction.{Fraction, whole}
use Rattle.qm_frac.specs.Arithmetic.{quotient}
use Rattle.qm_frac.specs.Checked.{Checked}
use Rattle.qm_frac.specs.declared.leaves.Leaves.{Leaves}
use Rattle.qm_model.specs.declared.range.Range.{Range}
use Rattle.qm_model.specs.declared.game.Problem.{Problem}
use Rattle.qm_model.specs.Boxes.{IsBox}
use Rattle.qm_model.specs.Sound.{IsSound}
use Rattle.qm_trees.specs.declared.combination.ComboValue.{ComboValue}
use Rattle.qm_trees.specs.declared.combination.ComboValue.TheVariants.{Bound}
use Rattle.qm_trees.specs.Evaluation.{value_of}
use Rattle.qm_trees.proofs.WholeValues.{greatest_objective, objective_value}
use Rattle.qm_trees.proofs.Lines.{ok_is}

never_both : (A : Type 0) (leaves : Leaves) (v : ComboValue) → (let x : Checked ComboValue = Err leaves in x) ≡ Ok v → A
never_both A leaves v e = absurd (cc)

bound_is : (v w : Fraction) → Bound v ≡ Bound w → v ≡ w
bound_is v w e = cc

module _ (P : Problem) (bx : List Range) (sound : IsSound P) (box : IsBox P.vars bx) where
  -- what the evaluation answered is the bound that it gives
  pub value_is_bound : (v : ComboValue) (b : Fraction) → Ok v ≡ value_of P true [] bx → ((w : Fraction) → v ≡ Bound w → b ≡ w) → value_of P true [] bx ≡ Ok (Bound b)
  value_is_bound v b e picked =
      let w = quotient (whole (greatest_objective P bx)) (whole P.scale) in
      let is = objective_value P bx sound box in
      is ∙ sym (ap (λ (u : Fraction). Ok (Bound u)) (picked w (ok_is v (Bound w) (e ∙ is))))

  pub value_never_leaves : (A : Type 0) (leaves : Leaves) → Err leaves ≡ value_of P true [] bx → A
  value_never_leaves A leaves e = never_both A leaves (Bound (quotient (whole (greatest_objective P bx)) (whole P.scale))) (e ∙ objective_value P bx sound box)

  -- the bound is that of the objective's greatest value
  pub bound_is_objective : (b : Fraction) → value_of P true [] bx ≡ Ok (Bound b) → b ≡ quotient (whole (greatest_objective P bx)) (whole P.scale)
  bound_is_objective b e =
      let w = quotient (whole (greatest_objective P bx)) (whole P.scale) in
      bound_is b w (ok_is (Bound b) (Bound w) (sym e ∙ objective_value P bx sound box))
