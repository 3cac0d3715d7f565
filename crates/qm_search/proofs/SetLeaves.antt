-- Where all variables are set and no row is dead: the leaf is right at the objective's value, and nothing above it is reached.
use Rattle.std.proofs.Common.{◌≡◌, ℕ, ◌<◌, List, [], length, All, sym, subst, ap, ◌∙◌, true, Ok, None}
use Rattle.std.proofs.lemmas.List.Elements.{All-nil}
use Rattle.qm_math.specs.Fraction.{Fraction}
use Rattle.qm_frac.specs.Lowest.{IsFrac}
use Rattle.qm_model.specs.declared.range.Range.{Range}
use Rattle.qm_model.specs.declared.variable.Var.{Var}
use Rattle.qm_model.specs.declared.game.Problem.{Problem}
use Rattle.qm_model.specs.Boxes.{IsBox}
use Rattle.qm_model.specs.Goals.{Above}
use Rattle.qm_model.specs.Sound.{IsSound}
use Rattle.qm_game.specs.Dead.{IsFirstDead}
use Rattle.qm_trees.specs.declared.combination.ComboValue.TheVariants.{Bound}
use Rattle.qm_trees.specs.declared.combination.Entry.{Entry}
use Rattle.qm_trees.specs.declared.policy.Policy.{Policy, Leaf, out-Policy}
use Rattle.qm_trees.specs.declared.policy.Below.TheOpen as node
use Rattle.qm_trees.specs.declared.refutation.Refute.{Refute, Close}
use Rattle.qm_trees.specs.Entries.{Weighted}
use Rattle.qm_trees.specs.Evaluation.{value_of}
use Rattle.qm_trees.specs.Leaves.{leaf_passes}
use Rattle.qm_trees.specs.PolicyJudgement.{Layer}
use Rattle.qm_trees.specs.PolicyRight.{IsRightEnd, IsEndInRange}
use Rattle.qm_trees.proofs.CombinationValues.{bounds}
use Rattle.qm_trees.proofs.LeafLines.{leaf_of_passes}
use Rattle.qm_trees.proofs.WholeValues.{objective_closes}
use Rattle.qm_trees.proofs.WholeLeaves.{whole_leaf_passes}
use Rattle.qm_policy.proofs.Steps.{out-of-Leaf}
use Rattle.qm_search.specs.OutcomeSteps.{Secures, Refutes}
use Rattle.qm_search.specs.PlaceSteps.{IsSingle}
use Rattle.qm_search.proofs.WholeBound.{bound_is_objective}
use Rattle.qm_search.proofs.DeadRows.{refutes_by}

module _ (P : Problem) (depth : ℕ) (bx : List Range) (sound : IsSound P) (box : IsBox P.vars bx) (b : Fraction) (is : value_of P true [] bx ≡ Ok (Bound b)) where
  bound_den : 0 < b.den
  bound_den = (bounds P [] bx (Bound b) (All-nil (λ (w : Weighted). 0 < w.by.den)) sound.scale_positive is).positive

  -- the leaf without continuous values reaches the bound of the objective
  pub leaf_secures : (policy : Policy) → P.wholes ≡ length P.vars → All IsSingle bx → IsFirstDead P bx None → policy ≡ Leaf [] → Secures P [] depth bx b policy
  leaf_secures policy all_whole set alive ends =
      let layer : node.Leaf [] ≡ out-Policy policy = sym (ap out-Policy ends ∙ out-of-Leaf []) in
      let passes : leaf_passes P b bx [] ≡ Ok true =
      subst (λ (v : Fraction). leaf_passes P v bx [] ≡ Ok true) (sym (bound_is_objective P bx sound box b is)) (whole_leaf_passes P bx sound box all_whole set alive.0) in
      let leaf = leaf_of_passes P b bx [] sound.scale_positive bound_den passes in
      record {
        right = subst (λ (l : Layer). IsRightEnd P b bx l) layer (All-nil IsFrac, leaf.0);
        in_range = subst (λ (l : Layer). IsEndInRange P b bx l) layer leaf.1;
      }

  -- the objective alone refutes anything above its bound
  pub objective_refutes : (rest : List Var) (tree : Refute) → tree ≡ Close (record { objective = true; entries = [] }) → Refutes P [] [] rest depth bx (Above b) tree
  objective_refutes rest tree closed =
      refutes_by P [] [] rest depth bx (Above b) (record { objective = true; entries = [] }) tree sound bound_den (tt, All-nil (λ (e : Entry). IsFrac e.by)) (All-nil _) (objective_closes P bx b is) closed
