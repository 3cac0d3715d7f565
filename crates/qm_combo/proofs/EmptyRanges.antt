-- What a combination answers over a box with an empty range, and over one without.
use Rattle.std.proofs.Common.{◌≡◌, refl, Bool, true, List, Ok, Err}
use Rattle.std.specs.Prelude.{Any}
use Rattle.std.specs.List.{list_any}
use Rattle.std.proofs.lemmas.Bool.{false_from_ne_true}
use Rattle.qm_frac.specs.declared.leaves.Leaves.{Leaves}
use Rattle.qm_model.specs.declared.range.Range.{Range}
use Rattle.qm_model.specs.declared.game.Problem.{Problem}
use Rattle.qm_model.specs.Boxes.{IsEmptyRange}
use Rattle.qm_model.specs.Goals.{Goal}
use Rattle.qm_trees.specs.declared.combination.ComboValue.{ComboValue}
use Rattle.qm_trees.specs.Entries.{Weighted}
use Rattle.qm_trees.specs.Evaluation.{value_of}
use Rattle.qm_trees.specs.Closing.{closes_goal, closing, is_empty_range}
use Rattle.qm_trees.proofs.CombinationCloses.{some_empty, some_empty_test}

module _ (P : Problem) (objective : Bool) (ws : List Weighted) (bx : List Range) (G : Goal) where
  pub closing_empty : Any IsEmptyRange bx → Ok true ≡ closing P objective ws bx G
  unfolding closing
  closing_empty some = rw (some_empty_test bx some) refl

  pub closing_ok : (Any IsEmptyRange bx → ⊥) → (v : ComboValue) → value_of P objective ws bx ≡ Ok v → Ok (closes_goal G v) ≡ closing P objective ws bx G
  unfolding closing
  closing_ok none v e = rw (false_from_ne_true (list_any is_empty_range bx) (λ t. none (some_empty bx t)), e) refl

  pub closing_err : (Any IsEmptyRange bx → ⊥) → (leaves : Leaves) → value_of P objective ws bx ≡ Err leaves → Err leaves ≡ closing P objective ws bx G
  unfolding closing
  closing_err none leaves e = rw (false_from_ne_true (list_any is_empty_range bx) (λ t. none (some_empty bx t)), e) refl
