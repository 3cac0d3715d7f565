-- The numbers of a problem that is in order are fractions of the program.
use Rattle.std.proofs.Common.{ℕ, zero, suc, ◌<◌, ◌^◌, List, [], ◌∷◌, All, get_or, arith, unsigned_abs, ℤ, pos}
use Rattle.std.specs.Prelude.{IsSome, IsSomeAnd, slice_get, ◌≤ℤ◌}
use Rattle.std.proofs.lemmas.Int.{ints}
use Rattle.std.proofs.lemmas.List.Elements.{All-head, All-tail}
use Rattle.qm_model.specs.declared.row.Row.{Row}
use Rattle.qm_model.specs.declared.row_id.RowId.{RowId}
use Rattle.qm_model.specs.declared.row_id.RowId.TheVariants as id
use Rattle.qm_model.specs.declared.range.Range.{Range}
use Rattle.qm_model.specs.declared.variable.Var.{Var}
use Rattle.qm_model.specs.declared.game.Problem.{Problem}
use Rattle.qm_model.specs.Boxes.{IsBox}
use Rattle.qm_model.specs.Sizes.{reach_in_vars}
use Rattle.qm_model.specs.Sound.{IsRowOver, IsSound}
use Rattle.qm_model.proofs.BoxLaws.{IsBox-length}
use Rattle.qm_model.proofs.Sizes.{one_le_reach}
use Rattle.qm_model.proofs.VariableSizes.{coefficient_size}
use Rattle.qm_trees.specs.declared.combination.Entry.{Entry}
use Rattle.qm_trees.specs.Entries.{row_named}
use Rattle.qm_trees.specs.RefuteRight.{AreNamed}
use Rattle.qm_combo.specs.Entries.{HasNarrowRows, IsNarrow}

pub row_is_narrow : (xs : List Var) (row : Row) → IsRowOver xs row → IsNarrow row
row_is_narrow xs row over = record {
  terms = record {
    ordered = over.ordered;
    coefficients = λ var. omega (arith, over.size, coefficient_size (reach_in_vars xs) (one_le_reach xs) row.terms var);
  };
  right = omega (arith, over.size);
}

-- an item that is all_at has what all have
pub all_at : {X : Type 0} (Q : X → Type 0) (xs : List X) (n : ℕ) → All Q xs → IsSome (slice_get xs n) → IsSomeAnd (slice_get xs n) Q
all_at Q [] n all some = cc
all_at Q (x ∷ xs) zero all some = All-head Q x xs all
all_at Q (x ∷ xs) (suc n) all some = all_at Q xs n (All-tail Q x xs all) some

named_is_narrow : (P : Problem) (cuts : List Row) → IsSound P → All (IsRowOver P.vars) cuts → (row : RowId) → IsSome (row_named P cuts row) → IsSomeAnd (row_named P cuts row) IsNarrow
named_is_narrow P cuts sound over (id.Row n) some = all_at IsNarrow P.rows n (λ k d h. row_is_narrow P.vars (get_or P.rows k d) (sound.rows k d h)) some
named_is_narrow P cuts sound over (id.Uncertain n) some = all_at IsNarrow P.urows n (λ k d h. row_is_narrow P.vars (get_or P.urows k d) (sound.urows k d h)) some
named_is_narrow P cuts sound over (id.Cut n) some = all_at IsNarrow cuts n (λ k d h. row_is_narrow P.vars (get_or cuts k d) (over k d h)) some

abs_at_most : (z : ℤ) → pos 1 ≤ℤ z → z ≤ℤ pos (2 ^ 126) → (0 < unsigned_abs z) × (unsigned_abs z < 2 ^ 127)
abs_at_most z some few = (omega (arith, ints), omega (arith, ints))

pub narrow_rows : (P : Problem) (cuts : List Row) (es : List Entry) (bx : List Range)
    → IsSound P → All (IsRowOver P.vars) cuts → AreNamed P cuts es → IsBox P.vars bx → HasNarrowRows P cuts es bx
narrow_rows P cuts es bx sound over named box =
    let scale = abs_at_most P.scale sound.scale_positive sound.scale_size in
    let size = sound.objective_size in
    record {
      rows = λ k d h. named_is_narrow P cuts sound over (get_or es k d).row (named k d h);
      objective = record {
        ordered = sound.objective_ordered;
        coefficients = λ var. omega (arith, size, coefficient_size (reach_in_vars P.vars) (one_le_reach P.vars) P.terms var);
      };
      constant = omega (arith, size);
      scale = scale.1;
      scale_positive = scale.0;
      few = omega (arith, sound.few_vars, IsBox-length P.vars bx box);
    }
