-- The numbers of a problem that is in order are fractions of the program.
use Rattle.std.proofs.Common.{◌≡◌, ℕ, zero, suc, ◌*◌, ◌<◌, ◌≤◌, ◌^◌, true, List, [], ◌∷◌, All, get_or, length, arith, unsigned_abs, ℤ, pos}
use Rattle.std.specs.Prelude.{◌&&◌, IsSome, IsSomeAnd, slice_get, is_some, ◌≤ℤ◌}
use Rattle.std.proofs.Math.Nat.{mul-le-mul_left}
use Rattle.std.proofs.lemmas.Int.{ints}
use Rattle.std.proofs.lemmas.Bool.{and_parts}
use Rattle.std.proofs.lemmas.List.Elements.{All-cons, All-nil, All-head, All-tail}
use Rattle.std.proofs.lemmas.List.Sums.{sum_by-cons}
use Rattle.qm_model.specs.declared.row.Row.{Row}
use Rattle.qm_model.specs.declared.row.Term.{Term}
use Rattle.qm_model.specs.declared.row_id.RowId.{RowId}
use Rattle.qm_model.specs.declared.row_id.RowId.TheVariants as id
use Rattle.qm_model.specs.declared.variable.Var.{Var}
use Rattle.qm_model.specs.declared.game.Problem.{Problem}
use Rattle.qm_model.specs.Sizes.{reach_in_vars, terms_size}
use Rattle.qm_model.specs.Sound.{IsRowOver, IsSound}
use Rattle.qm_model.proofs.Sizes.{one_le_reach}
use Rattle.qm_trees.specs.declared.combination.Entry.{Entry}
use Rattle.qm_trees.specs.Entries.{row_named}
use Rattle.qm_trees.specs.EmptyJudgement.{all_uncertain, is_uncertain}
use Rattle.qm_trees.specs.RefuteJudgement.{all_named}
use Rattle.qm_trees.specs.RefuteRight.{AreNamed}
use Rattle.qm_trees.proofs.Multipliers.{all_named-says}
use Rattle.qm_check.specs.Narrow.{HasNarrow, IsNarrow}

-- ---- sizes

pub coefficients_fit : (xs : List Var) (ts : List Term) → terms_size (reach_in_vars xs) ts ≤ 2 ^ 126 → All (λ (t : Term). unsigned_abs t.coef < 2 ^ 127) ts
coefficients_fit xs [] h = All-nil (λ (t : Term). unsigned_abs t.coef < 2 ^ 127)
coefficients_fit xs (t ∷ ts) h =
    let split = sum_by-cons (λ (u : Term). unsigned_abs u.coef * reach_in_vars xs u.var) t ts in
    let more = mul-le-mul_left (unsigned_abs t.coef) (one_le_reach xs t.var) in
    All-cons (λ (u : Term). unsigned_abs u.coef < 2 ^ 127) t ts (omega (arith, split, more, h)) (coefficients_fit xs ts (omega (arith, split, h)))

pub row_is_narrow : (xs : List Var) (row : Row) → IsRowOver xs row → IsNarrow (length xs) row
row_is_narrow xs row over = record {
  terms = record { ordered = over.ordered; vars = over.vars; coefficients = coefficients_fit xs row.terms (omega (arith, over.size)) };
  right = omega (arith, over.size);
}

scale_fits : (z : ℤ) → pos 1 ≤ℤ z → z ≤ℤ pos (2 ^ 126) → (0 < unsigned_abs z) × (unsigned_abs z < 2 ^ 127)
scale_fits z some few = (omega (arith, ints), omega (arith, ints))

-- ---- rows that are there

named_at : {X : Type 0} (Q : X → Type 0) (xs : List X) (n : ℕ) → All Q xs → IsSome (slice_get xs n) → IsSomeAnd (slice_get xs n) Q
named_at Q [] n all some = cc
named_at Q (x ∷ xs) zero all some = All-head Q x xs all
named_at Q (x ∷ xs) (suc n) all some = named_at Q xs n (All-tail Q x xs all) some

named_is_narrow : (P : Problem) (cuts : List Row) → IsSound P → All (IsRowOver P.vars) cuts → (row : RowId) → IsSome (row_named P cuts row)
    → IsSomeAnd (row_named P cuts row) (IsNarrow (length P.vars))
named_is_narrow P cuts sound over (id.Row n) some = named_at (IsNarrow (length P.vars)) P.rows n (λ k d h. row_is_narrow P.vars (get_or P.rows k d) (sound.rows k d h)) some
named_is_narrow P cuts sound over (id.Uncertain n) some = named_at (IsNarrow (length P.vars)) P.urows n (λ k d h. row_is_narrow P.vars (get_or P.urows k d) (sound.urows k d h)) some
named_is_narrow P cuts sound over (id.Cut n) some = named_at (IsNarrow (length P.vars)) cuts n (λ k d h. row_is_narrow P.vars (get_or cuts k d) (over k d h)) some

narrow_of : (P : Problem) (cuts : List Row) (es : List Entry) → IsSound P → All (IsRowOver P.vars) cuts → AreNamed P cuts es → HasNarrow P cuts es
narrow_of P cuts es sound over named =
    let scale = scale_fits P.scale sound.scale_positive sound.scale_size in
    let size = sound.objective_size in
    record {
      rows = λ k d h. named_is_narrow P cuts sound over (get_or es k d).row (named k d h);
      objective = record {
        ordered = sound.objective_ordered;
        vars = sound.objective_vars;
        coefficients = coefficients_fit P.vars P.terms (omega (arith, size));
      };
      constant = omega (arith, size);
      scale = scale.1;
      scale_positive = scale.0;
    }

pub named_narrow : (P : Problem) (cuts : List Row) (es : List Entry) → IsSound P → All (IsRowOver P.vars) cuts → all_named P cuts es ≡ true → HasNarrow P cuts es
named_narrow P cuts es sound over named = narrow_of P cuts es sound over ((all_named-says P cuts es).0 named)

-- uncertainty rows that are there are rows that are there
uncertain_named : (P : Problem) (es : List Entry) → all_uncertain P es ≡ true → all_named P [] es ≡ true
uncertain_named P [] h = h
uncertain_named P (e ∷ es) h =
    let both = and_parts (is_uncertain e.row && is_some (row_named P [] e.row)) (all_uncertain P es) h in
    let here = and_parts (is_uncertain e.row) (is_some (row_named P [] e.row)) both.0 in
    rw here.1 (uncertain_named P es both.1)

pub uncertain_narrow : (P : Problem) (es : List Entry) → IsSound P → all_uncertain P es ≡ true → HasNarrow P [] es
uncertain_narrow P es sound named = named_narrow P [] es sound (All-nil (IsRowOver P.vars)) (uncertain_named P es named)
