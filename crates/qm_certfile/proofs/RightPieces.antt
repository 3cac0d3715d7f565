-- What trees are made of that are right over a box whose ends are near 0: all of its type.
use Rattle.std.proofs.Common.{◌≡◌, ℕ, ◌+◌, ◌<◌, true, true≢false, List, [], ◌∷◌, get_or, length, map, refl, sym, subst, arith, drop, inl, inr, Option, Some, None}
use Rattle.std.specs.Prelude.{All, ◌&&◌, ◌^◌, IsSome, is_some, slice_get, slice_set}
use Rattle.std.specs.List.{list_all}
use Rattle.std.proofs.lemmas.Bool.{and_parts}
use Rattle.std.proofs.lemmas.Bool.Decides.{Decides-by_and}
use Rattle.std.proofs.lemmas.List.{length-map, length-take}
use Rattle.std.proofs.lemmas.Option.{slice_get_within}
use Rattle.qm_math.specs.Fraction.{Fraction}
use Rattle.qm_model.specs.declared.range.Range.{Range}
use Rattle.qm_model.specs.declared.row.Row.{Row}
use Rattle.qm_model.specs.declared.row_id.RowId.{RowId}
use Rattle.qm_model.specs.declared.row_id.RowId.TheVariants as id
use Rattle.qm_model.specs.declared.variable.Var.{Var}
use Rattle.qm_model.specs.declared.game.Problem.{Problem}
use Rattle.qm_model.specs.Goals.{Goal}
use Rattle.qm_model.specs.Plays.{whole_vars}
use Rattle.qm_model.specs.Ranges.{range_at, single}
use Rattle.qm_model.specs.Sound.{IsSound}
use Rattle.qm_trees.specs.declared.combination.Entry.{Entry}
use Rattle.qm_trees.specs.declared.empty.Empty.{Empty, out-Empty}
use Rattle.qm_trees.specs.declared.empty.Empty.TheOpen as none
use Rattle.qm_trees.specs.declared.empty.Empty.TheFolds.{fold_out-Empty, fold_out-EmptyPart, map-Empty}
use Rattle.qm_trees.specs.declared.empty.EmptyPart.{EmptyPart}
use Rattle.qm_trees.specs.declared.policy.Policy.{Policy, out-Policy}
use Rattle.qm_trees.specs.declared.policy.Below.{Below}
use Rattle.qm_trees.specs.declared.policy.Below.TheOpen as answer
use Rattle.qm_trees.specs.declared.policy.Below.TheFolds.{fold_out-Below, fold_out-Policy, fold_out-PolicyPart, map-Below, map-Policy}
use Rattle.qm_trees.specs.declared.policy.PolicyPart.{PolicyPart, out-PolicyPart}
use Rattle.qm_trees.specs.declared.refutation.Refute.{Refute, out-Refute}
use Rattle.qm_trees.specs.declared.refutation.Refute.TheOpen as why
use Rattle.qm_trees.specs.declared.refutation.Refute.TheFolds.{fold_out-Refute, fold_out-RefutePart, map-Refute}
use Rattle.qm_trees.specs.declared.refutation.RefutePart.{RefutePart}
use Rattle.qm_trees.specs.Entries.{AreWellFormed, Combination, row_named}
use Rattle.qm_trees.specs.EmptyJudgement as empties
use Rattle.qm_trees.specs.EmptyJudgement.{all_uncertain, is_uncertain}
use Rattle.qm_trees.specs.EmptyRight as empty_right
use Rattle.qm_trees.specs.EmptyRight.{IsRightEmpty, IsRightSplit}
use Rattle.qm_trees.specs.PolicyJudgement as policies
use Rattle.qm_trees.specs.PolicyRight as policy_right
use Rattle.qm_trees.specs.PolicyRight.{IsRightBelow, IsRightPolicy}
use Rattle.qm_trees.specs.RefuteJudgement as refutations
use Rattle.qm_trees.specs.RefuteRight as refute_right
use Rattle.qm_trees.specs.RefuteRight.{AreNamed, IsRightRefutation}
use Rattle.qm_certfile.specs.WellFormed.{AreOfType, Count, Entries, IsNear, Piece, Whole, below_pieces, below_step, empty_part_pieces, empty_part_step, empty_pieces, empty_step, policy_part_pieces, policy_part_step, policy_pieces, policy_step, position_of, refute_part_pieces, refute_part_step, refute_pieces, refute_step, together}
use Rattle.qm_certfile.proofs.NearRanges.{AreNear, between_near, cover_near, fit_whole, near_at, near_drop, near_set, whole_of}
use Rattle.qm_certfile.proofs.Pieces.{joined_of_type, numbers_of_type, together_of_type, wholes_of_type}

-- a count and the parts
counted : {A : Type 0} (f : A → List Piece) (parts : List A) → length parts < 2 ^ 64 → All (λ part. AreOfType (f part)) parts
    → AreOfType (Count (length (map f parts)) ∷ together (map f parts))
counted f parts few all = (omega (arith, few, length-map parts f), together_of_type f parts all)

-- ---- entries

found_within : (rows : List Row) (n : ℕ) → IsSome (slice_get rows n) → n < length rows
found_within rows n some = by (slice_get rows n) refl some
  where
    by : (found : Option Row) → slice_get rows n ≡ found → IsSome found → n < length rows
    by None at h = absurd (true≢false (sym h))
    by (Some row) at h = slice_get_within rows n row at

module _ (P : Problem) (sound : IsSound P) where
  named_position : (row : RowId) → IsSome (row_named P [] row) → position_of row < 2 ^ 32
  named_position (id.Row n) some = omega (arith, found_within P.rows n some, sound.few_rows)
  named_position (id.Uncertain n) some = omega (arith, found_within P.urows n some, sound.few_urows)
  named_position (id.Cut n) some = absurd (true≢false (sym some))

  entries_of_type : (es : List Entry) → AreWellFormed es → AreNamed P [] es → AreOfType (Entries es ∷ [])
  entries_of_type es form named = ((form.0, λ k d h. (named_position (get_or es k d).row (named k d h), form.1 k d h)), tt)

  uncertain_named : (es : List Entry) → all_uncertain P es ≡ true → AreNamed P [] es
  uncertain_named es all =
      let test = λ (e : Entry). is_uncertain e.row && is_some (row_named P [] e.row) in
      let each = (Decides-by_and test (λ (e : Entry). test e ≡ true) (list_all test) (λ e. (λ h. h, λ h. h)) refl (λ _ _. refl) es).0 all in
      λ k d h. (and_parts (is_uncertain (get_or es k d).row) (is_some (row_named P [] (get_or es k d).row)) (each k d h)).1

  -- ---- empty trees

  empty_close : (bx : List Range) (combo : Combination) → empty_right.IsRightClose P bx combo → AreOfType (Entries combo.entries ∷ [])
  empty_close bx combo right = entries_of_type combo.entries right.well_formed (uncertain_named combo.entries right.named)

  empty_part : (part : EmptyPart) → IsNear (empties.range_of part) → AreOfType (empty_pieces (empties.below_of part)) → AreOfType (empty_part_pieces part)
  empty_part part near below =
      subst AreOfType (sym (fold_out-EmptyPart (List Piece) (List Piece) empty_step empty_part_step part)) (whole_of (empties.range_of part).low near.0, (whole_of (empties.range_of part).high near.1, below))

  abbrev empty_layer : empties.Layer → List Piece
  empty_layer z = empty_step (map-Empty Empty EmptyPart (List Piece) (List Piece) empty_pieces empty_part_pieces z)

  empty_by_layer : (tree : Empty) → AreOfType (empty_layer (out-Empty tree)) → AreOfType (empty_pieces tree)
  empty_by_layer tree h = subst AreOfType (sym (fold_out-Empty (List Piece) (List Piece) empty_step empty_part_step tree)) h

  empty_end : (bx : List Range) (layer : empties.Layer) → empty_right.IsRightEnd P bx layer → AreOfType (empty_layer layer)
  empty_end bx (none.Close combo) right = empty_close bx combo right
  empty_end bx (none.Split var parts) right = absurd right

  module _ (x : Var) (depth : ℕ) (IsRight : List Range → Empty → Type 0) (below : (bx : List Range) (tree : Empty) → AreNear bx → IsRight bx tree → AreOfType (empty_pieces tree)) where
    empty_split : depth < 2 ^ 32 → (bx : List Range) (tree : Empty) (layer : empties.Layer) → (AreOfType (empty_layer layer) → AreOfType (empty_pieces tree)) → AreNear bx
        → IsRightSplit P x depth IsRight bx tree layer → AreOfType (empty_pieces tree)
    empty_split few bx tree (none.Close combo) whole near right = whole (empty_close bx combo right)
    empty_split few bx tree (none.Split var parts) whole near (inr right) = below bx tree near right.1
    empty_split few bx tree (none.Split var parts) whole near (inl right) =
        let cover = cover_near empties.range_of (range_at bx depth) parts right.2 (near_at bx depth near) in
        let each : All (λ part. AreOfType (empty_part_pieces part)) parts =
        λ k d h. empty_part (get_or parts k d) (cover.0 k d h)
        (below (slice_set bx depth (empties.range_of (get_or parts k d))) (empties.below_of (get_or parts k d)) (near_set bx depth (empties.range_of (get_or parts k d)) near (cover.0 k d h)) (right.3 k d h)) in
        whole (omega (arith, few, right.0), counted empty_part_pieces parts cover.1 each)

  pub empty_of_type : (xs : List Var) (depth : ℕ) (bx : List Range) (tree : Empty) → depth + length xs < 2 ^ 32 → AreNear bx → IsRightEmpty P xs depth bx tree → AreOfType (empty_pieces tree)
  empty_of_type [] depth bx tree few near right = empty_by_layer tree (empty_end bx (out-Empty tree) right)
  empty_of_type (x ∷ xs) depth bx tree few near right =
      empty_split x depth (IsRightEmpty P xs (depth + 1)) (λ b t n r. empty_of_type xs (depth + 1) b t (omega (arith, few)) n r) (omega (arith, few)) bx tree (out-Empty tree)
      (empty_by_layer tree) near right

  -- ---- policies

  abbrev policy_layer : policies.Layer → List Piece
  policy_layer z = policy_step (map-Policy Below Policy PolicyPart (List Piece) (List Piece) (List Piece) below_pieces policy_pieces policy_part_pieces z)

  policy_by_layer : (policy : Policy) → AreOfType (policy_layer (out-Policy policy)) → AreOfType (policy_pieces policy)
  policy_by_layer policy h = subst AreOfType (sym (fold_out-Policy (List Piece) (List Piece) (List Piece) below_step policy_step policy_part_step policy)) h

  abbrev below_layer : policies.BelowLayer → List Piece
  below_layer z = below_step (map-Below Below Policy PolicyPart (List Piece) (List Piece) (List Piece) below_pieces policy_pieces policy_part_pieces z)

  policy_part : (part : PolicyPart) → IsNear (policies.range_of part) → AreOfType (below_layer (policies.below_of part)) → AreOfType (policy_part_pieces part)
  policy_part part near h =
      let below = (out-PolicyPart part).below in
      let pieces : AreOfType (below_pieces below) = subst AreOfType (sym (fold_out-Below (List Piece) (List Piece) (List Piece) below_step policy_step policy_part_step below)) h in
      subst AreOfType (sym (fold_out-PolicyPart (List Piece) (List Piece) (List Piece) below_step policy_step policy_part_step part))
      (whole_of (policies.range_of part).low near.0, (whole_of (policies.range_of part).high near.1, pieces))

  policy_end : (v : Fraction) (bx : List Range) (layer : policies.Layer) → policy_right.IsRightEnd P v bx layer → AreOfType (policy_layer layer)
  policy_end v bx (answer.Leaf point) right = numbers_of_type point right.0
  policy_end v bx (answer.Choose value below) right = absurd right
  policy_end v bx (answer.Answer parts) right = absurd right

  pub few_wholes : 0 + length (whole_vars P) < 2 ^ 32
  few_wholes = omega (arith, sound.few_vars, length-take P.wholes P.vars)

  module _ (x : Var) (depth : ℕ) (IsRight : List Range → Policy → Type 0) (below : (bx : List Range) (policy : Policy) → AreNear bx → IsRight bx policy → AreOfType (policy_pieces policy)) where
    policy_below : (bx : List Range) (layer : policies.BelowLayer) → AreNear bx → IsRightBelow P IsRight bx layer → AreOfType (below_layer layer)
    policy_below bx (answer.On policy) near right = below bx policy near right
    policy_below bx (answer.Illegal tree) near right = empty_of_type (whole_vars P) 0 bx tree few_wholes near right

    policy_move : (bx : List Range) (layer : policies.Layer) → AreNear bx → policy_right.IsRightMove P x depth IsRight bx layer → AreOfType (policy_layer layer)
    policy_move bx (answer.Leaf point) near right = absurd right
    policy_move bx (answer.Choose value policy) near right =
        let small = between_near (range_at bx depth) value (near_at bx depth near) right.1 in
        (whole_of value small, below (slice_set bx depth (single value)) policy (near_set bx depth (single value) near (small, small)) right.2)
    policy_move bx (answer.Answer parts) near right =
        let cover = cover_near policies.range_of (range_at bx depth) parts right.1 (near_at bx depth near) in
        counted policy_part_pieces parts cover.1
        (λ k d h. policy_part (get_or parts k d) (cover.0 k d h)
        (policy_below (slice_set bx depth (policies.range_of (get_or parts k d))) (policies.below_of (get_or parts k d)) (near_set bx depth (policies.range_of (get_or parts k d)) near (cover.0 k d h)) (right.2 k d h)))

  pub policy_of_type : (v : Fraction) (xs : List Var) (depth : ℕ) (bx : List Range) (policy : Policy) → AreNear bx → IsRightPolicy P v xs depth bx policy → AreOfType (policy_pieces policy)
  policy_of_type v [] depth bx policy near right = policy_by_layer policy (policy_end v bx (out-Policy policy) right)
  policy_of_type v (x ∷ xs) depth bx policy near right =
      policy_by_layer policy (policy_move x depth (IsRightPolicy P v xs (depth + 1)) (policy_of_type v xs (depth + 1)) bx (out-Policy policy) near right)

  -- ---- refutations

  abbrev refute_layer : refutations.Layer → List Piece
  refute_layer z = refute_step (map-Refute Refute RefutePart (List Piece) (List Piece) refute_pieces refute_part_pieces z)

  refute_by_layer : (tree : Refute) → AreOfType (refute_layer (out-Refute tree)) → AreOfType (refute_pieces tree)
  refute_by_layer tree h = subst AreOfType (sym (fold_out-Refute (List Piece) (List Piece) refute_step refute_part_step tree)) h

  refute_part : (part : RefutePart) → IsNear (refutations.range_of part) → AreOfType (refute_pieces (refutations.below_of part)) → AreOfType (refute_part_pieces part)
  refute_part part near below =
      subst AreOfType (sym (fold_out-RefutePart (List Piece) (List Piece) refute_step refute_part_step part)) (whole_of (refutations.range_of part).low near.0, (whole_of (refutations.range_of part).high near.1, below))

  refute_close : (G : Goal) (bx : List Range) (combo : Combination) → refute_right.IsRightClose P [] G bx combo → AreOfType (Entries combo.entries ∷ [])
  refute_close G bx combo right = entries_of_type combo.entries right.0 right.1

  refute_end : (G : Goal) (bx : List Range) (layer : refutations.Layer) → refute_right.IsRightEnd P [] G bx layer → AreOfType (refute_layer layer)
  refute_end G bx (why.Close combo) right = refute_close G bx combo right
  refute_end G bx (why.Over parts) right = absurd right
  refute_end G bx (why.Pick value completion below) right = absurd right

  module _ (G : Goal) (x : Var) (later : List Var) (depth : ℕ) (IsRight : List Range → Refute → Type 0) (below : (bx : List Range) (tree : Refute) → AreNear bx → IsRight bx tree → AreOfType (refute_pieces tree)) where
    refute_move : (bx : List Range) (layer : refutations.Layer) → AreNear bx → refute_right.IsRightMove P [] G x later depth IsRight bx layer → AreOfType (refute_layer layer)
    refute_move bx (why.Close combo) near right = refute_close G bx combo right
    refute_move bx (why.Over parts) near right =
        let cover = cover_near refutations.range_of (range_at bx depth) parts right.0 (near_at bx depth near) in
        counted refute_part_pieces parts cover.1
        (λ k d h. refute_part (get_or parts k d) (cover.0 k d h)
        (below (slice_set bx depth (refutations.range_of (get_or parts k d))) (refutations.below_of (get_or parts k d)) (near_set bx depth (refutations.range_of (get_or parts k d)) near (cover.0 k d h)) (right.2 k d h)))
    refute_move bx (why.Pick value completion tree) near right =
        let pick = right.1 in
        let small = between_near (range_at bx depth) value (near_at bx depth near) pick.value_in_range in
        let values = wholes_of_type completion (fit_whole later (drop (depth + 1) bx) completion (near_drop bx (depth + 1) near) pick.completion_fits) in
        (whole_of value small, joined_of_type (map Whole completion) (refute_pieces tree) values (below (slice_set bx depth (single value)) tree (near_set bx depth (single value) near (small, small)) right.2))

  pub refute_of_type : (G : Goal) (xs : List Var) (depth : ℕ) (bx : List Range) (tree : Refute) → AreNear bx → IsRightRefutation P [] [] G xs depth bx tree → AreOfType (refute_pieces tree)
  refute_of_type G [] depth bx tree near right = refute_by_layer tree (refute_end G bx (out-Refute tree) right)
  refute_of_type G (x ∷ xs) depth bx tree near right =
      refute_by_layer tree (refute_move G x xs depth (IsRightRefutation P [] [] G xs (depth + 1)) (refute_of_type G xs (depth + 1)) bx (out-Refute tree) near right)
