-- Empty trees that are right fit their places, where they don't have too many nodes to be counted.
use Rattle.std.proofs.Common.{◌≡◌, ℕ, ◌+◌, ◌<◌, ◌^◌, true, true≢false, List, [], ◌∷◌, get_or, length, map, Option, None, Some, All, inl, inr, refl, sym, ap, ◌∙◌, subst, drop, arith}
use Rattle.std.specs.Prelude.{◌&&◌, IsSome, is_some, slice_get, slice_set}
use Rattle.std.proofs.lemmas.Bool.{and_parts}
use Rattle.std.proofs.lemmas.List.Sums.{AllPass-from_list_all}
use Rattle.std.proofs.lemmas.Option.{slice_get_within}
use Rattle.qm_model.specs.declared.row_id.RowId.{RowId}
use Rattle.qm_model.specs.declared.row_id.RowId.TheVariants as id
use Rattle.qm_model.specs.declared.row.Row.{Row}
use Rattle.qm_model.specs.declared.range.Range.{Range}
use Rattle.qm_model.specs.declared.variable.Player.TheVariants.{All as Universal}
use Rattle.qm_model.specs.declared.variable.Var.{Var}
use Rattle.qm_model.specs.declared.game.Problem.{Problem}
use Rattle.qm_model.specs.Plays.{whole_vars}
use Rattle.qm_model.specs.Sound.{IsSound}
use Rattle.qm_model.proofs.Players.{is_for_all}
use Rattle.qm_trees.specs.declared.combination.Entry.{Entry}
use Rattle.qm_trees.specs.declared.empty.Empty.{Empty as EmptyTree, out-Empty}
use Rattle.qm_trees.specs.declared.empty.Empty.TheOpen as none
use Rattle.qm_trees.specs.declared.empty.EmptyPart.{EmptyPart}
use Rattle.qm_trees.specs.Entries.{AreWellFormed, Combination, row_named}
use Rattle.qm_trees.specs.EmptyJudgement as empties
use Rattle.qm_trees.specs.EmptyJudgement.{all_uncertain, below_of, is_uncertain, range_of}
use Rattle.qm_trees.specs.EmptyRight.{IsRightClose, IsRightEmpty, IsRightEnd, IsRightSplit}
use Rattle.qm_trees.specs.RefuteRight.{AreNamed}
use Rattle.qm_certfile.specs.Numbers.{number_of_row}
use Rattle.qm_certread.specs.Nodes.{Node, Close, Split}
use Rattle.qm_certread.specs.Dues as due
use Rattle.qm_certread.specs.NodesOf.{empty_nodes, empty_part_nodes, in_turn}
use Rattle.qm_certread.specs.Fits.{FitsAt, IsCombination, IsCount}
use Rattle.qm_certread.proofs.Fittings.{AreTyped, Fitting, few_parts, node_fits, none_fit, parts_fit}
use Rattle.qm_certread.proofs.JudgedEmpties.{by_layer, counted, head_at, layer_nodes, part_by_layer, rest_at}

-- ---- entries

found_within : (rows : List Row) (n : ℕ) → IsSome (slice_get rows n) → n < length rows
found_within rows n some = by (slice_get rows n) refl some
  where
    by : (found : Option Row) → slice_get rows n ≡ found → IsSome found → n < length rows
    by None at h = absurd (true≢false (sym h))
    by (Some row) at h = slice_get_within rows n row at

module _ (P : Problem) (sound : IsSound P) where
  named_count : (row : RowId) → IsSome (row_named P [] row) → IsCount (number_of_row row)
  named_count (id.Row n) some = omega (arith, found_within P.rows n some, sound.few_rows)
  named_count (id.Uncertain n) some = omega (arith, found_within P.urows n some, sound.few_urows)
  named_count (id.Cut n) some = absurd (true≢false (sym some))

  -- well-formed entries on rows that are there
  pub combination_fits : (combo : Combination) → AreWellFormed combo.entries → AreNamed P [] combo.entries → IsCombination combo
  combination_fits combo form named = (form.0, λ k d h. (named_count (get_or combo.entries k d).row (named k d h), form.1 k d h))

  uncertain_named : (es : List Entry) → all_uncertain P es ≡ true → AreNamed P [] es
  uncertain_named es all = λ k d h.
      (and_parts (is_uncertain (get_or es k d).row) (is_some (row_named P [] (get_or es k d).row))
      (AllPass-from_list_all (λ (e : Entry). is_uncertain e.row && is_some (row_named P [] e.row)) es all k d h)).1

  -- ---- trees

  close_fits : (depth : ℕ) (bx : List Range) (combo : Combination) → IsRightClose P bx combo → Fitting P (due.Empty depth ∷ []) (Close combo ∷ [])
  close_fits depth bx combo right =
      node_fits P (due.Empty depth) (Close combo) [] (inr (combo, refl, (right.without_objective, combination_fits combo right.well_formed (uncertain_named combo.entries right.named)))) (none_fit P)

  -- a split that may stand at a later place may stand here too
  weaker : (depth var count : ℕ) → FitsAt P (due.Empty (depth + 1)) (Split var count) → FitsAt P (due.Empty depth) (Split var count)
  weaker depth var count (inl (v, (x, at, universal, low), found)) = inl (v, (x, at, universal, omega (arith, low)), found)
  weaker depth var count (inr (combo, is, h)) = let bad : Close combo ≡ Split var count = is in absurd cc

  later_fits : (depth var count : ℕ) (nodes : List Node) → Fitting P (due.Empty (depth + 1) ∷ []) (Split var count ∷ nodes) → Fitting P (due.Empty depth ∷ []) (Split var count ∷ nodes)
  later_fits depth var count nodes fits later behind fit = let all = fits later behind fit in (weaker depth var count all.0, all.1)

  module _ (x : Var) (xs : List Var) (depth : ℕ) (at : drop depth (whole_vars P) ≡ x ∷ xs) (IsRight : List Range → EmptyTree → Type 0)
      (below : (bx : List Range) (tree : EmptyTree) → IsRight bx tree → length (empty_nodes tree) < 2 ^ 32 → AreTyped (empty_nodes tree) → Fitting P (due.Empty (depth + 1) ∷ []) (empty_nodes tree)) where
    here_fits : (bx : List Range) (all : List EmptyPart) → x.player ≡ Universal → All (λ part. IsRight (slice_set bx depth (range_of part)) (below_of part)) all
        → length (Split depth (length all) ∷ in_turn (map empty_part_nodes all)) < 2 ^ 32 → AreTyped (in_turn (map empty_part_nodes all))
        → Fitting P (due.Empty depth ∷ []) (Split depth (length all) ∷ in_turn (map empty_part_nodes all))
    here_fits bx all player right small typed =
        let nodes = λ (part : EmptyPart). empty_nodes (below_of part) in
        let count = few_parts P (due.Empty (depth + 1)) range_of nodes empty_part_nodes part_by_layer all in
        let found = (head_at (whole_vars P) depth x xs at).0 in
        node_fits P (due.Empty depth) (Split depth (length all)) (in_turn (map empty_part_nodes all)) (inl (depth, (x, found, is_for_all x player, omega arith), (length all, refl, omega (arith, count, small))))
        (parts_fit P (due.Empty (depth + 1)) range_of nodes empty_part_nodes part_by_layer all
        (λ k d h. λ few part. below (slice_set bx depth (range_of (get_or all k d))) (below_of (get_or all k d)) (right k d h) few part) (omega (arith, small)) typed)

    split_fits : (bx : List Range) (tree : EmptyTree) (layer : empties.Layer) → layer_nodes layer ≡ empty_nodes tree → IsRightSplit P x depth IsRight bx tree layer
        → length (layer_nodes layer) < 2 ^ 32 → AreTyped (layer_nodes layer) → Fitting P (due.Empty depth ∷ []) (layer_nodes layer)
    split_fits bx tree (none.Close combo) whole right small typed = close_fits depth bx combo right
    split_fits bx tree (none.Split var all) whole (inl (same, player, cover, right)) small typed =
        let parts = in_turn (map empty_part_nodes all) in
        let few : length (Split depth (length all) ∷ parts) < 2 ^ 32 = small in
        subst (λ (l : List Node). Fitting P (due.Empty depth ∷ []) l) (ap (λ (n : ℕ). Split n (length all) ∷ parts) (sym same) ∙ counted var all) (here_fits bx all player right few typed.1.1)
    split_fits bx tree (none.Split var all) whole (inr (apart, right)) small typed =
        let count = length (map empty_part_nodes all) in
        later_fits depth var count (in_turn (map empty_part_nodes all))
        (subst (λ (l : List Node). Fitting P (due.Empty (depth + 1) ∷ []) l) (sym whole)
        (below bx tree right (subst (λ (l : List Node). length l < 2 ^ 32) whole small) (subst AreTyped whole typed)))

  end_fits : (depth : ℕ) (bx : List Range) (layer : empties.Layer) → IsRightEnd P bx layer → Fitting P (due.Empty depth ∷ []) (layer_nodes layer)
  end_fits depth bx (none.Close combo) right = close_fits depth bx combo right
  end_fits depth bx (none.Split var all) right = absurd right

  pub empty_fits : (xs : List Var) (depth : ℕ) (bx : List Range) (tree : EmptyTree) → drop depth (whole_vars P) ≡ xs → IsRightEmpty P xs depth bx tree → length (empty_nodes tree) < 2 ^ 32
      → AreTyped (empty_nodes tree) → Fitting P (due.Empty depth ∷ []) (empty_nodes tree)
  empty_fits [] depth bx tree at right small typed = subst (λ (l : List Node). Fitting P (due.Empty depth ∷ []) l) (sym (by_layer tree)) (end_fits depth bx (out-Empty tree) right)
  empty_fits (x ∷ xs) depth bx tree at right small typed =
      subst (λ (l : List Node). Fitting P (due.Empty depth ∷ []) l) (sym (by_layer tree))
      (split_fits x xs depth at (IsRightEmpty P xs (depth + 1)) (λ b t r s y. empty_fits xs (depth + 1) b t (rest_at (whole_vars P) depth x xs at) r s y) bx tree (out-Empty tree) (sym (by_layer tree)) right
      (subst (λ (l : List Node). length l < 2 ^ 32) (by_layer tree) small) (subst AreTyped (by_layer tree) typed))
