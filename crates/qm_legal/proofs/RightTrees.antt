-- Trees that are right, and at which no operation leaves: of a dead row, of an empty range, of parts, and of later variables.
use Rattle.std.proofs.Common.{◌≡◌, refl, sym, subst, ◌∙◌, ℕ, zero, suc, ◌+◌, ◌≤◌, Bool, true, false, List, [], ◌∷◌, All, map, drop, slice_set, arith, pos, Ok, Option, Some, None, inl, inr}
use Rattle.std.specs.Prelude.{IsSomeAnd, slice_get}
use Rattle.std.proofs.lemmas.Int.{ints}
use Rattle.std.proofs.lemmas.Option.{slice_get_within, get_or_from_slice_get}
use Rattle.std.proofs.lemmas.List.Elements.{All-cons, All-nil}
use Rattle.qm_math.specs.Fraction.{whole}
use Rattle.qm_frac.specs.Lowest.{IsFrac}
use Rattle.qm_frac.proofs.Terms.{whole_is}
use Rattle.qm_model.specs.declared.range.Range.{Range}
use Rattle.qm_model.specs.declared.row.Row.{Row}
use Rattle.qm_model.specs.declared.row_id.RowId.TheVariants as id
use Rattle.qm_model.specs.declared.variable.Player.TheVariants.{All as Universal}
use Rattle.qm_model.specs.declared.variable.Var.{Var}
use Rattle.qm_model.specs.declared.game.Problem.{Problem}
use Rattle.qm_model.specs.Boxes.{Cover, IsBox, IsDead}
use Rattle.qm_model.specs.Plays.{whole_vars}
use Rattle.qm_model.specs.Sound.{IsRowOver, IsSound}
use Rattle.qm_trees.specs.declared.combination.ComboValue.TheVariants.{Void}
use Rattle.qm_trees.specs.declared.combination.Entry.{Entry}
use Rattle.qm_trees.specs.declared.empty.Empty.{Empty, Split, Close, out-Empty}
use Rattle.qm_trees.specs.declared.empty.Empty.TheOpen as node
use Rattle.qm_trees.specs.declared.empty.EmptyPart.{EmptyPart}
use Rattle.qm_trees.specs.Entries.{AreWellFormed, Combination, weighted_rows}
use Rattle.qm_trees.specs.EmptyJudgement.{Layer, range_of, below_of, all_uncertain, judge_close, judge_empty, some_universal_empty}
use Rattle.qm_trees.specs.EmptyRight.{IsCloseInRange, IsEmptyInRange, IsRightClose, IsRightEmpty, IsRightSplit, IsSplitInRange}
use Rattle.qm_trees.specs.Evaluation.{value_of}
use Rattle.qm_model.specs.Ranges.{range_at}
use Rattle.qm_trees.specs.Verdicts.{answer_of}
use Rattle.qm_trees.proofs.EmptyLines.{right_of_fine}
use Rattle.qm_trees.proofs.Lines.{fine_of_answer}
use Rattle.qm_trees.proofs.WholeValues.{dead_row_value}
use Rattle.qm_combo.proofs.EmptyTests.{close_is_judged, closed_by_range, closed_by_value, splits}
use Rattle.qm_legal.specs.Queries.{Shows}

-- ---- closing

module _ (P : Problem) (rest : List Var) (depth : ℕ) (bx : List Range) (tree : Empty) where
  shows_close : (combo : Combination) → tree ≡ Close combo → answer_of (judge_close P bx combo) ≡ Ok true → Shows P rest depth bx tree
  shows_close combo is passes =
      let both = right_of_fine P rest depth bx tree (fine_of_answer (judge_empty P rest depth bx tree) (sym (close_is_judged P rest depth bx tree combo is) ∙ passes)) in
      record { right = both.0; in_range = both.1 }

  -- by an empty universal range
  pub empty_shows : some_universal_empty (whole_vars P) bx ≡ true → tree ≡ Close (record { objective = false; entries = [] }) → Shows P rest depth bx tree
  empty_shows empty is = shows_close (record { objective = false; entries = [] }) is (sym (closed_by_range P bx (record { objective = false; entries = [] }) (tt, All-nil (λ (e : Entry). IsFrac e.by)) refl refl empty))

  abbrev once : ℕ → Entry
  once n = record { row = id.Uncertain n; by = whole (pos 1) }

  abbrev alone : ℕ → Combination
  alone n = record { objective = false; entries = once n ∷ [] }

  -- by a row that is dead
  row_shows : (n : ℕ) (row : Row) → IsRowOver P.vars row → IsBox P.vars bx → slice_get P.urows n ≡ Some row → IsDead bx row → tree ≡ Close (alone n) → Shows P rest depth bx tree
  row_shows n row over box at dead is = shows_close (alone n) is (by (some_universal_empty (whole_vars P) bx) refl)
    where
      form : AreWellFormed (once n ∷ [])
      form =
          let one : IsFrac (whole (pos 1)) = whole_is (pos 1) (omega arith) in
          ((omega arith, omega (arith, ints)), All-cons (λ (e : Entry). IsFrac e.by) (once n) [] one (All-nil (λ (e : Entry). IsFrac e.by)))

      named : all_uncertain P (once n ∷ []) ≡ true
      named = rw at refl

      value : value_of P false (weighted_rows P [] (once n ∷ [])) bx ≡ Ok Void
      value = rw at (dead_row_value P bx row over box dead)

      by : (b : Bool) → some_universal_empty (whole_vars P) bx ≡ b → answer_of (judge_close P bx (alone n)) ≡ Ok true
      by true e = sym (closed_by_range P bx (alone n) form refl named e)
      by false e = sym (closed_by_value P bx (alone n) form refl named e Void value)

  pub dead_shows : (n : ℕ) → IsSound P → IsBox P.vars bx → IsSomeAnd (slice_get P.urows n) (IsDead bx) → tree ≡ Close (alone n) → Shows P rest depth bx tree
  dead_shows n sound box some is = by (slice_get P.urows n) refl some
    where
      by : (found : Option Row) → slice_get P.urows n ≡ found → IsSomeAnd found (IsDead bx) → Shows P rest depth bx tree
      by None at dead = absurd dead
      by (Some row) at dead =
          let over = subst (IsRowOver P.vars) (get_or_from_slice_get P.urows n row row at) (sound.urows n row (slice_get_within P.urows n row at)) in
          row_shows n row over box at dead is

-- ---- parts

pub split_shows : (P : Problem) (x : Var) (later : List Var) (depth : ℕ) (bx : List Range) (parts : List EmptyPart) → x.player ≡ Universal
    → Cover (range_at bx depth) (map range_of parts) → All (λ part. Shows P later (depth + 1) (slice_set bx depth (range_of part)) (below_of part)) parts
    → Shows P (x ∷ later) depth bx (Split depth parts)
split_shows P x later depth bx parts player cover below =
    let layer = sym (splits depth parts) in
    record {
      right = subst (IsRightSplit P x depth (IsRightEmpty P later (depth + 1)) bx (Split depth parts)) layer (inl (refl, player, cover, λ k d h. (below k d h).right));
      in_range = subst (IsSplitInRange P depth (IsEmptyInRange P later (depth + 1)) bx (Split depth parts)) layer (inl (refl, λ k d h. (below k d h).in_range));
    }

-- ---- later variables

module _ (P : Problem) (bx : List Range) (tree : Empty) where
  close_of : (rest : List Var) (depth : ℕ) (combo : Combination) → out-Empty tree ≡ node.Close combo → Shows P rest depth bx tree → IsRightClose P bx combo × IsCloseInRange P bx combo
  close_of [] depth combo e h = (rw e at h.right, rw e at h.in_range)
  close_of (x ∷ rest) depth combo e h = (rw e at h.right, rw e at h.in_range)

  -- a split is of one of the variables
  split_from : (rest : List Var) (depth var : ℕ) (parts : List EmptyPart) → out-Empty tree ≡ node.Split var parts → IsRightEmpty P rest depth bx tree → depth ≤ var
  split_from [] depth var parts e h = absurd (rw e at h)
  split_from (x ∷ rest) depth var parts e h = by (split_from rest (depth + 1) var parts e) (rw e at h)
    where
      by : (IsRightEmpty P rest (depth + 1) bx tree → depth + 1 ≤ var) → IsRightSplit P x depth (IsRightEmpty P rest (depth + 1)) bx tree (node.Split var parts) → depth ≤ var
      by after (inl here) = omega (arith, here.0)
      by after (inr later) = omega (arith, after later.1)

  -- one variable more in front
  pub earlier : (x : Var) (rest : List Var) (depth : ℕ) → Shows P rest (depth + 1) bx tree → Shows P (x ∷ rest) depth bx tree
  earlier x rest depth h = by (out-Empty tree) refl
    where
      by : (l : Layer) → out-Empty tree ≡ l → Shows P (x ∷ rest) depth bx tree
      by (node.Close combo) e = (let both = close_of rest (depth + 1) combo e h in record { right = rw e both.0; in_range = rw e both.1 })
      by (node.Split var parts) e =
          let apart : var ≡ depth → ⊥ = λ same. omega (arith, same, split_from rest (depth + 1) var parts e h.right) in
          record { right = rw e (inr (apart, h.right)); in_range = rw e (inr (apart, h.in_range)) }

  -- all variables before the depth
  pub from_first : (xs : List Var) (first depth : ℕ) → Shows P (drop depth xs) (first + depth) bx tree → Shows P xs first bx tree
  from_first xs first zero h = subst (λ n. Shows P xs n bx tree) (let e : first + 0 ≡ first = omega arith in e) h
  from_first [] first (suc depth) h = record { right = h.right; in_range = h.in_range }
  from_first (x ∷ xs) first (suc depth) h =
      let e : first + suc depth ≡ (first + 1) + depth = omega arith in
      earlier x xs first (from_first xs (first + 1) depth (subst (λ n. Shows P (drop depth xs) n bx tree) e h))
