-- A dead row alone closes every goal, and no operation leaves.
use Rattle.std.proofs.Common.{◌≡◌, ℕ, ◌+◌, zero as none, suc, List, [], ◌∷◌, All, refl, sym, subst, ap, ◌∙◌, arith, pos, false, true, Ok, Option, Some, None}
use Rattle.std.specs.Prelude.{Any, IsSomeAnd, IsSome, slice_get}
use Rattle.std.proofs.lemmas.List.Elements.{All-cons, All-nil, All-head, All-tail}
use Rattle.std.proofs.lemmas.Int.{ints}
use Rattle.qm_math.specs.Fraction.{whole}
use Rattle.qm_frac.specs.Lowest.{IsFrac}
use Rattle.qm_frac.proofs.Terms.{whole_is}
use Rattle.qm_model.specs.declared.range.Range.{Range}
use Rattle.qm_model.specs.declared.row.Row.{Row}
use Rattle.qm_model.specs.declared.row_id.RowId.{RowId}
use Rattle.qm_model.specs.declared.row_id.RowId.TheVariants as id
use Rattle.qm_model.specs.declared.variable.Var.{Var}
use Rattle.qm_model.specs.declared.game.Problem.{Problem}
use Rattle.qm_model.specs.Boxes.{IsBox, IsDead, IsEmptyRange}
use Rattle.qm_model.specs.Goals.{Goal, IsProper}
use Rattle.qm_model.specs.Sound.{IsRowOver, IsSound}
use Rattle.qm_game.specs.Dead.{IsFirstDead}
use Rattle.qm_trees.specs.declared.combination.Entry.{Entry}
use Rattle.qm_trees.specs.declared.refutation.Refute.{Refute, Close, out-Refute}
use Rattle.qm_trees.specs.declared.refutation.Refute.TheVariants.{rolls-Close}
use Rattle.qm_trees.specs.declared.refutation.Refute.TheViews.{out-roll-Refute}
use Rattle.qm_trees.specs.declared.refutation.Refute.TheOpen as node
use Rattle.qm_trees.specs.Entries.{AreWellFormed, Combination, row_named, weighted_rows}
use Rattle.qm_trees.specs.Closing.{Closes, closing}
use Rattle.qm_trees.specs.RefuteJudgement.{Head, Layer}
use Rattle.qm_trees.specs.RefuteRight.{AreNamed, IsRightClose, IsCloseInRange, IsRightEnd, IsEndInRange, IsRightMove, IsMoveInRange, IsRightRefutation, IsRefutationInRange}
use Rattle.qm_trees.proofs.CombinationCloses.{closing_exact}
use Rattle.qm_trees.proofs.Multipliers.{entries_positive, weighted_dens}
use Rattle.qm_trees.proofs.WholeValues.{dead_row_closes}
use Rattle.qm_combo.proofs.EmptyRanges.{closing_empty}
use Rattle.qm_search.specs.OutcomeSteps.{Refutes}

-- a refutation that closes at once
pub closes_at_once : (combo : Combination) → out-Refute (Close combo) ≡ node.Close combo
closes_at_once combo = ap out-Refute (sym (rolls-Close combo)) ∙ out-roll-Refute (node.Close combo)

module _ (P : Problem) (cuts : List Row) (heads : List Head) where
  -- a combination that closes the goal refutes it, whatever is still to be set
  pub refutes_from : (rest : List Var) (depth : ℕ) (bx : List Range) (G : Goal) (combo : Combination) (tree : Refute) → AreWellFormed combo.entries → AreNamed P cuts combo.entries
      → Closes P combo.objective (weighted_rows P cuts combo.entries) bx G → IsCloseInRange P cuts G bx combo → tree ≡ Close combo → Refutes P cuts heads rest depth bx G tree
  refutes_from [] depth bx G combo tree form named closes fits is =
      let layer : node.Close combo ≡ out-Refute tree = sym (ap out-Refute is ∙ closes_at_once combo) in
      let right : IsRightClose P cuts G bx combo = (form, named, closes) in
      record {
        right = subst (λ (l : Layer). IsRightEnd P cuts G bx l) layer right;
        in_range = subst (λ (l : Layer). IsEndInRange P cuts G bx l) layer fits;
      }
  refutes_from (x ∷ xs) depth bx G combo tree form named closes fits is =
      let layer : node.Close combo ≡ out-Refute tree = sym (ap out-Refute is ∙ closes_at_once combo) in
      let right : IsRightClose P cuts G bx combo = (form, named, closes) in
      record {
        right = subst (λ (l : Layer). IsRightMove P cuts G x xs depth (IsRightRefutation P cuts heads G xs (depth + 1)) bx l) layer right;
        in_range = subst (λ (l : Layer). IsMoveInRange P cuts G depth (IsRefutationInRange P cuts heads G xs (depth + 1)) bx l) layer fits;
      }

  -- so does one whose test answers yes
  pub refutes_by : (rest : List Var) (depth : ℕ) (bx : List Range) (G : Goal) (combo : Combination) (tree : Refute)
      → IsSound P → IsProper G → AreWellFormed combo.entries → AreNamed P cuts combo.entries
      → closing P combo.objective (weighted_rows P cuts combo.entries) bx G ≡ Ok true → tree ≡ Close combo → Refutes P cuts heads rest depth bx G tree
  refutes_by rest depth bx G combo tree sound proper form named e is =
      let positive = entries_positive combo.entries form.0 in
      let closes = (closing_exact P combo.objective (weighted_rows P cuts combo.entries) bx G (weighted_dens P cuts combo.entries positive) sound.scale_positive proper).0 e in
      refutes_from rest depth bx G combo tree form named closes.0 closes.1 is

-- the entry of a row with the multiplier 1
abbrev pub once : RowId → Entry
once row = record { row = row; by = whole (pos 1) }

once_well_formed : (row : RowId) → AreWellFormed (once row ∷ [])
once_well_formed row =
    let one : IsFrac (whole (pos 1)) = whole_is (pos 1) (omega arith) in
    ((omega arith, omega (arith, ints)), All-cons (λ (e : Entry). IsFrac e.by) (once row) [] one (All-nil (λ (e : Entry). IsFrac e.by)))

-- an item that has one property, where all have another
with_all : {X : Type 0} (D Q : X → Type 0) (xs : List X) (n : ℕ) → All Q xs → IsSomeAnd (slice_get xs n) D → IsSomeAnd (slice_get xs n) (λ x. D x × Q x)
with_all D Q [] n all h = absurd h
with_all D Q (x ∷ xs) none all h = (h, All-head Q x xs all)
with_all D Q (x ∷ xs) (suc n) all h = with_all D Q xs n (All-tail Q x xs all) h

module _ (P : Problem) (cuts : List Row) (heads : List Head) (rest : List Var) (depth : ℕ) (bx : List Range) (sound : IsSound P) (box : IsBox P.vars bx) (G : Goal) (proper : IsProper G) where
  -- a row that is there and is dead
  abbrev IsDeadRow : Row → Type 0
  IsDeadRow row = IsDead bx row × IsRowOver P.vars row

  dead_refutes : (row : RowId) (tree : Refute) → (found : Option Row) → row_named P cuts row ≡ found → IsSomeAnd found IsDeadRow
      → tree ≡ Close (record { objective = false; entries = once row ∷ [] }) → Refutes P cuts heads rest depth bx G tree
  dead_refutes row tree None e h is = absurd h
  dead_refutes row tree (Some r) e h is =
      let there : IsSome (row_named P cuts row) = rw e refl in
      let named = All-cons (λ (entry : Entry). IsSome (row_named P cuts entry.row)) (once row) [] there (All-nil (λ (entry : Entry). IsSome (row_named P cuts entry.row))) in
      let yes : closing P false (weighted_rows P cuts (once row ∷ [])) bx G ≡ Ok true = rw e (dead_row_closes P bx r G h.1 box h.0) in
      refutes_by P cuts heads rest depth bx G (record { objective = false; entries = once row ∷ [] }) tree sound proper (once_well_formed row) named yes is

  -- over a box with an empty range no rows are needed
  pub empty_refutes : (tree : Refute) → Any IsEmptyRange bx → tree ≡ Close (record { objective = false; entries = [] }) → Refutes P cuts heads rest depth bx G tree
  empty_refutes tree empty is =
      let yes : closing P false [] bx G ≡ Ok true = sym (closing_empty P false [] bx G empty) in
      refutes_by P cuts heads rest depth bx G (record { objective = false; entries = [] }) tree sound proper (tt, All-nil (λ (e : Entry). IsFrac e.by)) (All-nil (λ (entry : Entry). IsSome (row_named P cuts entry.row))) yes is

  -- the first dead row alone refutes the goal
  pub first_dead_refutes : (row : RowId) (tree : Refute) → IsFirstDead P bx (Some row)
      → tree ≡ Close (record { objective = false; entries = once row ∷ [] }) → Refutes P cuts heads rest depth bx G tree
  first_dead_refutes (id.Row n) tree first is =
      dead_refutes (id.Row n) tree (slice_get P.rows n) refl (with_all (IsDead bx) (IsRowOver P.vars) P.rows n sound.rows first.has) is
  first_dead_refutes (id.Uncertain n) tree first is =
      dead_refutes (id.Uncertain n) tree (slice_get P.urows n) refl (with_all (IsDead bx) (IsRowOver P.vars) P.urows n sound.urows first.1.has) is
  first_dead_refutes (id.Cut n) tree first is = absurd first
