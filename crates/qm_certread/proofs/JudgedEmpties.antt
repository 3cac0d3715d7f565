-- An empty tree's lines are judged as the tree is.
use Rattle.std.proofs.Common.{◌≡◌, ℕ, zero, suc, ◌+◌, ◌<◌, ◌≤◌, ◌^◌, Bool, true, false, not, List, [], ◌∷◌, ◌++◌, length, map, Some, inl, inr, refl, sym, ap, ap₂, ◌∙◌, subst, arith, drop}
use Rattle.std.specs.Prelude.{◌==◌, ◌&&◌, slice_get, slice_set, if◌then◌else◌}
use Rattle.std.proofs.lemmas.Bool.Decides.{Decides-eqb, nat_tests}
use Rattle.std.proofs.lemmas.List.{length-map}
use Rattle.std.proofs.lemmas.Option.{slice_get_within}
use Rattle.qm_model.specs.declared.row.Row.{Row}
use Rattle.qm_model.specs.declared.range.Range.{Range}
use Rattle.qm_model.specs.declared.variable.Var.{Var}
use Rattle.qm_model.specs.declared.game.Problem.{Problem}
use Rattle.qm_model.specs.Plays.{is_universal, whole_vars}
use Rattle.qm_model.specs.Ranges.{range_at}
use Rattle.qm_trees.specs.declared.rule.Rule.TheVariants as broken
use Rattle.qm_trees.specs.declared.empty.Empty.{Empty as EmptyTree, out-Empty}
use Rattle.qm_trees.specs.declared.empty.Empty.TheOpen as none
use Rattle.qm_trees.specs.declared.empty.Empty.TheFolds.{fold_out-Empty, fold_out-EmptyPart, map-Empty}
use Rattle.qm_trees.specs.declared.empty.EmptyPart.{EmptyPart}
use Rattle.qm_trees.specs.Entries.{Combination, are_well_formed}
use Rattle.qm_trees.specs.Verdicts.{Verdict, Broken, line, ◌then◌}
use Rattle.qm_trees.specs.Ranges.{judge_each, judge_parts}
use Rattle.qm_trees.specs.RefuteJudgement.{Head}
use Rattle.qm_trees.specs.EmptyJudgement as empties
use Rattle.qm_trees.specs.EmptyJudgement.{below_of, closes_empty, judge_close, judge_empty, judge_end, judge_split, range_of}
use Rattle.qm_trees.proofs.Multipliers.{well_formed_says}
use Rattle.qm_certread.specs.Nodes.{Node, Close, Part, Split}
use Rattle.qm_certread.specs.Dues.{Due, after}
use Rattle.qm_certread.specs.Dues as due
use Rattle.qm_certread.specs.NodesOf.{empty_nodes, empty_part_nodes, empty_part_step, empty_step, in_turn}
use Rattle.qm_certread.specs.Fits.{FitsAt, IsCombination, IsCount, IsPlain, IsSplit}
use Rattle.qm_certread.specs.Tasks.{EmptyTrees, Empty}
use Rattle.qm_certread.proofs.Turns.{IsTurn, covering, known_turn, last_turn, node_judged, node_turn, nodes_turn, parts_turn, same_turn}

-- ---- lists

-- what stands at the head of the rest of a list
pub head_at : {A : Type 0} (ys : List A) (d : ℕ) (x : A) (xs : List A) → drop d ys ≡ x ∷ xs → (slice_get ys d ≡ Some x) × (drop (suc d) ys ≡ xs)
head_at [] zero x xs e = absurd cc
head_at [] (suc d) x xs e = absurd cc
head_at (y ∷ ys) zero x xs e = (ap Some cc, cc)
head_at (y ∷ ys) (suc d) x xs e = head_at ys d x xs e

pub rest_at : {A : Type 0} (ys : List A) (d : ℕ) (x : A) (xs : List A) → drop d ys ≡ x ∷ xs → drop (d + 1) ys ≡ xs
rest_at ys d x xs e = let next : d + 1 ≡ suc d = omega arith in ap (λ (n : ℕ). drop n ys) next ∙ (head_at ys d x xs e).1

pub none_at : {A : Type 0} (ys : List A) (d : ℕ) → drop d ys ≡ [] → length ys ≤ d
none_at [] d e = omega arith
none_at (y ∷ ys) zero e = absurd cc
none_at (y ∷ ys) (suc d) e = omega (arith, none_at ys d e)

-- ---- choices

pub if_true : (t : Bool) (a b : Verdict) → t ≡ true → (if t then a else b) ≡ a
if_true t a b e = ap (λ (s : Bool). if s then a else b) e

pub if_false : (t : Bool) (a b : Verdict) → t ≡ false → (if t then a else b) ≡ b
if_false t a b e = ap (λ (s : Bool). if s then a else b) e

-- ---- combinations

pub combination_formed : (combo : Combination) → IsCombination combo → are_well_formed combo.entries ≡ true
combination_formed combo h = (well_formed_says combo.entries).1 (h.0, λ k d inside. (h.1 k d inside).1)

-- what a tree's nodes are by its first one
abbrev pub layer_nodes : empties.Layer → List Node
layer_nodes z = empty_step (map-Empty EmptyTree EmptyPart (List Node) (List Node) empty_nodes empty_part_nodes z)

pub by_layer : (tree : EmptyTree) → empty_nodes tree ≡ layer_nodes (out-Empty tree)
by_layer tree = fold_out-Empty (List Node) (List Node) empty_step empty_part_step tree

pub part_by_layer : (part : EmptyPart) → empty_part_nodes part ≡ Part (range_of part) ∷ empty_nodes (below_of part)
part_by_layer part = fold_out-EmptyPart (List Node) (List Node) empty_step empty_part_step part

pub counted : (var : ℕ) (all : List EmptyPart) → Split var (length all) ∷ in_turn (map empty_part_nodes all) ≡ layer_nodes (none.Split var all)
counted var all = ap (λ (n : ℕ). Split var n ∷ in_turn (map empty_part_nodes all)) (sym (length-map all empty_part_nodes))

-- ---- trees

module _ (P : Problem) (cuts : List Row) (heads : List Head) (few : length (whole_vars P) < 2 ^ 32) (more : List ℕ) where
  abbrev Turn : ℕ → List Range → List Node → Verdict → Type 0
  Turn depth bx nodes v = IsTurn P cuts heads few more (Empty depth bx ∷ []) nodes v

  plain_of : (depth : ℕ) (combo : Combination) → FitsAt P (due.Empty depth) (Close combo) → IsPlain combo
  plain_of depth combo (inl (var, split, (count, is, h))) = let bad : Split var count ≡ Close combo = is in absurd cc
  plain_of depth combo (inr (c, is, h)) = let same : c ≡ combo = cc in subst IsPlain same h

  split_of : (depth var count : ℕ) → FitsAt P (due.Empty depth) (Split var count) → IsSplit P depth var × IsCount count
  split_of depth var count (inl (v, split, (n, is, h))) =
      let same : v ≡ var = cc in
      let so : n ≡ count = cc in
      (subst (IsSplit P depth) same split, subst IsCount so h)
  split_of depth var count (inr (c, is, h)) = let bad : Close c ≡ Split var count = is in absurd cc

  close_turn : (depth : ℕ) (bx : List Range) (combo : Combination) → Turn depth bx (Close combo ∷ []) (judge_close P bx combo)
  close_turn depth bx combo =
      let test = line broken.Close (closes_empty P bx combo) in
      let alone = last_turn P cuts heads few more (Empty depth bx) (Close combo) test tt refl refl in
      known_turn P cuts heads few more (Empty depth bx) (Close combo) [] (judge_close P bx combo)
      (λ fits.
      let plain = plain_of depth combo fits in
      let formed : not combo.objective && are_well_formed combo.entries ≡ true = ap₂ ◌&&◌ (ap not plain.0) (combination_formed combo plain.1) in
      same_turn P cuts heads few more (Empty depth bx ∷ []) (Close combo ∷ []) test (judge_close P bx combo)
      (sym (if_true (not combo.objective && are_well_formed combo.entries) test (Broken broken.Text 0) formed)) alone)

  -- a split may stand at a later place too, up to its own variable
  later_turn : (depth var : ℕ) (bx : List Range) (count : ℕ) (nodes : List Node) (v : Verdict) → (var ≡ depth → ⊥) → Turn (depth + 1) bx (Split var count ∷ nodes) v → Turn depth bx (Split var count ∷ nodes) v
  later_turn depth var bx count nodes v apart turn dues later behind fit =
      let split = split_of depth var count fit.0 in
      let behind_it : depth ≤ var = split.0.3 in
      let least : depth + 1 ≤ var = further behind_it in
      let fits : FitsAt P (due.Empty (depth + 1)) (Split var count) = inl (var, (split.0.0, split.0.1, split.0.2, least), (count, refl, split.1)) in
      let rest = turn dues later behind (fits, fit.1) in
      record {
        fit = rest.fit;
        same = node_judged P cuts heads few more (Empty depth bx) later (Split var count) (nodes ++ behind) fit.0 tt
            ∙ sym (node_judged P cuts heads few more (Empty (depth + 1) bx) later (Split var count) (nodes ++ behind) fits tt) ∙ rest.same;
      }
    where
      further : depth ≤ var → depth + 1 ≤ var
      further h = by (var == depth) refl
        where
          by : (t : Bool) → (var == depth) ≡ t → depth + 1 ≤ var
          by true e = absurd (apart ((Decides-eqb var depth).0 e))
          by false e = grind (arith, nat_tests)

  module _ (x : Var) (xs : List Var) (depth : ℕ) (at : drop depth (whole_vars P) ≡ x ∷ xs) (judge : List Range → EmptyTree → Verdict)
      (turn : (bx : List Range) (tree : EmptyTree) → Turn (depth + 1) bx (empty_nodes tree) (judge bx tree)) where
    abbrev judged_part : List Range → EmptyPart → Verdict
    judged_part bx part = judge (slice_set bx depth (range_of part)) (below_of part)

    here_turn : (bx : List Range) (all : List EmptyPart) → Turn depth bx (Split depth (length all) ∷ in_turn (map empty_part_nodes all)) (judge_parts range_of (judged_part bx) (range_at bx depth) all)
    here_turn bx all =
        node_turn P cuts heads few more (Empty depth bx) (Split depth (length all)) (in_turn (map empty_part_nodes all))
        (judge_each range_of (judged_part bx) (range_at bx depth).low (range_at bx depth).high all) tt
        (parts_turn P cuts heads few more (covering EmptyTrees depth bx) range_of (λ part. empty_nodes (below_of part)) empty_part_nodes (judged_part bx) part_by_layer
        (λ part. turn (slice_set bx depth (range_of part)) (below_of part)) (range_at bx depth).low all)

    universal_here : (y : Var) → slice_get (whole_vars P) depth ≡ Some y → is_universal y ≡ true → is_universal x ≡ true
    universal_here y found universal = let same : y ≡ x = some_is (sym found ∙ (head_at (whole_vars P) depth x xs at).0) in subst (λ z. is_universal z ≡ true) same universal
      where
        some_is : {A : Type 0} {a b : A} → Some a ≡ Some b → a ≡ b
        some_is e = cc

    abbrev here : List Range → List EmptyPart → Verdict
    here bx all = judge_parts range_of (judged_part bx) (range_at bx depth) all

    abbrev split : List Range → EmptyTree → ℕ → List EmptyPart → Bool → Verdict
    split bx tree var all is_here = if is_here then if is_universal x then here bx all else Broken broken.Text 0 else judge bx tree

    universal_turn : (bx : List Range) (tree : EmptyTree) (var : ℕ) (all : List EmptyPart) → var ≡ depth
        → Turn depth bx (Split var (length all) ∷ in_turn (map empty_part_nodes all)) (if is_universal x then here bx all else Broken broken.Text 0)
    universal_turn bx tree var all same =
        let parts = in_turn (map empty_part_nodes all) in
        let verdict = if is_universal x then here bx all else Broken broken.Text 0 in
        known_turn P cuts heads few more (Empty depth bx) (Split var (length all)) parts verdict
        (λ fits.
        let fit = split_of depth var (length all) fits in
        let universal = universal_here fit.0.0 (subst (λ (n : ℕ). slice_get (whole_vars P) n ≡ Some fit.0.0) same fit.0.1) fit.0.2 in
        same_turn P cuts heads few more (Empty depth bx ∷ []) (Split var (length all) ∷ parts) (here bx all) verdict
        (sym (if_true (is_universal x) (here bx all) (Broken broken.Text 0) universal))
        (subst (λ (n : ℕ). Turn depth bx (Split n (length all) ∷ parts) (here bx all)) (sym same) (here_turn bx all)))

    split_by : (t : Bool) (bx : List Range) (tree : EmptyTree) (var : ℕ) (all : List EmptyPart) → layer_nodes (none.Split var all) ≡ empty_nodes tree → (var == depth) ≡ t
        → Turn depth bx (Split var (length all) ∷ in_turn (map empty_part_nodes all)) (split bx tree var all t)
    split_by true bx tree var all whole e = universal_turn bx tree var all ((Decides-eqb var depth).0 e)
    split_by false bx tree var all whole e =
        let apart : var ≡ depth → ⊥ = λ same. (let yes = (Decides-eqb var depth).1 same in cc) in
        let nodes = Split var (length all) ∷ in_turn (map empty_part_nodes all) in
        later_turn depth var bx (length all) (in_turn (map empty_part_nodes all)) (judge bx tree) apart
        (nodes_turn P cuts heads few more (Empty (depth + 1) bx ∷ []) (empty_nodes tree) nodes (judge bx tree) (sym whole ∙ sym (counted var all)) (turn bx tree))

    split_turn : (bx : List Range) (tree : EmptyTree) (layer : empties.Layer) → layer_nodes layer ≡ empty_nodes tree → Turn depth bx (layer_nodes layer) (judge_split P x depth judge bx tree layer)
    split_turn bx tree (none.Close combo) whole = close_turn depth bx combo
    split_turn bx tree (none.Split var all) whole =
        let nodes = Split var (length all) ∷ in_turn (map empty_part_nodes all) in
        nodes_turn P cuts heads few more (Empty depth bx ∷ []) nodes (layer_nodes (none.Split var all)) (split bx tree var all (var == depth)) (counted var all)
        (split_by (var == depth) bx tree var all whole refl)

  end_turn : (depth : ℕ) (bx : List Range) → drop depth (whole_vars P) ≡ [] → (layer : empties.Layer) → Turn depth bx (layer_nodes layer) (judge_end P bx layer)
  end_turn depth bx at (none.Close combo) = close_turn depth bx combo
  end_turn depth bx at (none.Split var all) =
      known_turn P cuts heads few more (Empty depth bx) (Split var (length (map empty_part_nodes all))) (in_turn (map empty_part_nodes all)) (Broken broken.Text 0)
      (λ fits.
      let split = split_of depth var (length (map empty_part_nodes all)) fits in
      let inside = slice_get_within (whole_vars P) var split.0.0 split.0.1 in
      let behind_it : depth ≤ var = split.0.3 in
      let none = none_at (whole_vars P) depth at in
      absurd (omega arith))

  pub empty_turn : (xs : List Var) (depth : ℕ) (bx : List Range) (tree : EmptyTree) → drop depth (whole_vars P) ≡ xs → Turn depth bx (empty_nodes tree) (judge_empty P xs depth bx tree)
  empty_turn [] depth bx tree at =
      nodes_turn P cuts heads few more (Empty depth bx ∷ []) (layer_nodes (out-Empty tree)) (empty_nodes tree) (judge_end P bx (out-Empty tree)) (sym (by_layer tree)) (end_turn depth bx at (out-Empty tree))
  empty_turn (x ∷ xs) depth bx tree at =
      nodes_turn P cuts heads few more (Empty depth bx ∷ []) (layer_nodes (out-Empty tree)) (empty_nodes tree) (judge_empty P (x ∷ xs) depth bx tree) (sym (by_layer tree))
      (split_turn x xs depth at (judge_empty P xs (depth + 1)) (λ b t. empty_turn xs (depth + 1) b t (rest_at (whole_vars P) depth x xs at)) bx tree (out-Empty tree) (sym (by_layer tree)))
