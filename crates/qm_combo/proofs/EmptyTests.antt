-- What the tests of empty trees go by.
use Rattle.std.proofs.Common.{◌≡◌, ℕ, zero, suc, ◌+◌, ◌-◌, ◌<◌, ◌≤◌, true, false, List, [], ◌∷◌, length, drop, refl, sym, ap, ◌∙◌, arith, Ok, Err}
use Rattle.std.specs.Prelude.{◌==◌}
use Rattle.std.proofs.lemmas.Bool.{false_from_ne_true}
use Rattle.std.proofs.lemmas.Bool.Decides.{Decides-eqb}
use Rattle.std.proofs.lemmas.List.{drop-drop, length-drop}
use Rattle.qm_frac.specs.declared.leaves.Leaves.{Leaves}
use Rattle.qm_model.specs.declared.range.Range.{Range}
use Rattle.qm_model.specs.declared.variable.Var.{Var}
use Rattle.qm_model.specs.declared.game.Problem.{Problem}
use Rattle.qm_model.specs.Plays.{whole_vars}
use Rattle.qm_trees.specs.declared.combination.ComboValue.{ComboValue}
use Rattle.qm_trees.specs.declared.rule.Rule.TheVariants as rule
use Rattle.qm_trees.specs.declared.empty.Empty.{Empty, Split, Close, out-Empty}
use Rattle.qm_trees.specs.declared.empty.Empty.TheVariants.{rolls-Split, rolls-Close}
use Rattle.qm_trees.specs.declared.empty.Empty.TheViews.{out-roll-Empty}
use Rattle.qm_trees.specs.declared.empty.Empty.TheOpen as node
use Rattle.qm_trees.specs.declared.empty.EmptyPart.{EmptyPart}
use Rattle.qm_trees.specs.Entries.{AreWellFormed, Combination, weighted_rows}
use Rattle.qm_trees.specs.Evaluation.{value_of}
use Rattle.qm_trees.specs.Verdicts.{Broken, answer_of}
use Rattle.qm_trees.specs.EmptyJudgement.{all_uncertain, closes_empty, contradicts, is_void, judge_close, judge_empty, some_universal_empty}
use Rattle.qm_trees.proofs.Multipliers.{well_formed_says}
use Rattle.qm_cover.proofs.PartSteps.{answer_of-line}
use Rattle.qm_combo.specs.Splits.{judge_split}

-- ---- closing

module _ (P : Problem) (bx : List Range) (combo : Combination) (form : AreWellFormed combo.entries) (plain : combo.objective ≡ false) (named : all_uncertain P combo.entries ≡ true) where
  contradicts_is_judged : contradicts P bx combo ≡ answer_of (judge_close P bx combo)
  contradicts_is_judged =
      let tests : closes_empty P bx combo ≡ contradicts P bx combo = rw named refl in
      rw (plain, (well_formed_says combo.entries).1 form) (sym tests ∙ sym (answer_of-line rule.Close (closes_empty P bx combo)))

  pub closed_by_range : some_universal_empty (whole_vars P) bx ≡ true → Ok true ≡ answer_of (judge_close P bx combo)
  closed_by_range e = (let here : Ok true ≡ contradicts P bx combo = rw e refl in here) ∙ contradicts_is_judged

  module _ (full : some_universal_empty (whole_vars P) bx ≡ false) where
    pub closed_by_value : (v : ComboValue) → value_of P false (weighted_rows P [] combo.entries) bx ≡ Ok v → Ok (is_void v) ≡ answer_of (judge_close P bx combo)
    closed_by_value v e = (let here : Ok (is_void v) ≡ contradicts P bx combo = rw (full, e) refl in here) ∙ contradicts_is_judged

    pub value_leaves : (leaves : Leaves) → value_of P false (weighted_rows P [] combo.entries) bx ≡ Err leaves → Err leaves ≡ answer_of (judge_close P bx combo)
    value_leaves leaves e = (let here : Err leaves ≡ contradicts P bx combo = rw (full, e) refl in here) ∙ contradicts_is_judged

-- ---- nodes

pub splits : (var : ℕ) (parts : List EmptyPart) → out-Empty (Split var parts) ≡ node.Split var parts
splits var parts = ap out-Empty (sym (rolls-Split var parts)) ∙ out-roll-Empty (node.Split var parts)

out-of-Close : (combo : Combination) → out-Empty (Close combo) ≡ node.Close combo
out-of-Close combo = ap out-Empty (sym (rolls-Close combo)) ∙ out-roll-Empty (node.Close combo)

close_judged : (P : Problem) (rest : List Var) (depth : ℕ) (bx : List Range) (tree : Empty) (combo : Combination) → out-Empty tree ≡ node.Close combo
    → judge_empty P rest depth bx tree ≡ judge_close P bx combo
close_judged P [] depth bx tree combo e = rw e refl
close_judged P (x ∷ rest) depth bx tree combo e = rw e refl

pub close_is_judged : (P : Problem) (rest : List Var) (depth : ℕ) (bx : List Range) (tree : Empty) (combo : Combination) → tree ≡ Close combo
    → answer_of (judge_close P bx combo) ≡ answer_of (judge_empty P rest depth bx tree)
close_is_judged P rest depth bx tree combo is = sym (ap answer_of (close_judged P rest depth bx tree combo (ap out-Empty is ∙ out-of-Close combo)))

eqb_of_different : (m n : ℕ) → (m ≡ n → ⊥) → (m == n) ≡ false
eqb_of_different m n h = false_from_ne_true (m == n) (λ e. h ((Decides-eqb m n).0 e))

module _ (P : Problem) (bx : List Range) (tree : Empty) (var : ℕ) (parts : List EmptyPart) (layer : out-Empty tree ≡ node.Split var parts) where
  -- a split of none of the variables
  split_of_none : (rest : List Var) (depth : ℕ) → ((k : ℕ) → k < length rest → var ≡ depth + k → ⊥) → judge_empty P rest depth bx tree ≡ Broken rule.Text 0
  split_of_none [] depth other = rw layer refl
  split_of_none (x ∷ rest) depth other =
      let here : var ≡ depth → ⊥ = λ e. other 0 (omega arith) (omega (arith, e)) in
      let later = split_of_none rest (depth + 1) (λ k below e. other (suc k) (omega (arith, below)) (omega (arith, e))) in
      rw (layer, eqb_of_different var depth here) later

  -- a split of one of them
  split_of_one : (rest : List Var) (k depth : ℕ) → k < length rest → var ≡ depth + k → judge_empty P rest depth bx tree ≡ judge_split P (drop k rest) var bx parts
  split_of_one [] k depth below at = absurd (omega (arith, below))
  split_of_one (x ∷ rest) zero depth below at =
      let same : var ≡ depth = omega (arith, at) in
      let found : (var == depth) ≡ true = (Decides-eqb var depth).1 same in
      rw (layer, found, same) refl
  split_of_one (x ∷ rest) (suc k) depth below at =
      let here : var ≡ depth → ⊥ = λ e. omega (arith, at, e) in
      let later = split_of_one rest k (depth + 1) (omega (arith, below)) (omega (arith, at)) in
      rw (layer, eqb_of_different var depth here) later

pub split_of_none_is_judged : (P : Problem) (rest : List Var) (depth : ℕ) (bx : List Range) (tree : Empty) (var : ℕ) (parts : List EmptyPart) → tree ≡ Split var parts
    → ((k : ℕ) → k < length rest → var ≡ depth + k → ⊥) → Ok false ≡ answer_of (judge_empty P rest depth bx tree)
split_of_none_is_judged P rest depth bx tree var parts is other = sym (ap answer_of (split_of_none P bx tree var parts (ap out-Empty is ∙ splits var parts) rest depth other))

pub split_is_judged : (P : Problem) (rest there : List Var) (depth : ℕ) (bx : List Range) (tree : Empty) (var : ℕ) (parts : List EmptyPart) → tree ≡ Split var parts
    → rest ≡ drop depth (whole_vars P) → there ≡ drop var (whole_vars P) → depth ≤ var → var < length (whole_vars P)
    → answer_of (judge_split P there var bx parts) ≡ answer_of (judge_empty P rest depth bx tree)
split_is_judged P rest there depth bx tree var parts is from_depth from_var reached below =
    let up : depth + (var - depth) ≡ var = omega arith in
    let later : drop (var - depth) rest ≡ there = ap (drop (var - depth)) from_depth ∙ drop-drop (var - depth) depth (whole_vars P) ∙ ap (λ n. drop n (whole_vars P)) up ∙ sym from_var in
    ap (λ xs. answer_of (judge_split P xs var bx parts)) (sym later)
    ∙ sym (ap answer_of (split_of_one P bx tree var parts (ap out-Empty is ∙ splits var parts) rest (var - depth) depth (omega (arith, ap length from_depth, length-drop depth (whole_vars P))) (omega arith)))
