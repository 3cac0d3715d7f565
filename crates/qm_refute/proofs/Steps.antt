-- How the tests go on, step by step.
use Rattle.std.proofs.Common.{◌≡◌, ℕ, zero, suc, ◌+◌, ◌<◌, ◌≤◌, true, false, List, [], ◌∷◌, length, drop, get_or, refl, sym, ap, ◌∙◌, arith, ℤ, Ok}
use Rattle.std.specs.Prelude.{nat_eq}
use Rattle.std.proofs.lemmas.List.{drop_all, drop_more}
use Rattle.std.proofs.lemmas.Bool.Decides.{nat_tests}
use Rattle.qm_model.specs.declared.range.Range.{Range}
use Rattle.qm_model.specs.declared.row.Row.{Row}
use Rattle.qm_model.specs.declared.game.Problem.{Problem}
use Rattle.qm_model.specs.declared.variable.Var.{Var}
use Rattle.qm_model.specs.Goals.{Goal}
use Rattle.qm_model.specs.Plays.{is_universal}
use Rattle.qm_trees.specs.declared.refutation.Refute.{Refute, Over, out-Refute}
use Rattle.qm_trees.specs.declared.refutation.Refute.TheVariants.{rolls-Over}
use Rattle.qm_trees.specs.declared.refutation.Refute.TheViews.{out-roll-Refute}
use Rattle.qm_trees.specs.declared.refutation.Refute.TheOpen as node
use Rattle.qm_trees.specs.declared.refutation.RefutePart.{RefutePart}
use Rattle.qm_model.specs.Ranges.{is_in}
use Rattle.qm_trees.specs.Picks.{fit}
use Rattle.qm_trees.specs.Entries.{AreWellFormed, Combination, weighted_rows}
use Rattle.qm_trees.specs.declared.rule.Rule.TheVariants as rule
use Rattle.qm_trees.specs.Closing.{closing}
use Rattle.qm_trees.specs.Verdicts.{answer_of}
use Rattle.qm_trees.specs.RefuteJudgement.{all_named, judge_close, judge_refute}
use Rattle.qm_cover.proofs.PartSteps.{answer_of-line}
use Rattle.qm_refute.specs.Parts.{judge_over}
use Rattle.qm_trees.proofs.Multipliers.{well_formed_says}

-- ---- closing

module _ (P : Problem) (cuts : List Row) (G : Goal) (bx : List Range) (combo : Combination) (form : AreWellFormed combo.entries) where
  pub named_closes : all_named P cuts combo.entries ≡ true → answer_of (judge_close P cuts G bx combo) ≡ closing P combo.objective (weighted_rows P cuts combo.entries) bx G
  named_closes named =
      rw ((well_formed_says combo.entries).1 form, named) (answer_of-line rule.Close (closing P combo.objective (weighted_rows P cuts combo.entries) bx G))

  pub other_closes : all_named P cuts combo.entries ≡ false → answer_of (judge_close P cuts G bx combo) ≡ Ok false
  other_closes other = rw ((well_formed_says combo.entries).1 form, other) refl

-- ---- completions

-- none of the values is left exactly where all are used
all_used-fit : (bx : List Range) (us : List ℤ) (u : ℕ) → u ≤ length us → nat_eq u (length us) ≡ fit [] bx (drop u us)
all_used-fit bx [] zero h = refl
all_used-fit bx [] (suc u) h = absurd (omega arith)
all_used-fit bx (v ∷ us) zero h = grind (arith, nat_tests)
all_used-fit bx (v ∷ us) (suc u) h = let rest = all_used-fit bx us u (omega arith) in grind (arith, nat_tests)

fit-existential : (x : Var) (xs : List Var) (r : Range) (bx : List Range) (us : List ℤ) → is_universal x ≡ false → fit (x ∷ xs) (r ∷ bx) us ≡ fit xs bx us
fit-existential x xs r bx [] e = rw e refl
fit-existential x xs r bx (u ∷ us) e = rw e refl

fit-universal : (x : Var) (xs : List Var) (r : Range) (bx : List Range) (u : ℤ) (us : List ℤ) → is_universal x ≡ true → is_in r u ≡ true → fit (x ∷ xs) (r ∷ bx) (u ∷ us) ≡ fit xs bx us
fit-universal x xs r bx u us e within = rw (e, within) refl

module _ (xs : List Var) (bx : List Range) (us : List ℤ) where
  pub fit_all : (i u : ℕ) → length xs ≤ i → u ≤ length us → nat_eq u (length us) ≡ fit (drop i xs) (drop i bx) (drop u us)
  fit_all i u h k = all_used-fit (drop i bx) us u k ∙ sym (ap (λ ys. fit ys (drop i bx) (drop u us)) (drop_all i xs h))

  module _ (i u : ℕ) (x : Var) (h : i < length xs) (k : i < length bx) (is : x ≡ get_or xs i x) where
    var_then_others : drop i xs ≡ x ∷ drop (i + 1) xs
    var_then_others = drop_more xs i x h ∙ ap (λ y. y ∷ drop (i + 1) xs) (sym is)

    fit_opened : (r : Range) → fit (drop i xs) (drop i bx) (drop u us) ≡ fit (x ∷ drop (i + 1) xs) (get_or bx i r ∷ drop (i + 1) bx) (drop u us)
    fit_opened r = ap (λ ys. fit ys (drop i bx) (drop u us)) var_then_others ∙ ap (λ rs. fit (x ∷ drop (i + 1) xs) rs (drop u us)) (drop_more bx i r k)

    pub fit_skip : (r : Range) → is_universal x ≡ false → fit (drop i xs) (drop i bx) (drop u us) ≡ fit (drop (i + 1) xs) (drop (i + 1) bx) (drop u us)
    fit_skip r e = fit_opened r ∙ fit-existential x (drop (i + 1) xs) (get_or bx i r) (drop (i + 1) bx) (drop u us) e

    pub fit_use : (r : Range) (v : ℤ) → is_universal x ≡ true → u < length us → is_in (get_or bx i r) (get_or us u v) ≡ true
        → fit (drop i xs) (drop i bx) (drop u us) ≡ fit (drop (i + 1) xs) (drop (i + 1) bx) (drop (u + 1) us)
    fit_use r v e j within =
        fit_opened r ∙ ap (fit (x ∷ drop (i + 1) xs) (get_or bx i r ∷ drop (i + 1) bx)) (drop_more us u v j)
        ∙ fit-universal x (drop (i + 1) xs) (get_or bx i r) (drop (i + 1) bx) (get_or us u v) (drop (u + 1) us) e within

-- ---- ranges

out-of-Over : (parts : List RefutePart) → out-Refute (Over parts) ≡ node.Over parts
out-of-Over parts = ap out-Refute (sym (rolls-Over parts)) ∙ out-roll-Refute (node.Over parts)

pub over_judged : (P : Problem) (cuts : List Row) (G : Goal) (rest : List Var) (depth : ℕ) (bx : List Range) (tree : Refute) (parts slice : List RefutePart) → tree ≡ Over parts → slice ≡ parts
    → answer_of (judge_over P cuts G rest depth bx slice) ≡ answer_of (judge_refute P cuts [] G rest depth bx tree)
over_judged P cuts G rest depth bx tree parts slice is same = by rest (ap out-Refute is ∙ out-of-Over parts ∙ sym (ap (λ ps. node.Over ps) same))
  where
    by : (xs : List Var) → out-Refute tree ≡ node.Over slice → answer_of (judge_over P cuts G xs depth bx slice) ≡ answer_of (judge_refute P cuts [] G xs depth bx tree)
    by [] layer = rw layer refl
    by (x ∷ later) layer = rw layer refl
