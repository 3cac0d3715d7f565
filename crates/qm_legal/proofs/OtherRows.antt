-- Whether a row names a variable, and rows that don't name the one that is set.
use Rattle.std.proofs.Common.{◌≡◌, ◌≢◌, sym, ap, subst, ◌∙◌, ◌⊎◌, inl, inr, ℕ, zero, suc, ◌+◌, ◌-◌, ◌/◌, ◌==◌, ◌<◌, ◌≤◌, true, false, List, [], ◌∷◌, length, get_or, set, All, arith, pos, ◌<ℤ◌}
use Rattle.std.proofs.Math.IntN.{zero-*ℤ}
use Rattle.std.proofs.lemmas.Bool.{cases_lt, true≢false}
use Rattle.std.proofs.lemmas.Bool.Decides.{nat_tests}
use Rattle.std.proofs.lemmas.List.{get_or-set_other}
use Rattle.std.proofs.lemmas.List.Folds.{list_any_at, list_any_none}
use Rattle.qm_math.specs.Ranges.{least_product}
use Rattle.qm_math.proofs.Sums.{sum_of_each-same}
use Rattle.qm_model.specs.declared.range.Range.{Range}
use Rattle.qm_model.specs.declared.row.Row.{Row}
use Rattle.qm_model.specs.declared.row.Term.{Term}
use Rattle.qm_model.specs.declared.variable.Var.{Var}
use Rattle.qm_model.specs.Boxes.{IsBox, IsDead, least_value}
use Rattle.qm_model.specs.Linear.{HasVarsBelow, IsOrdered, IsOrderedFrom}
use Rattle.qm_model.specs.Ranges.{single}
use Rattle.qm_model.specs.Sound.{IsRowOver}
use Rattle.qm_model.proofs.BoxLaws.{IsBox-length}
use Rattle.qm_model.proofs.Forms.{sum_over-each}
use Rattle.qm_game.specs.First.{HasNone}
use Rattle.qm_legal.specs.SearchSteps.{names}

-- ---- ordered terms

at_least : (ts : List Term) (least j : ℕ) (d : Term) → IsOrderedFrom least ts → j < length ts → least ≤ (get_or ts j d).var
at_least [] least j d order h = absurd (omega (arith, h))
at_least (t ∷ ts) least zero d order h = omega (arith, order.0)
at_least (t ∷ ts) least (suc j) d order h = omega (arith, order.0, at_least ts (suc t.var) j d order.2 (omega (arith, h)))

rising : (ts : List Term) (least i j : ℕ) (d e : Term) → IsOrderedFrom least ts → i ≤ j → j < length ts → (get_or ts i d).var ≤ (get_or ts j e).var
rising [] least i j d e order before h = absurd (omega (arith, h))
rising (t ∷ ts) least zero zero d e order before h = omega arith
rising (t ∷ ts) least (suc i) zero d e order before h = absurd (omega (arith, before))
rising (t ∷ ts) least zero (suc j) d e order before h = omega (arith, at_least ts (suc t.var) j e order.2 (omega (arith, h)))
rising (t ∷ ts) least (suc i) (suc j) d e order before h = rising ts (suc t.var) i j d e order.2 (omega (arith, before)) (omega (arith, h))

-- the variable can only stand from `low` on and before `high`
pub record StandsBetween (ts : List Term) (var low high : ℕ) : Type 0 where
  pub within : high ≤ length ts
  pub before : (k : ℕ) (d : Term) → k < low → k < length ts → (get_or ts k d).var < var
  pub behind : (k : ℕ) (d : Term) → high ≤ k → k < length ts → var < (get_or ts k d).var

-- the middle of the halves
pub middle_below : (low high : ℕ) → low < high → low + (high - low) / 2 < high
middle_below low high h = omega (arith, h)

is_same : (m n : ℕ) → m ≡ n → (m == n) ≡ true
is_same m n e = grind (arith, nat_tests)

is_other : (m n : ℕ) → (m ≡ n → ⊥) → (m == n) ≡ false
is_other m n h = grind (arith, nat_tests)

module _ (ts : List Term) (var : ℕ) where
  pub between_all : StandsBetween ts var 0 (length ts)
  between_all = record {
    within = omega arith;
    before = λ k d h inside. absurd (omega (arith, h));
    behind = λ k d h inside. absurd (omega (arith, h, inside));
  }

  pub upper_half : (low high middle : ℕ) (t : Term) → IsOrdered ts → StandsBetween ts var low high → middle < high → (get_or ts middle t).var < var
      → StandsBetween ts var (middle + 1) high
  upper_half low high middle t order here inside below = record {
    within = here.within;
    before = λ k d h within. omega (arith, below, rising ts 0 k middle d t order (omega (arith, h)) (omega (arith, inside, here.within)));
    behind = here.behind;
  }

  pub lower_half : (low high middle : ℕ) (t : Term) → IsOrdered ts → StandsBetween ts var low high → middle < high → ((get_or ts middle t).var ≡ var → ⊥) → var ≤ (get_or ts middle t).var
      → StandsBetween ts var low middle
  lower_half low high middle t order here inside other above = record {
    within = omega (arith, inside, here.within);
    before = here.before;
    behind = λ k d h within.
        let more : var < (get_or ts middle t).var = omega (arith, other, above) in
        omega (arith, more, rising ts 0 middle k t d order h within);
  }

  pub not_found : (low high : ℕ) → high ≤ low → StandsBetween ts var low high → names var ts ≡ false
  not_found low high past here = list_any_none (λ (u : Term). u.var == var) ts (λ k d h. is_other (get_or ts k d).var var (by_place k d h (cases_lt k low)))
    where
      by_place : (k : ℕ) (d : Term) → k < length ts → (k < low) ⊎ (low ≤ k) → (get_or ts k d).var ≡ var → ⊥
      by_place k d h (inl less) e = omega (arith, e, here.before k d less h)
      by_place k d h (inr more) e = omega (arith, e, here.behind k d (omega (arith, past, more)) h)

-- no term is of the variable
unnamed_at : (var : ℕ) (ts : List Term) → names var ts ≡ false → All (λ (t : Term). t.var ≢ var) ts
unnamed_at var ts none k d h e =
    let yes = list_any_at (λ (u : Term). u.var == var) ts k d h (is_same (get_or ts k d).var var e) in
    true≢false (sym yes ∙ none)

-- ---- rows

module _ (xs : List Var) (bx : List Range) (var : ℕ) (r : Range) (box : IsBox xs bx) (with : IsBox xs (set bx var r)) where
  -- a row that doesn't name the variable keeps its least value
  same_least : (row : Row) → IsRowOver xs row → names var row.terms ≡ false → least_value row.terms (set bx var r) ≡ least_value row.terms bx
  same_least row over none =
      let ts = row.terms in
      let d = single (pos 0) in
      let below : HasVarsBelow (length bx) ts = rw (IsBox-length xs bx box) over.vars in
      let below_set : HasVarsBelow (length (set bx var r)) ts = rw (IsBox-length xs (set bx var r) with) over.vars in
      let one : (k : ℕ) (e : Term) → k < length ts
      → least_product (get_or ts k e).coef (get_or (set bx var r) (get_or ts k e).var d).low (get_or (set bx var r) (get_or ts k e).var d).high
      ≡ least_product (get_or ts k e).coef (get_or bx (get_or ts k e).var d).low (get_or bx (get_or ts k e).var d).high =
      (λ k e h. ap (λ (q : Range). least_product (get_or ts k e).coef q.low q.high) (get_or-set_other bx var (get_or ts k e).var r d (unnamed_at var ts none k e h))) in
      sum_over-each (λ k (q : Range). least_product k q.low q.high) d (λ q. zero-*ℤ q.low) ts (set bx var r) over.ordered below_set
      ∙ sum_of_each-same (λ (t : Term). least_product t.coef (get_or (set bx var r) t.var d).low (get_or (set bx var r) t.var d).high) (λ (t : Term). least_product t.coef (get_or bx t.var d).low (get_or bx t.var d).high) ts one
      ∙ sym (sum_over-each (λ k (q : Range). least_product k q.low q.high) d (λ q. zero-*ℤ q.low) ts bx over.ordered below)

  pub others_alive : (rows : List Row) → All (IsRowOver xs) rows → HasNone (IsDead bx) rows → All (λ (row : Row). names var row.terms ≡ false → IsDead (set bx var r) row → ⊥) rows
  others_alive rows over alive k d h none dead =
      alive k d h (subst (λ v. (get_or rows k d).right <ℤ v) (same_least (get_or rows k d) (over k d h) none) dead)
