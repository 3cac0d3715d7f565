-- Plain variables and rows are in order.
use Rattle.std.proofs.Common.{◌≡◌, ℕ, zero, suc, ◌+◌, ◌*◌, ◌<◌, ◌≤◌, ◌≢◌, List, [], ◌∷◌, ◌++◌, length, get_or, take, drop, arith, unsigned_abs, All, pos}
use Rattle.std.specs.Prelude.{IsTrue, MatchOption, slice_get}
use Rattle.std.proofs.lemmas.List.Elements.{All-head, All-push, All-tail, All-take, All-weaker}
use Rattle.std.proofs.lemmas.Int.{ints}
use Rattle.std.proofs.lemmas.List.{drop_all, length-append}
use Rattle.std.proofs.lemmas.List.Sums.{sum_by-cons}
use Rattle.std.proofs.lemmas.Nat.{mul-le}
use Rattle.qm_model.specs.declared.game.Problem.{Problem}
use Rattle.qm_model.specs.declared.row.Row.{Row}
use Rattle.qm_model.specs.declared.row.Term.{Term}
use Rattle.qm_model.specs.declared.variable.Var.{Var}
use Rattle.qm_model.specs.Linear.{HasVarsBelow, IsOrderedFrom}
use Rattle.qm_model.specs.Plays.{is_universal}
use Rattle.qm_model.specs.Sizes.{reach_in_vars, terms_size}
use Rattle.qm_model.specs.Sound.{IsOverUniversal, IsRowOver, IsSound}
use Rattle.bench_large.specs.Games.{AreUniversal, IsPlain, IsPlainRow, IsPlainUncertainty}

reach-le : (xs : List Var) (var : ℕ) → All IsPlain xs → reach_in_vars xs var ≤ 1000
reach-le [] var plain = omega arith
reach-le (x ∷ xs) zero plain =
    let here = All-head IsPlain x xs plain in
    rw here.low (omega (arith, here.high))
reach-le (x ∷ xs) (suc var) plain = reach-le xs var (All-tail IsPlain x xs plain)

size-le : (reach_of : ℕ → ℕ) (ts : List Term) → ((var : ℕ) → reach_of var ≤ 1000) → All (λ t. unsigned_abs t.coef ≤ 8) ts → terms_size reach_of ts ≤ length ts * 8000
size-le reach_of [] near small = omega arith
size-le reach_of (t ∷ ts) near small =
    let here = mul-le (unsigned_abs t.coef) (reach_of t.var) 8 1000 (All-head (λ (u : Term). unsigned_abs u.coef ≤ 8) t ts small) (near t.var) in
    let rest = size-le reach_of ts near (All-tail (λ (u : Term). unsigned_abs u.coef ≤ 8) t ts small) in
    omega (arith, here, rest, sum_by-cons (λ (u : Term). unsigned_abs u.coef * reach_of u.var) t ts)

row-over : (xs : List Var) (row : Row) → length xs ≡ 1000 → All IsPlain xs → IsPlainRow row → IsRowOver xs row
row-over xs row many plain is =
    let size = size-le (reach_in_vars xs) row.terms (λ var. reach-le xs var plain) is.small in
    record {
      ordered = is.ordered;
      vars = rw many is.vars;
      size = omega (arith, size, is.few, is.right);
    }

pub rows-over : (xs : List Var) (rows : List Row) → length xs ≡ 1000 → All IsPlain xs → All IsPlainRow rows → All (IsRowOver xs) rows
rows-over xs rows many plain are i d h = row-over xs (get_or rows i d) many plain (are i d h)

pub uncertainty-over : (xs : List Var) (universals : ℕ) (rows : List Row) → length xs ≡ 1000 → All IsPlain xs → All (IsPlainUncertainty universals) rows → All (IsRowOver xs) rows
uncertainty-over xs universals rows many plain are = rows-over xs rows many plain (λ i d h. (are i d h).plain)

universal-at : (n : ℕ) (xs : List Var) (i : ℕ) → i < n → i < length xs → AreUniversal n xs → MatchOption (slice_get xs i) ⊥ (λ x. IsTrue (is_universal x))
universal-at n [] i below within are = absurd (omega (arith, within))
universal-at zero (x ∷ xs) i below within are = absurd (omega (arith, below))
universal-at (suc n) (x ∷ xs) zero below within are = All-head (λ y. IsTrue (is_universal y)) x (take n xs) are
universal-at (suc n) (x ∷ xs) (suc i) below within are = universal-at n xs i (omega (arith, below)) (omega (arith, within)) (All-tail (λ y. IsTrue (is_universal y)) x (take n xs) are)

over-universal : (xs : List Var) (universals : ℕ) (row : Row) → length xs ≡ 1000 → universals ≤ 1000 → AreUniversal universals xs → IsPlainUncertainty universals row → All (IsOverUniversal xs) row.terms
over-universal xs universals row many some are is = λ i d h.
    let below = is.vars i d h in
    universal-at universals xs (get_or row.terms i d).var below (omega (arith, below, many, some)) are

-- ---- the terms of a budget

-- one term more, of a later variable
ordered_push : (least n : ℕ) (ts : List Term) (t : Term) → IsOrderedFrom least ts → HasVarsBelow n ts → least ≤ n → t.var ≡ n → t.coef ≢ pos 0 → IsOrderedFrom least (ts ++ t ∷ [])
ordered_push least n [] t ordered below up is some = (omega (arith, up, is), some, tt)
ordered_push least n (u ∷ ts) t ordered below up is some =
    let here = All-head (λ (v : Term). v.var < n) u ts below in
    (ordered.0, ordered.1, ordered_push (suc u.var) n ts t ordered.2 (All-tail (λ (v : Term). v.var < n) u ts below) (omega (arith, here)) is some)

-- so many small terms, of variables below `next`
pub record AreTerms (next number : ℕ) (ts : List Term) : Type 0 where
  pub ordered : IsOrderedFrom 0 ts
  pub vars : HasVarsBelow next ts
  pub many : length ts ≡ number
  pub small : All (λ t. unsigned_abs t.coef ≤ 8) ts

pub terms_more : (next number : ℕ) (ts pushed : List Term) (t : Term) → AreTerms next number ts → pushed ≡ ts ++ t ∷ [] → t.var ≡ next → t.coef ≢ pos 0 → unsigned_abs t.coef ≤ 8
    → AreTerms (next + 1) (number + 1) pushed
terms_more next number ts pushed t are push is some small =
    let vars = All-weaker (λ (u : Term). u.var < next) (λ (u : Term). u.var < next + 1) (λ u h. omega (arith, h)) ts are.vars in
    rw push (record {
      ordered = ordered_push 0 next ts t are.ordered are.vars (omega arith) is some;
      vars = All-push (λ (u : Term). u.var < next + 1) ts t vars (omega (arith, is));
      many = omega (arith, are.many, length-append ts (t ∷ []));
      small = All-push (λ (u : Term). unsigned_abs u.coef ≤ 8) ts t are.small small;
    })

-- a problem of such variables and rows alone, of which all variables are whole
pub record IsPlainGame (universals : ℕ) (P : Problem) : Type 0 where
  pub some_universals : universals ≤ 1000
  pub many_vars : length P.vars ≡ 1000
  pub plain_vars : All IsPlain P.vars
  pub universal_vars : AreUniversal universals P.vars
  pub wholes : P.wholes ≡ 1000
  pub few_rows : length P.rows ≤ 2000
  pub plain_rows : All IsPlainRow P.rows
  pub few_urows : length P.urows ≤ 1000
  pub plain_urows : All (IsPlainUncertainty universals) P.urows
  pub terms : P.terms ≡ []
  pub constant : P.constant ≡ pos 0
  pub scale : P.scale ≡ pos 1

none_left : (universals : ℕ) (P : Problem) → IsPlainGame universals P → drop P.wholes P.vars ≡ []
none_left universals P is = drop_all P.wholes P.vars (omega (arith, is.many_vars, is.wholes))

pub plain-sound : (universals : ℕ) (P : Problem) → IsPlainGame universals P → IsSound P
plain-sound universals P is =
    let many = is.many_vars in
    let rows = is.few_rows in
    let few = is.few_urows in
    record {
      few_vars = omega (arith, many);
      few_rows = omega (arith, rows);
      few_urows = omega (arith, few);
      wholes = omega (arith, many, is.wholes);
      whole_first = λ i d h. (All-take IsPlain P.wholes P.vars is.plain_vars i d h).whole;
      continuous_last = rw (none_left universals P is) (λ i d h. absurd (omega arith));
      rows = rows-over P.vars P.rows many is.plain_vars is.plain_rows;
      urows = uncertainty-over P.vars universals P.urows many is.plain_vars is.plain_urows;
      urows_universal = λ i d h. over-universal P.vars universals (get_or P.urows i d) many is.some_universals is.universal_vars (is.plain_urows i d h);
      objective_ordered = rw is.terms tt;
      objective_vars = rw is.terms (λ i d h. absurd (omega arith));
      objective_size = rw (is.terms, is.constant) (omega arith);
      scale_positive = rw is.scale (omega (arith, ints));
      scale_size = rw is.scale (omega (arith, ints));
    }
