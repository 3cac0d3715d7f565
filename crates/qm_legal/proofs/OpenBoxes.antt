-- Boxes whose later universal ranges are the variables' bounds and have values.
use Rattle.std.proofs.Common.{◌≡◌, refl, sym, ap, subst, ℕ, zero, suc, ◌+◌, ◌<◌, Bool, true, false, List, [], ◌∷◌, ◌++◌, length, take, drop, set, arith, ℤ, ◌≤ℤ◌}
use Rattle.std.specs.Prelude.{◌||◌, ◌&&◌, if◌then◌else◌}
use Rattle.qm_math.proofs.WholeTests.{le_of_false}
use Rattle.qm_model.specs.declared.range.Range.{Range}
use Rattle.qm_model.specs.declared.variable.Player.TheVariants.{Exists, All as Universal}
use Rattle.qm_model.specs.declared.variable.Var.{Var}
use Rattle.qm_model.specs.declared.game.Problem.{Problem}
use Rattle.qm_model.specs.Boxes.{IsDead}
use Rattle.qm_model.specs.Plays.{is_universal, whole_vars}
use Rattle.qm_model.specs.Ranges.{range_at}
use Rattle.qm_model.proofs.Players.{is_for_all, not_universal}
use Rattle.qm_game.specs.First.{HasNone}
use Rattle.qm_game.proofs.NextVariables.{next_in_box}
use Rattle.qm_trees.specs.Closing.{is_empty_range}
use Rattle.qm_trees.specs.EmptyJudgement.{some_universal_empty}
use Rattle.qm_legal.specs.Queries.{AreFree, IsQuery}
use Rattle.qm_legal.specs.SearchSteps.{IsOneOf, SetsNext}
use Rattle.qm_legal.specs.JournalSteps.{AreOpen, IsAliveValue, IsOpenBox}
use Rattle.qm_legal.proofs.Lows.{lows}
use Rattle.qm_legal.proofs.Places.{alive_behind, alive_behind_value, some_next}

neither : (a b : Bool) → (a || b) ≡ false → (a ≡ false) × (b ≡ false)
neither true b e = absurd (cc)
neither false b e = (refl, e)

-- ---- from the first box

AreOpen-of : (xs : List Var) (bx : List Range) → AreFree xs bx → some_universal_empty xs bx ≡ false → AreOpen xs bx
AreOpen-of [] bx free none = tt
AreOpen-of (x ∷ xs) [] free none = absurd free
AreOpen-of (x ∷ xs) (r ∷ bx) free none =
    let both = neither (is_universal x && is_empty_range r) (some_universal_empty xs bx) none in
    (λ universal. (free.0 universal, le_of_false r.high r.low (rw (is_for_all x universal) at both.0)), AreOpen-of xs bx free.1 both.1)

none_empty-drop : (xs : List Var) (n : ℕ) (bx : List Range) → some_universal_empty xs bx ≡ false → some_universal_empty (drop n xs) (drop n bx) ≡ false
none_empty-drop xs zero bx none = none
none_empty-drop [] (suc n) bx none = refl
none_empty-drop (x ∷ xs) (suc n) [] none = nothing (drop n xs)
  where
    nothing : (ys : List Var) → some_universal_empty ys [] ≡ false
    nothing [] = refl
    nothing (y ∷ ys) = refl
none_empty-drop (x ∷ xs) (suc n) (r ∷ bx) none = none_empty-drop xs n bx (neither (is_universal x && is_empty_range r) (some_universal_empty xs bx) none).1

pub open_query : (P : Problem) (depth : ℕ) (bx : List Range) → IsQuery P depth bx → some_universal_empty (whole_vars P) bx ≡ false → HasNone (IsDead bx) P.urows → IsOpenBox P depth bx
open_query P depth bx query none alive = record {
  alive = record { box = query.box; set = query.set; alive = alive };
  others = AreOpen-of (drop depth (whole_vars P)) (drop depth bx) query.free (none_empty-drop (whole_vars P) depth bx none);
}

pub free_of_open : (xs : List Var) (bx : List Range) → AreOpen xs bx → AreFree xs bx
free_of_open [] bx h = tt
free_of_open (x ∷ xs) [] h = absurd h
free_of_open (x ∷ xs) (r ∷ bx) h = ((λ universal. (h.0 universal).0), free_of_open xs bx h.1)

-- ---- the next variable

others_behind : (xs : List Var) (depth : ℕ) (bx : List Range) → depth < length bx → AreOpen (drop depth xs) (drop depth bx) → AreOpen (drop (suc depth) xs) (drop (suc depth) bx)
others_behind xs depth [] below h = absurd (omega (arith, below))
others_behind [] zero (q ∷ bx) below h = tt
others_behind (x ∷ xs) zero (q ∷ bx) below h = h.1
others_behind [] (suc depth) (q ∷ bx) below h = tt
others_behind (x ∷ xs) (suc depth) (q ∷ bx) below h = others_behind xs depth bx (omega (arith, below)) h

drop_set : (depth : ℕ) (bx : List Range) (r : Range) → drop (suc depth) (set bx depth r) ≡ drop (suc depth) bx
drop_set zero [] r = refl
drop_set zero (q ∷ bx) r = refl
drop_set (suc depth) [] r = refl
drop_set (suc depth) (q ∷ bx) r = drop_set depth bx r

next_filled : (xs : List Var) (depth : ℕ) (bx : List Range) → SetsNext Universal (drop depth xs) → depth < length bx → AreOpen (drop depth xs) (drop depth bx)
    → (range_at bx depth).low ≤ℤ (range_at bx depth).high
next_filled xs depth [] player below h = absurd (omega (arith, below))
next_filled [] zero (q ∷ bx) player below h = absurd player
next_filled (x ∷ xs) zero (q ∷ bx) player below h = (h.0 player).1
next_filled [] (suc depth) (q ∷ bx) player below h = absurd player
next_filled (x ∷ xs) (suc depth) (q ∷ bx) player below h = next_filled xs depth bx player (omega (arith, below)) h

-- ---- the values that are set

pub lows_other : (xs : List Var) (depth : ℕ) (bx : List Range) → SetsNext Exists (drop depth xs) → depth < length bx → lows (take (suc depth) xs) bx ≡ lows (take depth xs) bx
lows_other xs depth [] other below = absurd (omega (arith, below))
lows_other [] zero (q ∷ bx) other below = absurd other
lows_other (y ∷ xs) zero (q ∷ bx) other below = rw (not_universal y other) refl
lows_other [] (suc depth) (q ∷ bx) other below = absurd other
lows_other (y ∷ xs) (suc depth) (q ∷ bx) other below =
    ap (λ us. if is_universal y then q.low ∷ us else us) (lows_other xs depth bx other (omega (arith, below)))

pub lows_next : (xs : List Var) (depth : ℕ) (bx : List Range) (r : Range) → SetsNext Universal (drop depth xs) → depth < length bx
    → lows (take (suc depth) xs) (set bx depth r) ≡ lows (take depth xs) bx ++ r.low ∷ []
lows_next xs depth [] r player below = absurd (omega (arith, below))
lows_next [] zero (q ∷ bx) r player below = absurd player
lows_next (y ∷ xs) zero (q ∷ bx) r player below = rw (is_for_all y player) refl
lows_next [] (suc depth) (q ∷ bx) r player below = absurd player
lows_next (y ∷ xs) (suc depth) (q ∷ bx) r player below =
    by (is_universal y) (lows (take (suc depth) xs) (set bx depth r)) (lows (take depth xs) bx) (lows_next xs depth bx r player (omega (arith, below)))
  where
    by : (b : Bool) (after before : List ℤ) → after ≡ before ++ r.low ∷ []
        → (if b then q.low ∷ after else after) ≡ (if b then q.low ∷ before else before) ++ r.low ∷ []
    by true after before e = ap (λ us. q.low ∷ us) e
    by false after before e = e

module _ (P : Problem) (depth : ℕ) (bx : List Range) (rest : List Var) (from_depth : rest ≡ drop depth (whole_vars P)) where
  up : suc depth ≡ depth + 1
  up = omega arith

  -- behind a variable of the other player
  pub open_behind : SetsNext Exists rest → IsOpenBox P depth bx → IsOpenBox P (depth + 1) bx
  open_behind other here =
      let below = next_in_box P rest depth bx from_depth (some_next Exists rest other) here.alive.box in
      record {
        alive = alive_behind P depth bx rest from_depth other here.alive;
        others = subst (λ n. AreOpen (drop n (whole_vars P)) (drop n bx)) up (others_behind (whole_vars P) depth bx below here.others);
      }

  -- behind a value
  pub open_behind_value : SetsNext Universal rest → (r : Range) → IsOneOf (range_at bx depth) r → HasNone (IsDead (set bx depth r)) P.urows → IsOpenBox P depth bx → IsOpenBox P (depth + 1) (set bx depth r)
  open_behind_value player r one alive here =
      let some = some_next Universal rest player in
      let below = next_in_box P rest depth bx from_depth some here.alive.box in
      let later = subst (λ b. AreOpen (drop (suc depth) (whole_vars P)) b) (sym (drop_set depth bx r)) (others_behind (whole_vars P) depth bx below here.others) in
      record {
        alive = alive_behind_value P depth bx rest from_depth some r one alive here.alive;
        others = subst (λ n. AreOpen (drop n (whole_vars P)) (drop n (set bx depth r))) up later;
      }

  -- the next variable has a value
  pub filled : SetsNext Universal rest → IsOpenBox P depth bx → (range_at bx depth).low ≤ℤ (range_at bx depth).high
  filled player here =
      next_filled (whole_vars P) depth bx (subst (SetsNext Universal) from_depth player) (next_in_box P rest depth bx from_depth (some_next Universal rest player) here.alive.box) here.others

  pub values_other : SetsNext Exists rest → IsOpenBox P depth bx → lows (take (depth + 1) (whole_vars P)) bx ≡ lows (take depth (whole_vars P)) bx
  values_other other here =
      subst (λ n. lows (take n (whole_vars P)) bx ≡ lows (take depth (whole_vars P)) bx) up
      (lows_other (whole_vars P) depth bx (subst (SetsNext Exists) from_depth other) (next_in_box P rest depth bx from_depth (some_next Exists rest other) here.alive.box))

  pub values_next : SetsNext Universal rest → (r : Range) → IsOpenBox P depth bx → lows (take (depth + 1) (whole_vars P)) (set bx depth r) ≡ lows (take depth (whole_vars P)) bx ++ r.low ∷ []
  values_next player r here =
      subst (λ n. lows (take n (whole_vars P)) (set bx depth r) ≡ lows (take depth (whole_vars P)) bx ++ r.low ∷ []) up
      (lows_next (whole_vars P) depth bx r (subst (SetsNext Universal) from_depth player) (next_in_box P rest depth bx from_depth (some_next Universal rest player) here.alive.box))

pub alive_value : (P : Problem) (depth : ℕ) (bx : List Range) (run : Range) → IsOneOf (range_at bx depth) run → HasNone (IsDead (set bx depth run)) P.urows → IsAliveValue P depth bx run
alive_value P depth bx run one alive = record { one = one; alive = alive }
