-- A value with a completion is a right pick: the uncertainty rows hold at the worst ends of the box so picked.
use Rattle.std.proofs.Common.{◌≡◌, ℕ, zero, suc, ◌+◌, ◌<◌, ◌≤◌, List, [], ◌∷◌, ◌++◌, length, get_or, map, take, drop, set, All, arith, refl, sym, ap, subst, ◌∙◌, ℤ, pos, negsuc, ◌*ℤ◌}
use Rattle.std.proofs.Math.IntN.{zero-*ℤ}
use Rattle.std.proofs.lemmas.Int.{ints}
use Rattle.std.proofs.lemmas.List.{drop-drop, length-take, length-set}
use Rattle.std.proofs.lemmas.List.Elements.{All-head, All-tail}
use Rattle.qm_math.specs.Ranges.{IsBetween, greatest_product}
use Rattle.qm_math.proofs.Sums.{sum_of_each-same}
use Rattle.qm_model.specs.declared.range.Range.{Range}
use Rattle.qm_model.specs.declared.row.Row.{Row}
use Rattle.qm_model.specs.declared.row.Term.{Term}
use Rattle.qm_model.specs.declared.variable.Player.TheVariants.{All as Universal}
use Rattle.qm_model.specs.declared.variable.Var.{Var}
use Rattle.qm_model.specs.declared.game.Problem.{Problem}
use Rattle.qm_model.specs.Boxes.{greatest_value}
use Rattle.qm_model.specs.Legal.{universal_part}
use Rattle.qm_model.specs.Linear.{HasVarsBelow, form}
use Rattle.qm_model.specs.Plays.{HoldsAt, spread, whole_vars}
use Rattle.qm_model.specs.Points.{continuous_vars}
use Rattle.qm_model.specs.Sound.{IsOverUniversal, IsRowOver, IsSound}
use Rattle.qm_model.proofs.Forms.{sum_over-each}
use Rattle.qm_model.proofs.Players.{by_player, is_for_all, not_universal}
use Rattle.qm_model.proofs.UncertaintyRows.{IsUniversalAt, length-spread, universal_at_take, universal_is_whole}
use Rattle.qm_trees.specs.Picks.{Fit, HoldsOnBox, fixed, picked}
use Rattle.qm_model.specs.Ranges.{range_at, single}
use Rattle.qm_trees.specs.RefuteRight.{IsRightPick}
use Rattle.qm_trees.proofs.PickedPlays.{between_itself, fit_at, fit_fixed, fit_next, fit_skip, next_fits, skip_fits, within_fits}
use Rattle.qm_legal.specs.SearchSteps.{SetsNext}
use Rattle.qm_legal.specs.Queries.{low_of, set_values}
use Rattle.qm_legal.specs.Queries.{AreSet}
use Rattle.qm_legal.proofs.Plays.{set_at, set_long}
use Rattle.qm_search.specs.PlaceSteps.{Completes, IsSearchBox, IsSingle}
use Rattle.qm_search.proofs.Completions.{completion_within, values_before}
use Rattle.qm_search.proofs.SearchBoxes.{below, later_ranges}

-- ---- rows over ranges of one value

same_product : (k v low high : ℤ) → low ≡ high → IsBetween low high v → greatest_product k low high ≡ k *ℤ v
same_product (pos n) v low high e has = let same : high ≡ v = omega (arith, ints, e, has.0, has.1) in ap (λ u. pos n *ℤ u) same
same_product (negsuc n) v low high e has = let same : low ≡ v = omega (arith, ints, e, has.0, has.1) in ap (λ u. negsuc n *ℤ u) same

module _ (P : Problem) (sound : IsSound P) (bx : List Range) (us : List ℤ) (fits : Fit (whole_vars P) bx us) (are : AreSet (whole_vars P) bx) where
  holds_on_box : (row : Row) → IsRowOver P.vars row → All (IsOverUniversal P.vars) row.terms → HoldsAt (spread (whole_vars P) us) row → HoldsOnBox bx row
  holds_on_box row over universal holds =
      let ts = row.terms in
      let d = single (pos 0) in
      let values = spread (whole_vars P) us in
      let whole_at : HasVarsBelow P.wholes ts = λ k e h. universal_is_whole P.wholes P.vars (get_or ts k e).var sound.continuous_last (universal k e h) in
      let below_values : HasVarsBelow (length values) ts = λ k e h. omega (arith, whole_at k e h, length-spread (whole_vars P) us, length-take P.wholes P.vars, sound.wholes) in
      let below_box : HasVarsBelow (length bx) ts = λ k e h. omega (arith, whole_at k e h, set_long (whole_vars P) bx are, length-take P.wholes P.vars, sound.wholes) in
      let at : (k : ℕ) (e : Term) → k < length ts → IsUniversalAt (whole_vars P) (get_or ts k e).var =
      (λ k e h. universal_at_take P.wholes P.vars (get_or ts k e).var (whole_at k e h) (universal k e h)) in
      let one : (k : ℕ) (e : Term) → k < length ts → greatest_product (get_or ts k e).coef (get_or bx (get_or ts k e).var d).low (get_or bx (get_or ts k e).var d).high ≡ (get_or ts k e).coef *ℤ get_or values (get_or ts k e).var (pos 0) =
      (λ k e h. same_product (get_or ts k e).coef (get_or values (get_or ts k e).var (pos 0)) (get_or bx (get_or ts k e).var d).low (get_or bx (get_or ts k e).var d).high
      (set_at (whole_vars P) bx (get_or ts k e).var d are (at k e h)) (fit_at (whole_vars P) bx us (get_or ts k e).var d fits (at k e h))) in
      let same : greatest_value ts bx ≡ form ts values =
      sum_over-each (λ k (q : Range). greatest_product k q.low q.high) d (λ q. zero-*ℤ q.high) ts bx over.ordered below_box
      ∙ sum_of_each-same (λ (t : Term). greatest_product t.coef (get_or bx t.var d).low (get_or bx t.var d).high) (λ (t : Term). t.coef *ℤ get_or values t.var (pos 0)) ts one
      ∙ sym (sum_over-each ◌*ℤ◌ (pos 0) (λ a. zero-*ℤ a) ts values over.ordered below_values) in
      rw same holds

-- ---- the box so picked

-- the first ranges have one value each
set_before : (xs : List Var) (n : ℕ) (bx rest : List Range) → n ≤ length bx → All IsSingle (take n bx) → AreSet (drop n xs) rest → AreSet xs (take n bx ++ rest)
set_before xs zero bx rest long ones after = after
set_before [] (suc n) bx rest long ones after = tt
set_before (x ∷ xs) (suc n) [] rest long ones after = absurd (omega (arith, long))
set_before (x ∷ xs) (suc n) (r ∷ bx) rest long ones after =
    ((λ universal. All-head IsSingle r (take n bx) ones), set_before xs n bx rest (omega (arith, long)) (All-tail IsSingle r (take n bx) ones) after)

-- and their values fit
fit_before : (xs : List Var) (n : ℕ) (bx rest : List Range) (us : List ℤ) → n ≤ length bx → All IsSingle (take n bx) → Fit (drop n xs) rest us
    → Fit xs (take n bx ++ rest) (universal_part (take n xs) (map low_of bx) ++ us)
fit_before xs zero bx rest us long ones after = after
fit_before [] (suc n) bx rest us long ones after = after
fit_before (x ∷ xs) (suc n) [] rest us long ones after = absurd (omega (arith, long))
fit_before (x ∷ xs) (suc n) (r ∷ bx) rest us long ones after =
    let later = fit_before xs n bx rest us (omega (arith, long)) (All-tail IsSingle r (take n bx) ones) after in
    let one : r.low ≡ r.high = All-head IsSingle r (take n bx) ones in
    by_player x (Fit (x ∷ xs) (r ∷ (take n bx ++ rest)) (universal_part (x ∷ take n xs) (map low_of (r ∷ bx)) ++ us))
    (λ existential. rw (not_universal x existential) (skip_fits x xs r (take n bx ++ rest) (universal_part (take n xs) (map low_of bx) ++ us) existential later))
    (λ universal. rw (is_for_all x universal)
    (next_fits x xs r (take n bx ++ rest) (r.low ∷ (universal_part (take n xs) (map low_of bx) ++ us)) universal ((omega (arith, ints), omega (arith, ints, one)), later)))

-- the last ranges are fixed
set_fixed : (xs : List Var) (bx : List Range) (us : List ℤ) → Fit xs bx us → AreSet xs (fixed xs bx us)
set_fixed [] bx us fits = tt
set_fixed (x ∷ xs) [] us fits = absurd fits
set_fixed (x ∷ xs) (r ∷ bx) [] fits =
    by_player x (AreSet (x ∷ xs) (fixed (x ∷ xs) (r ∷ bx) []))
    (λ existential. ((λ universal. cc), none xs bx (fit_skip x xs r bx [] existential fits)))
    (λ universal. absurd (fit_next x xs r bx [] universal fits))
  where
    none : (xs : List Var) (bx : List Range) → Fit xs bx [] → AreSet xs bx
    none [] bx fits = tt
    none (x ∷ xs) [] fits = absurd fits
    none (x ∷ xs) (r ∷ bx) fits =
        by_player x (AreSet (x ∷ xs) (r ∷ bx))
        (λ existential. ((λ universal. cc), none xs bx (fit_skip x xs r bx [] existential fits)))
        (λ universal. absurd (fit_next x xs r bx [] universal fits))
set_fixed (x ∷ xs) (r ∷ bx) (u ∷ us) fits =
    by_player x (AreSet (x ∷ xs) (fixed (x ∷ xs) (r ∷ bx) (u ∷ us)))
    (λ existential. rw (not_universal x existential) ((λ universal. cc), set_fixed xs bx (u ∷ us) (fit_skip x xs r bx (u ∷ us) existential fits)))
    (λ universal. rw (is_for_all x universal) ((λ again. refl), set_fixed xs bx us (fit_next x xs r bx (u ∷ us) universal fits).1))

module _ (P : Problem) (x : Var) (later : List Var) (depth : ℕ) (bx : List Range) (from_depth : x ∷ later ≡ drop depth (whole_vars P)) (here : IsSearchBox P depth bx) (player : x.player ≡ Universal)
    (v : ℤ) (within : IsBetween (range_at bx depth).low (range_at bx depth).high v) (completion : List ℤ) (completes : Completes P (depth + 1) (set bx depth (single v)) completion) where
  fits_later : Fit later (drop (depth + 1) bx) completion
  fits_later =
      let first = below P x later depth bx from_depth here in
      let from_next : later ≡ drop (depth + 1) (whole_vars P) = ap (drop 1) from_depth ∙ drop-drop 1 depth (whole_vars P) in
      let after = completion_within P later (depth + 1) (set bx depth (single v)) from_next (omega (arith, first, length-set bx depth (single v))) completion completes in
      subst (λ rs. Fit later rs completion) (sym (later_ranges P x later depth bx from_depth here)) (within_fits later (continuous_vars P) completion after)

  right_pick_of : IsRightPick P later depth bx v completion
  right_pick_of =
      let first = below P x later depth bx from_depth here in
      let long : depth ≤ length bx = omega (arith, first) in
      let tail = fixed later (drop (depth + 1) bx) completion in
      let us = set_values P depth bx ++ v ∷ completion in
      let fits_next : Fit (x ∷ later) (single v ∷ tail) (v ∷ completion) =
      next_fits x later (single v) tail (v ∷ completion) player (between_itself v, fit_fixed later (drop (depth + 1) bx) completion fits_later) in
      let set_next : AreSet (x ∷ later) (single v ∷ tail) = ((λ universal. refl), set_fixed later (drop (depth + 1) bx) completion fits_later) in
      let fits : Fit (whole_vars P) (picked depth later bx v completion) us =
      fit_before (whole_vars P) depth bx (single v ∷ tail) (v ∷ completion) long here.set (subst (λ xs. Fit xs (single v ∷ tail) (v ∷ completion)) from_depth fits_next) in
      let are : AreSet (whole_vars P) (picked depth later bx v completion) =
      set_before (whole_vars P) depth bx (single v ∷ tail) long here.set (subst (λ xs. AreSet xs (single v ∷ tail)) from_depth set_next) in
      let held = subst (λ vs. All (HoldsAt (spread (whole_vars P) vs)) P.urows) (sym (values_before P x later depth bx from_depth here player v completion)) completes.rows in
      record {
        value_in_range = within;
        completion_fits = fits_later;
        rows = λ k d h. holds_on_box P here.sound (picked depth later bx v completion) us fits are (get_or P.urows k d) (here.sound.urows k d h) (here.sound.urows_universal k d h) (held k d h);
      }

-- a value of the next variable, and what completes it, are a right pick
pub right_pick : {P : Problem} {depth : ℕ} {bx : List Range} (rest : List Var) → rest ≡ drop depth (whole_vars P) → SetsNext Universal rest → IsSearchBox P depth bx
    → (v : ℤ) → IsBetween (range_at bx depth).low (range_at bx depth).high v → (completion : List ℤ) → Completes P (depth + 1) (set bx depth (single v)) completion
    → IsRightPick P (drop 1 rest) depth bx v completion
right_pick [] from_depth player here v within completion completes = absurd player
right_pick {P} {depth} {bx} (x ∷ later) from_depth player here v within completion completes = right_pick_of P x later depth bx from_depth here player v within completion completes
