-- A value and a completion that fit a box on which the uncertainty rows hold are a play, so the value keeps the prefix legal.
use Rattle.std.proofs.Common.{◌≡◌, ℕ, zero, suc, ◌≤◌, List, [], ◌∷◌, ◌++◌, length, get_or, set, take, drop, All, ℤ, pos, arith}
use Rattle.std.specs.Prelude.{filter}
use Rattle.std.proofs.lemmas.Int.{ints}
use Rattle.std.proofs.lemmas.List.{length-take}
use Rattle.qm_math.specs.Ranges.{IsBetween}
use Rattle.qm_model.specs.declared.range.Range.{Range}
use Rattle.qm_model.specs.declared.row.Row.{Row}
use Rattle.qm_model.specs.declared.variable.Player.TheVariants.{Exists, All as Universal}
use Rattle.qm_model.specs.declared.variable.Var.{Var}
use Rattle.qm_model.specs.declared.game.Problem.{Problem}
use Rattle.qm_model.specs.Boxes.{bounds_of, whole_box_of}
use Rattle.qm_model.specs.Legal.{universal_part}
use Rattle.qm_model.specs.Linear.{HasVarsBelow}
use Rattle.qm_model.specs.Plays.{AreWithin, HoldsAt, is_universal, spread, whole_vars}
use Rattle.qm_model.specs.Sound.{IsOverUniversal, IsRowOver, IsSound}
use Rattle.qm_model.proofs.BoxForms.{form-le-greatest_value}
use Rattle.qm_model.proofs.Players.{by_player, is_for_all, not_universal}
use Rattle.qm_model.proofs.UncertaintyRows.{IsUniversalAt, length-spread, spread-here, spread-other, universal_at_take, universal_is_whole}
use Rattle.qm_trees.specs.BoxPoints.{BeginIn}
use Rattle.qm_trees.specs.Picks.{Fit, FitNext, HoldsOnBox, fixed}
use Rattle.qm_model.specs.Ranges.{single}

-- ---- values that fit

-- where the next variable is existential, or universal
pub fit_skip : (x : Var) (xs : List Var) (r : Range) (bx : List Range) (us : List ℤ) → x.player ≡ Exists → Fit (x ∷ xs) (r ∷ bx) us → Fit xs bx us
fit_skip x xs r bx us existential h = rw existential at h

pub skip_fits : (x : Var) (xs : List Var) (r : Range) (bx : List Range) (us : List ℤ) → x.player ≡ Exists → Fit xs bx us → Fit (x ∷ xs) (r ∷ bx) us
skip_fits x xs r bx us existential h = rw existential h

pub fit_next : (x : Var) (xs : List Var) (r : Range) (bx : List Range) (us : List ℤ) → x.player ≡ Universal → Fit (x ∷ xs) (r ∷ bx) us → FitNext r us (Fit xs bx)
fit_next x xs r bx us universal h = rw universal at h

pub next_fits : (x : Var) (xs : List Var) (r : Range) (bx : List Range) (us : List ℤ) → x.player ≡ Universal → FitNext r us (Fit xs bx) → Fit (x ∷ xs) (r ∷ bx) us
next_fits x xs r bx us universal h = rw universal h

pub between_itself : (v : ℤ) → IsBetween (single v).low (single v).high v
between_itself v = (omega (arith, ints), omega (arith, ints))

-- values that fit the next range and the others, by what the first of them and the others give
pub next_gives : (r : Range) (us : List ℤ) (Others R : List ℤ → Type 0) → FitNext r us Others → ((u : ℤ) (later : List ℤ) → IsBetween r.low r.high u → Others later → R (u ∷ later)) → R us
next_gives r [] Others R h f = absurd h
next_gives r (u ∷ us) Others R h f = f u us h.0 h.1

fit_long : (xs : List Var) (bx : List Range) (us : List ℤ) → Fit xs bx us → length xs ≤ length bx
fit_long [] bx us h = omega arith
fit_long (x ∷ xs) [] us h = absurd h
fit_long (x ∷ xs) (r ∷ bx) us h =
    by_player x (length (x ∷ xs) ≤ length (r ∷ bx))
    (λ existential. omega (arith, fit_long xs bx us (fit_skip x xs r bx us existential h)))
    (λ universal. next_gives r us (Fit xs bx) (λ vs. length (x ∷ xs) ≤ length (r ∷ bx)) (fit_next x xs r bx us universal h)
    (λ u later has others. omega (arith, fit_long xs bx later others)))

-- the value at a place lies in the range there
abbrev pub IsInAt : List Range → List ℤ → ℕ → Range → Type 0
IsInAt bx values i r = IsBetween (get_or bx i r).low (get_or bx i r).high (get_or values i (pos 0))

in_at_skip : (x : Var) (xs : List Var) (q : Range) (bx : List Range) (us : List ℤ) (i : ℕ) (r : Range) → x.player ≡ Exists → IsUniversalAt (x ∷ xs) i
    → ((j : ℕ) → IsUniversalAt xs j → IsInAt bx (spread xs us) j r) → IsInAt (q ∷ bx) (spread (x ∷ xs) us) i r
in_at_skip x xs q bx us zero r existential at later = let other = not_universal x existential in cc
in_at_skip x xs q bx us (suc i) r existential at later = rw (spread-other x xs us (not_universal x existential)) (later i at)

in_at_next : (x : Var) (xs : List Var) (q : Range) (bx : List Range) (u : ℤ) (us : List ℤ) (i : ℕ) (r : Range) → x.player ≡ Universal → IsBetween q.low q.high u → IsUniversalAt (x ∷ xs) i
    → ((j : ℕ) → IsUniversalAt xs j → IsInAt bx (spread xs us) j r) → IsInAt (q ∷ bx) (spread (x ∷ xs) (u ∷ us)) i r
in_at_next x xs q bx u us zero r universal has at later = rw (spread-here x xs u us (is_for_all x universal)) has
in_at_next x xs q bx u us (suc i) r universal has at later = rw (spread-here x xs u us (is_for_all x universal)) (later i at)

-- a universal variable's value lies in its range
pub fit_at : (xs : List Var) (bx : List Range) (us : List ℤ) (i : ℕ) (r : Range) → Fit xs bx us → IsUniversalAt xs i → IsInAt bx (spread xs us) i r
fit_at [] bx us i r h at = absurd at
fit_at (x ∷ xs) [] us i r h at = absurd h
fit_at (x ∷ xs) (q ∷ bx) us i r h at =
    by_player x (IsInAt (q ∷ bx) (spread (x ∷ xs) us) i r)
    (λ existential. in_at_skip x xs q bx us i r existential at (λ j at'. fit_at xs bx us j r (fit_skip x xs q bx us existential h) at'))
    (λ universal. next_gives q us (Fit xs bx) (λ vs. IsInAt (q ∷ bx) (spread (x ∷ xs) vs) i r) (fit_next x xs q bx us universal h)
    (λ u later has others. in_at_next x xs q bx u later i r universal has at (λ j at'. fit_at xs bx later j r others at')))

-- values that fit are within the bounds where the ranges are the variables' own
pub fit_within : (xs more : List Var) (us : List ℤ) → Fit xs (whole_box_of (xs ++ more)) us → AreWithin (filter is_universal xs) us
fit_within [] more [] h = tt
fit_within [] more (u ∷ us) h = absurd h
fit_within (x ∷ xs) more us h =
    by_player x (AreWithin (filter is_universal (x ∷ xs)) us)
    (λ existential. rw (not_universal x existential) (fit_within xs more us (fit_skip x xs (bounds_of x) (whole_box_of (xs ++ more)) us existential h)))
    (λ universal. rw (is_for_all x universal)
    (next_gives (bounds_of x) us (Fit xs (whole_box_of (xs ++ more))) (AreWithin (x ∷ filter is_universal xs)) (fit_next x xs (bounds_of x) (whole_box_of (xs ++ more)) us universal h)
    (λ u later has others. (has, fit_within xs more later others))))

-- and the other way round
pub within_fits : (xs more : List Var) (us : List ℤ) → AreWithin (filter is_universal xs) us → Fit xs (whole_box_of (xs ++ more)) us
within_fits [] more [] h = tt
within_fits [] more (u ∷ us) h = absurd h
within_fits (x ∷ xs) more us h =
    by_player x (Fit (x ∷ xs) (whole_box_of (x ∷ xs ++ more)) us)
    (λ existential.
    let later : AreWithin (filter is_universal xs) us = rw (not_universal x existential) at h in
    skip_fits x xs (bounds_of x) (whole_box_of (xs ++ more)) us existential (within_fits xs more us later))
    (λ universal.
    let here : AreWithin (x ∷ filter is_universal xs) us = rw (is_for_all x universal) at h in
    next_fits x xs (bounds_of x) (whole_box_of (xs ++ more)) us universal (first us here (λ vs k. within_fits xs more vs k)))
  where
    first : (vs : List ℤ) → AreWithin (x ∷ filter is_universal xs) vs → ((ws : List ℤ) → AreWithin (filter is_universal xs) ws → Fit xs (whole_box_of (xs ++ more)) ws)
        → FitNext (bounds_of x) vs (Fit xs (whole_box_of (xs ++ more)))
    first [] h later = absurd h
    first (u ∷ vs) h later = (h.0, later vs h.1)

-- values that fit a box fit it where another range that has its variable's value stands in the place of one
pub fit_set : (xs : List Var) (bx : List Range) (us : List ℤ) (i : ℕ) (r : Range) → Fit xs bx us → IsBetween r.low r.high (get_or (spread xs us) i (pos 0)) → Fit xs (set bx i r) us
fit_set [] bx [] i r h has = tt
fit_set [] bx (u ∷ us) i r h has = absurd h
fit_set (x ∷ xs) [] us i r h has = absurd h
fit_set (x ∷ xs) (q ∷ bx) us zero r h has =
    by_player x (Fit (x ∷ xs) (r ∷ bx) us)
    (λ existential. skip_fits x xs r bx us existential (fit_skip x xs q bx us existential h))
    (λ universal. next_fits x xs r bx us universal
    (next_gives q us (Fit xs bx) (λ vs. IsBetween r.low r.high (get_or (spread (x ∷ xs) vs) 0 (pos 0)) → FitNext r vs (Fit xs bx)) (fit_next x xs q bx us universal h)
    (λ u later inside others fits. (rw (spread-here x xs u later (is_for_all x universal)) at fits, others)) has))
fit_set (x ∷ xs) (q ∷ bx) us (suc i) r h has =
    by_player x (Fit (x ∷ xs) (q ∷ set bx i r) us)
    (λ existential. skip_fits x xs q (set bx i r) us existential
    (fit_set xs bx us i r (fit_skip x xs q bx us existential h) (rw (spread-other x xs us (not_universal x existential)) at has)))
    (λ universal. next_fits x xs q (set bx i r) us universal
    (next_gives q us (Fit xs bx) (λ vs. IsBetween r.low r.high (get_or (spread (x ∷ xs) vs) (suc i) (pos 0)) → FitNext q vs (Fit xs (set bx i r))) (fit_next x xs q bx us universal h)
    (λ u later inside others fits. (inside, fit_set xs bx later i r others (rw (spread-here x xs u later (is_for_all x universal)) at fits))) has))

-- values that fit a box still fit where they fix their variables' ranges
pub fit_fixed : (xs : List Var) (bx : List Range) (us : List ℤ) → Fit xs bx us → Fit xs (fixed xs bx us) us
fit_fixed [] bx us h = h
fit_fixed (x ∷ xs) [] us h = absurd h
fit_fixed (x ∷ xs) (r ∷ bx) [] h = h
fit_fixed (x ∷ xs) (r ∷ bx) (u ∷ us) h =
    by_player x (Fit (x ∷ xs) (fixed (x ∷ xs) (r ∷ bx) (u ∷ us)) (u ∷ us))
    (λ existential. rw (not_universal x existential)
    (skip_fits x xs r (fixed xs bx (u ∷ us)) (u ∷ us) existential (fit_fixed xs bx (u ∷ us) (fit_skip x xs r bx (u ∷ us) existential h))))
    (λ universal. rw (is_for_all x universal)
    (next_fits x xs (single u) (fixed xs bx us) (u ∷ us) universal (between_itself u, fit_fixed xs bx us (fit_next x xs r bx (u ∷ us) universal h).1)))

-- the universal values of a prefix in a box, and values that fit behind it
pub fit_behind : (xs : List Var) (bx rest : List Range) (vs us : List ℤ) → BeginIn bx vs → length vs ≤ length xs → Fit (drop (length vs) xs) rest us
    → Fit xs (take (length vs) bx ++ rest) (universal_part xs vs ++ us)
fit_behind [] bx rest [] us begin short h = h
fit_behind [] bx rest (v ∷ vs) us begin short h = absurd (omega (arith, short))
fit_behind (x ∷ xs) bx rest [] us begin short h = h
fit_behind (x ∷ xs) [] rest (v ∷ vs) us begin short h = absurd begin
fit_behind (x ∷ xs) (r ∷ bx) rest (v ∷ vs) us begin short h =
    let later = fit_behind xs bx rest vs us begin.1 (omega (arith, short)) h in
    by_player x (Fit (x ∷ xs) (take (length (v ∷ vs)) (r ∷ bx) ++ rest) (universal_part (x ∷ xs) (v ∷ vs) ++ us))
    (λ existential. rw (not_universal x existential) (skip_fits x xs r (take (length vs) bx ++ rest) (universal_part xs vs ++ us) existential later))
    (λ universal. rw (is_for_all x universal) (next_fits x xs r (take (length vs) bx ++ rest) (v ∷ universal_part xs vs ++ us) universal (begin.0, later)))

-- ---- rows that hold on the box

module _ (P : Problem) (sound : IsSound P) (bx : List Range) (us : List ℤ) (fits : Fit (whole_vars P) bx us) where
  row_holds : (row : Row) → IsRowOver P.vars row → All (IsOverUniversal P.vars) row.terms → HoldsOnBox bx row → HoldsAt (spread (whole_vars P) us) row
  row_holds row is_row universal holds =
      let ts = row.terms in
      let r = single (pos 0) in
      let values = spread (whole_vars P) us in
      let whole_at : HasVarsBelow P.wholes ts = λ k e h. universal_is_whole P.wholes P.vars (get_or ts k e).var sound.continuous_last (universal k e h) in
      let below_values : HasVarsBelow (length values) ts = λ k e h. omega (arith, whole_at k e h, length-spread (whole_vars P) us, length-take P.wholes P.vars, sound.wholes) in
      let below_box : HasVarsBelow (length bx) ts = λ k e h. omega (arith, whole_at k e h, fit_long (whole_vars P) bx us fits, length-take P.wholes P.vars, sound.wholes) in
      let most = form-le-greatest_value ts values bx r is_row.ordered below_values below_box
      (λ k e h. fit_at (whole_vars P) bx us (get_or ts k e).var r fits (universal_at_take P.wholes P.vars (get_or ts k e).var (whole_at k e h) (universal k e h))) in
      omega (arith, ints, most, holds)

  pub rows_hold : All (HoldsOnBox bx) P.urows → All (HoldsAt (spread (whole_vars P) us)) P.urows
  rows_hold rows = λ k e h. row_holds (get_or P.urows k e) (sound.urows k e h) (sound.urows_universal k e h) (rows k e h)
