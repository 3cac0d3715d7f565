-- The tests of a pick say that its value lies in range, and that the completion fits and keeps the uncertainty rows.
use Rattle.std.proofs.Common.{◌≡◌, ℕ, ◌+◌, Bool, false, List, [], ◌∷◌, length, All, refl, ℤ, cond, arith}
use Rattle.std.specs.Prelude.{◌&&◌, drop, if◌then◌else◌}
use Rattle.std.specs.Bool.{Decides}
use Rattle.std.specs.List.{list_all}
use Rattle.std.proofs.lemmas.Bool.Decides.{Decides-and, Decides-like, Decides-by_and}
use Rattle.std.proofs.lemmas.List.Sums.{sum_by-cons}
use Rattle.qm_math.specs.Ranges.{IsBetween}
use Rattle.qm_math.proofs.WholeTests.{le_of_test, test_of_le}
use Rattle.qm_model.specs.declared.row.Row.{Row}
use Rattle.qm_model.specs.declared.range.Range.{Range}
use Rattle.qm_model.specs.declared.variable.Player.{Player}
use Rattle.qm_model.specs.declared.variable.Player.TheVariants.{Exists, All as Universal}
use Rattle.qm_model.specs.declared.variable.Var.{Var}
use Rattle.qm_model.specs.declared.game.Problem.{Problem}
use Rattle.qm_model.specs.Boxes.{greatest_value}
use Rattle.qm_model.specs.Plays.{is_universal}
use Rattle.qm_model.specs.Wins.{MatchPlayer}
use Rattle.qm_model.specs.Ranges.{range_at, is_in}
use Rattle.qm_trees.specs.Picks.{universal_count, FitNext, Fit, HoldsOnBox, holds_on_box, picked, fit, meet_on_box}
use Rattle.qm_trees.specs.RefuteRight.{IsRightPick}
use Rattle.qm_trees.proofs.Lines.{never}
use Rattle.qm_trees.proofs.Moves.{between_of, in_of_between}

-- ---- completions that fit

by_player : (x : Var) (p : Player) (A B : Type 0) (a b : Bool) → Decides a A → Decides b B → Decides (if is_universal (record x { player = p }) then b else a) (MatchPlayer p A B)
by_player x Exists A B a b d k = d
by_player x Universal A B a b d k = k

in_says : (r : Range) (v : ℤ) → Decides (is_in r v) (IsBetween r.low r.high v)
in_says r v = (between_of r v, in_of_between r v)

pub fit_says : (xs : List Var) (bx : List Range) (us : List ℤ) → Decides (fit xs bx us) (Fit xs bx us)
fit_says [] bx [] = (λ _. tt, λ _. refl)
fit_says [] bx (u ∷ us) = never
fit_says (x ∷ xs) [] us = never
fit_says (x ∷ xs) (r ∷ bx) [] = by_player x x.player (Fit xs bx []) ⊥ (fit xs bx []) false (fit_says xs bx []) never
fit_says (x ∷ xs) (r ∷ bx) (u ∷ us) =
    by_player x x.player (Fit xs bx (u ∷ us)) (IsBetween r.low r.high u × Fit xs bx us) (fit xs bx (u ∷ us)) (is_in r u && fit xs bx us) (fit_says xs bx (u ∷ us))
    (Decides-and (is_in r u) (fit xs bx us) (in_says r u) (fit_says xs bx us))

-- a completion that fits has a value for each universal variable
count_player : (x : Var) (p : Player) (xs : List Var) (r : Range) (bx : List Range) (us : List ℤ) → ((vs : List ℤ) → Fit xs bx vs → length vs ≡ universal_count xs)
    → MatchPlayer p (Fit xs bx us) (FitNext r us (Fit xs bx)) → length us ≡ universal_count (record x { player = p } ∷ xs)
count_player x Exists xs r bx us others h = omega (arith, others us h, sum_by-cons (λ (y : Var). cond (is_universal y) 1 0) (record x { player = Exists }) xs)
count_player x Universal xs r bx [] others h = absurd h
count_player x Universal xs r bx (u ∷ us) others h = omega (arith, others us h.1, sum_by-cons (λ (y : Var). cond (is_universal y) 1 0) (record x { player = Universal }) xs)

pub fit_length : (xs : List Var) (bx : List Range) (us : List ℤ) → Fit xs bx us → length us ≡ universal_count xs
fit_length [] bx [] h = refl
fit_length [] bx (u ∷ us) h = absurd h
fit_length (x ∷ xs) [] us h = absurd h
fit_length (x ∷ xs) (r ∷ bx) us h = count_player x x.player xs r bx us (fit_length xs bx) h

-- ---- picks

meet_says : (P : Problem) (bx : List Range) → Decides (meet_on_box P bx) (All (HoldsOnBox bx) P.urows)
meet_says P bx =
    Decides-by_and (holds_on_box bx) (HoldsOnBox bx) (list_all (holds_on_box bx))
    (λ (row : Row). (le_of_test (greatest_value row.terms bx) row.right, test_of_le (greatest_value row.terms bx) row.right)) refl (λ _ _. refl) P.urows

pub pick_says : (P : Problem) (later : List Var) (depth : ℕ) (bx : List Range) (value : ℤ) (completion : List ℤ)
    → Decides (is_in (range_at bx depth) value && fit later (drop (depth + 1) bx) completion && meet_on_box P (picked depth later bx value completion)) (IsRightPick P later depth bx value completion)
pick_says P later depth bx value completion =
    let within = is_in (range_at bx depth) value in
    let fits = fit later (drop (depth + 1) bx) completion in
    let meets = meet_on_box P (picked depth later bx value completion) in
    let both : Decides (within && fits) (IsBetween (range_at bx depth).low (range_at bx depth).high value × Fit later (drop (depth + 1) bx) completion) =
    Decides-and within fits (in_says (range_at bx depth) value) (fit_says later (drop (depth + 1) bx) completion) in
    Decides-like (within && fits && meets)
    (λ h. record { value_in_range = h.0.0; completion_fits = h.0.1; rows = h.1 })
    (λ right. ((right.value_in_range, right.completion_fits), right.rows))
    (Decides-and (within && fits) meets both (meet_says P (picked depth later bx value completion)))
