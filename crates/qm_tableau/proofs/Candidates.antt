-- One step of the choice of a column.
use Rattle.std.proofs.Common.{◌≡◌, ◌∙◌, refl, ap, ℕ, suc, ◌+◌, ◌<◌, add-one, Bool, true, false, List, [], ◌∷◌, length, get_or, drop, Ok, Err, pos}
use Rattle.std.specs.Prelude.{if◌then◌else◌, int_lt, Option, Some}
use Rattle.std.proofs.lemmas.List.{at_drop_more}
use Rattle.qm_math.specs.Fraction.{Fraction}
use Rattle.qm_tableau.specs.Leaving.{Placed, next}
use Rattle.qm_tableau.specs.Rule.{entering_column, greater_column}

one_choice : (candidate : Bool) (first : Placed ℕ) (best : Option ℕ) (f : Option ℕ → Placed (Option ℕ))
    → (let y : Placed (Option ℕ) = if candidate then next first (λ b. f (Some b)) else f best in y)
    ≡ next (if candidate then next first (λ b. Ok (Some b)) else Ok best) f
one_choice true (Ok b) best f = refl
one_choice true (Err e) best f = refl
one_choice false first best f = refl

-- the column k, and then the others
pub column_done : (rows : List (List Fraction)) (leaving : List Fraction) (k : ℕ) (d : Fraction) (best now : Option ℕ) → k < length leaving
    → entering_column rows leaving k best (get_or leaving k d ∷ []) ≡ Ok now
    → entering_column rows leaving k best (drop k leaving) ≡ entering_column rows leaving (k + 1) now (drop (k + 1) leaving)
column_done rows leaving k d best now h is =
    at_drop_more (entering_column rows leaving k best) leaving k d h
    ∙ one_choice (int_lt (pos 0) (get_or leaving k d).num) (greater_column rows leaving k best) best (λ b. entering_column rows leaving (suc k) b (drop (k + 1) leaving))
    ∙ ap (λ (y : Placed (Option ℕ)). next y (λ b. entering_column rows leaving (suc k) b (drop (k + 1) leaving))) is
    ∙ rw add-one refl
