-- When a value may be picked for the first of these variables, the one at the depth.
use Rattle.std.specs.Prelude.{ℕ, ◌+◌, ℤ, Bool, false, ◌&&◌, ◌==◌, List, [], ◌∷◌, drop, length}
use Rattle.qm_model.specs.declared.range.Range.{Range}
use Rattle.qm_model.specs.declared.variable.Var.{Var}
use Rattle.qm_model.specs.declared.game.Problem.{Problem}
use Rattle.qm_model.specs.Plays.{is_universal}
use Rattle.qm_model.specs.Ranges.{is_in, range_at}
use Rattle.qm_trees.specs.Picks.{fit, meet_on_box, picked, universal_count}

-- it is universal, the value lies in its range, and there is one value in range for each later universal variable
abbrev pub fits_pick : List Var → ℕ → List Range → ℤ → List ℤ → Bool
fits_pick [] depth bx value completion = false
fits_pick (x ∷ later) depth bx value completion =
    (is_universal x && (length completion == universal_count later)) && (is_in (range_at bx depth) value && fit later (drop (depth + 1) bx) completion)

-- and with them each uncertainty row holds at the worst ends of the box
abbrev pub can_pick : Problem → List Var → ℕ → List Range → ℤ → List ℤ → Bool
can_pick P [] depth bx value completion = false
can_pick P (x ∷ later) depth bx value completion =
    (is_universal x && (length completion == universal_count later))
    && (is_in (range_at bx depth) value && fit later (drop (depth + 1) bx) completion && meet_on_box P (picked depth later bx value completion))
