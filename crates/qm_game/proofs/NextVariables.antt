-- The variable that is set next, at a place of a walk.
use Rattle.std.proofs.Common.{◌≡◌, ◌<◌, ◌≤◌, ℕ, List, length, drop, arith, ap}
use Rattle.std.proofs.lemmas.List.{length-drop, length-take}
use Rattle.qm_model.specs.declared.game.Problem.{Problem}
use Rattle.qm_model.specs.declared.range.Range.{Range}
use Rattle.qm_model.specs.declared.variable.Var.{Var}
use Rattle.qm_model.specs.Boxes.{IsBox}
use Rattle.qm_model.specs.Plays.{whole_vars}
use Rattle.qm_model.proofs.BoxLaws.{IsBox-length}

-- its range is in each box of the game
pub next_in_box : (P : Problem) (rest : List Var) (depth : ℕ) (bx : List Range)
    → rest ≡ drop depth (whole_vars P) → 0 < length rest → IsBox P.vars bx → depth < length bx
next_in_box P rest depth bx from_depth some box =
    omega (arith, ap length from_depth, length-drop depth (whole_vars P), length-take P.wholes P.vars, IsBox-length P.vars bx box)
