-- A problem has at most one ending.
use Rattle.std.proofs.Common.{[], ⊎_elim}
use Rattle.qm_math.specs.Fraction.{Fraction, IsAtMost, IsBelow}
use Rattle.qm_math.proofs.Compare.{at_most_or_below, at_most_both}
use Rattle.qm_model.specs.declared.game.Problem.{Problem}
use Rattle.qm_model.specs.Goals.{Any, AtLeast, Above}
use Rattle.qm_model.specs.Endings.{Ending, Empty, Infeasible, Optimal, IsOptimal, HasEnding, IsSameEnding}
use Rattle.qm_model.specs.Sound.{IsSound}
use Rattle.qm_model.proofs.GoalOrder.{wins_easier}

-- a value that can be reached is at most one that can't be exceeded
optimal_at_most : (P : Problem) (v w : Fraction) → IsSound P → IsOptimal P v → IsOptimal P w → IsAtMost v w
optimal_at_most P v w sound a b =
    ⊎_elim
    (λ (le : IsAtMost v w). le)
    (λ (less : IsBelow w v). absurd (b.no_better (wins_easier P [] (Above w) (AtLeast v) sound b.positive a.positive less a.reached)))
    (at_most_or_below v w)

pub one_ending : (P : Problem) (e f : Ending) → IsSound P → HasEnding P e → HasEnding P f → IsSameEnding e f
one_ending P Empty Empty sound h k = tt
one_ending P Empty Infeasible sound h k = h k.play k.is_play
one_ending P Empty (Optimal w) sound h k = h k.play k.is_play
one_ending P Infeasible Empty sound h k = k h.play h.is_play
one_ending P Infeasible Infeasible sound h k = tt
one_ending P Infeasible (Optimal w) sound h k = h.loses (wins_easier P [] Any (AtLeast w) sound tt k.positive tt k.reached)
one_ending P (Optimal v) Empty sound h k = k h.play h.is_play
one_ending P (Optimal v) Infeasible sound h k = k.loses (wins_easier P [] Any (AtLeast v) sound tt h.positive tt h.reached)
one_ending P (Optimal v) (Optimal w) sound h k = at_most_both v w (optimal_at_most P v w sound h k) (optimal_at_most P w v sound k h)
