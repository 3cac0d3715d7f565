-- What a policy comes to against a universal play, value by value and without ranges of a box.
use Rattle.std.specs.Prelude.{◌≡◌, ℤ, List, [], ◌∷◌, ◌++◌, All, Any}
use Rattle.qm_math.specs.Fraction.{Fraction, IsAtMost}
use Rattle.qm_math.specs.Over.{common_den, common_nums}
use Rattle.qm_math.specs.Ranges.{IsBetween}
use Rattle.qm_model.specs.declared.range.Range.{Range}
use Rattle.qm_model.specs.declared.variable.Player.TheVariants.{Exists, All as Universal}
use Rattle.qm_model.specs.declared.variable.Var.{Var}
use Rattle.qm_model.specs.declared.game.Problem.{Problem}
use Rattle.qm_model.specs.Plays.{IsWithin}
use Rattle.qm_model.specs.Points.{Point, Meets, objective_at}
use Rattle.qm_trees.specs.declared.policy.Policy.{Policy, out-Policy}
use Rattle.qm_trees.specs.declared.policy.Below.TheOpen as node
use Rattle.qm_trees.specs.PolicyJudgement.{Layer, BelowLayer, range_of, below_of}

-- a leaf's values over one denominator
abbrev pub point_of : List Fraction → Point
point_of values = record { nums = common_nums values; den = common_den values }

-- the play ends at a leaf, whose point meets each row after the prefix, with an objective of at least v
abbrev pub ReachesAtEnd : Problem → Fraction → List ℤ → Layer → Type 0
ReachesAtEnd P v prefix (node.Leaf point) = Meets P prefix (point_of point) × IsAtMost v (objective_at P prefix (point_of point))
ReachesAtEnd P v prefix (node.Choose value below) = ⊥
ReachesAtEnd P v prefix (node.Answer parts) = ⊥

abbrev pub HasValue : Range → ℤ → Type 0
HasValue r v = IsBetween r.low r.high v

-- a policy answers, and a part that is called illegal doesn't
abbrev pub ReachesBelow : (Policy → Type 0) → BelowLayer → Type 0
ReachesBelow Reaches (node.On policy) = Reaches policy
ReachesBelow Reaches (node.Illegal tree) = ⊥

-- An existential variable takes the chosen value. At a universal one some part's range has the play's next value, and
-- a policy stands below such a part and answers it.
abbrev pub ReachesByMove : Var → (List ℤ → List ℤ → Policy → Type 0) → List ℤ → List ℤ → Layer → Type 0
ReachesByMove x Reaches prefix us (node.Leaf point) = ⊥
ReachesByMove x Reaches prefix us (node.Choose value below) = (x.player ≡ Exists) × IsWithin x value × Reaches (prefix ++ value ∷ []) us below
ReachesByMove x Reaches prefix [] (node.Answer parts) = ⊥
ReachesByMove x Reaches prefix (u ∷ us) (node.Answer parts) =
    (x.player ≡ Universal) × Any (λ part. HasValue (range_of part) u) parts × All (λ part. HasValue (range_of part) u → ReachesBelow (Reaches (prefix ++ u ∷ []) us) (below_of part)) parts

-- the play of the policy against these universal values, after the prefix, where these variables are still to be set
abbrev pub PolicyReaches : Problem → Fraction → List Var → List ℤ → List ℤ → Policy → Type 0
PolicyReaches P v [] prefix us policy = ReachesAtEnd P v prefix (out-Policy policy)
PolicyReaches P v (x ∷ xs) prefix us policy = ReachesByMove x (PolicyReaches P v xs) prefix us (out-Policy policy)
