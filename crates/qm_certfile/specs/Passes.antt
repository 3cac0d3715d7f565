-- When a certificate shows what it claims.
use Rattle.std.specs.Prelude.{ℤ, List, []}
use Rattle.qm_frac.specs.Lowest.{IsFrac}
use Rattle.qm_model.specs.declared.game.Problem.{Problem}
use Rattle.qm_model.specs.Boxes.{whole_box_of}
use Rattle.qm_model.specs.Goals.{Goal, Any, Above}
use Rattle.qm_model.specs.Endings.{Ending}
use Rattle.qm_model.specs.Endings as ending
use Rattle.qm_model.specs.Plays.{IsPlay, whole_vars}
use Rattle.qm_trees.specs.declared.refutation.Refute.{Refute}
use Rattle.qm_trees.specs.PolicyRight.{IsRightPolicy, IsPolicyInRange}
use Rattle.qm_trees.specs.Reaching.{PolicyReaches}
use Rattle.qm_trees.specs.EmptyRight.{IsRightEmpty, IsEmptyInRange}
use Rattle.qm_trees.specs.RefuteRight.{IsRightRefutation, IsRefutationInRange}
use Rattle.qm_certfile.specs.declared.certificate.Certificate.{Certificate}
use Rattle.qm_certfile.specs.declared.certificate.Certificate.TheVariants.{Optimal, Infeasible, Empty}

-- the refutation of the goal is right over the whole box, without cuts and lemmas, and no operation leaves
abbrev pub RefutesWhole : Problem → Goal → Refute → Type 0
RefutesWhole P G tree =
    IsRightRefutation P [] [] G (whole_vars P) 0 (whole_box_of P.vars) tree × IsRefutationInRange P [] [] G (whole_vars P) 0 (whole_box_of P.vars) tree

-- The value is a fraction of the program, in lowest terms; the legal values are a universal play; the policy is right
-- at the value and the refutation of anything above it is right, over the whole box; or the refutation of every goal
-- is; or the tree is right that shows that there is no universal play. And no operation of theirs leaves.
abbrev pub Passes : Problem → Certificate → Type 0
Passes P (Optimal value legal policy refute) =
    IsFrac value × IsPlay P legal
    × IsRightPolicy P value (whole_vars P) 0 (whole_box_of P.vars) policy × IsPolicyInRange P value (whole_vars P) 0 (whole_box_of P.vars) policy
    × RefutesWhole P (Above value) refute
Passes P (Infeasible legal refute) = IsPlay P legal × RefutesWhole P Any refute
Passes P (Empty tree) = IsRightEmpty P (whole_vars P) 0 (whole_box_of P.vars) tree × IsEmptyInRange P (whole_vars P) 0 (whole_box_of P.vars) tree

-- the policy of a certificate with a value reaches it against this universal play
abbrev pub AnswersPlay : Problem → List ℤ → Certificate → Type 0
AnswersPlay P us (Optimal value legal policy refute) = PolicyReaches P value (whole_vars P) [] us policy
AnswersPlay P us (Infeasible legal refute) = Unit {0}
AnswersPlay P us (Empty tree) = Unit {0}

-- the ending that a certificate claims
abbrev pub ending_of : Certificate → Ending
ending_of (Optimal value legal policy refute) = ending.Optimal value
ending_of (Infeasible legal refute) = ending.Infeasible
ending_of (Empty tree) = ending.Empty
