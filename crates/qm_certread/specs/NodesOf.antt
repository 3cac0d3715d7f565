-- What the lines of a certificate say, in their order: a node's line first, then what stands below it.
use Rattle.std.specs.Prelude.{List, [], ◌∷◌, ◌++◌, length}
use Rattle.qm_model.specs.declared.game.Problem.{Problem}
use Rattle.qm_trees.specs.declared.empty.Empty.{Empty}
use Rattle.qm_trees.specs.declared.empty.Empty.TheOpen as none
use Rattle.qm_trees.specs.declared.empty.Empty.TheFolds.{fold-Empty, fold-EmptyPart}
use Rattle.qm_trees.specs.declared.empty.EmptyPart.{EmptyPart}
use Rattle.qm_trees.specs.declared.policy.Policy.{Policy}
use Rattle.qm_trees.specs.declared.policy.Below.{Below}
use Rattle.qm_trees.specs.declared.policy.Below.TheOpen as answer
use Rattle.qm_trees.specs.declared.policy.Below.TheFolds.{fold-Below, fold-Policy, fold-PolicyPart}
use Rattle.qm_trees.specs.declared.policy.PolicyPart.{PolicyPart}
use Rattle.qm_trees.specs.declared.refutation.Refute.{Refute}
use Rattle.qm_trees.specs.declared.refutation.Refute.TheOpen as why
use Rattle.qm_trees.specs.declared.refutation.Refute.TheFolds.{fold-Refute, fold-RefutePart}
use Rattle.qm_trees.specs.declared.refutation.RefutePart.{RefutePart}
use Rattle.qm_certfile.specs.declared.certificate.Certificate.{Certificate}
use Rattle.qm_certfile.specs.declared.certificate.Certificate.TheVariants as ending
use Rattle.qm_certfile.specs.Styles.{Style}
use Rattle.qm_certfile.specs.CertificateLines.{claimed, version_line}
use Rattle.qm_certread.specs.Nodes.{Node, Fixed, Infeasible, NoPlay, Optimal, Legal, Choose, Answer, Leaf, Split, Over, Pick, Close, Part}
use Rattle.qm_certread.specs.Dues.{policy_line, refute_line, illegal_line, end_line}

-- those of each part, one after another
abbrev pub in_turn : List (List Node) → List Node
in_turn [] = []
in_turn (ns ∷ nss) = ns ++ in_turn nss

-- ---- empty trees

abbrev pub empty_step : none.Empty-F (List Node) (List Node) → List Node
empty_step (none.Split var parts) = Split var (length parts) ∷ in_turn parts
empty_step (none.Close combo) = Close combo ∷ []

abbrev pub empty_part_step : none.EmptyPart-F (List Node) (List Node) → List Node
empty_part_step part = Part part.range ∷ part.below

abbrev pub empty_nodes : Empty → List Node
empty_nodes = fold-Empty (List Node) (List Node) empty_step empty_part_step

abbrev pub empty_part_nodes : EmptyPart → List Node
empty_part_nodes = fold-EmptyPart (List Node) (List Node) empty_step empty_part_step

-- ---- policies

abbrev pub policy_step : answer.Policy-F (List Node) (List Node) (List Node) → List Node
policy_step (answer.Choose value below) = Choose value ∷ below
policy_step (answer.Answer parts) = Answer (length parts) ∷ in_turn parts
policy_step (answer.Leaf point) = Leaf point ∷ []

abbrev pub policy_part_step : answer.PolicyPart-F (List Node) (List Node) (List Node) → List Node
policy_part_step part = Part part.range ∷ part.below

abbrev pub below_step : answer.Below-F (List Node) (List Node) (List Node) → List Node
below_step (answer.On policy) = policy
below_step (answer.Illegal tree) = Fixed illegal_line ∷ empty_nodes tree

abbrev pub policy_nodes : Policy → List Node
policy_nodes = fold-Policy (List Node) (List Node) (List Node) below_step policy_step policy_part_step

abbrev pub policy_part_nodes : PolicyPart → List Node
policy_part_nodes = fold-PolicyPart (List Node) (List Node) (List Node) below_step policy_step policy_part_step

abbrev pub below_nodes : Below → List Node
below_nodes = fold-Below (List Node) (List Node) (List Node) below_step policy_step policy_part_step

-- ---- refutations

abbrev pub refute_step : why.Refute-F (List Node) (List Node) → List Node
refute_step (why.Over parts) = Over (length parts) ∷ in_turn parts
refute_step (why.Pick value completion below) = Pick value completion ∷ below
refute_step (why.Close combo) = Close combo ∷ []

abbrev pub refute_part_step : why.RefutePart-F (List Node) (List Node) → List Node
refute_part_step part = Part part.range ∷ part.below

abbrev pub refute_nodes : Refute → List Node
refute_nodes = fold-Refute (List Node) (List Node) refute_step refute_part_step

abbrev pub refute_part_nodes : RefutePart → List Node
refute_part_nodes = fold-RefutePart (List Node) (List Node) refute_step refute_part_step

-- ---- certificates

abbrev pub claim_of : Problem → Certificate → Node
claim_of P (ending.Optimal value legal policy refute) = Optimal (claimed P.sense value)
claim_of P (ending.Infeasible legal refute) = Infeasible
claim_of P (ending.Empty tree) = NoPlay

-- what stands between the first line and the last
abbrev pub body_nodes : Style → Certificate → List Node
body_nodes style (ending.Optimal value legal policy refute) =
    Fixed (version_line style) ∷ Legal legal ∷ Fixed policy_line ∷ policy_nodes policy ++ Fixed refute_line ∷ refute_nodes refute
body_nodes style (ending.Infeasible legal refute) = Fixed (version_line style) ∷ Legal legal ∷ Fixed refute_line ∷ refute_nodes refute
body_nodes style (ending.Empty tree) = Fixed (version_line style) ∷ Fixed illegal_line ∷ empty_nodes tree

abbrev pub nodes_of : Style → Problem → Certificate → List Node
nodes_of style P certificate = claim_of P certificate ∷ body_nodes style certificate ++ Fixed end_line ∷ []
