-- The walk behind a first line.
use Rattle.std.proofs.Common.{List, reverse}
use Rattle.qm_model.specs.declared.range.Range.{Range}
use Rattle.qm_model.specs.declared.game.Problem.{Problem}
use Rattle.qm_model.specs.Boxes.{whole_box_of}
use Rattle.qm_model.proofs.BoxLaws.{whole_box_is_box}
use Rattle.qm_certread.specs.declared.said.Claim.{Claim}
use Rattle.qm_certread.specs.declared.said.Claim.TheVariants as claim
use Rattle.qm_check.specs.Walks.{CanAllGiveBack, IsWalk, claimed_due}

-- no node is open yet
none_open : (P : Problem) (c : Claim) (bx : List Range) → CanAllGiveBack P.vars (reverse (claimed_due P c)) bx
none_open P (claim.Optimal shown) bx = (tt, (tt, (tt, (tt, (tt, (tt, (tt, tt)))))))
none_open P claim.Infeasible bx = (tt, (tt, (tt, (tt, (tt, tt)))))
none_open P claim.NoPlay bx = (tt, (tt, (tt, (tt, tt))))

pub begun : (P : Problem) (c : Claim) → IsWalk P (record { due = claimed_due P c; bx = whole_box_of P.vars })
begun P c = record { box = whole_box_is_box P.vars; nodes = none_open P c (whole_box_of P.vars) }
