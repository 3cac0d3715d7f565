-- Where a completion is answered, the prefix that was asked about is legal.
use Rattle.std.proofs.Common.{◌≡◌, refl, sym, ℕ, List, [], length, take, map, Ok, Err, Result, ℤ}
use Rattle.std.specs.Prelude.{IfOk, IsOkAnd}
use Rattle.qm_model.specs.declared.range.Range.{Range}
use Rattle.qm_model.specs.declared.game.Problem.{Problem}
use Rattle.qm_model.specs.Legal.{IsLegal, IsPrefix}
use Rattle.qm_model.specs.Plays.{whole_vars}
use Rattle.qm_model.proofs.LegalMoves.{universal_part-none}
use Rattle.qm_journal.specs.Lawful.{prefix_box}
use Rattle.qm_legal.specs.declared.legality.Legality.{Legality}
use Rattle.qm_legal.specs.declared.fault.LegalFault.{LegalFault}
use Rattle.qm_legal.specs.Queries.{IsCompletion, IsExact}
use Rattle.probe_journals.proofs.SetBoxes.{prefix_box_legal}

pub first_legal : (P : Problem) (bx : List Range) (answer : Result Legality LegalFault) → IfOk answer (IsExact P 0 bx) → IsOkAnd answer IsCompletion → IsLegal P []
first_legal P bx (Ok legality) exact done = (exact [] (universal_part-none (whole_vars P))).0 done
first_legal P bx (Err fault) exact done = absurd done

pub prefix_legal : (P : Problem) (prefix : List ℤ) (bx : List Range) (answer : Result Legality LegalFault) → IsPrefix P prefix → bx ≡ prefix_box P.vars prefix
    → IfOk answer (IsExact P (length prefix) bx) → IsOkAnd answer IsCompletion → IsLegal P prefix
prefix_legal P prefix bx (Ok legality) within e exact done = (prefix_box_legal P prefix bx legality within e exact).0 done
prefix_legal P prefix bx (Err fault) within e exact done = absurd done
