use Rattle.std.proofs.Common.{sym}
use Rattle.qm_check.proofs.Judgements.{claim_fault, claim_took}
use Rattle.qm_check.proofs.text.take_claim.Goals as goal

pub returns-in-Ok-claim_said-clause-ok : goal.returns-in-Ok-claim_said-clause-ok
returns-in-Ok-claim_said-clause-ok c =
    let next = c.in-Ok.ensures.ok in
    claim_took c.args.text.now c.args.cursor.now c.next_line.new.cursor c.in-Ok.line.now next.0 c.in-Ok-claim_said.claim (sym c.in-Ok-claim_said.ensures) next.1

pub returns-in-Err-claim_said-clause-err : goal.returns-in-Err-claim_said-clause-err
returns-in-Err-claim_said-clause-err c P =
    let next = c.in-Ok.ensures.ok in
    rw c.rule_of.ensures (claim_fault c.args.text.now c.args.cursor.now c.next_line.new.cursor c.in-Ok.line.now next.0 c.in-Err-claim_said.misread (sym c.in-Err-claim_said.ensures) P)
