use Rattle.qm_certread.proofs.FineTexts.{fault_back, read_back, read_fits, read_text}
use Rattle.qm_certread.proofs.WholeRead.{body_fails, claim_fails, end_result}
use Rattle.qm_certread.proofs.reader.read.Goals as goal

pub returns-in_err-claim-clause-form : goal.returns-in_err-claim-clause-form
returns-in_err-claim-clause-form c = claim_fails c.args.game.now c.args.text.now c.from_residual.result _ c.from_residual.ensures.1 c.in_err-claim.ensures.err

pub returns-in_err-certificate-clause-form : goal.returns-in_err-certificate-clause-form
returns-in_err-certificate-clause-form c =
    body_fails c.args.game.now c.args.text.now c.in_ok-claim.claim c.next_claim.new.cursor c.from_residual-in_err-certificate.result _ c.from_residual-in_err-certificate.ensures.1
    c.in_ok-claim.ensures.ok (rw c.problem-problem.ensures.value at c.in_err-certificate.ensures.err)

pub returns-clause-form : goal.returns-clause-form
returns-clause-form c =
    (end_result c.args.game.now c.args.text.now c.in_ok-claim.claim c.in_ok-certificate.certificate c.next_claim.new.cursor c.read_body.new.cursor c.ended.result c.in_ok-claim.ensures.ok
    (rw c.problem-problem.ensures.value at c.in_ok-certificate.ensures.claim) (rw c.problem-problem.ensures.value at c.in_ok-certificate.ensures.ok) c.ended.ensures.ok c.ended.ensures.err).0

pub returns-clause-text : goal.returns-clause-text
returns-clause-text c =
    read_text c.args.game.now c.args.text.now c.ended.result (rw c.problem-problem.ensures.value at c.problem-problem.ensures.sound)
    (end_result c.args.game.now c.args.text.now c.in_ok-claim.claim c.in_ok-certificate.certificate c.next_claim.new.cursor c.read_body.new.cursor c.ended.result c.in_ok-claim.ensures.ok
    (rw c.problem-problem.ensures.value at c.in_ok-certificate.ensures.claim) (rw c.problem-problem.ensures.value at c.in_ok-certificate.ensures.ok) c.ended.ensures.ok c.ended.ensures.err).1

pub returns-clause-fits : goal.returns-clause-fits
returns-clause-fits c =
    read_fits c.args.game.now c.args.text.now c.ended.result (rw c.problem-problem.ensures.value at c.problem-problem.ensures.sound)
    (end_result c.args.game.now c.args.text.now c.in_ok-claim.claim c.in_ok-certificate.certificate c.next_claim.new.cursor c.read_body.new.cursor c.ended.result c.in_ok-claim.ensures.ok
    (rw c.problem-problem.ensures.value at c.in_ok-certificate.ensures.claim) (rw c.problem-problem.ensures.value at c.in_ok-certificate.ensures.ok) c.ended.ensures.ok c.ended.ensures.err).1

pub returns-clause-back : goal.returns-clause-back
returns-clause-back c =
    let all = end_result c.args.game.now c.args.text.now c.in_ok-claim.claim c.in_ok-certificate.certificate c.next_claim.new.cursor c.read_body.new.cursor c.ended.result c.in_ok-claim.ensures.ok
    (rw c.problem-problem.ensures.value at c.in_ok-certificate.ensures.claim) (rw c.problem-problem.ensures.value at c.in_ok-certificate.ensures.ok) c.ended.ensures.ok c.ended.ensures.err in
    read_back c.args.game.now c.args.text.now c.ended.result (rw c.problem-problem.ensures.value at c.problem-problem.ensures.sound) all.0 all.1

pub returns-in_err-claim-clause-back : goal.returns-in_err-claim-clause-back
returns-in_err-claim-clause-back c =
    fault_back c.args.game.now c.args.text.now c.from_residual.result _ c.from_residual.ensures.1 (rw c.problem-problem.ensures.value at c.problem-problem.ensures.sound)
    (claim_fails c.args.game.now c.args.text.now c.from_residual.result _ c.from_residual.ensures.1 c.in_err-claim.ensures.err)

pub returns-in_err-certificate-clause-back : goal.returns-in_err-certificate-clause-back
returns-in_err-certificate-clause-back c =
    fault_back c.args.game.now c.args.text.now c.from_residual-in_err-certificate.result _ c.from_residual-in_err-certificate.ensures.1 (rw c.problem-problem.ensures.value at c.problem-problem.ensures.sound)
    (body_fails c.args.game.now c.args.text.now c.in_ok-claim.claim c.next_claim.new.cursor c.from_residual-in_err-certificate.result _ c.from_residual-in_err-certificate.ensures.1
    c.in_ok-claim.ensures.ok (rw c.problem-problem.ensures.value at c.in_err-certificate.ensures.err))
