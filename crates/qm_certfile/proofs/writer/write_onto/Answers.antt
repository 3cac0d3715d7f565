use Rattle.qm_certfile.proofs.LineTexts.{on_ok}
use Rattle.qm_certfile.proofs.CertificateTexts.{empty_wrote, infeasible_wrote, optimal_wrote}
use Rattle.qm_certfile.proofs.writer.write_onto.Goals as goal

pub returns-in_ok-write_policy-in-Optimal : goal.returns-in_ok-write_policy-in-Optimal
returns-in_ok-write_policy-in-Optimal c =
    on_ok c.write_refutation.result
    (optimal_wrote c.args.game.now c.args.certificate.now c.in-Optimal.value c.in-Optimal.legal c.in-Optimal.policy c.in-Optimal.refute
    c.args.out.now c.write_optimal.new.out c.write_begin.new.out c.write_alone.new.out c.write_policy.new.out c.write_refutation.new.out c.in-Optimal.is
    (rw (c.claimed.ensures, c.problem.ensures.value) at c.in_ok-write_optimal-in-Optimal.ensures)
    (rw c.as_slice.ensures at c.in_ok-write_begin-in-Optimal.ensures)
    c.in_ok-write_alone-in-Optimal.ensures c.in_ok-write_policy-in-Optimal.ensures)
    c.write_refutation.ensures

pub returns-in_ok-write_begin-in-Infeasible : goal.returns-in_ok-write_begin-in-Infeasible
returns-in_ok-write_begin-in-Infeasible c =
    on_ok c.write_refutation-in-Infeasible.result
    (infeasible_wrote c.args.game.now c.args.certificate.now c.in-Infeasible.legal c.in-Infeasible.refute
    c.args.out.now c.write_alone-in-Infeasible.new.out c.write_begin-in-Infeasible.new.out c.write_refutation-in-Infeasible.new.out c.in-Infeasible.is
    c.in_ok-write_alone-in-Infeasible.ensures
    (rw c.as_slice-in-Infeasible.ensures at c.in_ok-write_begin-in-Infeasible.ensures))
    c.write_refutation-in-Infeasible.ensures

pub returns-in-Empty : goal.returns-in-Empty
returns-in-Empty c =
    on_ok c.write_no_play.result
    (empty_wrote c.args.game.now c.args.certificate.now c.in-Empty.tree c.args.out.now c.write_no_play.new.out c.in-Empty.is)
    c.write_no_play.ensures
