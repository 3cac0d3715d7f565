use Rattle.qm_certfile.proofs.LineTexts.{on_ok}
use Rattle.qm_certfile.proofs.CertificateTexts.{refutation_wrote}
use Rattle.qm_certfile.proofs.writer.write_refutation.Goals as goal

pub returns : goal.returns
returns c =
    on_ok c.write_alone-2.result
    (refutation_wrote c.args.refute.now c.args.out.now c.write_alone.new.out c.write_refute.new.out c.write_alone-2.new.out c.in_ok-write_alone.ensures c.in_ok-write_refute.ensures)
    c.write_alone-2.ensures
