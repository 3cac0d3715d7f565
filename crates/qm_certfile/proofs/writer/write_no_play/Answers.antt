use Rattle.qm_certfile.proofs.LineTexts.{on_ok}
use Rattle.qm_certfile.proofs.CertificateTexts.{no_play_wrote}
use Rattle.qm_certfile.proofs.writer.write_no_play.Goals as goal

pub returns : goal.returns
returns c =
    on_ok c.write_alone-3.result
    (no_play_wrote c.args.tree.now c.args.out.now c.write_alone.new.out c.write_alone-2.new.out c.write_illegal.new.out c.write_alone-3.new.out
    c.in_ok-write_alone.ensures c.in_ok-write_alone-2.ensures c.in_ok-write_illegal.ensures)
    c.write_alone-3.ensures
