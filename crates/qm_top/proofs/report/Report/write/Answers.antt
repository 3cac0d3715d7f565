use Rattle.qm_top.proofs.report.Report.write.Goals as goal

pub returns-in-Usage-clause-err : goal.returns-in-Usage-clause-err
returns-in-Usage-clause-err g c = rw c.in-Usage.is c.write_all.ensures.err

pub returns-in-ReadCertificate-clause-err : goal.returns-in-ReadCertificate-clause-err
returns-in-ReadCertificate-clause-err g c = rw c.in-ReadCertificate.is c.write_all-in-ReadCertificate.ensures.err
