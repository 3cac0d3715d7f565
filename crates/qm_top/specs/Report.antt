-- The status and the text of a report.
use Rattle.std.specs.Prelude.{ℕ, List, codes}
use Rattle.qm_top.specs.declared.report.Report.{Report}
use Rattle.qm_top.specs.declared.report.Report.TheVariants.{Usage, ReadProblem, ReadCertificate, Text, Long, LongCertificate, Limit, Leaves, Spent, Refused, Memory, Certificate, Accepted, Made, Summary}
use Rattle.qm_top.specs.Lines.{line, usage}
use Rattle.qm_top.specs.SpentLines.{spent_text}

abbrev pub status_of : Report → ℕ
status_of Usage = 2
status_of ReadProblem = 3
status_of ReadCertificate = 3
status_of (Text why) = 5
status_of Long = 6
status_of LongCertificate = 6
status_of (Limit why) = 6
status_of (Leaves at) = 7
status_of (Spent journal) = 8
status_of (Refused why) = 9
status_of Memory = 10
status_of (Certificate text) = 0
status_of (Accepted claim) = 0
status_of (Made text) = 0
status_of (Summary text) = 0

abbrev pub text_of : Report → List ℕ
text_of Usage = usage
text_of ReadProblem = line (codes "read problem")
text_of ReadCertificate = line (codes "read certificate")
text_of (Text why) = why
text_of Long = line (codes "limit problem")
text_of LongCertificate = line (codes "limit certificate")
text_of (Limit why) = why
text_of (Leaves at) = at
text_of (Spent journal) = spent_text journal.entries
text_of (Refused why) = why
text_of Memory = line (codes "memory")
text_of (Certificate text) = text
text_of (Accepted claim) = claim
text_of (Made text) = text
text_of (Summary text) = text
