use Rattle.qm_parse.proofs.Wanted.{wanted_at_fault}
use Rattle.qm_parse.proofs.laws.expected_is_what_the_part_wants.Goals as goal

pub returns : goal.returns
returns c = wanted_at_fault
