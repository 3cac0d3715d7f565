use Rattle.qm_prop.proofs.Tightness.{continuous-exactly, whole-exactly}
use Rattle.qm_prop.proofs.laws.a_row_narrows_exactly_so_far.Goals as goal

pub returns-clause-whole : goal.returns-clause-whole
returns-clause-whole c = whole-exactly

pub returns-clause-continuous : goal.returns-clause-continuous
returns-clause-continuous c = continuous-exactly
