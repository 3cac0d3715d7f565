use Rattle.qm_math.proofs.Rounding.{ceil_of-IsCeil, IsCeil-one, IsCeil-least}
use Rattle.qm_math.proofs.floors.a_fraction_has_one_ceiling.Goals as goal

pub returns-clause-is_ceiling : goal.returns-clause-is_ceiling
returns-clause-is_ceiling c = ceil_of-IsCeil

pub returns-clause-one : goal.returns-clause-one
returns-clause-one c = IsCeil-one

pub returns-clause-least : goal.returns-clause-least
returns-clause-least c = IsCeil-least
