use Rattle.qm_math.proofs.Rounding.{floor_of-IsFloor, IsFloor-one, IsFloor-greatest}
use Rattle.qm_math.proofs.floors.a_fraction_has_one_floor.Goals as goal

pub returns-clause-is_floor : goal.returns-clause-is_floor
returns-clause-is_floor c = floor_of-IsFloor

pub returns-clause-one : goal.returns-clause-one
returns-clause-one c = IsFloor-one

pub returns-clause-greatest : goal.returns-clause-greatest
returns-clause-greatest c = IsFloor-greatest
