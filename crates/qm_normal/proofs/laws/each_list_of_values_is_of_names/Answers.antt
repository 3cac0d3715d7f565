use Rattle.qm_normal.proofs.ValuesNamed.{values_named}
use Rattle.qm_normal.proofs.laws.each_list_of_values_is_of_names.Goals as goal

pub returns : goal.returns
returns c = values_named
