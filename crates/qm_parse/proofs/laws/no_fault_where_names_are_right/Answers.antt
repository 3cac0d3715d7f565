use Rattle.qm_parse.proofs.NameLaws.{NamesRight-from_None, None-from_NamesRight}
use Rattle.qm_parse.proofs.laws.no_fault_where_names_are_right.Goals as goal

pub returns : goal.returns
returns c = λ ast. (NamesRight-from_None ast, None-from_NamesRight ast)
