use Rattle.std.proofs.lemmas.Result.{on_ok_weaker}
use Rattle.qm_gen.proofs.Appended.{names_wrote}
use Rattle.qm_gen.proofs.writing.write_spaced.Goals as goal

pub returns : goal.returns
returns c =
    on_ok_weaker c.write_more_names.result
    (names_wrote c.args.out.now c.write_name.new.out c.write_more_names.new.out c.args.variables.now c.in-Some.first.now c.in-Some.others.now c.in-Some.ensures.cases.0 c.in_ok-write_name.ensures)
    c.write_more_names.ensures
