use Rattle.std.proofs.lemmas.Result.{on_ok_weaker}
use Rattle.qm_gen.proofs.Appended.{terms_wrote}
use Rattle.qm_gen.proofs.writing.write_terms.Goals as goal

pub returns : goal.returns
returns c =
    on_ok_weaker c.write_more_terms.result
    (terms_wrote c.args.out.now c.write_term.new.out c.write_more_terms.new.out c.args.terms.now c.in-Some.first.now c.in-Some.others.now c.in-Some.ensures.cases.0 c.in_ok-write_term.ensures)
    c.write_more_terms.ensures
