use Rattle.std.proofs.Common.{pos}
use Rattle.qm_model.specs.declared.range.Range.{Range}
use Rattle.probe_journals.proofs.FirstQuestions.{value_asked}
use Rattle.probe_journals.proofs.legality.asked_value.Goals as goal

pub legal-requires-clause-bx : goal.legal-requires-clause-bx
legal-requires-clause-bx c =
    let nowhere : Range = record { low = pos 0; high = pos 0 } in
    rw (c.new-journal.ensures, c.first_value.ensures, c.as_slice.ensures) (value_asked c.args.game.now c.args.bx.now nowhere c.requires.some c.requires.query)
