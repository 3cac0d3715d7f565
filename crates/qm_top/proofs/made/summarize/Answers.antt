use Rattle.std.proofs.Common.{refl, ap}
use Rattle.qm_journal.proofs.Counting.{lawful_below_enough}
use Rattle.qm_journal.specs.Contents.{Contents}
use Rattle.qm_top.specs.Answers.{spent_on, summed}
use Rattle.qm_top.specs.SpentLines.{spent_text}
use Rattle.qm_top.proofs.made.summarize.Goals as goal

pub returns-in_ok-summary_text-in-Ok : goal.returns-in_ok-summary_text-in-Ok
returns-in_ok-summary_text-in-Ok c =
    let solved = c.in-Ok.ensures.solved in
    let entries = c.in-Ok.solved.journal.entries in
    summed
    (record {
      certificate = c.in-Ok.solved.certificate;
      entries = entries;
      passes = solved.passes;
      ending = solved.ending;
      lawful = solved.journal.lawful;
      within = solved.journal.few;
      scarce = lawful_below_enough c.args.game.now entries solved.journal.lawful.lawful;
      told = c.in_ok-summary_text-in-Ok.ensures;
    })
    refl

pub returns-in-Err-Spent : goal.returns-in-Err-Spent
returns-in-Err-Spent c =
    let fault = rw c.in-Err-Spent.field-0-is at c.in-Err-Spent.ensures.fault in
    spent_on c.in-Err-Spent.journal.entries fault.spends refl (ap (λ (journal : Contents). spent_text journal.entries) c.in-Err-Spent.journal-is)
