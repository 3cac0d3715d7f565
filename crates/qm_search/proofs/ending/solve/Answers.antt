use Rattle.std.proofs.Common.{subst}
use Rattle.qm_certfile.proofs.ToldEndings.{told_ending}
use Rattle.qm_journal.specs.Contents.{Contents}
use Rattle.qm_search.specs.Faults.{IsWithinBudget}
use Rattle.qm_search.proofs.ending.solve.Goals as goal

pub returns-in-Ok-clause-solved : goal.returns-in-Ok-clause-solved
returns-in-Ok-clause-solved c =
    let P = c.args.game.now in
    let sound = rw c.problem-problem.ensures.value at c.problem-problem.ensures.sound in
    record {
      passes = c.in-Ok.ensures.passes;
      ending = told_ending P c.in-Ok.certificate sound c.in-Ok.ensures.passes;
      journal = subst (λ (J : Contents). IsWithinBudget P J.limit c.certificate-answer.new.search.journal) c.new.ensures c.certificate-answer.ensures.journal;
    }
