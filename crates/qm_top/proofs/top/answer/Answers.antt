use Rattle.std.proofs.Common.{refl}
use Rattle.qm_top.specs.Answers.{checked, generated, made_and_solved, misused, solved}
use Rattle.qm_top.proofs.top.answer.Goals as goal

pub returns-in-None-clause-answer : goal.returns-in-None-clause-answer
returns-in-None-clause-answer g c = λ moves still.
    misused c.in-None.ensures.none (record { problem = record { bytes = refl; faults = refl }; certificate = record { bytes = refl; faults = refl }; moves = still }) refl refl

pub returns-in-Some-Solve-clause-problem : goal.returns-in-Some-Solve-clause-problem
returns-in-Some-Solve-clause-problem g c = λ none other. absurd (none c.in-Some-Solve.nodes (rw c.in-Some-Solve.field-0-is at c.in-Some-Solve.ensures.some))

pub returns-in-Some-Solve-clause-answer : goal.returns-in-Some-Solve-clause-answer
returns-in-Some-Solve-clause-answer g c = λ moves still.
    solved c.in-Some-Solve.nodes (rw c.in-Some-Solve.field-0-is at c.in-Some-Solve.ensures.some) (record { certificate = record { bytes = refl; faults = refl }; moves = still }) c.solve.ensures.solves

pub returns-in-Some-Check-clause-problem : goal.returns-in-Some-Check-clause-problem
returns-in-Some-Check-clause-problem g c = λ other none. absurd (none (rw c.in-Some-Check.field-0-is at c.in-Some-Check.ensures.some))

pub returns-in-Some-Check-clause-certificate : goal.returns-in-Some-Check-clause-certificate
returns-in-Some-Check-clause-certificate g c = λ none. absurd (none (rw c.in-Some-Check.field-0-is at c.in-Some-Check.ensures.some))

pub returns-in-Some-Check-clause-answer : goal.returns-in-Some-Check-clause-answer
returns-in-Some-Check-clause-answer g c = λ moves still.
    checked (rw c.in-Some-Check.field-0-is at c.in-Some-Check.ensures.some) still c.check.ensures.checks

pub returns-in-Some-Gen-clause-answer : goal.returns-in-Some-Gen-clause-answer
returns-in-Some-Gen-clause-answer g c = λ moves still.
    generated c.in-Some-Gen.number c.in-Some-Gen.size (rw c.in-Some-Gen.field-0-is at c.in-Some-Gen.ensures.some)
    (record { problem = record { bytes = refl; faults = refl }; certificate = record { bytes = refl; faults = refl }; moves = still })
    c.make.ensures

pub returns-in-Some-GenSolve-clause-answer : goal.returns-in-Some-GenSolve-clause-answer
returns-in-Some-GenSolve-clause-answer g c = λ moves still.
    made_and_solved c.in-Some-GenSolve.number c.in-Some-GenSolve.size (rw c.in-Some-GenSolve.field-0-is at c.in-Some-GenSolve.ensures.some)
    (record { problem = record { bytes = refl; faults = refl }; certificate = record { bytes = refl; faults = refl }; moves = still })
    c.make_and_solve.ensures
