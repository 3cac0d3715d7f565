use Rattle.std.proofs.Common.{Bool, List, ℕ, IsTrue, Bor}
use Rattle.qm_frac.specs.Signs.{signed}
use Rattle.qm_text.specs.Digits.{are_digits, numeral_value}
use Rattle.qm_text.proofs.Spellings.{exponent_of_power, no_exponent}
use Rattle.qm_text.proofs.decimal.exponent.Goals as goal

pub returns-in-Some : goal.returns-in-Some
returns-in-Some c =
    exponent_of_power c.args.back.now c.in-Some.word.now c.in-Some.field-0-0.now c.power.result
    (λ (x : Bool × Bor (List ℕ)). signed x.0 (numeral_value x.1.now))
    (λ (x : Bool × Bor (List ℕ)). IsTrue (are_digits x.1.now))
    c.requires c.in-Some.ensures.cases.0 c.power.ensures

pub returns-in-None : goal.returns-in-None
returns-in-None c = no_exponent c.args.back.now (rw c.in-None.is at c.split_first.ensures.cases)
