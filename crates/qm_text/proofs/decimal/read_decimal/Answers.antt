use Rattle.qm_text.specs.Decimals.{SpellsDecimal, Stays, decimal_value}
use Rattle.qm_text.specs.DecimalSteps.{decimal_of}
use Rattle.qm_text.proofs.Readings.{reads_none}
use Rattle.qm_text.proofs.DecimalValues.{read_value}
use Rattle.qm_text.proofs.decimal.read_decimal.Goals as goal

pub returns-in-Some : goal.returns-in-Some
returns-in-Some c =
    let spells = rw c.in-Some.is at c.spelled.ensures in
    let p = c.in-Some.parts in
    read_value c.args.text.now (decimal_of p.before.now p.behind.now p.minus p.power.now) c.value.result spells.0 c.value.ensures

pub returns-in-None : goal.returns-in-None
returns-in-None c = reads_none (SpellsDecimal c.args.text.now) Stays decimal_value (rw c.in-None.is at c.spelled.ensures)
