use Rattle.std.proofs.Common.{rules, ◌≡◌, Ok, Err}
use Rattle.qm_parse.proofs.SymbolNumbers.{no-value, value-there}
use Rattle.qm_parse.proofs.numbers.value_of.Goals as goal

pub returns-in-Ok : goal.returns-in-Ok
returns-in-Ok c =
    let is : c.read_decimal.result ≡ Ok c.in-Ok.value = search rules in
    value-there c.args.bytes.now c.read_decimal.result c.in-Ok.value c.read_decimal.ensures is

pub returns-in-Err : goal.returns-in-Err
returns-in-Err c =
    let is : c.read_decimal.result ≡ Err c.in-Err.field-0 = search rules in
    no-value c.args.bytes.now c.read_decimal.result c.in-Err.field-0 c.read_decimal.ensures c.requires is
