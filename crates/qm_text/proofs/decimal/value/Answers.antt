use Rattle.std.proofs.Common.{arith}
use Rattle.qm_text.specs.DecimalSteps.{decimal_of}
use Rattle.qm_text.proofs.DecimalValues.{join_digits, significant_of, too_many, value_below, value_above}
use Rattle.qm_text.proofs.decimal.value.Goals as goal

pub returns-then-digits-ge-TOO_LONG : goal.returns-then-digits-ge-TOO_LONG
returns-then-digits-ge-TOO_LONG c =
    let before = c.args.parts.before.now in
    let behind = c.args.parts.behind.now in
    let all = join_digits before behind c.requires.before c.requires.behind in
    let is = significant_of before behind c.significant_digits-digits.result c.significant_digits-digits.ensures.value in
    too_many (decimal_of before behind c.args.parts.minus c.args.parts.power.now) c.significant_digits-digits.result all is c.if-digits-ge-TOO_LONG.true

pub returns-then-parts : goal.returns-then-parts
returns-then-parts c =
    let before = c.args.parts.before.now in
    let behind = c.args.parts.behind.now in
    let s = c.significant_digits-digits.result in
    let all = join_digits before behind c.requires.before c.requires.behind in
    let is = significant_of before behind s c.significant_digits-digits.ensures.value in
    value_below before behind c.args.parts.power.now c.args.parts.minus s c.numeral_value-power.result c.saturating_add.result c.with_tens.result
    c.if-parts.true all is c.if-digits-ge-TOO_LONG.false c.significant_digits-digits.ensures.few
    c.numeral_value-power.ensures c.saturating_add.ensures c.with_tens.ensures

pub returns-else-parts : goal.returns-else-parts
returns-else-parts c =
    let before = c.args.parts.before.now in
    let behind = c.args.parts.behind.now in
    let s = c.significant_digits-digits.result in
    let all = join_digits before behind c.requires.before c.requires.behind in
    let is = significant_of before behind s c.significant_digits-digits.ensures.value in
    value_above before behind c.args.parts.power.now c.args.parts.minus s c.numeral_value-power.result c.saturating_add-else-parts.result c.with_tens-else-parts.result
    c.if-parts.false all is c.if-digits-ge-TOO_LONG.false (omega arith)
    c.numeral_value-power.ensures c.saturating_add-else-parts.ensures c.with_tens-else-parts.ensures
