use Rattle.std.proofs.Common.{◌<◌, arith}
use Rattle.qm_top.proofs.SpeltNumbers.{no_number, number_read, some_number}
use Rattle.qm_top.proofs.command.number_of.Goals as goal

pub returns-in-Ok-clause-some : goal.returns-in-Ok-clause-some
returns-in-Ok-clause-some c =
    some_number c.one_word_a_number.ensures.whole c.args.word.now c.in-Ok.number c.args.least c.args.most c.within.result c.in-Ok.ensures c.within.ensures.some

pub returns-in-Ok-clause-none : goal.returns-in-Ok-clause-none
returns-in-Ok-clause-none c =
    let small : c.args.most < 4294967296 = omega (arith, c.ranges.most.fits) in
    no_number c.one_word_a_number.ensures.whole c.args.word.now c.in-Ok.number c.args.least c.args.most c.within.result small c.in-Ok.ensures c.within.ensures.none

pub returns-in-Err-clause-none : goal.returns-in-Err-clause-none
returns-in-Err-clause-none c = λ n above below same.
    let small : n < 4294967296 = omega (arith, c.ranges.most.fits, below) in
    let read = number_read c.one_word_a_number.ensures.whole c.args.word.now c.read_whole.result n small c.read_whole.ensures same in
    let is = c.in-Err.is in
    cc
