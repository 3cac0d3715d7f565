use Rattle.std.proofs.Common.{arith}
use Rattle.qm_parse.proofs.Repeats.{marked_here, marked_later, marks_more, repeat_nowhere}
use Rattle.qm_parse.proofs.twice.repeated.Goals as goal

pub returns-then-has : goal.returns-then-has
returns-then-has c =
    marked_here c.args.list.now c.loop-named.named-index _ c.loop-named.before _ (omega arith) c.loop-named.invariant.marks c.if-has.ensures c.loop-named.invariant.rest

pub loop-named-preserved : goal.loop-named-preserved
loop-named-preserved c = record {
  marks =
      marks_more c.args.list.now c.loop-named.named-index _ c.loop-named.before c.mark.new.self (omega arith) c.loop-named.invariant.marks c.in_ok-mark.ensures;
  rest =
      marked_later c.args.list.now c.loop-named.named-index _ c.loop-named.before _ (omega arith) c.loop-named.invariant.marks c.if-has.ensures c.loop-named.invariant.rest;
}

pub returns : goal.returns
returns c = repeat_nowhere c.args.list.now c.loop-named.named-index _ (omega arith) c.loop-named.invariant.rest
