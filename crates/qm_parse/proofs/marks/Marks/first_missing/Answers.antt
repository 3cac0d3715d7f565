use Rattle.std.proofs.Common.{arith, not, ap, sym}
use Rattle.qm_parse.specs.Marks.{is_marked}
use Rattle.qm_parse.proofs.FirstSuch.{found_here, found_later, found_nowhere}
use Rattle.qm_parse.proofs.marks.Marks.first_missing.Goals as goal

pub returns-then-not-has : goal.returns-then-not-has
returns-then-not-has c =
    found_here (λ named. not (is_marked c.args.self.now named.name)) c.args.list.now c.loop-named.named-index _ _ (omega arith) (ap not (sym c.if-not-has.ensures)) c.loop-named.invariant

pub loop-named-preserved : goal.loop-named-preserved
loop-named-preserved c =
    found_later (λ named. not (is_marked c.args.self.now named.name)) c.args.list.now c.loop-named.named-index _ _ (omega arith) (ap not (sym c.if-not-has.ensures)) c.loop-named.invariant

pub returns : goal.returns
returns c =
    found_nowhere (λ named. not (is_marked c.args.self.now named.name)) c.args.list.now c.loop-named.named-index _ (omega arith) c.loop-named.invariant
