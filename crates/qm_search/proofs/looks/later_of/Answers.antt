use Rattle.std.proofs.lemmas.Int.{to_z-of_z}
use mir.Syntax.{w64}
use Rattle.qm_search.proofs.Completions.{begins_here, completes_answer}
use Rattle.qm_search.proofs.looks.later_of.Goals as goal

pub is_known-requires : goal.is_known-requires
is_known-requires c = (begins_here c.args.here.rest.now c.args.here.from_depth c.requires.player c.requires.place).some

pub later_values-requires : goal.later_values-requires
later_values-requires c = (begins_here c.args.here.rest.now c.args.here.from_depth c.requires.player c.requires.place).some

pub returns-then-is_known-clause-found : goal.returns-then-is_known-clause-found
returns-then-is_known-clause-found c =
    let v = c.args.value in
    let known = (rw (to_z-of_z w64 v c.ranges.value) at c.is_known.ensures).0 c.if-is_known.true in
    rw (c.in_ok-list_of.ensures, c.later_values.ensures) (completes_answer c.args.here.rest.now c.args.here.from_depth c.requires.player c.requires.place v c.requires.within known)
