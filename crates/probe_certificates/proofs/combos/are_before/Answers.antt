use Rattle.std.proofs.Common.{subst, arith, rules}
use Rattle.std.proofs.lemmas.List.{take_all}
use Rattle.std.proofs.lemmas.List.Elements.{All-more}
use Rattle.std.specs.Prelude.{All}
use Rattle.qm_trees.specs.declared.combination.Entry.{Entry}
use Rattle.qm_trees.specs.Entries.{IsBefore}
use Rattle.probe_certificates.proofs.combos.are_before.Goals as goal

pub loop-entry-preserved : goal.loop-entry-preserved
loop-entry-preserved c =
    let Is : Entry → Type 0 = λ e. IsBefore e.row c.args.row in
    let here : Is c.entry-item.result = search rules in
    All-more Is c.args.entries.now c.loop-entry.entry-index c.entry-item.result (omega arith) c.loop-entry.invariant (subst Is c.entry-item.is here)

pub returns : goal.returns
returns c = λ _.
    let Is : Entry → Type 0 = λ e. IsBefore e.row c.args.row in
    subst (All Is) (take_all c.loop-entry.entry-index c.args.entries.now (omega arith)) c.loop-entry.invariant
