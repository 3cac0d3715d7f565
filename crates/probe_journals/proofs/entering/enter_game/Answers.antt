use Rattle.std.proofs.lemmas.Int.{to_z-of_z}
use mir.Syntax.{w64}
use Rattle.qm_journal.specs.declared.entry.JEntry.{JEntry}
use Rattle.qm_journal.specs.declared.entry.JKind.TheVariants as kind
use Rattle.qm_journal.proofs.Growing.{IsLawful-enter}
use Rattle.probe_journals.proofs.entering.enter_game.Goals as goal

pub returns-in-Ok : goal.returns-in-Ok
returns-in-Ok c =
    let made : JEntry = record { kind = kind.Game; parent = c.args.parent; value = c.args.value } in
    let next = rw (c.entries.ensures.entries, to_z-of_z w64 c.args.value c.ranges.value) at c.in_ok-may.ensures c.if-not-may.false in
    rw (c.in-Ok.ensures.entered, to_z-of_z w64 c.args.value c.ranges.value) (IsLawful-enter c.args.game.now c.args.journal.now.entries made c.requires.lawful next)
