use Rattle.std.proofs.Common.{refl, subst}
use Rattle.qm_journal.specs.declared.entry.JKind.TheVariants.{Game}
use Rattle.qm_journal.specs.Positions.{IsParent}
use Rattle.probe_journals.proofs.Chains.{known_legal}
use Rattle.probe_journals.proofs.questions.legal_behind.Goals as goal

pub going_on-requires : goal.going_on-requires
going_on-requires c =
    let J = c.args.journal.now.entries in
    let parent = subst (λ es. IsParent Game es c.args.parent) c.entries.ensures.entries (c.if-not-is_game_parent.ensures refl) in
    let legal = known_legal c.args.game.now J c.args.parent c.requires.lawful parent (λ none. c.requires.root (c.if-not-is_known.ensures refl none)) in
    record { legal = rw (c.as_slice-2.ensures, c.in_ok-before.ensures, c.entries-2.ensures.entries) legal }
