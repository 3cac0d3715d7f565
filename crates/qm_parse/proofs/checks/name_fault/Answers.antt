use Rattle.std.proofs.Common.{ap, ◌∙◌}
use Rattle.qm_parse.specs.Checks.{offended}
use Rattle.qm_parse.specs.declared.offence.Offence.TheVariants as offence
use Rattle.qm_parse.proofs.FirstFault.{or_else-first, or_else-second}
use Rattle.qm_parse.proofs.checks.name_fault.Goals as goal

pub returns-in-Some : goal.returns-in-Some
returns-in-Some c =
    or_else-first _ _ _ (c.in-Some.ensures ∙ ap (offended offence.BothPlayers) c.in_ok-both_players.ensures)

pub returns-in-Some-offended : goal.returns-in-Some-offended
returns-in-Some-offended c =
    or_else-second _ _ _ (c.in_default.ensures ∙ ap (offended offence.BothPlayers) c.in_ok-both_players.ensures)
    (or_else-first _ _ _ (c.in-Some-offended.ensures ∙ ap (offended offence.Twice) c.in_ok-twice.ensures))

pub returns-in-Some-offended-2 : goal.returns-in-Some-offended-2
returns-in-Some-offended-2 c =
    or_else-second _ _ _ (c.in_default.ensures ∙ ap (offended offence.BothPlayers) c.in_ok-both_players.ensures)
    (or_else-second _ _ _ (c.in_default-offended.ensures ∙ ap (offended offence.Twice) c.in_ok-twice.ensures)
    (or_else-first _ _ _ (c.in-Some-offended-2.ensures ∙ ap (offended offence.Unknown) c.unknown.ensures)))

pub returns-in-Some-offended-3 : goal.returns-in-Some-offended-3
returns-in-Some-offended-3 c =
    or_else-second _ _ _ (c.in_default.ensures ∙ ap (offended offence.BothPlayers) c.in_ok-both_players.ensures)
    (or_else-second _ _ _ (c.in_default-offended.ensures ∙ ap (offended offence.Twice) c.in_ok-twice.ensures)
    (or_else-second _ _ _ (c.in_default-offended-2.ensures ∙ ap (offended offence.Unknown) c.unknown.ensures)
    (or_else-first _ _ _ (c.in-Some-offended-3.ensures ∙ ap (offended offence.Unordered) c.in_ok-survey.ensures.unordered))))

pub returns-in-Some-offended-4 : goal.returns-in-Some-offended-4
returns-in-Some-offended-4 c =
    or_else-second _ _ _ (c.in_default.ensures ∙ ap (offended offence.BothPlayers) c.in_ok-both_players.ensures)
    (or_else-second _ _ _ (c.in_default-offended.ensures ∙ ap (offended offence.Twice) c.in_ok-twice.ensures)
    (or_else-second _ _ _ (c.in_default-offended-2.ensures ∙ ap (offended offence.Unknown) c.unknown.ensures)
    (or_else-second _ _ _ (c.in_default-offended-3.ensures ∙ ap (offended offence.Unordered) c.in_ok-survey.ensures.unordered)
    (or_else-first _ _ _ (c.in-Some-offended-4.ensures ∙ ap (offended offence.Infinite) c.infinite.ensures)))))

pub returns : goal.returns
returns c =
    or_else-second _ _ _ (c.in_default.ensures ∙ ap (offended offence.BothPlayers) c.in_ok-both_players.ensures)
    (or_else-second _ _ _ (c.in_default-offended.ensures ∙ ap (offended offence.Twice) c.in_ok-twice.ensures)
    (or_else-second _ _ _ (c.in_default-offended-2.ensures ∙ ap (offended offence.Unknown) c.unknown.ensures)
    (or_else-second _ _ _ (c.in_default-offended-3.ensures ∙ ap (offended offence.Unordered) c.in_ok-survey.ensures.unordered)
    (or_else-second _ _ _ (c.in_default-offended-4.ensures ∙ ap (offended offence.Infinite) c.infinite.ensures)
    (c.offended-6.ensures ∙ ap (offended offence.NoUpper) c.in_ok-without_upper.ensures)))))
