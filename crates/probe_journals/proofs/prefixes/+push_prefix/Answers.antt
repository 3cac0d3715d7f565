use Rattle.std.proofs.Common.{◌-◌, arith}
use Rattle.qm_journal.specs.Positions.{position_of}
use Rattle.qm_journal.proofs.Entries.{entry_at}
use Rattle.probe_journals.proofs.Chains.{behind, nothing_behind, pushed}
use Rattle.probe_journals.proofs.prefixes.+push_prefix.Goals as goal

pub returns-then-number-eq0 : goal.returns-then-number-eq0
returns-then-number-eq0 t c = nothing_behind c.args.entries.now c.args.number c.args.prefix.now c.if-number-eq0.true

pub bounds-entries-number : goal.bounds-entries-number
bounds-entries-number t c = (behind c.args.game.now c.args.entries.now c.args.number c.requires.lawful c.requires.parent (omega (arith, c.if-number-eq0.false))).within

pub push_prefix-requires : goal.push_prefix-requires
push_prefix-requires t c =
    let back = behind c.args.game.now c.args.entries.now c.args.number c.requires.lawful c.requires.parent (omega (arith, c.if-number-eq0.false)) in
    (omega (arith, back.before, c.decreases), (c.requires.lawful, back.again))

pub returns : goal.returns
returns t c =
    let J = c.args.entries.now in
    let number = c.args.number in
    let back = behind c.args.game.now J number c.requires.lawful c.requires.parent (omega (arith, c.if-number-eq0.false)) in
    let e = entry_at J (number - 1) in
    pushed c.args.prefix.now c.push_prefix.new.prefix c.push_value.new.prefix (position_of J e.parent).prefix (position_of J number).prefix e.value c.in_ok-push_value.ensures c.in_ok-push_prefix.ensures back.prefix
