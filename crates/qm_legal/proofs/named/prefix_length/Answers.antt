use Rattle.std.proofs.Common.{◌≡◌, ◌∙◌, length, arith, ap}
use Rattle.qm_journal.specs.Positions.{position_of}
use Rattle.qm_legal.proofs.Asking.{no_prefix, step_back}
use Rattle.qm_legal.proofs.named.prefix_length.Goals as goal

pub loop-at-smaller : goal.loop-at-smaller
loop-at-smaller c = (step_back c.args.game.now c.args.entries.now c.loop-at.at c.requires.lawful c.loop-at.invariant.parent c.loop-at-test.true).before

pub loop-at-preserved : goal.loop-at-preserved
loop-at-preserved c =
    let before = c.loop-at.invariant in
    let back = step_back c.args.game.now c.args.entries.now c.loop-at.at c.requires.lawful before.parent c.loop-at-test.true in
    record {
      parent = back.again;
      sum = omega (arith, before.sum, back.longer);
      few = omega (arith, before.few, back.before);
    }

pub returns-clause-length : goal.returns-clause-length
returns-clause-length c =
    let before = c.loop-at.invariant in
    let none : c.loop-at.at ≡ 0 = omega (arith, c.loop-at-test.false) in
    let last : length (position_of c.args.entries.now c.loop-at.at).prefix ≡ 0 = ap (λ n. length (position_of c.args.entries.now n).prefix) none ∙ no_prefix c.args.entries.now in
    omega (arith, before.sum, last)

pub returns-clause-few : goal.returns-clause-few
returns-clause-few c = omega (arith, c.loop-at.invariant.few)
