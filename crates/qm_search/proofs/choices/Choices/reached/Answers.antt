use Rattle.std.proofs.Common.{rules, ◌≡◌, ◌∷◌, [], ◌++◌}
use Rattle.std.proofs.lemmas.Int.{to_z-of_z}
use mir.Syntax.{w64}
use Rattle.qm_search.proofs.ChoiceLaws.{better_choice}
use Rattle.qm_search.proofs.choices.Choices.reached.Goals as goal

pub returns : goal.returns
returns c = λ P cuts heads later depth bx W low scale proper from are outcome.
    let same = to_z-of_z w64 c.args.choice c.ranges.choice in
    let pushed : c.push.new.self ≡ c.args.self.parts ++ c.part.result ∷ [] = search rules in
    let range = rw same at c.part.ensures.range in
    rw same (better_choice P cuts heads later depth bx W scale proper low c.args.choice c.args.self are c.push.new.self c.part.result c.args.refute pushed range c.part.ensures.below
    c.args.value c.args.policy from outcome)
