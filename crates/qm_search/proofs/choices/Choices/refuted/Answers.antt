use Rattle.std.proofs.Common.{rules, ◌≡◌, ◌∷◌, [], ◌++◌}
use Rattle.std.proofs.lemmas.Int.{to_z-of_z}
use mir.Syntax.{w64}
use Rattle.qm_search.proofs.ChoiceLaws.{refuted_choice}
use Rattle.qm_search.proofs.choices.Choices.refuted.Goals as goal

pub returns : goal.returns
returns c = λ P cuts heads later depth bx W low scale proper are outcome.
    let pushed : c.push.new.self ≡ c.args.self.parts ++ c.part.result ∷ [] = search rules in
    let range = rw (to_z-of_z w64 c.args.choice c.ranges.choice) at c.part.ensures.range in
    refuted_choice P cuts heads later depth bx W scale proper low c.args.choice c.args.self are c.push.new.self c.part.result c.args.refute pushed range c.part.ensures.below outcome
