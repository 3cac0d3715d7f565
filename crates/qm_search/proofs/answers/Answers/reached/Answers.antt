use Rattle.std.proofs.Common.{rules, ◌≡◌, ◌∷◌, [], ◌++◌}
use Rattle.std.proofs.lemmas.Int.{to_z-of_z}
use mir.Syntax.{w64}
use Rattle.qm_search.proofs.AnswerLaws.{reached_answer}
use Rattle.qm_search.proofs.answers.Answers.reached.Goals as goal

pub returns : goal.returns
returns c = λ P cuts heads rest depth bx W first low proper are reply.
    let pushed : c.push.new.self ≡ c.args.self.parts ++ c.part.result ∷ [] = search rules in
    let range = rw (to_z-of_z w64 c.args.at c.ranges.at) at c.part.ensures.range in
    reached_answer P cuts heads rest depth bx W first low c.args.at c.args.self are c.push.new.self c.part.result pushed range proper c.args.value c.args.policy c.args.refute c.part.ensures.below reply
