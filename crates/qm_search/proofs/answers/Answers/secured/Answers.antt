use Rattle.std.proofs.Common.{rules, ◌≡◌, ◌∷◌, [], ◌++◌}
use Rattle.std.proofs.lemmas.Int.{to_z-of_z}
use mir.Syntax.{w64}
use Rattle.qm_search.proofs.AnswerLaws.{secured_reply}
use Rattle.qm_search.proofs.answers.Answers.secured.Goals as goal

pub returns : goal.returns
returns c = λ P cuts heads rest depth bx W first low are reply.
    let pushed : c.push.new.self ≡ c.args.self.parts ++ c.part.result ∷ [] = search rules in
    let range = rw (to_z-of_z w64 c.args.at c.ranges.at) at c.part.ensures.range in
    secured_reply P cuts heads rest depth bx W first low c.args.at c.args.self are c.push.new.self c.part.result pushed range c.args.policy c.part.ensures.below reply
