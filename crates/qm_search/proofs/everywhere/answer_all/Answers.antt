use Rattle.std.proofs.Common.{rules, ◌≡◌, ◌∷◌, [], ◌∙◌}
use Rattle.qm_search.proofs.AnswerLaws.{all_secure}
use Rattle.qm_search.proofs.everywhere.answer_all.Goals as goal

pub returns : goal.returns
returns c = λ P rest depth bx v player is some secures.
    let pushed : c.push.new.self ≡ c.part_of.result ∷ [] = search rules in
    rw pushed (all_secure P rest depth bx v c.args.policy c.part_of.result player (c.part_of.ensures.range ∙ is) some c.part_of.ensures.below secures)
