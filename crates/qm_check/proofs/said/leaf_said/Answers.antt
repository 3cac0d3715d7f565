use Rattle.std.proofs.Common.{[], ◌∷◌, ◌∙◌}
use Rattle.std.specs.Prelude.{codes}
use Rattle.qm_certread.specs.Pieces.{words_of}
use Rattle.qm_certread.specs.Spelling.{fraction_word}
use Rattle.qm_check.proofs.SaidParts.{values_long}
use Rattle.qm_check.proofs.said.leaf_said.Goals as goal

pub returns-in-Ok-clause-long : goal.returns-in-Ok-clause-long
returns-in-Ok-clause-long c =
    values_long (codes "leaf" ∷ []) fraction_word c.continuous_count.result (words_of c.args.line.now) c.in-Ok.point c.in-Ok.ensures ∙ c.continuous_count.ensures
